use Rattle.std.proofs.Common.{nat_eq, ap₂, ◌∙◌}
use Rattle.std.specs.List.{starts_with}
use Rattle.std.proofs.lemmas.Str.Pattern.{starts_text}
use Rattle.list_facets.proofs.own.begins_so.Goals as goal

pub returns : goal.returns
returns c = starts_text c.starts_with.result _ _ c.starts_with.ensures.cases ∙ ap₂ (starts_with nat_eq) c.as_str.ensures c.as_str-2.ensures
