use Rattle.std.proofs.Common.{ap, ◌∙◌}
use Rattle.serde_json.specs.Written.{compact_text, has_float}
use Rattle.request_replies.proofs.FacetLemmas.{distribution_whole}
use Rattle.request_replies.proofs.facets.distribution_text.Goals as goal

pub returns : goal.returns
returns c =
    c.in_ok-to_string.ensures.text (ap has_float c.in_ok-value.ensures ∙ distribution_whole c.args.facets.now)
    ∙ ap compact_text c.in_ok-value.ensures
