use Rattle.std.proofs.Common.{◌∙◌}
use Rattle.index_settings.proofs.Bounds.{defaults_within}
use Rattle.index_settings.proofs.settings.Settings.defaults.Goals as goal

pub invariant_of-result : goal.invariant_of-result
invariant_of-result c =
    rw (
      c.in_ok-clone.ensures.cases ∙ c.in_ok-every.ensures,
      c.in_ok-clone-2.ensures.cases ∙ c.in_ok-no_texts.ensures,
      c.in_ok-shared.ensures,
      c.in_ok-every.ensures,
      c.in_ok-clone-3.ensures.cases ∙ c.in_ok-no_texts.ensures,
      c.in_ok-no_texts.ensures,
      c.in_ok-from_vec.ensures ∙ c.new.ensures.items,
    )
    defaults_within
