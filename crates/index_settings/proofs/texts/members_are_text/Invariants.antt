use Rattle.std.proofs.Common.{◌≡◌}
use Rattle.serde_json.specs.View.{members_view}
use Rattle.index_settings.specs.Values.{members_are_texts}
use Rattle.index_settings.proofs.texts.members_are_text.Given as goal

-- all are lists of texts where those that are left are
abbrev pub invariant-loop-value : goal.invariant-loop-value
invariant-loop-value l = members_are_texts (members_view l.initial.value-iterator) ≡ members_are_texts (members_view l.value-iterator)
