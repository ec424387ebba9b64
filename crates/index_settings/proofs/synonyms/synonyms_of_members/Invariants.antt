use Rattle.std.proofs.Common.{◌≡◌, ◌++◌}
use Rattle.serde_json.specs.View.{members_view}
use Rattle.index_settings.specs.Values.{member_synonyms}
use Rattle.index_settings.proofs.synonyms.synonyms_of_members.Given as goal

-- the lists so far and those that are left
abbrev pub invariant-loop-key : goal.invariant-loop-key
invariant-loop-key l = member_synonyms (members_view l.initial.key-iterator) ≡ l.lists.items ++ member_synonyms (members_view l.key-iterator)
