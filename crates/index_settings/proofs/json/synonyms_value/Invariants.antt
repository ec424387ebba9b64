use Rattle.std.proofs.Common.{◌≡◌, drop}
use Rattle.serde_json.specs.Data.{no_members}
use Rattle.serde_json.specs.View.{members_view}
use Rattle.index_settings.proofs.Ordered.{all_put}
use Rattle.index_settings.proofs.json.synonyms_value.Given as goal

-- what is put so far, and the lists that are left
abbrev pub invariant-loop-list : goal.invariant-loop-list
invariant-loop-list l = all_put (drop l.list-index l.lists) (members_view l.members.entries) ≡ all_put l.lists no_members
