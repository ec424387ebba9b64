use Rattle.std.proofs.Common.{◌≡◌, drop}
use Rattle.std.specs.List.{fold}
use Rattle.serde_json.specs.Data.{no_members}
use Rattle.serde_json.specs.View.{members_view}
use Rattle.request_replies.specs.Facets.{with_row}
use Rattle.request_replies.proofs.facets.counts_value.Given as goal

-- the members so far, with the rows that are left, are those of all rows
abbrev pub invariant-loop-row : goal.invariant-loop-row
invariant-loop-row l =
    fold with_row (members_view l.members.entries) (drop l.row-index l.rows) ≡ fold with_row no_members l.rows
