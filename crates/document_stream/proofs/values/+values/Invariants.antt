use Rattle.std.proofs.Common.{◌≡◌, ◌+◌, ◌*◌, ◌≤◌, length}
use Rattle.json.specs.Json.{parse_map}
use Rattle.serde_json.specs.Data.{no_members}
use Rattle.serde_json.specs.View.{members_view}
use Rattle.document_stream.specs.Reads.{items_at}
use Rattle.document_stream.proofs.Turns.{items_before, members_onto}
use Rattle.document_stream.proofs.values.+values.Given as goal

abbrev pub decreases-read_value : goal.decreases-read_value
decreases-read_value l = 3 * l.depth + 1

abbrev pub decreases-value_from : goal.decreases-value_from
decreases-value_from l = 3 * l.depth

abbrev pub decreases-read_items : goal.decreases-read_items
decreases-read_items l = 3 * l.depth + 2

abbrev pub decreases-read_members : goal.decreases-read_members
decreases-read_members l = 3 * l.depth + 2

-- the items so far, and then those that are left
abbrev pub invariant-read_items-items : goal.invariant-read_items-items
invariant-read_items-items l = record {
  all : items_at l.depth l.initial.reader ≡ parse_map (items_before l.found.items) (items_at l.depth l.reader);
  shorter : length l.reader ≤ length l.initial.reader;
}

abbrev pub decreases-read_items-items : goal.decreases-read_items-items
decreases-read_items-items l = length l.reader

-- the members so far, and then those that are left
abbrev pub invariant-read_members-members : goal.invariant-read_members-members
invariant-read_members-members l = record {
  all : members_onto l.depth no_members l.initial.reader ≡ members_onto l.depth (members_view l.found.entries) l.reader;
  shorter : length l.reader ≤ length l.initial.reader;
}

abbrev pub decreases-read_members-members : goal.decreases-read_members-members
decreases-read_members-members l = length l.reader
