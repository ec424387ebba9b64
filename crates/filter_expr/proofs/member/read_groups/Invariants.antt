use Rattle.std.proofs.Common.{◌≡◌, drop}
use Rattle.serde_json.specs.View.{items_view}
use Rattle.filter_expr.specs.Reader.{groups_read}
use Rattle.filter_expr.specs.Held.{reader_view}
use Rattle.filter_expr.proofs.member.read_groups.Given as goal

-- the answer for all is the answer for what is left
abbrev pub invariant-loop-member : goal.invariant-loop-member
invariant-loop-member l = groups_read (items_view l.member-items) (reader_view l.fn.reader) ≡ groups_read (items_view (drop l.member-index l.member-items)) (reader_view l.reader)
