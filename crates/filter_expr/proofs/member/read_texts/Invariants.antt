use Rattle.std.proofs.Common.{◌≡◌, drop}
use Rattle.serde_json.specs.View.{items_view}
use Rattle.filter_expr.specs.Reader.{texts_read}
use Rattle.filter_expr.specs.Held.{reader_view}
use Rattle.filter_expr.proofs.member.read_texts.Given as goal

-- the answer for all is the answer for what is left
abbrev pub invariant-loop-member : goal.invariant-loop-member
invariant-loop-member l = texts_read (items_view l.member-items) (reader_view l.fn.reader) ≡ texts_read (items_view (drop l.member-index l.member-items)) (reader_view l.reader)
