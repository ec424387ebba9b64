use Rattle.std.proofs.Common.{◌≡◌, ◌++◌, length, take}
use denote.Text.{Utf8}
use denote.Shadow.{shadow}
use Rattle.query_graph.specs.Items.{most_items, parts, items_in, first_items}
use Rattle.query_graph.proofs.text.items_read.Given as goal

-- the first of the items so far and those of the rest are the first of the text
abbrev pub invariant-loop-part : goal.invariant-loop-part
invariant-loop-part l = shadow (Utf8 l.rest) × (take most_items (l.list.items ++ items_in l.quoted (parts l.rest)) ≡ first_items l.q)

abbrev pub decreases-loop-part : goal.decreases-loop-part
decreases-loop-part l = length l.rest
