use Rattle.std.proofs.Common.{◌≡◌, vec_len}
use Rattle.filter_machine.specs.Machine.{member_end}
use Rattle.filter_tree.specs.View.{view}
use Rattle.filter_machine.specs.Held.{level_view, frames_of}
use Rattle.filter_machine.proofs.machine.member_ended.Given as goal

-- the member with the NOTs taken off ends as it did with them
abbrev pub invariant-loop-outer : goal.invariant-loop-outer
invariant-loop-outer l = member_end (view l.filter) (level_view l.level) (frames_of l.outer.items) ≡ member_end (view l.fn.filter) (level_view l.fn.level) (frames_of l.fn.outer.items)

abbrev pub decreases-loop-outer : goal.decreases-loop-outer
decreases-loop-outer l = vec_len l.outer
