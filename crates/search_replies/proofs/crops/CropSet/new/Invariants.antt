use Rattle.std.proofs.Common.{◌≡◌, ℕ, List, drop}
use Rattle.search_replies.specs.Formatted.{length_for}
use Rattle.search_replies.specs.Marks.{set_crop}
use Rattle.search_replies.proofs.crops.CropSet.new.Given as goal

-- the set says what the rows say that are done
abbrev pub invariant-loop-i : goal.invariant-loop-i
invariant-loop-i l = (name : List ℕ) → set_crop l.set name ≡ length_for (drop l.i l.rows) name
