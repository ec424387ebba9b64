use Rattle.std.proofs.Common.{◌-◌, ◌≤◌, ◌++◌, ◌∷◌, [], length, sym, subst, arith}
use Rattle.std.specs.declared.alloc.Global.{Global}
use Rattle.std.specs.Prelude.{Option, Box}
use Rattle.std.specs.Vec.{vec_len, vec_capacity}
use Rattle.sorted_pages.specs.declared.whole.FrontPages.{FrontPages}
use Rattle.sorted_pages.specs.Rooms.{Fits}
use Rattle.sorted_pages.specs.Pages.{pages_in, room_of, rooms_of}
use Rattle.sorted_pages.proofs.WholeLemmas.{one_fits}
use Rattle.sorted_pages.proofs.front.reserve_for.Goals as goal

pub returns-in_ok-reserve_in-in-None-clause-room : goal.returns-in_ok-reserve_in-in-None-clause-room
returns-in_ok-reserve_in-in-None-clause-room c =
    let page = c.reserve_in.new.page in
    let come = c.args.come.now in
    let spare : length come ≤ vec_capacity page - vec_len page = omega (arith, c.in_ok-reserve_in-in-None.ensures.room) in
    subst (λ (f : Option (Box FrontPages Global)). Fits (rooms_of (pages_in f) ++ room_of page ∷ []) come) (sym c.in-None.is) (one_fits (room_of page) come spare)
