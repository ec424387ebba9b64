use Rattle.std.proofs.Common.{◌++◌, ◌∷◌, [], sym, subst, arith}
use Rattle.std.specs.declared.alloc.Global.{Global}
use Rattle.std.specs.Prelude.{Option, Box}
use Rattle.sorted_pages.specs.declared.whole.FrontPages.{FrontPages}
use Rattle.sorted_pages.specs.Entries.{IsIncreasing}
use Rattle.sorted_pages.specs.Rooms.{Fits}
use Rattle.sorted_pages.specs.Pages.{pages_in, room_of, rooms_of, IsWhole}
use Rattle.sorted_pages.proofs.SetLemmas.{increasing-or}
use Rattle.sorted_pages.proofs.WholeLemmas.{last_up, one_spare, alone}
use Rattle.sorted_pages.proofs.front.put_in.Goals as goal

pub merge_into-requires-clause-room : goal.merge_into-requires-clause-room
merge_into-requires-clause-room c =
    let last = c.args.last.now in
    let spare = one_spare (room_of last) c.args.come.now (subst (λ (f : Option (Box FrontPages Global)). Fits (rooms_of (pages_in f) ++ room_of last ∷ []) c.args.come.now) c.in-None.is c.requires.room) in
    omega (arith, spare, last.ok.0, last.ok.1)

pub returns-in-None-clause-whole : goal.returns-in-None-clause-whole
returns-in-None-clause-whole c =
    let new = c.merge_into.new.page.items in
    let up = increasing-or c.args.come.now c.args.last.now.items (last_up (pages_in c.args.front.now) c.args.last.now.items c.requires.whole) in
    subst (λ (f : Option (Box FrontPages Global)). IsWhole (pages_in f) new) (sym c.in-None.is) (alone new (subst IsIncreasing (sym c.merge_into.ensures) up))
