use Rattle.std.proofs.Common.{◌++◌, ◌∷◌, [], refl, subst, arith}
use Rattle.sorted_pages.specs.Rooms.{Fits}
use Rattle.sorted_pages.specs.Pages.{room_of, rooms_of, IsWhole, IsCut}
use Rattle.sorted_pages.proofs.WholeLemmas.{pages_up, cut_from, fits_join, whole_same, cut_same, cut_front}
use Rattle.sorted_pages.proofs.whole.make_room.Goals as goal

pub reserve_runs-requires-clause-some : goal.reserve_runs-requires-clause-some
reserve_runs-requires-clause-some c = cut_front c.args.pages.now.items c.args.last.now.items c.parted.result.0.now c.parted.result.1.now c.parted.ensures.cut

pub reserve_runs-requires-clause-sorted : goal.reserve_runs-requires-clause-sorted
reserve_runs-requires-clause-sorted c = pages_up c.args.pages.now.items c.args.last.now.items c.requires.whole

pub returns-clause-room : goal.returns-clause-room
returns-clause-room c =
    let ps = c.args.pages.now.items in
    let last = c.args.last.now.items in
    let made = c.reserve_runs.new.pages.items in
    let page = c.reserve_in.new.page in
    let early = c.parted.result.0.now in
    let late = c.parted.result.1.now in
    let whole : IsWhole made page.items = whole_same ps made last page.items c.in_ok-reserve_runs.ensures.full c.in_ok-reserve_runs.ensures.flat c.in_ok-reserve_in.ensures.items c.requires.whole in
    let cut : IsCut made page.items early late = cut_same ps made last page.items early late c.in_ok-reserve_runs.ensures.len c.in_ok-reserve_in.ensures.items c.parted.ensures.cut in
    subst (Fits (rooms_of made ++ room_of page ∷ [])) c.parted.ensures.all
    (fits_join made (room_of page) early late cut.none (cut_from made page.items early late whole cut c.parted.ensures.back (room_of page) refl) cut.taken
    c.in_ok-reserve_runs.ensures.room (omega (arith, c.in_ok-reserve_in.ensures.room)))
