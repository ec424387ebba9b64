use Rattle.std.proofs.Common.{ℕ, ◌<◌, ◌++◌, ◌∷◌, [], List, length, refl, sym, ap₂, subst, ◌∙◌, arith}
use Rattle.sorted_pages.specs.Entries.{IsIncreasing}
use Rattle.sorted_pages.specs.Rooms.{Fits}
use Rattle.sorted_pages.specs.Pages.{flat, room_of, rooms_of}
use Rattle.sorted_pages.proofs.SetLemmas.{increasing-or}
use Rattle.sorted_pages.proofs.WholeLemmas.{pages_up, last_up, cut_or, cut_some, cut_from, fits_split}
use Rattle.sorted_pages.proofs.whole.insert_all.Goals as goal

pub insert_runs-came-requires-clause-sorted : goal.insert_runs-came-requires-clause-sorted
insert_runs-came-requires-clause-sorted c = pages_up c.args.front.now.pages.items c.args.last.now.items c.requires.whole

pub insert_runs-came-requires-clause-room : goal.insert_runs-came-requires-clause-room
insert_runs-came-requires-clause-room c =
    let ps = c.args.front.now.pages.items in
    let last = c.args.last.now in
    let cut = c.parted.ensures.cut in
    (fits_split ps (room_of last) c.parted.result.0.now c.parted.result.1.now cut.none
    (cut_from ps last.items c.parted.result.0.now c.parted.result.1.now c.requires.whole cut c.parted.ensures.back (room_of last) refl) cut.taken
    (subst (Fits (rooms_of ps ++ room_of last ∷ [])) (sym c.parted.ensures.all) c.requires.room)).0

pub merge_into-requires-clause-page : goal.merge_into-requires-clause-page
merge_into-requires-clause-page c = last_up c.args.front.now.pages.items c.args.last.now.items c.requires.whole

pub merge_into-requires-clause-room : goal.merge_into-requires-clause-room
merge_into-requires-clause-room c =
    let ps = c.args.front.now.pages.items in
    let last = c.args.last.now in
    let cut = c.parted.ensures.cut in
    let spare = (fits_split ps (room_of last) c.parted.result.0.now c.parted.result.1.now cut.none
    (cut_from ps last.items c.parted.result.0.now c.parted.result.1.now c.requires.whole cut c.parted.ensures.back (room_of last) refl) cut.taken
    (subst (Fits (rooms_of ps ++ room_of last ∷ [])) (sym c.parted.ensures.all) c.requires.room)).1 in
    omega (arith, spare, last.ok.0, last.ok.1)

pub returns-clause-entries : goal.returns-clause-entries
returns-clause-entries c =
    ap₂ (λ (u v : List ℕ). u ++ v) c.insert_runs-came.ensures.flat c.merge_into.ensures
    ∙ cut_or c.args.front.now.pages.items c.args.last.now.items c.parted.result.0.now c.parted.result.1.now
    c.requires.whole c.parted.ensures.cut c.parted.ensures.back c.args.come.now c.parted.ensures.all c.requires.come

pub returns-clause-whole : goal.returns-clause-whole
returns-clause-whole c =
    let ps = c.args.front.now.pages.items in
    let last = c.args.last.now.items in
    let early = c.parted.result.0.now in
    let late = c.parted.result.1.now in
    let entries = ap₂ (λ (u v : List ℕ). u ++ v) c.insert_runs-came.ensures.flat c.merge_into.ensures
    ∙ cut_or ps last early late c.requires.whole c.parted.ensures.cut c.parted.ensures.back c.args.come.now c.parted.ensures.all c.requires.come in
    record {
      rest = c.insert_runs-came.ensures.full;
      some = λ l. subst (λ (v : List ℕ). 0 < length v) (sym c.merge_into.ensures)
          (cut_some ps last early late c.requires.whole c.parted.ensures.cut c.parted.ensures.back (subst (λ (v : List ℕ). 0 < length v) c.insert_runs-came.ensures.flat l));
      up = subst IsIncreasing (sym entries) (increasing-or c.args.come.now (flat ps ++ last) c.requires.whole.up);
    }
