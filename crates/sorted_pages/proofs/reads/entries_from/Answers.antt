use Rattle.std.proofs.Common.{◌≡◌, ℕ, List, ◌++◌, Vec, leb, sym, ap, ap₂, subst, ◌∙◌, append-nil, ◌+◌, ◌<◌, length, arith}
use Rattle.std.specs.declared.alloc.Global.{Global}
use Rattle.std.specs.List.{filter}
use Rattle.sorted_pages.specs.Entries.{IsIncreasing}
use Rattle.sorted_pages.specs.Pages.{flat, items_at, AllFull}
use Rattle.sorted_pages.proofs.SetLemmas.{increasing-filter, increasing-drop}
use Rattle.sorted_pages.proofs.RunLemmas.{items-read, rest-drop}
use Rattle.sorted_pages.proofs.ReadLemmas.{one_up, from-place}
use Rattle.sorted_pages.proofs.WholeLemmas.{pages_up, last_up, from_last, from_front, some_drop}
use Rattle.sorted_pages.proofs.reads.entries_from.Goals as goal

pub place_near-requires : goal.place_near-requires
place_near-requires c = last_up c.args.pages.now c.args.last.now c.requires

pub invariant_of-result : goal.invariant_of-result
invariant_of-result c =
    let up = last_up c.args.pages.now c.args.last.now c.requires in
    record {
      full = tt;
      some = λ l. absurd (omega (arith, l));
      up = subst IsIncreasing (sym (append-nil c.split_at.result.1.now ∙ c.split_at.ensures.back)) (increasing-drop c.place_near.result c.args.last.now up);
    }

pub returns-then-is_in_last : goal.returns-then-is_in_last
returns-then-is_in_last c =
    let last = c.args.last.now in
    let place = c.place_near.ensures in
    append-nil c.split_at.result.1.now
    ∙ c.split_at.ensures.back
    ∙ sym (from-place last c.place_near.result c.args.least (last_up c.args.pages.now last c.requires) place.most place.low place.high)
    ∙ sym (from_last c.args.pages.now last c.requires c.args.least c.if-is_in_last.ensures.below)

pub place_near-requires-2 : goal.place_near-requires-2
place_near-requires-2 c =
    let ps = c.args.pages.now in
    let run = c.page_for-at.ensures in
    let same = c.as_slice-items.ensures.value ∙ items-read ps c.page_for-at.result c.index-pages-at.result run.inside c.index-pages-at.is in
    subst IsIncreasing (sym same) (one_up ps c.page_for-at.result c.args.least run c.requires.rest (pages_up ps c.args.last.now c.requires))

pub invariant_of-result-2 : goal.invariant_of-result-2
invariant_of-result-2 c =
    let ps = c.args.pages.now in
    let last = c.args.last.now in
    let at = c.page_for-at.result in
    let least = c.args.least in
    let items = c.as_slice-items.result.now in
    let place = c.place_near-2.ensures in
    let run = c.page_for-at.ensures in
    let same : items ≡ items_at ps at = c.as_slice-items.ensures.value ∙ items-read ps at c.index-pages-at.result run.inside c.index-pages-at.is in
    let up = subst IsIncreasing (sym same) (one_up ps at least run c.requires.rest (pages_up ps last c.requires)) in
    let here = from-place items c.place_near-2.result least up place.most place.low place.high in
    let left = ap₂ (λ (u : List ℕ) (q : List (Vec ℕ Global)). u ++ (flat q ++ last)) (c.split_at-2.ensures.back ∙ sym here ∙ ap (filter (leb least)) same) c.split_at-3.ensures.back
    ∙ sym (from_front ps last c.requires at least run c.if-is_in_last.ensures.above) in
    record {
      full = subst AllFull (sym c.split_at-3.ensures.back) (rest-drop ps at c.requires.rest);
      some = λ l. some_drop ps last c.requires (at + 1) (subst (λ (q : List (Vec ℕ Global)). 0 < length (flat q)) c.split_at-3.ensures.back l);
      up = subst IsIncreasing (sym left) (increasing-filter (leb least) (flat ps ++ last) c.requires.up);
    }

pub returns : goal.returns
returns c =
    let ps = c.args.pages.now in
    let last = c.args.last.now in
    let at = c.page_for-at.result in
    let least = c.args.least in
    let items = c.as_slice-items.result.now in
    let place = c.place_near-2.ensures in
    let run = c.page_for-at.ensures in
    let same : items ≡ items_at ps at = c.as_slice-items.ensures.value ∙ items-read ps at c.index-pages-at.result run.inside c.index-pages-at.is in
    let up = subst IsIncreasing (sym same) (one_up ps at least run c.requires.rest (pages_up ps last c.requires)) in
    let here = from-place items c.place_near-2.result least up place.most place.low place.high in
    ap₂ (λ (u : List ℕ) (q : List (Vec ℕ Global)). u ++ (flat q ++ last)) (c.split_at-2.ensures.back ∙ sym here ∙ ap (filter (leb least)) same) c.split_at-3.ensures.back
    ∙ sym (from_front ps last c.requires at least run c.if-is_in_last.ensures.above)
