use Rattle.std.proofs.Common.{ℕ, List, sym, ap, subst, ◌∙◌}
use Rattle.sorted_pages.specs.Entries.{has, IsIncreasing}
use Rattle.sorted_pages.proofs.RunLemmas.{items-read}
use Rattle.sorted_pages.proofs.ReadLemmas.{one_up}
use Rattle.sorted_pages.proofs.WholeLemmas.{pages_up, last_up, has_last, has_front}
use Rattle.sorted_pages.proofs.reads.has_entry.Goals as goal

pub holds-requires : goal.holds-requires
holds-requires c = last_up c.args.pages.now c.args.last.now c.requires

pub returns-then-is_in_last : goal.returns-then-is_in_last
returns-then-is_in_last c = c.holds.ensures ∙ sym (has_last c.args.pages.now c.args.last.now c.requires c.args.entry c.if-is_in_last.ensures.below)

pub holds-requires-2 : goal.holds-requires-2
holds-requires-2 c =
    let ps = c.args.pages.now in
    let run = c.page_for-at.ensures in
    let same = c.as_slice.ensures.value ∙ items-read ps c.page_for-at.result c.index-pages-at.result run.inside c.index-pages-at.is in
    subst IsIncreasing (sym same) (one_up ps c.page_for-at.result c.args.entry run c.requires.rest (pages_up ps c.args.last.now c.requires))

pub returns : goal.returns
returns c =
    let ps = c.args.pages.now in
    let run = c.page_for-at.ensures in
    let same = c.as_slice.ensures.value ∙ items-read ps c.page_for-at.result c.index-pages-at.result run.inside c.index-pages-at.is in
    c.holds-2.ensures
    ∙ ap (λ (v : List ℕ). has v c.args.entry) same
    ∙ sym (has_front ps c.args.last.now c.requires c.page_for-at.result c.args.entry run c.if-is_in_last.ensures.above)
