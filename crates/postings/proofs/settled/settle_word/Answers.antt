use Rattle.std.proofs.Common.{◌≡◌, ℕ, not, ◌&&◌, List, ap, ap₂, subst, sym, ◌∙◌}
use Rattle.std.specs.List.{each_same}
use Rattle.sorted_pages.specs.Entries.{has, IsIncreasing, difference}
use Rattle.postings.proofs.ListLemmas.{increasing_filter}
use Rattle.postings.proofs.settled.settle_word.Goals as goal

-- what is left of the entries of a side without those of the other
left_of : (kept xs ys mine others : List ℕ) → kept ≡ difference xs ys → ((e : ℕ) → has (difference xs ys) e ≡ (has xs e && not (has ys e)))
    → ((e : ℕ) → has xs e ≡ has mine e) → ((e : ℕ) → has ys e ≡ has others e) → (e : ℕ) → has kept e ≡ (has mine e && not (has others e))
left_of kept xs ys mine others is told same across e =
    ap (λ zs. has zs e) is ∙ told e ∙ ap₂ (λ a b. a && not b) (same e) (across e)

pub returns : goal.returns
returns c =
    let gone = c.in_order-gone.result.items in
    let come = c.in_order-come.result.items in
    let told = c.changes_are_on_members.ensures.difference in
    let goes : c.without.result.items ≡ difference gone come =
    c.without.ensures ∙ ap₂ difference (each_same _ _ c.in_ok-clone.ensures.cases.0) c.as_slice.ensures.value in
    let comes : c.without-2.result.items ≡ difference come gone = c.without-2.ensures ∙ ap (difference come) c.as_slice-2.ensures.value in
    record {
      increasing = (
        subst IsIncreasing (sym goes) (increasing_filter (λ d. not (has come d)) gone c.in_order-gone.ensures.increasing),
        subst IsIncreasing (sym comes) (increasing_filter (λ d. not (has gone d)) come c.in_order-come.ensures.increasing),
      );
      gone = left_of _ gone come c.args.change.gone.items c.args.change.come.items goes (told gone come) c.in_order-gone.ensures.same c.in_order-come.ensures.same;
      come = left_of _ come gone c.args.change.come.items c.args.change.gone.items comes (told come gone) c.in_order-come.ensures.same c.in_order-gone.ensures.same;
    }
