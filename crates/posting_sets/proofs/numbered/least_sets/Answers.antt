use Rattle.std.proofs.Common.{◌≡◌, ℕ, ◌+◌, ◌||◌, ◌∷◌, [], length, List, sym, ap, subst, ◌∙◌}
use Rattle.std.proofs.lemmas.List.{length-append}
use Rattle.sorted_pages.specs.Entries.{has, IsIncreasing}
use Rattle.doc_sets.specs.Sets.{difference}
use Rattle.posting_sets.specs.Gathered.{AddsRow}
use Rattle.posting_sets.proofs.NumberLemmas.{least_more, numbers_below, seen_pushed}
use Rattle.posting_sets.proofs.numbered.least_sets.Goals as goal

pub loop-builder-preserved : goal.loop-builder-preserved
loop-builder-preserved c =
    let h = c.loop-builder.invariant in
    let done = c.loop-builder.yielded in
    let set = c.in-Some.builder in
    let seen = c.loop-builder.seen.ids in
    let old = c.loop-builder.rows.items in
    let new = c.add_row.new.rows.items in
    let a = c.in_ok-add_row.ensures in
    let is : c.in_ok-set.set.ids ≡ set = c.in_ok-set.ensures in
    let adds : AddsRow old new (length done) (difference set seen) =
    subst (λ k. AddsRow old new k (difference set seen)) h.number (subst (λ v. AddsRow old new c.loop-builder.number (difference v seen)) is a.row) in
    let rise : IsIncreasing (difference set seen) = subst (λ v. IsIncreasing (difference v seen)) is a.increasing in
    record {
      rows = least_more done set seen old new h.rows h.below h.seen adds rise;
      below = numbers_below done set seen old new h.rows h.below h.seen adds rise;
      seen = seen_pushed done c.in-Some.builder seen c.add_row.new.seen.ids h.seen (subst (λ (v : List ℕ). (id : ℕ) → has c.add_row.new.seen.ids id ≡ (has seen id || has v id)) is a.seen);
      number = ap (λ n. n + 1) h.number ∙ sym (length-append done (set ∷ []));
    }
