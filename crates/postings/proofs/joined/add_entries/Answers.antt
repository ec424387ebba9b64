use Rattle.std.proofs.Common.{◌≡◌, ℕ, ◌||◌, ap, ◌∙◌}
use Rattle.sorted_pages.specs.Entries.{has}
use Rattle.postings.specs.declared.change.Side.{Side}
use Rattle.postings.specs.declared.change.Side.TheVariants.{Goes, Comes}
use Rattle.postings.specs.declared.change.WordChange.{WordChange}
use Rattle.postings.specs.Changes.{side_of}
use Rattle.postings.proofs.ListLemmas.{has_append}
use Rattle.postings.proofs.joined.add_entries.Goals as goal

-- both sides have the entries of the other change too
both : (old more new : WordChange) → ((e : ℕ) → has new.gone.items e ≡ (has more.gone.items e || has old.gone.items e))
    → ((e : ℕ) → has new.come.items e ≡ (has more.come.items e || has old.come.items e)) → (s : Side) (e : ℕ) → has (side_of s new) e ≡ (has (side_of s more) e || has (side_of s old) e)
both old more new gone come Goes e = gone e
both old more new gone come Comes e = come e

pub returns : goal.returns
returns c =
    let old = c.args.change.now in
    let more = c.args.more.now in
    both old more (record { gone = c.extend_from_slice.new.self; come = c.extend_from_slice-2.new.self })
    (λ e. ap (λ xs. has xs e) c.in_ok-extend_from_slice.ensures.items ∙ has_append old.gone.items c.deref.result.now e
    ∙ ap (λ xs. has xs e || has old.gone.items e) c.deref.ensures.value)
    (λ e. ap (λ xs. has xs e) c.in_ok-extend_from_slice-2.ensures.items ∙ has_append old.come.items c.deref-2.result.now e
    ∙ ap (λ xs. has xs e || has old.come.items e) c.deref-2.ensures.value)
