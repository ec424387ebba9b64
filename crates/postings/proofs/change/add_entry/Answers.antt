use Rattle.std.proofs.Common.{◌≡◌, ℕ, ◌&&◌, ◌||◌, ◌==◌, refl, ap, ◌∙◌}
use Rattle.sorted_pages.specs.Entries.{has}
use Rattle.postings.specs.declared.change.Side.{Side}
use Rattle.postings.specs.declared.change.Side.TheVariants.{Goes, Comes}
use Rattle.postings.specs.declared.change.WordChange.{WordChange}
use Rattle.postings.specs.Changes.{is_side, side_of}
use Rattle.postings.proofs.ListLemmas.{has_push}
use Rattle.postings.proofs.change.add_entry.Goals as goal

-- the change has one entry more on a side
abbrev HasOneMore : Side → ℕ → WordChange → WordChange → Type 0
HasOneMore side entry old new = (s : Side) (e : ℕ) → has (side_of s new) e ≡ ((is_side side s && (entry == e)) || has (side_of s old) e)

goes_more : (entry : ℕ) (old new : WordChange) → ((e : ℕ) → has new.gone.items e ≡ (entry == e || has old.gone.items e)) → new.come.items ≡ old.come.items → HasOneMore Goes entry old new
goes_more entry old new h same Goes e = h e
goes_more entry old new h same Comes e = ap (λ xs. has xs e) same

comes_more : (entry : ℕ) (old new : WordChange) → ((e : ℕ) → has new.come.items e ≡ (entry == e || has old.come.items e)) → new.gone.items ≡ old.gone.items → HasOneMore Comes entry old new
comes_more entry old new h same Goes e = ap (λ xs. has xs e) same
comes_more entry old new h same Comes e = h e

pub returns-in_ok-push-in-Goes : goal.returns-in_ok-push-in-Goes
returns-in_ok-push-in-Goes c = λ s e. rw c.in-Goes.is (goes_more c.args.entry c.args.change.now (record { gone = c.push.new.self; come = c.args.change.now.come })
    (λ q. ap (λ xs. has xs q) c.in_ok-push-in-Goes.ensures.items ∙ has_push c.args.change.now.gone.items c.args.entry q) refl s e)

pub returns-in_ok-push-in-Comes : goal.returns-in_ok-push-in-Comes
returns-in_ok-push-in-Comes c = λ s e. rw c.in-Comes.is (comes_more c.args.entry c.args.change.now (record { gone = c.args.change.now.gone; come = c.push-in-Comes.new.self })
    (λ q. ap (λ xs. has xs q) c.in_ok-push-in-Comes.ensures.items ∙ has_push c.args.change.now.come.items c.args.entry q) refl s e)
