-- No empty list stays.
use Rattle.std.proofs.Common.{◌≡◌, ℕ, ◌<◌, ◌+◌, Bool, true, false, cond, List, [], ◌∷◌, length, get_or, drop, None, Some, refl, sym, ap, ◌∙◌, zero, suc, add-one, arith}
use Rattle.std.specs.Ordering.{is_eq}
use Rattle.std.specs.BTreeMap.{is_at}
use Rattle.std.proofs.Math.Seq.{drop-cons}
use Rattle.std.proofs.lemmas.Bool.{cond-false}
use Rattle.postings.specs.declared.change.WordChange.{WordChange}
use Rattle.postings.specs.Dictionary.{Lists, word_cmp, value_at, entries_of, pages_at, IsTight, none}
use Rattle.postings.proofs.WordLemmas.{by_word, turned}

-- one word less of which an empty list may stay
pub tight_less : (x : List ℕ × WordChange) (rows : List (List ℕ × WordChange)) (old new : Lists)
    → (entries_of (pages_at x.0 new) ≡ [] → pages_at x.0 new ≡ None)
    → ((w : List ℕ) → is_eq (word_cmp x.0 w) ≡ false → pages_at w new ≡ pages_at w old)
    → IsTight (x ∷ rows) old → IsTight rows new
tight_less x rows old new here others before = by_word x.0 (λ w. value_at w rows ≡ None → entries_of (pages_at w new) ≡ [] → pages_at w new ≡ None)
    (λ gone. here)
    (λ w apart gone empty. others w apart ∙ before w (cond-false _ _ _ (turned w x.0 ∙ apart) ∙ gone) (ap entries_of (sym (others w apart)) ∙ empty))

pub drop_one : {X : Type 0} (rows : List X) (i : ℕ) (x : X) → i < length rows → x ≡ get_or rows i x → drop i rows ≡ x ∷ drop (i + 1) rows
drop_one rows i x inside is = drop-cons rows i x inside ∙ ap (λ y. y ∷ drop (suc i) rows) (sym is) ∙ ap (λ n. x ∷ drop n rows) (sym (add-one i))

-- a word that no row has is not that of a row
pub absent_apart : {X : Type 0} (rows : List (List ℕ × X)) (i : ℕ) (d : List ℕ × X) (w : List ℕ) → i < length rows → value_at w rows ≡ None
    → is_eq (word_cmp (get_or rows i d).0 w) ≡ false
absent_apart [] i d w inside none = absurd (omega arith)
absent_apart {X} (r ∷ rs) zero d w inside none = turned r.0 w ∙ not_here (is_at (word_cmp w) r.0) none
  where
    not_here : (b : Bool) → cond b (Some r.1) (value_at w rs) ≡ None → b ≡ false
    not_here true e = absurd (cc)
    not_here false e = refl
absent_apart {X} (r ∷ rs) (suc i) d w inside none = absent_apart rs i d w (omega arith) (later (is_at (word_cmp w) r.0) none)
  where
    later : (b : Bool) → cond b (Some r.1) (value_at w rs) ≡ None → value_at w rs ≡ None
    later true e = absurd (cc)
    later false e = e

-- only words of the rows may have got an empty list
pub tight_but : (rows : List (List ℕ × WordChange)) (old new : Lists) → ((w : List ℕ) → value_at w rows ≡ None → pages_at w new ≡ pages_at w old)
    → IsTight none old → IsTight rows new
tight_but rows old new others tight w absent empty = others w absent ∙ tight w refl (ap entries_of (sym (others w absent)) ∙ empty)
