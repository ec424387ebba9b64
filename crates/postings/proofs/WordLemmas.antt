-- What a write at one word of a map does.
use Rattle.std.proofs.Common.{◌≡◌, ℕ, Bool, true, false, cond, List, Option, refl, sym, ap, subst, ◌∙◌}
use Rattle.std.specs.declared.cmp.Ordering.{Ordering}
use Rattle.std.specs.declared.cmp.Ordering.TheVariants.{Less, Equal, Greater}
use Rattle.std.specs.Ordering.{is_eq}
use Rattle.std.specs.Str.{bytes_eq}
use Rattle.std.specs.BTreeMap.{is_at}
use Rattle.std.specs.Cmp.Lexicographic.{nat_list_cmp_total}
use Rattle.std.proofs.lemmas.Bool.{cond-true, cond-false}
use Rattle.std.proofs.lemmas.Cmp.{eq_by_cmp_equiv}
use Rattle.std.proofs.lemmas.Map.Lookups.{exact_bytes}
use Rattle.std.proofs.lemmas.Map.Text.{is_eq-slice_cmp}
use Rattle.postings.specs.Dictionary.{word_cmp, value_at}

equal : (a : Ordering) → is_eq a ≡ true → a ≡ Equal
equal Less h = absurd (cc)
equal Equal h = refl
equal Greater h = absurd (cc)

pub same_word : (a b : List ℕ) → is_eq (word_cmp a b) ≡ true → a ≡ b
same_word a b h = exact_bytes a b (equal _ h)

pub itself : (a : List ℕ) → is_eq (word_cmp a a) ≡ true
itself a = (eq_by_cmp_equiv nat_list_cmp_total).refl a

pub turned : (a b : List ℕ) → is_eq (word_cmp a b) ≡ is_eq (word_cmp b a)
turned a b = (eq_by_cmp_equiv nat_list_cmp_total).symm a b

pub bytes_itself : (a : List ℕ) → bytes_eq a a ≡ true
bytes_itself a = sym (is_eq-slice_cmp a a) ∙ itself a

pub bytes_apart : (a b : List ℕ) → is_eq (word_cmp a b) ≡ false → bytes_eq a b ≡ false
bytes_apart a b h = sym (is_eq-slice_cmp a b) ∙ h

-- what holds of a word and of each other one holds of all
pub by_word : (word : List ℕ) (P : List ℕ → Type 0) → P word → ((w : List ℕ) → is_eq (word_cmp word w) ≡ false → P w) → (w : List ℕ) → P w
by_word word P here there w = cases (is_eq (word_cmp word w)) refl
  where
    cases : (b : Bool) → b ≡ is_eq (word_cmp word w) → P w
    cases true s = subst P (same_word word w (sym s)) here
    cases false s = there w (sym s)

-- the value at the word becomes this, and no other changes
abbrev pub Written : {X : Type 0} → List ℕ → Option X → List (List ℕ × X) → List (List ℕ × X) → Type 0
Written word value m n = (w : List ℕ) → value_at w n ≡ cond (is_at (word_cmp word) w) value (value_at w m)

pub written_here : {X : Type 0} (word : List ℕ) (value : Option X) (m n : List (List ℕ × X)) → Written word value m n → value_at word n ≡ value
written_here word value m n h = h word ∙ cond-true _ _ _ (itself word)

pub written_other : {X : Type 0} (word : List ℕ) (value : Option X) (m n : List (List ℕ × X)) → Written word value m n
    → (w : List ℕ) → is_eq (word_cmp word w) ≡ false → value_at w n ≡ value_at w m
written_other word value m n h w e = h w ∙ cond-false _ _ _ e

-- what is read alike of the new value and the old one is read alike at each word
pub read_alike : {X Y : Type 0} (f : Option X → Y) (word : List ℕ) (value : Option X) (m n : List (List ℕ × X)) → Written word value m n
    → f value ≡ f (value_at word m) → (w : List ℕ) → f (value_at w n) ≡ f (value_at w m)
read_alike {X} {Y} f word value m n h e = by_word word (λ w. f (value_at w n) ≡ f (value_at w m)) (ap f (written_here word value m n h) ∙ e)
    (λ w apart. ap f (written_other word value m n h w apart))
