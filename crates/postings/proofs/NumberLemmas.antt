-- Writes under one number, and what they do to the words.
use Rattle.std.proofs.Common.{◌≡◌, ℕ, Bool, true, false, ◌==◌, List, Option, None, Some, refl, sym, ap, subst, ◌∙◌}
use Rattle.std.specs.Option.{option_map, unwrap_or}
use Rattle.std.specs.Ordering.{is_eq}
use Rattle.std.proofs.lemmas.Bool.{eqb-true, eq-eqb, ne_eqb}
use Rattle.postings.specs.declared.slots.Slot.{Slot}
use Rattle.postings.specs.Dictionary.{Lists, word_cmp, value_at, entries_of, slot_in, word_in, pages_in, pages_at, IsNumbered, HasSameSlots, HasSameLists, HasSameOthers}
use Rattle.postings.proofs.WordLemmas.{Written, by_word, same_word, itself, written_here, written_other}

clash : (b : Bool) → b ≡ true → b ≡ false → ⊥
clash true h k = cc
clash false h k = cc

pub some_same : {X : Type 0} (a b : X) → Some a ≡ Some b → a ≡ b
some_same a b h = ap (λ o. unwrap_or o a) h

some_none : {X : Type 0} {P : Type 0} (a : X) → Some a ≡ None → P
some_none a h = absurd (cc)

-- two words that are one are not apart
one_word : (v w : List ℕ) → Some w ≡ Some v → is_eq (word_cmp v w) ≡ false → ⊥
one_word v w same apart = clash (is_eq (word_cmp v w)) (ap (word_is v) (some_same w v same) ∙ itself v) apart
  where
    word_is : List ℕ → List ℕ → Bool
    word_is v w = is_eq (word_cmp v w)

-- what holds at a number and at each other holds at all
by_number : (n : ℕ) (P : ℕ → Type 0) → P n → ((m : ℕ) → (m == n) ≡ false → P m) → (m : ℕ) → P m
by_number n P here there m = cases (m == n) refl
  where
    cases : (b : Bool) → b ≡ (m == n) → P m
    cases true s = subst P (sym (eqb-true m n (sym s))) here
    cases false s = there m (sym s)

-- a write that leaves the word of a number
pub words_same : (n : ℕ) (old new : List (Option Slot)) → HasSameSlots n old new → word_in new n ≡ word_in old n → (m : ℕ) → word_in new m ≡ word_in old m
words_same n old new others here = by_number n (λ m. word_in new m ≡ word_in old m) here (λ m apart. ap (option_map (λ slot. slot.word)) (others m apart))

pub still_numbered : (old new : Lists) → ((w : List ℕ) → value_at w new.numbers ≡ value_at w old.numbers)
    → ((m : ℕ) → word_in new.slots m ≡ word_in old.slots m) → IsNumbered old → IsNumbered new
still_numbered old new numbers words was = record {
  word = λ w m h. words m ∙ was.word w m (sym (numbers w) ∙ h);
  number = λ w m h. numbers w ∙ was.number w m (sym (words m) ∙ h);
}

-- the number of another word is another number
pub apart_named : (lists : Lists) (word : List ℕ) (n : ℕ) → IsNumbered lists → value_at word lists.numbers ≡ Some n
    → (w : List ℕ) (m : ℕ) → is_eq (word_cmp word w) ≡ false → value_at w lists.numbers ≡ Some m → (m == n) ≡ false
apart_named lists word n was named w m apart h = ne_eqb m n
    (λ same. one_word word w (sym (was.word w m h) ∙ ap (word_in lists.slots) same ∙ was.word word n named) apart)

pub apart_free : (lists : Lists) (n : ℕ) → IsNumbered lists → slot_in lists.slots n ≡ None
    → (w : List ℕ) (m : ℕ) → value_at w lists.numbers ≡ Some m → (m == n) ≡ false
apart_free lists n was free w m h = ne_eqb m n
    (λ same. some_none w (sym (was.word w m h) ∙ ap (word_in lists.slots) same ∙ ap (option_map (λ slot. slot.word)) free))

-- a write under a number leaves the lists of the words that have others
pub others_by : (old new : Lists) (word : List ℕ) (n : ℕ)
    → ((w : List ℕ) → is_eq (word_cmp word w) ≡ false → value_at w new.numbers ≡ value_at w old.numbers)
    → HasSameSlots n old.slots new.slots
    → ((w : List ℕ) (m : ℕ) → is_eq (word_cmp word w) ≡ false → value_at w old.numbers ≡ Some m → (m == n) ≡ false)
    → HasSameOthers word old new
others_by old new word n numbers others other w apart = ap (pages_in new.slots) (numbers w apart) ∙ by (value_at w old.numbers) refl
  where
    by : (o : Option ℕ) → o ≡ value_at w old.numbers → pages_in new.slots o ≡ pages_in old.slots o
    by None s = refl
    by (Some m) s = ap (option_map (λ slot. slot.list)) (others m (other w m apart (sym s)))

-- a write in the list of a word
pub others_same : (old new : Lists) (word : List ℕ) (n : ℕ) → IsNumbered old → value_at word old.numbers ≡ Some n
    → ((w : List ℕ) → value_at w new.numbers ≡ value_at w old.numbers) → HasSameSlots n old.slots new.slots → HasSameOthers word old new
others_same old new word n was named numbers others = others_by old new word n (λ w apart. numbers w) others (apart_named old word n was named)

-- lists are the same at all words where they are at one and at the others
pub lists_same : (old new : Lists) (word : List ℕ) → HasSameOthers word old new → entries_of (pages_at word new) ≡ entries_of (pages_at word old)
    → HasSameLists old new
lists_same old new word others here = by_word word (λ w. entries_of (pages_at w new) ≡ entries_of (pages_at w old)) here (λ w apart. ap entries_of (others w apart))

-- ---- a word goes

pub dropped_numbered : (old new : Lists) (word : List ℕ) (n : ℕ) → IsNumbered old → value_at word old.numbers ≡ Some n
    → Written word None old.numbers new.numbers → HasSameSlots n old.slots new.slots → slot_in new.slots n ≡ None → IsNumbered new
dropped_numbered old new word n was named written others gone = record {
  word = by_word word (λ w. (m : ℕ) → value_at w new.numbers ≡ Some m → word_in new.slots m ≡ Some w)
      (λ m h. some_none m (sym h ∙ written_here word None old.numbers new.numbers written))
      (λ w apart m h. let before = sym (written_other word None old.numbers new.numbers written w apart) ∙ h in
      ap (option_map (λ slot. slot.word)) (others m (apart_named old word n was named w m apart before)) ∙ was.word w m before);
  number = λ w. by_number n (λ m. word_in new.slots m ≡ Some w → value_at w new.numbers ≡ Some m)
      (λ h. some_none w (sym h ∙ ap (option_map (λ slot. slot.word)) gone))
      (λ m apart h.
      let before = was.number w m (sym (ap (option_map (λ slot. slot.word)) (others m apart)) ∙ h) in
      written_other word None old.numbers new.numbers written w (words_apart w m apart before) ∙ before);
}
  where
    words_apart : (w : List ℕ) (m : ℕ) → (m == n) ≡ false → value_at w old.numbers ≡ Some m → is_eq (word_cmp word w) ≡ false
    words_apart w m apart h = cases (is_eq (word_cmp word w)) refl
      where
        cases : (b : Bool) → b ≡ is_eq (word_cmp word w) → b ≡ false
        cases true s = absurd (clash (m == n)
            (eq-eqb m n (some_same m n (sym h ∙ ap (λ v. value_at v old.numbers) (sym (same_word word w (sym s))) ∙ named))) apart)
        cases false s = refl

pub dropped_others : (old new : Lists) (word : List ℕ) (n : ℕ) → IsNumbered old → value_at word old.numbers ≡ Some n
    → Written word None old.numbers new.numbers → HasSameSlots n old.slots new.slots → HasSameOthers word old new
dropped_others old new word n was named written others =
    others_by old new word n (written_other word None old.numbers new.numbers written) others (apart_named old word n was named)

pub dropped_here : (new : Lists) (word : List ℕ) (m : List (List ℕ × ℕ)) → Written word None m new.numbers → pages_at word new ≡ None
dropped_here new word m written = ap (pages_in new.slots) (written_here word None m new.numbers written)

-- ---- a word comes

pub added_numbered : (old new : Lists) (word : List ℕ) (n : ℕ) (slot : Slot) → slot.word ≡ word → IsNumbered old → value_at word old.numbers ≡ None
    → slot_in old.slots n ≡ None → Written word (Some n) old.numbers new.numbers → HasSameSlots n old.slots new.slots
    → slot_in new.slots n ≡ Some slot → IsNumbered new
added_numbered old new word n slot own was absent free written others put = record {
  word = by_word word (λ w. (m : ℕ) → value_at w new.numbers ≡ Some m → word_in new.slots m ≡ Some w)
      (λ m h. ap (word_in new.slots) (some_same m n (sym h ∙ written_here word (Some n) old.numbers new.numbers written)) ∙ named)
      (λ w apart m h. let before = sym (written_other word (Some n) old.numbers new.numbers written w apart) ∙ h in
      ap (option_map (λ slot. slot.word)) (others m (apart_free old n was free w m before)) ∙ was.word w m before);
  number = λ w. by_number n (λ m. word_in new.slots m ≡ Some w → value_at w new.numbers ≡ Some m)
      (λ h. ap (λ v. value_at v new.numbers) (some_same w word (sym h ∙ named)) ∙ written_here word (Some n) old.numbers new.numbers written)
      (λ m apart h.
      let before = was.number w m (sym (ap (option_map (λ slot. slot.word)) (others m apart)) ∙ h) in
      written_other word (Some n) old.numbers new.numbers written w (words_apart w m before) ∙ before);
}
  where
    named : word_in new.slots n ≡ Some word
    named = ap (option_map (λ slot. slot.word)) put ∙ ap Some own

    words_apart : (w : List ℕ) (m : ℕ) → value_at w old.numbers ≡ Some m → is_eq (word_cmp word w) ≡ false
    words_apart w m h = cases (is_eq (word_cmp word w)) refl
      where
        cases : (b : Bool) → b ≡ is_eq (word_cmp word w) → b ≡ false
        cases true s = some_none m (sym h ∙ ap (λ v. value_at v old.numbers) (sym (same_word word w (sym s))) ∙ absent)
        cases false s = refl

pub added_others : (old new : Lists) (word : List ℕ) (n : ℕ) → IsNumbered old → slot_in old.slots n ≡ None
    → Written word (Some n) old.numbers new.numbers → HasSameSlots n old.slots new.slots → HasSameOthers word old new
added_others old new word n was free written others =
    others_by old new word n (written_other word (Some n) old.numbers new.numbers written) others (λ w m apart. apart_free old n was free w m)
