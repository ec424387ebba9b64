-- Names on shelves: a name is looked up on the shelf of its length.
use Rattle.std.proofs.Common.{◌≡◌, ℕ, Bool, true, false, cond, List, [], ◌∷◌, ◌++◌, length, Option, None, Some, refl, sym, ap, ◌∙◌, arith, subst, rules}
use Rattle.std.specs.Prelude.{bytes_eq, Ok, Err, OnOk, Result}
use Rattle.std.specs.Option.{is_some, unwrap_or, option_flatten, IsSome}
use Rattle.std.specs.Map.{lookup, keys_of}
use Rattle.std.specs.List.{AllByRecursion}
use Rattle.std.specs.List.Sorted.{IsStrictlySortedBy}
use Rattle.std.specs.BTreeMap.{is_at, get, UpdatesBy, WritesThrough, IsOrdered}
use Rattle.std.specs.Ordering.{nat_cmp, is_eq}
use Rattle.std.specs.declared.cmp.Ordering.TheVariants.{Less}
use Rattle.std.proofs.lemmas.Bool.{cond-true, cond-false}
use Rattle.std.proofs.lemmas.Bool.Decides.{nat_tests}
use Rattle.std.proofs.lemmas.Map.Keys.{sorted_head, sorted_tail}
use Rattle.path_registry.specs.Names.{Names, number_at, is_kept}
use Rattle.path_registry.specs.Shelves.{Shelves, names_at, names_on, AreShelved}
use Rattle.path_registry.proofs.NameLemmas.{same_bytes, none_kept, none_is_some}

abbrev at : ℕ → List (ℕ × Names) → Names
at n es = unwrap_or (lookup (is_at (nat_cmp n)) es) []

pub is_same : (n m : ℕ) → is_eq (nat_cmp n m) ≡ true → n ≡ m
is_same n m h = grind (arith, nat_tests)

pub is_other : (n m : ℕ) → is_eq (nat_cmp n m) ≡ false → n ≡ m → ⊥
is_other n m h e = grind (arith, nat_tests)

pub is_itself : (n : ℕ) → is_eq (nat_cmp n n) ≡ true
is_itself n = grind (arith, nat_tests)

less_is_apart : (n m : ℕ) → nat_cmp n m ≡ Less → is_eq (nat_cmp n m) ≡ false
less_is_apart n m h = ap is_eq h

-- no shelf behind the first has its length
once : (n : ℕ) (es : List (ℕ × Names)) → AllByRecursion (λ m. nat_cmp n m ≡ Less) (keys_of es) → lookup (is_at (nat_cmp n)) es ≡ None
once n [] h = refl
once n (e ∷ es) h = cond-false _ _ _ (less_is_apart n e.0 h.0) ∙ once n es h.1

-- a name that is not among the first stands among the rest
behind : (q : List ℕ) (names more : Names) → lookup (bytes_eq q) names ≡ None → lookup (bytes_eq q) (names ++ more) ≡ lookup (bytes_eq q) more
behind q [] more h = refl
behind q (e ∷ names) more h = by (behind q names more) (bytes_eq q e.0) refl
  where
    by : (lookup (bytes_eq q) names ≡ None → lookup (bytes_eq q) (names ++ more) ≡ lookup (bytes_eq q) more) → (b : Bool) → b ≡ bytes_eq q e.0
        → lookup (bytes_eq q) ((e ∷ names) ++ more) ≡ lookup (bytes_eq q) more
    by again true s = absurd (none_is_some (ap is_some (sym h ∙ cond-true _ _ _ (sym s))))
    by again false s = cond-false _ _ _ (sym s) ∙ again (sym (cond-false _ _ _ (sym s)) ∙ h)

-- a name that is not among the rest stands among the first
before : (q : List ℕ) (names more : Names) → lookup (bytes_eq q) more ≡ None → lookup (bytes_eq q) (names ++ more) ≡ lookup (bytes_eq q) names
before q [] more h = h
before q (e ∷ names) more h = ap (cond (bytes_eq q e.0) (Some e.1)) (before q names more h)

apart_lengths : (q : List ℕ) (names : Names) (n : ℕ) → (is_kept q names ≡ true → length q ≡ n) → (length q ≡ n → ⊥) → lookup (bytes_eq q) names ≡ None
apart_lengths q names n h other = by (is_kept q names) refl
  where
    by : (b : Bool) → b ≡ is_kept q names → lookup (bytes_eq q) names ≡ None
    by true s = absurd (other (h (sym s)))
    by false s = none_kept (lookup (bytes_eq q) names) (sym s)

abbrev Lengths : List (ℕ × Names) → Type 0
Lengths es = (n : ℕ) (name : List ℕ) → is_kept name (at n es) ≡ true → length name ≡ n

rest_lengths : (e : ℕ × Names) (es : List (ℕ × Names)) → lookup (is_at (nat_cmp e.0)) es ≡ None → Lengths (e ∷ es) → Lengths es
rest_lengths e es alone h n name kept = by (is_eq (nat_cmp n e.0)) refl
  where
    by : (b : Bool) → b ≡ is_eq (nat_cmp n e.0) → length name ≡ n
    by true s = absurd (none_is_some (sym (ap (λ o. is_kept name (unwrap_or o [])) (ap (λ m. lookup (is_at (nat_cmp m)) es) (is_same n e.0 (sym s)) ∙ alone)) ∙ kept))
    by false s = h n name (ap (λ o. is_kept name (unwrap_or o [])) (cond-false _ _ _ (sym s)) ∙ kept)

first_or_rest : (q : List ℕ) (e : ℕ × Names) (es : List (ℕ × Names)) → lookup (is_at (nat_cmp e.0)) es ≡ None → Lengths (e ∷ es)
    → lookup (bytes_eq q) (names_on es) ≡ lookup (bytes_eq q) (at (length q) es) → (b : Bool) → b ≡ is_eq (nat_cmp (length q) e.0)
    → lookup (bytes_eq q) (names_on (e ∷ es)) ≡ lookup (bytes_eq q) (at (length q) (e ∷ es))
first_or_rest q e es alone lengths again true s =
    before q e.1 (names_on es) (again ∙ ap (λ o. lookup (bytes_eq q) (unwrap_or o [])) (ap (λ m. lookup (is_at (nat_cmp m)) es) (is_same (length q) e.0 (sym s)) ∙ alone))
    ∙ sym (ap (λ o. lookup (bytes_eq q) (unwrap_or o [])) (cond-true _ _ _ (sym s)))
first_or_rest q e es alone lengths again false s =
    let first : at e.0 (e ∷ es) ≡ e.1 = ap (λ o. unwrap_or o []) (cond-true _ _ _ (is_itself e.0)) in
    behind q e.1 (names_on es) (apart_lengths q e.1 e.0 (λ kept. lengths e.0 q (ap (is_kept q) first ∙ kept)) (is_other (length q) e.0 (sym s)))
    ∙ again ∙ sym (ap (λ o. lookup (bytes_eq q) (unwrap_or o [])) (cond-false _ _ _ (sym s)))

on_shelf : (q : List ℕ) (es : List (ℕ × Names)) → IsStrictlySortedBy nat_cmp (keys_of es) → Lengths es → lookup (bytes_eq q) (names_on es) ≡ lookup (bytes_eq q) (at (length q) es)
on_shelf q [] sorted lengths = refl
on_shelf q (e ∷ es) sorted lengths =
    let alone = once e.0 es (sorted_head nat_cmp e.0 (keys_of es) sorted) in
    let again = on_shelf q es (sorted_tail nat_cmp e.0 (keys_of es) sorted) (rest_lengths e es alone lengths) in
    first_or_rest q e es alone lengths again (is_eq (nat_cmp (length q) e.0)) refl

pub number-shelved : (q : List ℕ) (shelves : Shelves) → AreShelved shelves → number_at q (names_on shelves.entries) ≡ number_at q (names_at (length q) shelves)
number-shelved q shelves h = ap option_flatten (on_shelf q shelves.entries h.ordered h.lengths)

pub kept-shelved : (q : List ℕ) (shelves : Shelves) → AreShelved shelves → is_kept q (names_on shelves.entries) ≡ is_kept q (names_at (length q) shelves)
kept-shelved q shelves h = ap is_some (on_shelf q shelves.entries h.ordered h.lengths)

-- the shelf that is found for a name
pub shelf-found : (q : List ℕ) (n : ℕ) (shelves : Shelves) (o : Option Names) → n ≡ length q → o ≡ get nat_cmp shelves n → names_at (length q) shelves ≡ unwrap_or o []
shelf-found q n shelves o len h = ap (λ m. names_at m shelves) (sym len) ∙ ap (λ o. unwrap_or o []) (sym h)

-- another shelf in place of one
pub shelf-written : (n m : ℕ) (old new : Shelves) (shelf : Names) → UpdatesBy nat_cmp (nat_cmp n) old new (Some shelf) → names_at m new ≡ cond (is_eq (nat_cmp n m)) shelf (names_at m old)
shelf-written n m old new shelf h = by (is_eq (nat_cmp n m)) refl
  where
    by : (b : Bool) → b ≡ is_eq (nat_cmp n m) → names_at m new ≡ cond (is_eq (nat_cmp n m)) shelf (names_at m old)
    by true s = ap (λ o. unwrap_or o []) (h.0 m ∙ cond-true _ _ _ (sym s)) ∙ sym (cond-true _ _ _ (sym s))
    by false s = ap (λ o. unwrap_or o []) (h.0 m ∙ cond-false _ _ _ (sym s)) ∙ sym (cond-false _ _ _ (sym s))

-- names of other lengths are other names
pub lengths_apart : (name q : List ℕ) → is_eq (nat_cmp (length name) (length q)) ≡ false → bytes_eq name q ≡ false
lengths_apart name q h = by (bytes_eq name q) refl
  where
    by : (b : Bool) → b ≡ bytes_eq name q → bytes_eq name q ≡ false
    by true s = absurd (is_other (length name) (length q) h (ap length (same_bytes name q (sym s))))
    by false s = sym s

-- what a name has on the shelf of its length
pub number-found : (q : List ℕ) (n : ℕ) (shelves : Shelves) (o : Option Names) → n ≡ length q → o ≡ get nat_cmp shelves n → AreShelved shelves
    → number_at q (names_on shelves.entries) ≡ number_at q (unwrap_or o [])
number-found q n shelves o len h shelved = number-shelved q shelves shelved ∙ ap (number_at q) (shelf-found q n shelves o len h)

pub kept-found : (q : List ℕ) (n : ℕ) (shelves : Shelves) (o : Option Names) → n ≡ length q → o ≡ get nat_cmp shelves n → AreShelved shelves
    → is_kept q (names_on shelves.entries) ≡ is_kept q (unwrap_or o [])
kept-found q n shelves o len h shelved = kept-shelved q shelves shelved ∙ ap (is_kept q) (shelf-found q n shelves o len h)

-- A shelf that is written: the names of other lengths stay, and those of its length are the new ones.
pub record IsWritten (name : List ℕ) (n : ℕ) (shelf : Names) (old new : Shelves) : Type 0 where
  pub len : n ≡ length name
  pub old_shelved : AreShelved old
  pub ordered : IsOrdered nat_cmp new
  pub updates : UpdatesBy nat_cmp (nat_cmp n) old new (Some shelf)
  pub only : (q : List ℕ) → bytes_eq name q ≡ false → is_kept q shelf ≡ true → is_kept q (names_at n old) ≡ true

pub shelved-written : (name : List ℕ) (n : ℕ) (shelf : Names) (old new : Shelves) → IsWritten name n shelf old new → AreShelved new
shelved-written name n shelf old new h = record { ordered = h.ordered; lengths = lengths }
  where
    lengths : (m : ℕ) (q : List ℕ) → is_kept q (names_at m new) ≡ true → length q ≡ m
    lengths m q kept = by (is_eq (nat_cmp n m)) refl
      where
        on : is_eq (nat_cmp n m) ≡ true → (b : Bool) → b ≡ bytes_eq name q → length q ≡ m
        on s true t = ap length (sym (same_bytes name q (sym t))) ∙ sym h.len ∙ is_same n m s
        on s false t = h.old_shelved.lengths n q (h.only q (sym t) (ap (is_kept q) (sym (shelf-written n m old new shelf h.updates ∙ cond-true _ _ _ s)) ∙ kept)) ∙ is_same n m s

        by : (b : Bool) → b ≡ is_eq (nat_cmp n m) → length q ≡ m
        by true s = on (sym s) (bytes_eq name q) refl
        by false s = h.old_shelved.lengths m q (ap (is_kept q) (sym (shelf-written n m old new shelf h.updates ∙ cond-false _ _ _ (sym s))) ∙ kept)

-- What holds of the names on a shelf, before and after, holds of all names: of those of other lengths nothing changes.
pub written : (name q : List ℕ) (n : ℕ) (shelf : Names) (old new : Shelves) → IsWritten name n shelf old new → (P : Names → Names → Type 0)
    → P (names_at n old) shelf → (bytes_eq name q ≡ false → P (names_at (length q) old) (names_at (length q) old)) → P (names_at (length q) old) (names_at (length q) new)
written name q n shelf old new h P same other = by (is_eq (nat_cmp n (length q))) refl
  where
    by : (b : Bool) → b ≡ is_eq (nat_cmp n (length q)) → P (names_at (length q) old) (names_at (length q) new)
    by true s = subst (λ m. P (names_at m old) (names_at (length q) new)) (is_same n (length q) (sym s))
        (subst (P (names_at n old)) (sym (shelf-written n (length q) old new shelf h.updates ∙ cond-true _ _ _ (sym s))) same)
    by false s = subst (P (names_at (length q) old)) (sym (shelf-written n (length q) old new shelf h.updates ∙ cond-false _ _ _ (sym s)))
        (other (lengths_apart name q (ap (λ k. is_eq (nat_cmp k (length q))) (sym h.len) ∙ sym s)))

pub number-written : (name q : List ℕ) (n : ℕ) (shelf : Names) (old new : Shelves) (w : Option ℕ) → IsWritten name n shelf old new
    → number_at q shelf ≡ cond (bytes_eq name q) w (number_at q (names_at n old))
    → number_at q (names_on new.entries) ≡ cond (bytes_eq name q) w (number_at q (names_on old.entries))
number-written name q n shelf old new w h is =
    number-shelved q new (shelved-written name n shelf old new h)
    ∙ written name q n shelf old new h (λ before after. number_at q after ≡ cond (bytes_eq name q) w (number_at q before)) is (λ s. sym (cond-false _ _ _ s))
    ∙ ap (cond (bytes_eq name q) w) (sym (number-shelved q old h.old_shelved))

pub number-stays : (name q : List ℕ) (n : ℕ) (shelf : Names) (old new : Shelves) → IsWritten name n shelf old new
    → number_at q shelf ≡ number_at q (names_at n old) → number_at q (names_on new.entries) ≡ number_at q (names_on old.entries)
number-stays name q n shelf old new h is =
    number-shelved q new (shelved-written name n shelf old new h)
    ∙ written name q n shelf old new h (λ before after. number_at q after ≡ number_at q before) is (λ s. refl)
    ∙ sym (number-shelved q old h.old_shelved)

pub kept-stays : (name q : List ℕ) (n : ℕ) (shelf : Names) (old new : Shelves) → IsWritten name n shelf old new
    → is_kept q shelf ≡ is_kept q (names_at n old) → is_kept q (names_on new.entries) ≡ is_kept q (names_on old.entries)
kept-stays name q n shelf old new h is =
    kept-shelved q new (shelved-written name n shelf old new h)
    ∙ written name q n shelf old new h (λ before after. is_kept q after ≡ is_kept q before) is (λ s. refl)
    ∙ sym (kept-shelved q old h.old_shelved)

pub kept-still : (name q : List ℕ) (n : ℕ) (shelf : Names) (old new : Shelves) → IsWritten name n shelf old new
    → (is_kept q (names_at n old) ≡ true → is_kept q shelf ≡ true) → is_kept q (names_on old.entries) ≡ true → is_kept q (names_on new.entries) ≡ true
kept-still name q n shelf old new h is was =
    kept-shelved q new (shelved-written name n shelf old new h)
    ∙ written name q n shelf old new h (λ before after. is_kept q before ≡ true → is_kept q after ≡ true) is (λ s k. k) (sym (kept-shelved q old h.old_shelved) ∙ was)

pub kept-written : (name : List ℕ) (n : ℕ) (shelf : Names) (old new : Shelves) → IsWritten name n shelf old new → is_kept name shelf ≡ true → is_kept name (names_on new.entries) ≡ true
kept-written name n shelf old new h is =
    kept-shelved name new (shelved-written name n shelf old new h)
    ∙ ap (is_kept name) (shelf-written n (length name) old new shelf h.updates ∙ cond-true _ _ _ (ap (λ k. is_eq (nat_cmp n k)) (sym h.len) ∙ is_itself n)) ∙ is

some-here : (was : Names) (o : Option Names) → Some was ≡ o → IsSome o
some-here was o h = search (rules, h)

-- a shelf that is found, and is written
pub is_written : (name : List ℕ) (n : ℕ) (was now : Names) (old new : Shelves) → n ≡ length name → Some was ≡ get nat_cmp old n → AreShelved old → WritesThrough nat_cmp (nat_cmp n) old now new
    → ((q : List ℕ) → bytes_eq name q ≡ false → is_kept q now ≡ true → is_kept q was ≡ true) → IsWritten name n now old new
is_written name n was now old new len h shelved writes only = record {
  len = len;
  old_shelved = shelved;
  ordered = writes.4;
  updates = writes.3 (some-here was _ h);
  only = λ q other kept. ap (is_kept q) (ap (λ o. unwrap_or o []) (sym h)) ∙ only q other kept;
}

-- the shelf that is written has the names of its length
pub shelf-was : (n : ℕ) (was : Names) (old : Shelves) → Some was ≡ get nat_cmp old n → was ≡ names_at n old
shelf-was n was old h = ap (λ o. unwrap_or o []) h

pub shelf-none : (n : ℕ) (was : Names) (old : Shelves) → None ≡ get nat_cmp old n → was ≡ [] → names_at n old ≡ was
shelf-none n was old h empty = ap (λ o. unwrap_or o []) (sym h) ∙ sym empty

-- a shelf that is new
pub is_new : (name : List ℕ) (n : ℕ) (was now : Names) (old new : Shelves) → n ≡ length name → None ≡ get nat_cmp old n → AreShelved old → UpdatesBy nat_cmp (nat_cmp n) old new (Some now) → IsOrdered nat_cmp new
    → was ≡ [] → ((q : List ℕ) → bytes_eq name q ≡ false → is_kept q now ≡ is_kept q was) → IsWritten name n now old new
is_new name n was now old new len h shelved updates ordered empty only = record {
  len = len;
  old_shelved = shelved;
  ordered = ordered;
  updates = updates;
  only = λ q other kept. ap (is_kept q) (shelf-none n was old h empty) ∙ sym (only q other) ∙ kept;
}

-- a name whose length has no shelf has no number
pub number-none : (name q : List ℕ) (n : ℕ) (shelves : Shelves) → n ≡ length name → None ≡ get nat_cmp shelves n → AreShelved shelves
    → number_at q (names_on shelves.entries) ≡ cond (bytes_eq name q) None (number_at q (names_on shelves.entries))
number-none name q n shelves len h shelved = by (bytes_eq name q) refl
  where
    by : (b : Bool) → b ≡ bytes_eq name q → number_at q (names_on shelves.entries) ≡ cond (bytes_eq name q) None (number_at q (names_on shelves.entries))
    by true s = number-found q n shelves None (len ∙ ap length (same_bytes name q (sym s))) h shelved ∙ sym (cond-true _ _ _ (sym s))
    by false s = sym (cond-false _ _ _ (sym s))

pub on-ok : {T E P Q : Type 0} (r : Result T E) → (P → Q) → OnOk r P → OnOk r Q
on-ok (Ok x) f p = f p
on-ok (Err e) f p = p
