-- The keys of a map that gets a value.
use Rattle.std.proofs.Common.{◌≡◌, ℕ, List, [], ◌∷◌, cond, Ordering, Less, Equal, Greater, Option, Some, None, refl, sym, ap, ap₂, ◌∙◌}
use Rattle.std.specs.BTreeMap.{BTreeMap, UpdatesBy, keys, get, insert_entry, is_at}
use Rattle.std.specs.BTreeSet.{insert_key}
use Rattle.std.specs.Cmp.Lexicographic.{slice_cmp}
use Rattle.std.specs.List.{AllByRecursion}
use Rattle.std.specs.List.Sorted.{IsStrictlySortedBy}
use Rattle.std.specs.Map.{keys_of, lookup}
use Rattle.std.specs.Ordering.{nat_cmp, match_ordering, is_eq}
use Rattle.std.specs.Option.{is_some}
use Rattle.facet_counts.specs.declared.counter.Counted.{Counted}
use Rattle.facet_counts.specs.Counting.{seen}
use Rattle.std.proofs.lemmas.Bool.{false≢true}
use Rattle.std.proofs.lemmas.Cmp.{nat_list_cmp_total}

abbrev by_bytes : List ℕ → List ℕ → Ordering
by_bytes v w = slice_cmp nat_cmp v w

module _ {X : Type 0} where
  pub keys-inserted : (es : List (List ℕ × X)) (k : List ℕ) (x : X) → keys_of (insert_entry (slice_cmp nat_cmp) es k x) ≡ insert_key (slice_cmp nat_cmp) (keys_of es) k
  keys-inserted [] k x = refl
  keys-inserted (e ∷ es) k x = by (by_bytes k e.0) (keys-inserted es k x)
    where
      by : (o : Ordering) → keys_of (insert_entry (slice_cmp nat_cmp) es k x) ≡ insert_key (slice_cmp nat_cmp) (keys_of es) k
          → keys_of (match_ordering o ((k, x) ∷ e ∷ es) ((e.0, x) ∷ es) (e ∷ insert_entry (slice_cmp nat_cmp) es k x))
          ≡ match_ordering o (k ∷ e.0 ∷ keys_of es) (e.0 ∷ keys_of es) (e.0 ∷ insert_key (slice_cmp nat_cmp) (keys_of es) k)
      by Less again = refl
      by Equal again = refl
      by Greater again = ap (λ ks. e.0 ∷ ks) again

  -- a key below all others is none of them
  none-below : (es : List (List ℕ × X)) (k first : List ℕ) → by_bytes k first ≡ Less → AllByRecursion (λ y. by_bytes first y ≡ Less) (keys_of es) → lookup (is_at (slice_cmp nat_cmp k)) es ≡ None
  none-below [] k first lt h = refl
  none-below (e ∷ es) k first lt h = ap (λ o. cond (is_eq o) (Some e.1) (lookup (is_at (slice_cmp nat_cmp k)) es)) (nat_list_cmp_total.trans k first e.0 lt h.0) ∙ none-below es k first lt h.1

  none-some : (x : X) (o : Option X) → o ≡ None → o ≡ Some x → ⊥
  none-some x o n h = false≢true (sym (ap is_some n) ∙ ap is_some h)

  -- a key that is there stays where it is
  pub keys-found : (es : List (List ℕ × X)) (k : List ℕ) (x : X) → IsStrictlySortedBy (slice_cmp nat_cmp) (keys_of es) → lookup (is_at (slice_cmp nat_cmp k)) es ≡ Some x → insert_key (slice_cmp nat_cmp) (keys_of es) k ≡ keys_of es
  unfolding IsStrictlySortedBy
  keys-found [] k x sorted found = absurd (none-some x None refl found)
  keys-found (e ∷ es) k x sorted found = by (by_bytes k e.0) refl (keys-found es k x sorted.1)
    where
      by : (o : Ordering) → by_bytes k e.0 ≡ o → (lookup (is_at (slice_cmp nat_cmp k)) es ≡ Some x → insert_key (slice_cmp nat_cmp) (keys_of es) k ≡ keys_of es)
          → match_ordering (by_bytes k e.0) (k ∷ e.0 ∷ keys_of es) (e.0 ∷ keys_of es) (e.0 ∷ insert_key (slice_cmp nat_cmp) (keys_of es) k) ≡ e.0 ∷ keys_of es
      by Less h again = absurd (none-some x _ (ap (λ o. cond (is_eq o) (Some e.1) (lookup (is_at (slice_cmp nat_cmp k)) es)) h ∙ none-below es k e.0 h sorted.0) found)
      by Equal h again = ap (λ o. match_ordering o (k ∷ e.0 ∷ keys_of es) (e.0 ∷ keys_of es) (e.0 ∷ insert_key (slice_cmp nat_cmp) (keys_of es) k)) h
      by Greater h again = ap (λ o. match_ordering o (k ∷ e.0 ∷ keys_of es) (e.0 ∷ keys_of es) (e.0 ∷ insert_key (slice_cmp nat_cmp) (keys_of es) k)) h
          ∙ ap (λ ks. e.0 ∷ ks) (again (sym (ap (λ o. cond (is_eq o) (Some e.1) (lookup (is_at (slice_cmp nat_cmp k)) es)) h) ∙ found))

-- a value that is first seen
pub seen-first : (value key shown given : List ℕ) (document : ℕ) (old between new : BTreeMap (List ℕ) Counted) → get (slice_cmp nat_cmp) old value ≡ None → between.entries ≡ old.entries → key ≡ value → given ≡ shown
    → new.entries ≡ insert_entry (slice_cmp nat_cmp) between.entries key (seen given document None) → UpdatesBy (slice_cmp nat_cmp) (slice_cmp nat_cmp key) between new (Some (seen given document None))
    → (keys new ≡ insert_key (slice_cmp nat_cmp) (keys old) value)
    × ((other : List ℕ) → get (slice_cmp nat_cmp) new other ≡ cond (is_at (slice_cmp nat_cmp value) other) (Some (seen shown document (get (slice_cmp nat_cmp) old value))) (get (slice_cmp nat_cmp) old other))
seen-first value key shown given document old between new absent same k_is s_is inserted updates = (
  ap keys_of inserted ∙ keys-inserted between.entries key (seen given document None) ∙ ap₂ (λ es k. insert_key (slice_cmp nat_cmp) (keys_of es) k) same k_is,
  λ other. updates.0 other
      ∙ ap₂ (λ k es. cond (is_at (slice_cmp nat_cmp k) other) (Some (seen given document None)) (lookup (is_at (slice_cmp nat_cmp other)) es)) k_is same
      ∙ ap₂ (λ s known. cond (is_at (slice_cmp nat_cmp value) other) (Some (seen s document known)) (get (slice_cmp nat_cmp) old other)) s_is (sym absent),
)
