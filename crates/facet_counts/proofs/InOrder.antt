-- Texts that come one after the other, in order.
use Rattle.std.proofs.Common.{◌≡◌, ℕ, List, [], ◌∷◌, ◌++◌, Ordering, Less, Equal, Greater, refl, sym, ap, ◌∙◌}
use Rattle.std.specs.BTreeSet.{insert_key}
use Rattle.std.specs.Cmp.Lexicographic.{slice_cmp}
use Rattle.std.specs.List.{AllByRecursion}
use Rattle.std.specs.List.Sorted.{IsStrictlySortedBy}
use Rattle.std.specs.Ordering.{nat_cmp, ordering_reverse, match_ordering}
use Rattle.std.proofs.lemmas.Cmp.{nat_list_cmp_total}
use Rattle.std.proofs.lemmas.Map.Lookups.{exact_bytes}
use Rattle.facet_counts.specs.Order.{in_order}

abbrev by_bytes : List ℕ → List ℕ → Ordering
by_bytes v w = slice_cmp nat_cmp v w

abbrev put : List (List ℕ) → List ℕ → List (List ℕ)
put ks k = insert_key by_bytes ks k

put-less : (k x : List ℕ) (xs : List (List ℕ)) → by_bytes k x ≡ Less → put (x ∷ xs) k ≡ k ∷ x ∷ xs
put-less k x xs e = ap (λ o. match_ordering o (k ∷ x ∷ xs) (x ∷ xs) (x ∷ put xs k)) e

put-equal : (k x : List ℕ) (xs : List (List ℕ)) → by_bytes k x ≡ Equal → put (x ∷ xs) k ≡ x ∷ xs
put-equal k x xs e = ap (λ o. match_ordering o (k ∷ x ∷ xs) (x ∷ xs) (x ∷ put xs k)) e

put-greater : (k x : List ℕ) (xs : List (List ℕ)) → by_bytes k x ≡ Greater → put (x ∷ xs) k ≡ x ∷ put xs k
put-greater k x xs e = ap (λ o. match_ordering o (k ∷ x ∷ xs) (x ∷ xs) (x ∷ put xs k)) e

turned : (v w : List ℕ) (o : Ordering) → by_bytes v w ≡ o → by_bytes w v ≡ ordering_reverse o
turned v w o e = nat_list_cmp_total.antisymm w v ∙ ap ordering_reverse e

-- two texts may be put in either order
swap-less : (ks : List (List ℕ)) (a b : List ℕ) → by_bytes b a ≡ Less → put (put ks a) b ≡ put (put ks b) a
swap-less [] a b lt = put-less b a [] lt ∙ sym (put-greater a b [] (turned b a Less lt))
swap-less (x ∷ xs) a b lt = by (by_bytes a x) refl (by_bytes b x) refl (swap-less xs a b lt)
  where
    above : by_bytes a b ≡ Greater
    above = turned b a Less lt

    by : (p : Ordering) → by_bytes a x ≡ p → (q : Ordering) → by_bytes b x ≡ q → put (put xs a) b ≡ put (put xs b) a → put (put (x ∷ xs) a) b ≡ put (put (x ∷ xs) b) a
    by Less e q f again =
        let below : by_bytes b x ≡ Less = nat_list_cmp_total.trans b a x lt e in
        ap (λ l. put l b) (put-less a x xs e) ∙ put-less b a (x ∷ xs) lt
        ∙ sym (ap (λ l. put l a) (put-less b x xs below) ∙ put-greater a b (x ∷ xs) above ∙ ap (λ l. b ∷ l) (put-less a x xs e))
    by Equal e q f again =
        let below : by_bytes b x ≡ Less = turned x b Greater (sym (nat_list_cmp_total.congr a x b e) ∙ above) in
        ap (λ l. put l b) (put-equal a x xs e) ∙ put-less b x xs below
        ∙ sym (ap (λ l. put l a) (put-less b x xs below) ∙ put-greater a b (x ∷ xs) above ∙ ap (λ l. b ∷ l) (put-equal a x xs e))
    by Greater e Less f again =
        ap (λ l. put l b) (put-greater a x xs e) ∙ put-less b x (put xs a) f
        ∙ sym (ap (λ l. put l a) (put-less b x xs f) ∙ put-greater a b (x ∷ xs) above ∙ ap (λ l. b ∷ l) (put-greater a x xs e))
    by Greater e Equal f again =
        ap (λ l. put l b) (put-greater a x xs e) ∙ put-equal b x (put xs a) f
        ∙ sym (ap (λ l. put l a) (put-equal b x xs f) ∙ put-greater a x xs e)
    by Greater e Greater f again =
        ap (λ l. put l b) (put-greater a x xs e) ∙ put-greater b x (put xs a) f ∙ ap (λ l. x ∷ l) again
        ∙ sym (ap (λ l. put l a) (put-greater b x xs f) ∙ put-greater a x (put xs b) e)

pub swap : (ks : List (List ℕ)) (a b : List ℕ) → insert_key (slice_cmp nat_cmp) (insert_key (slice_cmp nat_cmp) ks a) b ≡ insert_key (slice_cmp nat_cmp) (insert_key (slice_cmp nat_cmp) ks b) a
swap ks a b = by (by_bytes b a) refl
  where
    by : (o : Ordering) → by_bytes b a ≡ o → put (put ks a) b ≡ put (put ks b) a
    by Less e = swap-less ks a b e
    by Equal e = ap (λ k. put (put ks k) b) (sym (exact_bytes b a e)) ∙ ap (λ k. put (put ks b) k) (exact_bytes b a e)
    by Greater e = sym (swap-less ks b a (turned b a Greater e))

-- a text behind others is put among them
pub in_order-behind : (texts : List (List ℕ)) (text : List ℕ) → in_order (texts ++ text ∷ []) ≡ insert_key (slice_cmp nat_cmp) (in_order texts) text
in_order-behind [] text = refl
in_order-behind (t ∷ texts) text = ap (λ l. put l t) (in_order-behind texts text) ∙ swap (in_order texts) text t

-- ---- texts in order ascend

all-put : (P : List ℕ → Type 0) (ks : List (List ℕ)) (k : List ℕ) → AllByRecursion P ks → P k → AllByRecursion P (put ks k)
all-put P [] k h one = (one, tt)
all-put P (x ∷ xs) k h one = by (by_bytes k x) (all-put P xs k h.1 one)
  where
    by : (o : Ordering) → AllByRecursion P (put xs k) → AllByRecursion P (match_ordering o (k ∷ x ∷ xs) (x ∷ xs) (x ∷ put xs k))
    by Less again = (one, h)
    by Equal again = h
    by Greater again = (h.0, again)

below-all : (k x : List ℕ) (xs : List (List ℕ)) → by_bytes k x ≡ Less → AllByRecursion (λ y. by_bytes x y ≡ Less) xs → AllByRecursion (λ y. by_bytes k y ≡ Less) xs
below-all k x [] lt h = tt
below-all k x (y ∷ ys) lt h = (nat_list_cmp_total.trans k x y lt h.0, below-all k x ys lt h.1)

put-ascends : (ks : List (List ℕ)) (k : List ℕ) → IsStrictlySortedBy (slice_cmp nat_cmp) ks → IsStrictlySortedBy (slice_cmp nat_cmp) (put ks k)
unfolding IsStrictlySortedBy
put-ascends [] k h = (tt, tt)
put-ascends (x ∷ xs) k h = by (by_bytes k x) refl (put-ascends xs k h.1)
  where
    by : (o : Ordering) → by_bytes k x ≡ o → IsStrictlySortedBy (slice_cmp nat_cmp) (put xs k) → IsStrictlySortedBy (slice_cmp nat_cmp) (match_ordering o (k ∷ x ∷ xs) (x ∷ xs) (x ∷ put xs k))
    by Less e again = ((e, below-all k x xs e h.0), h)
    by Equal e again = h
    by Greater e again = (all-put (λ y. by_bytes x y ≡ Less) xs k h.0 (turned k x Greater e), again)

pub in_order-ascends : (texts : List (List ℕ)) → IsStrictlySortedBy (slice_cmp nat_cmp) (in_order texts)
unfolding IsStrictlySortedBy
in_order-ascends [] = tt
in_order-ascends (t ∷ texts) = put-ascends (in_order texts) t (in_order-ascends texts)
