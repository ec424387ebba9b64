-- Sorted maps.
use Rattle.std.proofs.Common.{◌≡◌, List, [], ◌∷◌, None, Some, refl, sym, ap, ◌∙◌}
use Rattle.std.specs.declared.cmp.Ordering.{Ordering}
use Rattle.std.specs.declared.cmp.Ordering.TheVariants.{Less, Equal, Greater}
use Rattle.std.specs.Cmp.{IsTotalOrder}
use Rattle.std.specs.Ordering.{is_eq, match_ordering}
use Rattle.std.specs.Map.{lookup, set_value, keys_of}
use Rattle.std.specs.BTreeMap.{is_at, insert_entry}
use Rattle.std.specs.List.{AllByRecursion}
use Rattle.std.specs.List.Sorted.{IsStrictlySortedBy}
use Rattle.std.proofs.lemmas.Cmp.{tied_itself}
use Rattle.std.proofs.lemmas.Bool.{cond-true, cond-false}
use Rattle.std.proofs.lemmas.Map.Keys.{sorted_head, sorted_tail}
use Rattle.std.proofs.lemmas.Map.Steps.{set_value_same}

module _ {K X : Type 0} (cmp : K → K → Ordering) (o : IsTotalOrder cmp) where
  -- k is below each key
  abbrev IsBelow : K → List (K × X) → Type 0
  IsBelow k es = AllByRecursion (λ e. cmp k e.0 ≡ Less) es

  below_rest : (e : K × X) (es : List (K × X)) → IsStrictlySortedBy cmp (keys_of (e ∷ es)) → IsBelow e.0 es
  below_rest e es h = from es (sorted_head cmp e.0 (keys_of es) h)
    where
      from : (fs : List (K × X)) → AllByRecursion (λ y. cmp e.0 y ≡ Less) (keys_of fs) → AllByRecursion (λ f. cmp e.0 f.0 ≡ Less) fs
      from [] h = tt
      from (f ∷ fs) h = (h.0, from fs h.1)

  below_less : (k l : K) (es : List (K × X)) → cmp k l ≡ Less → IsBelow l es → IsBelow k es
  below_less k l [] t h = tt
  below_less k l (e ∷ es) t h = (o.trans k l e.0 t h.0, below_less k l es t h.1)

  lookup_below : (k : K) (es : List (K × X)) → IsBelow k es → lookup (is_at (cmp k)) es ≡ None
  lookup_below k [] h = refl
  lookup_below k (e ∷ es) h = cond-false _ _ _ (ap is_eq h.0) ∙ lookup_below k es h.1

  -- a value that is written where its key stands is inserted there
  pub set_value-insert : (k : K) (old new : X) (es : List (K × X)) → IsStrictlySortedBy cmp (keys_of es) → lookup (is_at (cmp k)) es ≡ Some old
      → set_value (is_at (cmp k)) es new ≡ insert_entry cmp es k new
  set_value-insert k old new [] up at = absurd (cc)
  set_value-insert k old new (e ∷ es) up at = by (cmp k e.0) refl (set_value-insert k old new es (sorted_tail cmp e.0 (keys_of es) up))
    where
      by : (a : Ordering) → a ≡ cmp k e.0 → (lookup (is_at (cmp k)) es ≡ Some old → set_value (is_at (cmp k)) es new ≡ insert_entry cmp es k new)
          → set_value (is_at (cmp k)) (e ∷ es) new ≡ insert_entry cmp (e ∷ es) k new
      by Less is again =
          let none : lookup (is_at (cmp k)) (e ∷ es) ≡ None = lookup_below k (e ∷ es) (sym is, below_less k e.0 es (sym is) (below_rest e es up)) in
          absurd (cc)
      by Equal is again = cond-true _ _ _ (ap is_eq (sym is)) ∙ ap (λ v. match_ordering v ((k, new) ∷ e ∷ es) ((e.0, new) ∷ es) (e ∷ insert_entry cmp es k new)) is
      by Greater is again =
          cond-false _ _ _ (ap is_eq (sym is)) ∙ ap (λ v. e ∷ v) (again (sym (cond-false _ _ _ (ap is_eq (sym is))) ∙ at)) ∙ ap (λ v. match_ordering v ((k, new) ∷ e ∷ es) ((e.0, new) ∷ es) (e ∷ insert_entry cmp es k new)) is

  -- a value that is inserted where it stands changes nothing
  pub insert_same : (k : K) (v : X) (es : List (K × X)) → IsStrictlySortedBy cmp (keys_of es) → lookup (is_at (cmp k)) es ≡ Some v → insert_entry cmp es k v ≡ es
  insert_same k v es up at = sym (set_value-insert k v v es up at) ∙ set_value_same (is_at (cmp k)) es v at

  -- the last value that is inserted stands there
  pub lookup_inserted : (k : K) (v : X) (es : List (K × X)) → lookup (is_at (cmp k)) (insert_entry cmp es k v) ≡ Some v
  lookup_inserted k v [] = cond-true _ _ _ (ap is_eq (tied_itself o k))
  lookup_inserted k v (e ∷ es) = by (cmp k e.0) refl (lookup_inserted k v es)
    where
      by : (a : Ordering) → a ≡ cmp k e.0 → lookup (is_at (cmp k)) (insert_entry cmp es k v) ≡ Some v
          → lookup (is_at (cmp k)) (match_ordering a ((k, v) ∷ e ∷ es) ((e.0, v) ∷ es) (e ∷ insert_entry cmp es k v)) ≡ Some v
      by Less is rest = cond-true _ _ _ (ap is_eq (tied_itself o k))
      by Equal is rest = cond-true _ _ _ (ap is_eq (sym is))
      by Greater is rest = cond-false _ _ _ (ap is_eq (sym is)) ∙ rest

  -- of two values that are inserted at one place the last stays
  pub insert_again : (k : K) (v w : X) (es : List (K × X)) → insert_entry cmp (insert_entry cmp es k v) k w ≡ insert_entry cmp es k w
  insert_again k v w [] = ap (λ a. match_ordering a ((k, w) ∷ (k, v) ∷ []) ((k, w) ∷ []) ((k, v) ∷ (k, w) ∷ [])) (tied_itself o k)
  insert_again k v w (e ∷ es) = by (cmp k e.0) refl (insert_again k v w es)
    where
      by : (a : Ordering) → a ≡ cmp k e.0 → insert_entry cmp (insert_entry cmp es k v) k w ≡ insert_entry cmp es k w
          → insert_entry cmp (match_ordering a ((k, v) ∷ e ∷ es) ((e.0, v) ∷ es) (e ∷ insert_entry cmp es k v)) k w
          ≡ match_ordering a ((k, w) ∷ e ∷ es) ((e.0, w) ∷ es) (e ∷ insert_entry cmp es k w)
      by Less is rest = ap (λ a. match_ordering a ((k, w) ∷ (k, v) ∷ e ∷ es) ((k, w) ∷ e ∷ es) ((k, v) ∷ insert_entry cmp (e ∷ es) k w)) (tied_itself o k)
      by Equal is rest = ap (λ a. match_ordering a ((k, w) ∷ (e.0, v) ∷ es) ((e.0, w) ∷ es) ((e.0, v) ∷ insert_entry cmp es k w)) (sym is)
      by Greater is rest =
          ap (λ a. match_ordering a ((k, w) ∷ e ∷ insert_entry cmp es k v) ((e.0, w) ∷ insert_entry cmp es k v) (e ∷ insert_entry cmp (insert_entry cmp es k v) k w)) (sym is)
          ∙ ap (λ rest. e ∷ rest) rest
