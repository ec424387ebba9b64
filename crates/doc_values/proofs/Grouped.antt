-- What a map of values has once values are put under a path.
use Rattle.std.proofs.Common.{◌≡◌, ◌∙◌, ℕ, Bool, true, false, cond, List, [], ◌∷◌, ◌++◌, length, Option, None, Some, Vec, bytes_eq, unwrap_or, refl, sym, ap, subst, arith, append-nil}
use Rattle.std.specs.BTreeMap.{BTreeMap, get, UpdatesBy}
use Rattle.std.specs.Cmp.Lexicographic.{slice_cmp}
use Rattle.std.specs.Option.{option_map_or}
use Rattle.std.specs.Ordering.{nat_cmp, is_eq}
use Rattle.std.proofs.lemmas.Map.Text.{is_eq-slice_cmp}
use Rattle.std.proofs.lemmas.Slice.Eq.{bytes_eq-Decides}
use Rattle.doc_values.specs.declared.rows.Flat.{Flat}
use Rattle.doc_values.specs.Grouped.{values_at}

apart : (path other : List ℕ) → (path ≡ other → ⊥) → is_eq (slice_cmp nat_cmp path other) ≡ false
apart path other ne = is_eq-slice_cmp path other ∙ go (bytes_eq path other) refl
  where
    go : (b : Bool) → bytes_eq path other ≡ b → b ≡ false
    go true e = absurd (ne ((bytes_eq-Decides path other).0 e))
    go false e = refl

-- the list of a path, where an empty one stands for none
pub held : {A : Type 0} (old : BTreeMap (List ℕ) (Vec Flat A)) (path : List ℕ) (empty list : Vec Flat A) → list ≡ unwrap_or (get (slice_cmp nat_cmp) old path) empty → empty.items ≡ []
    → list.items ≡ values_at old path
held {A} old path empty list is none = ap (λ v. v.items) is ∙ go (get (slice_cmp nat_cmp) old path)
  where
    go : (found : Option (Vec Flat A)) → (unwrap_or found empty).items ≡ option_map_or (λ (v : Vec Flat A). v.items) found []
    go None = none
    go (Some v) = refl

pub behind-none : (xs ys : List Flat) → length xs ≡ 0 → ys ≡ xs ++ ys
behind-none [] ys none = refl
behind-none (x ∷ xs) ys none = absurd (omega arith)

-- the values are put behind those of their path, and the other paths keep theirs
pub put-behind : {A : Type 0} (old new : BTreeMap (List ℕ) (Vec Flat A)) (path other : List ℕ) (list : Vec Flat A) (own : List Flat)
    → UpdatesBy (slice_cmp nat_cmp) (slice_cmp nat_cmp path) old new (Some list) → list.items ≡ values_at old path ++ own
    → values_at new other ≡ values_at old other ++ cond (bytes_eq other path) own []
put-behind {A} old new path other list own puts list_is = go (bytes_eq other path) refl
  where
    items : Option (Vec Flat A) → List Flat
    items found = option_map_or (λ (v : Vec Flat A). v.items) found []

    go : (b : Bool) → bytes_eq other path ≡ b → values_at new other ≡ values_at old other ++ cond b own []
    go true e = subst (λ (q : List ℕ). values_at new q ≡ values_at old q ++ own) (sym ((bytes_eq-Decides other path).0 e)) (ap items puts.1 ∙ list_is)
    go false e =
        ap items (puts.2 other (apart path other (λ same. let yes : bytes_eq other path ≡ true = (bytes_eq-Decides other path).1 (sym same) in cc)))
        ∙ sym (append-nil (values_at old other))
