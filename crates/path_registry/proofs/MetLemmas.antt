-- Paths that are met before it is known to which registry they come.
use Rattle.std.proofs.Common.{◌≡◌, ℕ, ◌+◌, ◌≤◌, ◌||◌, Bool, true, false, List, [], ◌∷◌, ◌++◌, length, refl, sym, ap, subst, ◌∙◌, arith}
use Rattle.std.specs.Prelude.{bytes_eq}
use Rattle.serde_json.specs.Data.{Data}
use Rattle.doc_values.specs.Walk.{paths_of}
use Rattle.path_registry.specs.declared.met.MetPaths.{MetPaths}
use Rattle.path_registry.specs.Met.{AreMet, all_registered}
use Rattle.path_registry.specs.Paths.{has_path, with_path, registered}
use Rattle.path_registry.proofs.NameLemmas.{same_bytes}
use Rattle.path_registry.proofs.PathLemmas.{stays-registered, there-with, with_path-known, with_path-new}

has-registered : (q : List ℕ) (ys base : List (List ℕ)) → has_path q ys ≡ true → has_path q (registered ys base) ≡ true
has-registered q [] base h = cc
has-registered q (y ∷ ys) base h = by (bytes_eq q y) refl (has-registered q ys (with_path y base))
  where
    by : (b : Bool) → b ≡ bytes_eq q y → (has_path q ys ≡ true → has_path q (registered ys (with_path y base)) ≡ true) → has_path q (registered (y ∷ ys) base) ≡ true
    by true s later = stays-registered q ys (with_path y base) (ap (λ p. has_path q (with_path p base)) (sym (same_bytes q y (sym s))) ∙ there-with q base)
    by false s later = later (ap (λ b. b || has_path q ys) s ∙ h)

registered-join : (xs ys base : List (List ℕ)) → registered (xs ++ ys) base ≡ registered ys (registered xs base)
registered-join [] ys base = refl
registered-join (x ∷ xs) ys base = registered-join xs ys (with_path x base)

-- paths to which one came are registered as these paths, and then the one
registered-with : (x : List ℕ) (ys base : List (List ℕ)) → registered (with_path x ys) base ≡ with_path x (registered ys base)
registered-with x ys base = by (has_path x ys) refl
  where
    by : (b : Bool) → has_path x ys ≡ b → registered (with_path x ys) base ≡ with_path x (registered ys base)
    by true s = ap (λ v. registered v base) (with_path-known x ys s) ∙ sym (with_path-known x (registered ys base) (has-registered x ys base s))
    by false s = ap (λ v. registered v base) (with_path-new x ys s) ∙ registered-join ys (x ∷ []) base

registered-twice : (xs ys base : List (List ℕ)) → registered (registered xs ys) base ≡ registered xs (registered ys base)
registered-twice [] ys base = refl
registered-twice (x ∷ xs) ys base = registered-twice xs (with_path x ys) base ∙ ap (registered xs) (registered-with x ys base)

-- paths that documents have are registered behind others as these documents one after the other
pub met-behind : (ds : List Data) (ys base : List (List ℕ)) → registered (all_registered ds ys) base ≡ all_registered ds (registered ys base)
met-behind [] ys base = refl
met-behind (d ∷ ds) ys base = met-behind ds (registered (paths_of d) ys) base ∙ ap (all_registered ds) (registered-twice (paths_of d) ys base)

all-join : (ds es : List Data) (paths : List (List ℕ)) → all_registered (ds ++ es) paths ≡ all_registered es (all_registered ds paths)
all-join [] es paths = refl
all-join (d ∷ ds) es paths = all-join ds es (registered (paths_of d) paths)

-- one document more, whose paths are noted behind none
pub met-more : (ds : List Data) (d : Data) (walk none : List (List ℕ)) (old new : MetPaths) → AreMet ds old → none ≡ [] → walk ≡ paths_of d → old.spent ≡ false
    → (new.spent ≡ false → (none ++ none) ++ new.met.paths ≡ registered walk ((none ++ none) ++ old.met.paths))
    → (new.spent ≡ false → length none + length none + length new.met.paths ≤ 1000) → AreMet (ds ++ d ∷ []) new
met-more ds d walk none old new met empty walked few noted within = record {
  paths = λ e. subst (λ v. (v ++ v) ++ new.met.paths ≡ registered walk ((v ++ v) ++ old.met.paths)) empty (noted e)
      ∙ ap (registered walk) (met.paths few) ∙ ap (λ v. registered v (all_registered ds [])) walked ∙ sym (all-join ds (d ∷ []) []);
  few = λ e. omega (arith, within e);
}
