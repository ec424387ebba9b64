-- Places of paths in a registry.
use Rattle.std.proofs.Common.{◌≡◌, ℕ, suc, ◌≤◌, ◌||◌, Bool, true, false, cond, List, [], ◌∷◌, ◌++◌, length, Option, None, Some, refl, sym, ap, ◌∙◌, arith, length-append}
use Rattle.std.specs.Prelude.{bytes_eq}
use Rattle.std.specs.Option.{is_some}
use Rattle.std.proofs.lemmas.Bool.{cond-true, cond-false, cond_both}
use Rattle.path_registry.specs.Names.{Names, number_at}
use Rattle.path_registry.specs.Paths.{has_path, with_path, registered, last_place, place_or, IsRegister}
use Rattle.path_registry.proofs.NameLemmas.{bytes_same, bytes_eq-turned}

-- one more path
pub last_place-append : (q new : List ℕ) (paths : List (List ℕ)) → last_place q (paths ++ new ∷ []) ≡ cond (bytes_eq new q) (Some (length paths)) (last_place q paths)
last_place-append q new [] = refl
last_place-append q new (p ∷ paths) = ap (λ v. place_or v (cond (bytes_eq p q) (Some 0) None)) (last_place-append q new paths)
    ∙ cond_both (bytes_eq new q) (Some (length paths)) (last_place q paths) (λ v. place_or v (cond (bytes_eq p q) (Some 0) None) ≡ cond (bytes_eq new q) (Some (suc (length paths))) (last_place q (p ∷ paths)))
    (λ s. sym (cond-true _ _ _ s)) (λ s. sym (cond-false _ _ _ s))

or-true : (b : Bool) → (b || true) ≡ true
or-true true = refl
or-true false = refl

-- a path has a place where it is there
pub place-has : (q : List ℕ) (paths : List (List ℕ)) → is_some (last_place q paths) ≡ has_path q paths
place-has q [] = refl
place-has q (p ∷ paths) = by (last_place q paths) refl (bytes_eq p q) refl (place-has q paths)
  where
    by : (o : Option ℕ) → o ≡ last_place q paths → (b : Bool) → b ≡ bytes_eq p q → is_some (last_place q paths) ≡ has_path q paths → is_some (last_place q (p ∷ paths)) ≡ has_path q (p ∷ paths)
    by (Some i) so b sb again = ap (λ v. is_some {T = ℕ} (place_or v (cond (bytes_eq p q) (Some 0) None))) (sym so)
        ∙ sym (ap (λ v. bytes_eq q p || v) (sym again ∙ ap is_some (sym so)) ∙ or-true (bytes_eq q p))
    by None so true sb again = ap (λ v. is_some {T = ℕ} (place_or v (cond (bytes_eq p q) (Some 0) None))) (sym so) ∙ ap (λ b. is_some {T = ℕ} (cond b (Some 0) None)) (sym sb)
        ∙ sym (ap (λ b. b || has_path q paths) (bytes_eq-turned q p ∙ sym sb))
    by None so false sb again = ap (λ v. is_some {T = ℕ} (place_or v (cond (bytes_eq p q) (Some 0) None))) (sym so) ∙ ap (λ b. is_some {T = ℕ} (cond b (Some 0) None)) (sym sb)
        ∙ sym (ap (λ b. b || has_path q paths) (bytes_eq-turned q p ∙ sym sb) ∙ sym again ∙ ap is_some (sym so))

-- one more path, whose name gets its place
pub register-push : (path : List ℕ) (n : ℕ) (paths more : List (List ℕ)) (old new : Names) → IsRegister old paths → n ≡ length paths → more ≡ paths ++ path ∷ []
    → ((q : List ℕ) → number_at q new ≡ cond (bytes_eq path q) (Some n) (number_at q old)) → IsRegister new more
register-push path n paths more old new h len is given = record {
  each = λ q. given q ∙ ap (λ v. cond (bytes_eq path q) (Some n) v) (h.each q) ∙ ap (λ k. cond (bytes_eq path q) (Some k) (last_place q paths)) len
      ∙ sym (last_place-append q path paths) ∙ ap (last_place q) (sym is);
}

-- looking a path up in two lists, one behind the other
pub has-append : (q : List ℕ) (xs ys : List (List ℕ)) → has_path q (xs ++ ys) ≡ (has_path q xs || has_path q ys)
has-append q [] ys = refl
has-append q (x ∷ xs) ys = ap (λ b. bytes_eq q x || b) (has-append q xs ys) ∙ turned (bytes_eq q x) (has_path q xs) (has_path q ys)
  where
    turned : (a b c : Bool) → (a || (b || c)) ≡ ((a || b) || c)
    turned true b c = refl
    turned false b c = refl

pub has-places : (q : List ℕ) (xs ys : List (List ℕ)) → has_path q (xs ++ ys) ≡ (is_some (last_place q xs) || is_some (last_place q ys))
has-places q xs ys = has-append q xs ys ∙ ap (λ b. b || has_path q ys) (sym (place-has q xs)) ∙ ap (λ b. is_some (last_place q xs) || b) (sym (place-has q ys))

pub with_path-known : (path : List ℕ) (paths : List (List ℕ)) → has_path path paths ≡ true → with_path path paths ≡ paths
with_path-known path paths h = cond-true _ _ _ h

pub with_path-new : (path : List ℕ) (paths : List (List ℕ)) → has_path path paths ≡ false → with_path path paths ≡ paths ++ path ∷ []
with_path-new path paths h = cond-false _ _ _ h

-- paths are never taken out
pub with_path-grows : (path : List ℕ) (paths : List (List ℕ)) → length paths ≤ length (with_path path paths)
with_path-grows path paths = cond_both (has_path path paths) paths (paths ++ path ∷ []) (λ v. length paths ≤ length v) (λ _. omega arith) (λ _. omega (arith, length-append paths (path ∷ [])))

pub registered-grows : (new paths : List (List ℕ)) → length paths ≤ length (registered new paths)
registered-grows [] paths = omega arith
registered-grows (p ∷ new) paths = let one = with_path-grows p paths in let rest = registered-grows new (with_path p paths) in omega arith

-- the paths after one more are within those in the end
pub within-path : (path : List ℕ) (left rest all now start : List (List ℕ)) → left ≡ path ∷ rest → registered left now ≡ registered all start → length (with_path path now) ≤ length (registered all start)
within-path path left rest all now start is same =
    let grows = registered-grows rest (with_path path now) in
    let e : length (registered (path ∷ rest) now) ≡ length (registered all start) = ap length (ap (λ v. registered v now) (sym is) ∙ same) in
    omega arith

-- paths that are there stay there
stays-with : (q path : List ℕ) (paths : List (List ℕ)) → has_path q paths ≡ true → has_path q (with_path path paths) ≡ true
stays-with q path paths h = cond_both (has_path path paths) paths (paths ++ path ∷ []) (λ v. has_path q v ≡ true) (λ _. h) (λ _. has-append q paths (path ∷ []) ∙ ap (λ b. b || has_path q (path ∷ [])) h)

pub stays-registered : (q : List ℕ) (new paths : List (List ℕ)) → has_path q paths ≡ true → has_path q (registered new paths) ≡ true
stays-registered q [] paths h = h
stays-registered q (p ∷ new) paths h = stays-registered q new (with_path p paths) (stays-with q p paths h)

-- a path is there after it came
pub there-with : (path : List ℕ) (paths : List (List ℕ)) → has_path path (with_path path paths) ≡ true
there-with path paths = cond_both (has_path path paths) paths (paths ++ path ∷ []) (λ v. has_path path v ≡ true) (λ s. s)
    (λ _. has-append path paths (path ∷ []) ∙ ap (λ b. has_path path paths || (b || false)) (bytes_same path path refl) ∙ or-true (has_path path paths))
