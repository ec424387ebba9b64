-- A request fits one row of the table at most: no two rows have one method and paths that agree with the same parts.
use Rattle.std.proofs.Common.{◌≡◌, ℕ, ◌≤◌, Bool, true, false, ◌&&◌, ◌||◌, not, cond, List, [], ◌∷◌, length, filter, refl, sym, arith}
use Rattle.std.specs.List.{list_all}
use Rattle.std.specs.Str.{bytes_eq}
use Rattle.std.proofs.lemmas.Slice.Eq.{bytes_eq-Decides}
use Rattle.std.proofs.lemmas.Bool.{true≢false}
use Rattle.std.proofs.Math.Bool.{and-false}
use Rattle.request_routes.specs.Routes.{Part, text, any_uid, any_id, Row, routes, agrees, is_part}
use Rattle.request_routes.specs.Laws.{fits}
use Rattle.request_routes.proofs.Literals.{both}

-- a text that is one is no other one
other_text : (a b c : List ℕ) → bytes_eq b c ≡ false → bytes_eq a b ≡ true → bytes_eq a c ≡ false
other_text a b c other is = rw ((bytes_eq-Decides a b).0 is) other

not_true : (a : Bool) → not a ≡ true → a ≡ false
not_true true h = absurd (true≢false (sym h))
not_true false h = refl

-- ---- paths that no request has both

abbrev differ : Part → Part → Bool
differ (text s) (text t) = not (bytes_eq s t)
differ _ _ = false

abbrev are_apart : List Part → List Part → Bool
are_apart [] [] = false
are_apart [] (q ∷ qs) = true
are_apart (p ∷ ps) [] = true
are_apart (p ∷ ps) (q ∷ qs) = differ p q || are_apart ps qs

other_part : (p q : Part) (part : List ℕ) → differ p q ≡ true → is_part p part ≡ true → is_part q part ≡ false
other_part (text s) (text t) part apart is = other_text part s t (not_true (bytes_eq s t) apart) is
other_part (text s) any_uid part apart is = absurd (true≢false (sym apart))
other_part (text s) any_id part apart is = absurd (true≢false (sym apart))
other_part any_uid q part apart is = absurd (true≢false (sym apart))
other_part any_id q part apart is = absurd (true≢false (sym apart))

other_path : (ps qs : List Part) (parts : List (List ℕ)) → are_apart ps qs ≡ true → agrees ps parts ≡ true
    → agrees qs parts ≡ false
other_path [] [] parts apart is = absurd (true≢false (sym apart))
other_path [] (q ∷ qs) [] apart is = refl
other_path [] (q ∷ qs) (x ∷ xs) apart is = absurd (true≢false (sym is))
other_path (p ∷ ps) [] [] apart is = absurd (true≢false (sym is))
other_path (p ∷ ps) [] (x ∷ xs) apart is = refl
other_path (p ∷ ps) (q ∷ qs) [] apart is = absurd (true≢false (sym is))
other_path (p ∷ ps) (q ∷ qs) (x ∷ xs) apart is =
    let h = both (is_part p x) (agrees ps xs) is in
    go (differ p q) refl apart h.0 (λ later. other_path ps qs xs later h.1)
  where
    go : (w : Bool) → differ p q ≡ w → (w || are_apart ps qs) ≡ true → is_part p x ≡ true
        → (are_apart ps qs ≡ true → agrees qs xs ≡ false) → (is_part q x && agrees qs xs) ≡ false
    go true here apart part later = rw (other_part p q x here part) refl
    go false here apart part later = rw (later apart) (and-false (is_part q x))

-- ---- rows that no request fits both

abbrev exclude : Row → Row → Bool
exclude r s = not (bytes_eq r.method s.method) || are_apart r.path s.path

abbrev are_exclusive : List Row → Bool
are_exclusive [] = true
are_exclusive (r ∷ rs) = list_all (exclude r) rs && are_exclusive rs

other_row : (method : List ℕ) (parts : List (List ℕ)) (r s : Row) → fits method parts r ≡ true → exclude r s ≡ true
    → fits method parts s ≡ false
other_row method parts r s fit apart =
    let h = both (bytes_eq method r.method) (agrees r.path parts) fit in
    go (bytes_eq r.method s.method) refl apart h.0 h.1
  where
    go : (w : Bool) → bytes_eq r.method s.method ≡ w → (not w || are_apart r.path s.path) ≡ true
        → bytes_eq method r.method ≡ true → agrees r.path parts ≡ true → fits method parts s ≡ false
    go true same apart is path = rw (other_path r.path s.path parts apart path) (and-false (bytes_eq method s.method))
    go false other apart is path = rw (other_text method r.method s.method other is) refl

no_other : (method : List ℕ) (parts : List (List ℕ)) (r : Row) (rs : List Row) → fits method parts r ≡ true
    → list_all (exclude r) rs ≡ true → filter (fits method parts) rs ≡ []
no_other method parts r [] fit apart = refl
no_other method parts r (s ∷ rs) fit apart =
    let h = both (exclude r s) (list_all (exclude r) rs) apart in
    rw (other_row method parts r s fit h.0) (no_other method parts r rs fit h.1)

at_most_one : (method : List ℕ) (parts : List (List ℕ)) (rs : List Row) → are_exclusive rs ≡ true
    → length (filter (fits method parts) rs) ≤ 1
at_most_one method parts [] apart = omega arith
at_most_one method parts (r ∷ rs) apart =
    let h = both (list_all (exclude r) rs) (are_exclusive rs) apart in
    go (fits method parts r) refl (λ fit. no_other method parts r rs fit h.0) (at_most_one method parts rs h.1)
  where
    go : (w : Bool) → fits method parts r ≡ w → (fits method parts r ≡ true → filter (fits method parts) rs ≡ [])
        → length (filter (fits method parts) rs) ≤ 1
        → length (cond w (r ∷ filter (fits method parts) rs) (filter (fits method parts) rs)) ≤ 1
    go true fit none later = rw (none fit) (omega arith)
    go false fit none later = later

pub one_route : (method : List ℕ) (parts : List (List ℕ)) → length (filter (fits method parts) routes) ≤ 1
one_route method parts = at_most_one method parts routes refl
