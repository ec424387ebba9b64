-- A path whose pattern stands in no row of the table of paths is the path of no route.
use Rattle.std.proofs.Common.{◌≡◌, ℕ, Bool, true, false, ◌&&◌, cond, List, [], ◌∷◌, map, filter, Option, Some, None, Ok, Err, codes, refl, sym, ap, ◌∙◌}
use Rattle.std.specs.List.{list_all}
use Rattle.std.proofs.lemmas.Slice.Eq.{bytes_eq-Decides}
use Rattle.std.proofs.lemmas.Bool.{true≢false}
use Rattle.request_refusals.specs.declared.refusal.Refusal.TheVariants as refusal
use Rattle.search_base.specs.Trying.{◌>>=◌}
use Rattle.request_routes.specs.declared.table.Path.{Path}
use Rattle.request_routes.specs.Patterns.{joined, mark, marked_parts, path_with}
use Rattle.request_routes.specs.Routes.{Part, text, any_uid, any_id, Row, routes, agrees, is_part, has_path, uid_in, id_in, with_method, route_of}
use Rattle.request_routes.proofs.Literals.{both}

-- ---- the parts of a path and of its route

-- parts that agree with a route's, one by one
abbrev Agree : List Part → List (List ℕ) → Type 0
Agree [] [] = Unit {0}
Agree [] (x ∷ xs) = ⊥
Agree (p ∷ ps) [] = ⊥
Agree (p ∷ ps) (x ∷ xs) = (is_part p x ≡ true) × Agree ps xs

agree : (ps : List Part) (parts : List (List ℕ)) → agrees ps parts ≡ true → Agree ps parts
agree [] [] is = tt
agree [] (x ∷ xs) is = true≢false (sym is)
agree (p ∷ ps) [] is = true≢false (sym is)
agree (p ∷ ps) (x ∷ xs) is = let h = both (is_part p x) (agrees ps xs) is in (h.0, agree ps xs h.1)

-- a part that a route's part stands for
abbrev sample : Part → List ℕ
sample (text t) = t
sample any_uid = codes "_"
sample any_id = codes "_"

abbrev is_text : Part → Bool
is_text (text t) = true
is_text any_uid = false
is_text any_id = false

same_text : (p : Part) (part : List ℕ) → is_text p ≡ true → is_part p part ≡ true → part ≡ sample p
same_text (text t) part here is = (bytes_eq-Decides part t).0 is
same_text any_uid part here is = absurd (true≢false (sym here))
same_text any_id part here is = absurd (true≢false (sym here))

same_mark : (p : Part) (part : List ℕ) → is_part p part ≡ true → mark part ≡ mark (sample p)
same_mark (text t) part is = ap mark ((bytes_eq-Decides part t).0 is)
same_mark any_uid [] is = absurd (true≢false (sym is))
same_mark any_uid (b ∷ bytes) is = refl
same_mark any_id [] is = absurd (true≢false (sym is))
same_mark any_id (b ∷ bytes) is = refl

-- ---- the pattern of a path and of its route

-- the parts that a pattern keeps are texts
abbrev keeps_texts : List Part → Bool
keeps_texts (a ∷ b ∷ []) = is_text a && is_text b
keeps_texts (a ∷ b ∷ u ∷ []) = is_text a && is_text b
keeps_texts (a ∷ b ∷ u ∷ n ∷ []) = is_text a && (is_text b && is_text n)
keeps_texts (a ∷ b ∷ u ∷ n ∷ i ∷ []) = is_text a && (is_text b && is_text n)
keeps_texts _ = true

same_marks : (ps : List Part) (parts : List (List ℕ)) → keeps_texts ps ≡ true → Agree ps parts
    → marked_parts parts ≡ marked_parts (map sample ps)
same_marks [] [] kept all = refl
same_marks [] (x ∷ xs) kept all = absurd all
same_marks (a ∷ ps) [] kept all = absurd all
same_marks (a ∷ []) (x ∷ []) kept all = refl
same_marks (a ∷ []) (x ∷ y ∷ xs) kept all = absurd all.1
same_marks (a ∷ b ∷ ps) (x ∷ []) kept all = absurd all.1
same_marks (a ∷ b ∷ []) (x ∷ y ∷ []) kept all =
    let h = both (is_text a) (is_text b) kept in rw (same_text a x h.0 all.0, same_text b y h.1 all.1.0) refl
same_marks (a ∷ b ∷ []) (x ∷ y ∷ z ∷ xs) kept all = absurd all.1.1
same_marks (a ∷ b ∷ u ∷ ps) (x ∷ y ∷ []) kept all = absurd all.1.1
same_marks (a ∷ b ∷ u ∷ []) (x ∷ y ∷ z ∷ []) kept all =
    let h = both (is_text a) (is_text b) kept in
    rw (same_text a x h.0 all.0, same_text b y h.1 all.1.0, same_mark u z all.1.1.0) refl
same_marks (a ∷ b ∷ u ∷ []) (x ∷ y ∷ z ∷ v ∷ xs) kept all = absurd all.1.1.1
same_marks (a ∷ b ∷ u ∷ n ∷ ps) (x ∷ y ∷ z ∷ []) kept all = absurd all.1.1.1
same_marks (a ∷ b ∷ u ∷ n ∷ []) (x ∷ y ∷ z ∷ v ∷ []) kept all =
    let h = both (is_text a) (is_text b && is_text n) kept in
    let k = both (is_text b) (is_text n) h.1 in
    rw (same_text a x h.0 all.0, same_text b y k.0 all.1.0, same_mark u z all.1.1.0, same_text n v k.1 all.1.1.1.0) refl
same_marks (a ∷ b ∷ u ∷ n ∷ []) (x ∷ y ∷ z ∷ v ∷ w ∷ xs) kept all = absurd all.1.1.1.1
same_marks (a ∷ b ∷ u ∷ n ∷ i ∷ ps) (x ∷ y ∷ z ∷ v ∷ []) kept all = absurd all.1.1.1.1
same_marks (a ∷ b ∷ u ∷ n ∷ i ∷ []) (x ∷ y ∷ z ∷ v ∷ w ∷ []) kept all =
    let h = both (is_text a) (is_text b && is_text n) kept in
    let k = both (is_text b) (is_text n) h.1 in
    rw (same_text a x h.0 all.0, same_text b y k.0 all.1.0, same_mark u z all.1.1.0, same_text n v k.1 all.1.1.1.0)
    (rw (same_mark i w all.1.1.1.1.0) refl)
same_marks (a ∷ b ∷ u ∷ n ∷ i ∷ []) (x ∷ y ∷ z ∷ v ∷ w ∷ j ∷ xs) kept all = absurd all.1.1.1.1.1
same_marks (a ∷ b ∷ u ∷ n ∷ i ∷ p ∷ ps) (x ∷ y ∷ z ∷ v ∷ w ∷ []) kept all = absurd all.1.1.1.1.1
same_marks (a ∷ b ∷ u ∷ n ∷ i ∷ p ∷ ps) (x ∷ y ∷ z ∷ v ∷ w ∷ j ∷ xs) kept all = refl

-- ---- no route

abbrev is_found : Option Path → Bool
is_found None = false
is_found (Some path) = true

-- the path of the table that has the pattern of these parts
abbrev path_at : List (List ℕ) → Option Path
path_at parts = path_with (joined (marked_parts parts))

-- the pattern of a row's path stands in the table of paths
abbrev has_pattern : Row → Bool
has_pattern r = keeps_texts r.path && is_found (path_at (map sample r.path))

none_agrees : (parts : List (List ℕ)) (rs : List Row) → path_at parts ≡ None → list_all has_pattern rs ≡ true
    → filter (has_path parts) rs ≡ []
none_agrees parts [] none each = refl
none_agrees parts (r ∷ rs) none each =
    let h = both (has_pattern r) (list_all has_pattern rs) each in
    let k = both (keeps_texts r.path) (is_found (path_at (map sample r.path))) h.0 in
    go (agrees r.path parts) refl k.0 k.1 (none_agrees parts rs none h.1)
  where
    go : (w : Bool) → agrees r.path parts ≡ w → keeps_texts r.path ≡ true
        → is_found (path_at (map sample r.path)) ≡ true → filter (has_path parts) rs ≡ []
        → cond w (r ∷ filter (has_path parts) rs) (filter (has_path parts) rs) ≡ []
    go true is kept found later =
        let same = same_marks r.path parts kept (agree r.path parts is) in
        absurd (true≢false (sym found ∙ ap (λ v. is_found (path_with (joined v))) (sym same) ∙ ap is_found none))
    go false is kept found later = later

pub of_no_pattern : (method : List ℕ) (parts : List (List ℕ)) → path_with (joined (marked_parts parts)) ≡ None
    → route_of method parts ≡ Err refusal.NoRoute
of_no_pattern method parts none =
    ap (λ rs. with_method method rs >>= λ r. Ok (record {
      route = r.route;
      uid = uid_in r.path parts;
      id = id_in r.path parts;
    })) (none_agrees parts routes none refl)
