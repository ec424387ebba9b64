-- What the pattern of a request's path says of its parts: the path of the table that has this pattern.
use Rattle.std.proofs.Common.{◌≡◌, ◌≢◌, ℕ, ◌<◌, inl, inr, Bool, true, false, cond, List, [], ◌∷◌, ◌++◌, length, map, get_or, Option, Some, None, option_map, Err, codes, refl, sym, ap, ◌∙◌, subst, arith}
use Rattle.std.specs.Prelude.{find}
use Rattle.std.specs.Str.{bytes_eq}
use Rattle.std.proofs.lemmas.Slice.Eq.{bytes_eq-Decides}
use Rattle.std.proofs.lemmas.Bool.{true≢false, cases_eq}
use Rattle.form_urlencoded.specs.Form.{split, onto_first}
use Rattle.matchit.specs.Rows.{RowsOf}
use Rattle.matchit.specs.Order.{lookup}
use Rattle.matchit.specs.Router.{RouteOf}
use Rattle.request_routes.specs.declared.table.Path.{Path}
use Rattle.request_routes.specs.declared.table.Path.TheVariants.{Health, Indexes, Index, Documents, Document, Settings, Search, MultiSearch, FacetSearch, Task}
use Rattle.request_refusals.specs.declared.refusal.Refusal.TheVariants as refusal
use Rattle.request_routes.specs.Patterns.{Names, joined, mark, marked_parts, parts_with, path_with, paths, pattern, pattern_parts, FindsPaths}
use Rattle.request_routes.specs.Routes.{parts_of, route_of}
use Rattle.request_routes.proofs.Splits.{split_same, split_other}
use Rattle.request_routes.proofs.Literals.{AreLiteral, first_is_lookup}
use Rattle.request_routes.proofs.Paths.{of_no_pattern}

-- ---- a router that has the patterns

-- texts are equal in either order
turned : (a b : List ℕ) → bytes_eq a b ≡ bytes_eq b a
turned a b = go (bytes_eq a b) (bytes_eq b a) refl refl
  where
    go : (v w : Bool) → bytes_eq a b ≡ v → bytes_eq b a ≡ w → v ≡ w
    go true true is other = refl
    go false false is other = refl
    go true false is other = absurd (true≢false (sym ((bytes_eq-Decides b a).1 (sym ((bytes_eq-Decides a b).0 is))) ∙ other))
    go false true is other = absurd (true≢false (sym ((bytes_eq-Decides a b).1 (sym ((bytes_eq-Decides b a).0 other))) ∙ is))

-- each row stands under the pattern of its path
abbrev AreUnderPatterns : RowsOf (RouteOf Path) → Type 0
AreUnderPatterns [] = Unit {0}
AreUnderPatterns ((tokens, row) ∷ rest) = (tokens ≡ pattern row.value) × AreUnderPatterns rest

by_value : (text : List ℕ) (rows : RowsOf (RouteOf Path)) → AreUnderPatterns rows
    → option_map (λ row. row.value) (lookup text rows) ≡ find (λ path. bytes_eq text (pattern path)) (map (λ row. row.1.value) rows)
by_value text [] all = refl
by_value text ((tokens, row) ∷ rest) all =
    subst (λ v. option_map (λ row. row.value) (cond v (Some row) (lookup text rest)) ≡ find (λ path. bytes_eq text (pattern path)) (row.value ∷ map (λ row. row.1.value) rest))
    (turned text (pattern row.value) ∙ ap (λ v. bytes_eq v text) (sym all.0)) (go (bytes_eq text (pattern row.value)) (by_value text rest all.1))
  where
    go : (w : Bool) → option_map (λ row. row.value) (lookup text rest) ≡ find (λ path. bytes_eq text (pattern path)) (map (λ row. row.1.value) rest)
        → option_map (λ row. row.value) (cond w (Some row) (lookup text rest))
        ≡ cond w (Some row.value) (find (λ path. bytes_eq text (pattern path)) (map (λ row. row.1.value) rest))
    go true later = refl
    go false later = later

pub finds_paths : (rows : RowsOf (RouteOf Path)) → AreLiteral rows → AreUnderPatterns rows → map (λ row. row.1.value) rows ≡ paths → FindsPaths rows
finds_paths rows literal under same text =
    ap (λ v. option_map (λ row. row.value) v) (first_is_lookup text rows literal) ∙ by_value text rows under
    ∙ ap (λ v. find (λ path. bytes_eq text (pattern path)) v) same

-- ---- the parts of a joined text

abbrev HasNoSlash : List ℕ → Type 0
HasNoSlash [] = Unit {0}
HasNoSlash (b ∷ bytes) = (b ≢ 47) × HasNoSlash bytes

abbrev pub HaveNoSlash : List (List ℕ) → Type 0
HaveNoSlash [] = Unit {0}
HaveNoSlash (part ∷ parts) = HasNoSlash part × HaveNoSlash parts

onto : (b : ℕ) (parts : List (List ℕ)) → b ≢ 47 → HaveNoSlash parts → HaveNoSlash (onto_first b parts)
onto b [] other all = ((other, tt), tt)
onto b (part ∷ parts) other all = ((other, all.0), all.1)

pub pieces : (bytes : List ℕ) → HaveNoSlash (split 47 bytes)
unfolding split
pieces [] = (tt, tt)
pieces (b ∷ bytes) =
    elim (cases_eq b 47) [
      | inl same ↦ subst (λ v. HaveNoSlash (split 47 (v ∷ bytes))) (sym same) (subst HaveNoSlash (sym (split_same 47 bytes)) (tt, pieces bytes))
      | inr other ↦ subst HaveNoSlash (sym (split_other 47 b bytes other)) (onto b (split 47 bytes) other (pieces bytes))
    ]

one_piece : (part : List ℕ) → HasNoSlash part → split 47 part ≡ part ∷ []
unfolding split
one_piece [] none = refl
one_piece (b ∷ bytes) none = split_other 47 b bytes none.0 ∙ ap (onto_first b) (one_piece bytes none.1)

first_piece : (part rest : List ℕ) → HasNoSlash part → split 47 (part ++ 47 ∷ rest) ≡ part ∷ split 47 rest
first_piece [] rest none = split_same 47 rest
first_piece (b ∷ bytes) rest none = split_other 47 b (bytes ++ 47 ∷ rest) none.0 ∙ ap (onto_first b) (first_piece bytes rest none.1)

parts_again : (part : List ℕ) (parts : List (List ℕ)) → HaveNoSlash (part ∷ parts) → split 47 (joined (part ∷ parts)) ≡ part ∷ parts
parts_again part [] none = one_piece part none.0
parts_again part (next ∷ parts) none = first_piece part (joined (next ∷ parts)) none.0 ∙ ap (λ v. part ∷ v) (parts_again next parts none.1)

-- ---- the path that has the pattern

mark_has_none : (part : List ℕ) → HasNoSlash (mark part)
mark_has_none [] = tt
mark_has_none (b ∷ bytes) = (λ e. absurd (omega (arith, e)), tt)

again : (parts : List (List ℕ)) → HaveNoSlash parts → split 47 (joined (marked_parts parts)) ≡ marked_parts parts
again [] none = parts_again [] [] (tt, tt)
again (a ∷ []) none = parts_again [] [] (tt, tt)
again (a ∷ b ∷ []) none = parts_again a (b ∷ []) none
again (a ∷ b ∷ u ∷ []) none = parts_again a (b ∷ mark u ∷ []) (none.0, (none.1.0, (mark_has_none u, tt)))
again (a ∷ b ∷ u ∷ n ∷ []) none = parts_again a (b ∷ mark u ∷ n ∷ []) (none.0, (none.1.0, (mark_has_none u, (none.1.1.1.0, tt))))
again (a ∷ b ∷ u ∷ n ∷ i ∷ []) none =
    parts_again a (b ∷ mark u ∷ n ∷ mark i ∷ []) (none.0, (none.1.0, (mark_has_none u, (none.1.1.1.0, (mark_has_none i, tt)))))
again (a ∷ b ∷ u ∷ n ∷ i ∷ j ∷ more) none = parts_again [] [] (tt, tt)

pattern_again : (path : Path) → split 47 (pattern path) ≡ pattern_parts path
unfolding split
pattern_again Health = refl
pattern_again Indexes = refl
pattern_again Index = refl
pattern_again Documents = refl
pattern_again Document = refl
pattern_again Settings = refl
pattern_again Search = refl
pattern_again MultiSearch = refl
pattern_again FacetSearch = refl
pattern_again Task = refl

-- parts with this uid and this id
abbrev renamed : List ℕ → List ℕ → List (List ℕ) → List (List ℕ)
renamed uid id (a ∷ b ∷ u ∷ []) = a ∷ b ∷ uid ∷ []
renamed uid id (a ∷ b ∷ u ∷ n ∷ []) = a ∷ b ∷ uid ∷ n ∷ []
renamed uid id (a ∷ b ∷ u ∷ n ∷ i ∷ []) = a ∷ b ∷ uid ∷ n ∷ id ∷ []
renamed uid id parts = parts

abbrev part : List (List ℕ) → ℕ → List ℕ
part parts place = get_or parts place []

-- what a pattern says of the parts that it stands for
abbrev SaysParts : List (List ℕ) → List (List ℕ) → Type 0
SaysParts parts marked = (parts ≡ renamed (part parts 2) (part parts 4) marked) × (mark (part parts 2) ≡ part marked 2) × (mark (part parts 4) ≡ part marked 4)

says_parts : (parts : List (List ℕ)) → 1 < length (marked_parts parts) → SaysParts parts (marked_parts parts)
says_parts [] some = absurd (omega (arith, some))
says_parts (a ∷ []) some = absurd (omega (arith, some))
says_parts (a ∷ b ∷ []) some = (refl, refl, refl)
says_parts (a ∷ b ∷ u ∷ []) some = (refl, refl, refl)
says_parts (a ∷ b ∷ u ∷ n ∷ []) some = (refl, refl, refl)
says_parts (a ∷ b ∷ u ∷ n ∷ i ∷ []) some = (refl, refl, refl)
says_parts (a ∷ b ∷ u ∷ n ∷ i ∷ j ∷ more) some = absurd (omega (arith, some))

named : (part : List ℕ) → mark part ≡ codes "_" → 0 < length part
named [] is = absurd (let e = ap length is in omega (arith, e))
named (b ∷ bytes) is = omega arith

unnamed : (part : List ℕ) → mark part ≡ [] → part ≡ []
unnamed [] is = refl
unnamed (b ∷ bytes) is = absurd (let e = ap length is in omega (arith, e))

some_parts : (path : Path) → 1 < length (pattern_parts path)
some_parts Health = omega arith
some_parts Indexes = omega arith
some_parts Index = omega arith
some_parts Documents = omega arith
some_parts Document = omega arith
some_parts Settings = omega arith
some_parts Search = omega arith
some_parts MultiSearch = omega arith
some_parts FacetSearch = omega arith
some_parts Task = omega arith

-- a path of the table has these parts
abbrev IsPath : List (List ℕ) → Path → Type 0
IsPath parts path = (parts ≡ parts_with (part parts 2) (part parts 4) path) × Names path (part parts 2) (part parts 4)

is_path : (parts : List (List ℕ)) (path : Path) → SaysParts parts (pattern_parts path) → IsPath parts path
is_path parts Health says = (says.0, (unnamed _ says.1, unnamed _ says.2))
is_path parts Indexes says = (says.0, (unnamed _ says.1, unnamed _ says.2))
is_path parts Index says = (says.0, (named _ says.1, unnamed _ says.2))
is_path parts Documents says = (says.0, (named _ says.1, unnamed _ says.2))
is_path parts Document says = (says.0, (named _ says.1, named _ says.2))
is_path parts Settings says = (says.0, (named _ says.1, unnamed _ says.2))
is_path parts Search says = (says.0, (named _ says.1, unnamed _ says.2))
is_path parts MultiSearch says = (says.0, (unnamed _ says.1, unnamed _ says.2))
is_path parts FacetSearch says = (says.0, (named _ says.1, unnamed _ says.2))
is_path parts Task says = (says.0, (named _ says.1, unnamed _ says.2))

abbrev either : Path → Option Path → Path
either path None = path
either path (Some found) = found

found_holds : (test : Path → Bool) (all : List Path) (path : Path) → find test all ≡ Some path → test path ≡ true
found_holds test [] path is = absurd (cc (is))
found_holds test (p ∷ more) path is = go (test p) refl is (found_holds test more path)
  where
    go : (w : Bool) → test p ≡ w → cond w (Some p) (find test more) ≡ Some path → (find test more ≡ Some path → test path ≡ true) → test path ≡ true
    go true holds is later = subst (λ v. test v ≡ true) (ap (either path) is) holds
    go false holds is later = later is

pub of_pattern : (parts : List (List ℕ)) (path : Path) → HaveNoSlash parts → path_with (joined (marked_parts parts)) ≡ Some path → IsPath parts path
of_pattern parts path none found =
    let text : joined (marked_parts parts) ≡ pattern path = (bytes_eq-Decides _ _).0 (found_holds (λ path. bytes_eq (joined (marked_parts parts)) (pattern path)) paths path found) in
    let marked : marked_parts parts ≡ pattern_parts path = sym (again parts none) ∙ ap (split 47) text ∙ pattern_again path in
    is_path parts path (subst (SaysParts parts) marked (says_parts parts (subst (λ v. 1 < length v) (sym marked) (some_parts path))))

-- ---- what the code finds

pub found_at : (bytes text : List ℕ) (path : Path) (uid id : List ℕ) → text ≡ joined (marked_parts (parts_of bytes)) → path_with text ≡ Some path
    → uid ≡ get_or (parts_of bytes) 2 [] → id ≡ get_or (parts_of bytes) 4 [] → (parts_of bytes ≡ parts_with uid id path) × Names path uid id
found_at bytes text path uid id is found uid_is id_is =
    rw (uid_is, id_is) (of_pattern (parts_of bytes) path (pieces bytes) (sym (ap path_with is) ∙ found))

pub none_at : (method bytes text : List ℕ) → text ≡ joined (marked_parts (parts_of bytes)) → ((path : Path) → path_with text ≡ Some path → ⊥)
    → route_of method (parts_of bytes) ≡ Err refusal.NoRoute
none_at method bytes text is none = of_no_pattern method (parts_of bytes) (go (path_with (joined (marked_parts (parts_of bytes)))) refl)
  where
    go : (o : Option Path) → path_with (joined (marked_parts (parts_of bytes))) ≡ o → o ≡ None
    go None same = refl
    go (Some path) same = absurd (none path (ap path_with is ∙ same))
