-- The ranks of the places of documents are those of their paths.
use Rattle.std.proofs.Common.{◌≡◌, ℕ, ◌+◌, ◌<◌, ◌≤◌, Bool, true, false, cond, List, [], ◌∷◌, ◌++◌, map, length, Option, Some, None, refl, ap, subst, arith}
use Rattle.std.specs.Option.{IfSome}
use Rattle.std.specs.List.{AllByRecursion, filter, filter_map}
use Rattle.search_base.specs.declared.document.Place.{Place}
use Rattle.search_base.specs.declared.token.Token.{Token}
use Rattle.token_words.specs.Tokens.{tokens}
use Rattle.doc_values.specs.Leaves.{found_at}
use Rattle.doc_values.specs.Walk.{Visit, walk}
use Rattle.doc_rows.specs.declared.path_use.PathUse.{PathUse}
use Rattle.doc_rows.specs.Rows.{place_of, next_start, all_places, places_of, places_at, is_searched, rows_from}
use Rattle.doc_rows.specs.Texts.{leaf_text}
use Rattle.doc_store.specs.Store.{Row}
use Rattle.posting_sets.specs.Blocks.{HaveRanks}
use Rattle.posting_sets.specs.Numbers.{rank_at}
use Rattle.row_index.specs.Standing.{placed}
use Rattle.doc_search.specs.Rows.{AreRanked}
use Rattle.doc_index.specs.Documents.{documents_of}
use Rattle.doc_search.specs.Ranked.{ranks_of, RankedBelow}

-- ---- lists of places
abbrev Have : (Place → Type 0) → List Place → Type 0
Have P places = AllByRecursion P places

have-both : (P : Place → Type 0) (xs ys : List Place) → Have P xs → Have P ys → Have P (xs ++ ys)
have-both P [] ys h k = k
have-both P (x ∷ xs) ys h k = (h.0, have-both P xs ys h.1 k)

have-filtered : (P : Place → Type 0) (p : Place → Bool) (xs : List Place) → Have P xs → Have P (filter p xs)
have-filtered P p [] h = tt
have-filtered P p (x ∷ xs) h = by (p x) (have-filtered P p xs h.1)
  where
    by : (b : Bool) → Have P (filter p xs) → Have P (cond b (x ∷ filter p xs) (filter p xs))
    by true rest = (h.0, rest)
    by false rest = rest

-- ---- the places of a path
module _ (P : Place → Type 0) (number rank : ℕ) (is : (position : ℕ) (word : List ℕ) → P (record { path = record { 0 = number }; rank = rank; position = position; word = word })) where
  of-tokens : (start : ℕ) (all : List Token) → Have P (map (place_of number rank start) all)
  of-tokens start [] = tt
  of-tokens start (t ∷ all) = (is (start + t.position) t.word, of-tokens start all)

  of-texts : (start : ℕ) (texts : List (List ℕ)) → Have P (all_places number rank start texts)
  of-texts start [] = tt
  of-texts start (text ∷ texts) = have-both P _ _ (of-tokens start (tokens text)) (of-texts (next_start start (tokens text)) texts)

  pub of-path : (texts : List (List ℕ)) → Have P (places_of number rank texts)
  of-path texts = have-filtered P is_searched (all_places number rank 0 texts) (of-texts 0 texts)

-- what holds of the places of each path, of which the first has this number
abbrev HoldFrom : (ℕ → ℕ → List ℕ → ℕ → Type 0) → ℕ → List PathUse → Type 0
HoldFrom P number [] = Unit {0}
HoldFrom P number (path_use ∷ uses) = IfSome path_use.rank (λ rank. (position : ℕ) (word : List ℕ) → P number position word rank) × HoldFrom P (number + 1) uses

abbrev OfPlace : (ℕ → ℕ → List ℕ → ℕ → Type 0) → Place → Type 0
OfPlace P place = P place.path.0 place.position place.word place.rank

all-rows : (P : ℕ → ℕ → List ℕ → ℕ → Type 0) (number : ℕ) (visits : List Visit) (paths : List (List ℕ)) (uses : List PathUse) → HoldFrom P number uses
    → Have (OfPlace P) (rows_from number visits paths uses).places
all-rows P number visits [] uses h = tt
all-rows P number visits (path ∷ paths) [] h = tt
all-rows P number visits (path ∷ paths) (path_use ∷ uses) h =
    have-both (OfPlace P) (places_at number path_use.rank (filter_map leaf_text (found_at path visits))) (rows_from (number + 1) visits paths uses).places
    (by path_use.rank (filter_map leaf_text (found_at path visits)) h.0) (all-rows P (number + 1) visits paths uses h.1)
  where
    by : (rank : Option ℕ) (texts : List (List ℕ)) → IfSome rank (λ rank. (position : ℕ) (word : List ℕ) → P number position word rank) → Have (OfPlace P) (places_at number rank texts)
    by None texts h = tt
    by (Some rank) texts h = of-path (OfPlace P) number rank h texts

-- ---- the rank of each path by its number
abbrev RankIs : List PathUse → ℕ → ℕ → List ℕ → ℕ → Type 0
RankIs all path position word rank = rank_at (ranks_of all) path ≡ Some rank

split : (xs uses : List PathUse) (path_use : PathUse) → (xs ++ path_use ∷ []) ++ uses ≡ xs ++ path_use ∷ uses
split [] uses path_use = refl
split (x ∷ xs) uses path_use = ap (λ ys. x ∷ ys) (split xs uses path_use)

long : (xs : List PathUse) (path_use : PathUse) → length (xs ++ path_use ∷ []) ≡ length xs + 1
long [] path_use = refl
long (x ∷ xs) path_use = let rest = long xs path_use in omega arith

rank-there : (xs uses : List PathUse) (path_use : PathUse) → rank_at (ranks_of (xs ++ path_use ∷ uses)) (length xs) ≡ path_use.rank
rank-there [] uses path_use = refl
rank-there (x ∷ xs) uses path_use = rank-there xs uses path_use

rank-if : (all : List PathUse) (number : ℕ) (o : Option ℕ) → rank_at (ranks_of all) number ≡ o → IfSome o (λ rank. (position : ℕ) (word : List ℕ) → RankIs all number position word rank)
rank-if all number None is = tt
rank-if all number (Some rank) is = λ position word. is

ranks-from : (before uses : List PathUse) → HoldFrom (RankIs (before ++ uses)) (length before) uses
ranks-from before [] = tt
ranks-from before (path_use ∷ uses) = (
  rank-if (before ++ path_use ∷ uses) (length before) path_use.rank (rank-there before uses path_use),
  subst (λ n. HoldFrom (RankIs (before ++ path_use ∷ uses)) n uses) (long before path_use)
      (subst (λ all. HoldFrom (RankIs all) (length (before ++ path_use ∷ [])) uses) (split before uses path_use) (ranks-from (before ++ path_use ∷ []) uses)),
)

below-from : (bound number : ℕ) (uses : List PathUse) → RankedBelow bound uses → HoldFrom (λ path position word rank. rank < bound) number uses
below-from bound number [] h = tt
below-from bound number (path_use ∷ uses) h = (by path_use.rank h.0, below-from bound (number + 1) uses h.1)
  where
    by : (o : Option ℕ) → IfSome o (λ rank. rank < bound) → IfSome o (λ rank. (position : ℕ) (word : List ℕ) → rank < bound)
    by None h = tt
    by (Some rank) h = λ position word. h

pub have-ranks : (paths : List (List ℕ)) (uses : List PathUse) (rows : List Row) → HaveRanks (ranks_of uses) (map placed (documents_of paths uses rows))
have-ranks paths uses [] = tt
have-ranks paths uses (r ∷ rows) = (all-rows (RankIs uses) 0 (walk r.document) paths uses (ranks-from [] uses), have-ranks paths uses rows)

pub are-ranked : (bound : ℕ) (paths : List (List ℕ)) (uses : List PathUse) (rows : List Row) → RankedBelow bound uses → AreRanked bound (documents_of paths uses rows)
are-ranked bound paths uses [] h = tt
are-ranked bound paths uses (r ∷ rows) h = (all-rows (λ path position word rank. rank < bound) 0 (walk r.document) paths uses (below-from bound 0 uses h), are-ranked bound paths uses rows h)

-- ---- the greatest rank
pub below-more : (bound more : ℕ) (uses : List PathUse) → bound ≤ more → RankedBelow bound uses → RankedBelow more uses
below-more bound more [] le h = tt
below-more bound more (path_use ∷ uses) le h = (by path_use.rank h.0, below-more bound more uses le h.1)
  where
    by : (o : Option ℕ) → IfSome o (λ rank. rank < bound) → IfSome o (λ rank. rank < more)
    by None h = tt
    by (Some rank) h = omega arith
