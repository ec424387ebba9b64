-- Documents, each at the place of its number.
use Rattle.std.proofs.Common.{◌≡◌, ℕ, suc, ◌<◌, ◌==◌, Bool, true, false, ◌&&◌, List, [], ◌∷◌, map, drop, length, get_or, Option, None, Some, refl, sym, ap, ◌∙◌, arith, append-nil, drop-cons}
use Rattle.std.specs.List.{list_all, AllByRecursion}
use Rattle.std.proofs.lemmas.Bool.{eqb-true, ltb-true}
use Rattle.search_base.specs.declared.document.Place.{Place}
use Rattle.search_base.specs.RowsView.{RowsView}
use Rattle.doc_sets.specs.Sets.{AreAbove}
use Rattle.condition_graph.specs.Meets.{IsRanked}
use Rattle.posting_sets.specs.Numbers.{rank_at}
use Rattle.posting_sets.specs.Blocks.{HaveRanks}
use Rattle.row_index.specs.Documents.{IndexedDocument, document_with, has_id, IsBatch, without, after}
use Rattle.row_index.specs.Standing.{placed}
use Rattle.doc_search.specs.Rows.{AreRanked}
use Rattle.doc_search.specs.Matches.{AreInOrder}
use Rattle.doc_search.proofs.OrderLemmas.{apart_in_order}
use Rattle.tests_ranking.specs.Ranked.{is_rank, is_ranked, has_ranks, have_ranks}
use Rattle.tests_ranking.specs.Shelves.{shelved_from, shelved}

both : (a b : Bool) → (a && b) ≡ true → (a ≡ true) × (b ≡ true)
both true b h = (refl, h)
both false b h = absurd (cc)

is_there : (rank : ℕ) (found : Option ℕ) → is_rank rank found ≡ true → (found ≡ Some rank) × (rank < 8)
is_there rank None h = absurd (cc)
is_there rank (Some n) h =
    let parts = both (n == rank) _ h in
    let same : n ≡ rank = eqb-true n rank parts.0 in
    let below : n < 8 = ltb-true n 8 parts.1 in
    (ap Some same, omega arith)

places_there : (ranks : List (Option ℕ)) (places : List Place) → list_all (is_ranked ranks) places ≡ true
    → AllByRecursion (λ place. rank_at ranks place.path.0 ≡ Some place.rank) places × AllByRecursion (IsRanked 8) places
places_there ranks [] h = (tt, tt)
places_there ranks (p ∷ ps) h =
    let parts = both (is_ranked ranks p) (list_all (is_ranked ranks) ps) h in
    let here = is_there p.rank (rank_at ranks p.path.0) parts.0 in
    let rest = places_there ranks ps parts.1 in
    ((here.0, rest.0), (here.1, rest.1))

pub all_there : (ranks : List (Option ℕ)) (id : ℕ) (rows : List RowsView) → have_ranks ranks rows ≡ true
    → HaveRanks ranks (map placed (shelved_from id rows)) × AreRanked 8 (shelved_from id rows)
all_there ranks id [] h = (tt, tt)
all_there ranks id (r ∷ rs) h =
    let parts = both (has_ranks ranks r) (have_ranks ranks rs) h in
    let here = places_there ranks r.places parts.0 in
    let rest = all_there ranks (suc id) rs parts.1 in
    ((here.0, rest.0), (here.1, rest.1))

-- one document more in front
pub one_more : (rows : List RowsView) (at next : ℕ) (row : RowsView) → at < length rows → next ≡ suc at → row ≡ get_or rows at row
    → document_with at row ∷ shelved_from next (drop next rows) ≡ shelved_from at (drop at rows)
one_more rows at next row within is here =
    ap (λ n. document_with at row ∷ shelved_from n (drop n rows)) is
    ∙ ap (λ r. document_with at r ∷ shelved_from (suc at) (drop (suc at) rows)) here
    ∙ sym (ap (shelved_from at) (drop-cons rows at row within))

above_from : (a id : ℕ) (rows : List RowsView) → a < id → AreAbove a (map (λ (d : IndexedDocument). d.id) (shelved_from id rows))
above_from a id [] less = tt
above_from a id (r ∷ rs) less = (less, above_from a (suc id) rs (omega arith))

order_from : (id : ℕ) (rows : List RowsView) → AreInOrder (shelved_from id rows)
order_from id [] = tt
order_from id (r ∷ rs) = (above_from id (suc id) rs (omega arith), order_from (suc id) rs)

pub in_order : (rows : List RowsView) → AreInOrder (shelved rows)
in_order rows = order_from 0 rows

none_left : (documents : List IndexedDocument) → AllByRecursion (λ document. has_id document.id (without [] []) ≡ false) documents
none_left [] = tt
none_left (x ∷ xs) = (refl, none_left xs)

pub first_batch : (rows : List RowsView) → IsBatch [] (shelved rows) []
first_batch rows = record { whole = tt; once = apart_in_order (shelved rows) (in_order rows); free = none_left (shelved rows) }

pub after_first : (rows : List RowsView) → after [] (shelved rows) [] ≡ shelved rows
after_first rows = append-nil (shelved rows)
