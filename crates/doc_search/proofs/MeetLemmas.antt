-- The documents that meet a condition, by what posting lists say of them.
use Rattle.std.proofs.Common.{◌≡◌, ℕ, zero, suc, ◌+◌, ◌<◌, ◌==◌, Bool, true, false, List, [], ◌∷◌, map, length, take, slice_get, cond, Option, None, Some, IfSome, refl, sym, ap, ◌∙◌, arith}
use Rattle.std.specs.List.{filter, range_with_len, enumerate_from}
use Rattle.std.proofs.lemmas.List.{take_all}
use Rattle.search_base.specs.Bucket.{bucket_of}
use Rattle.search_base.specs.PairCost.{asked_cost}
use Rattle.search_base.specs.TermView.{TermView}
use Rattle.doc_sets.specs.SetView.{SetView}
use Rattle.postings.specs.Dictionary.{PostingsView}
use Rattle.postings.specs.Documents.{Document, places_of}
use Rattle.postings.specs.Fresh.{StandsFor}
use Rattle.posting_sets.specs.Blocks.{AreOfBlocks}
use Rattle.posting_sets.specs.Numbers.{rank_at, set_at, numbered, AreNumbered}
use Rattle.near_words.specs.ByCost.{ids_at, ids_by_cost}
use Rattle.condition_graph.specs.declared.condition.Condition.TheVariants.{Free, Pair, AtRank, AtBucket}
use Rattle.doc_search.specs.Meeting.{AreMeeting, AreMeetingByNumber}

all_pass : (ids : List ℕ) → ids ≡ filter (λ id. true) ids
all_pass [] = refl
all_pass (id ∷ ids) = ap (λ rest. id ∷ rest) (all_pass ids)

pub free_is : (view : PostingsView) (ranks : List (Option ℕ)) (universe ids : List ℕ) → ids ≡ universe → AreMeeting view ranks Free universe ids
free_is view ranks universe ids same documents fresh have = same ∙ all_pass universe

-- ---- one set of several
get_map : (sets : List SetView) (k : ℕ) (set : SetView) → slice_get sets k ≡ Some set → slice_get (map (λ (s : SetView). s.ids) sets) k ≡ Some set.ids
get_map [] k set e = absurd (cc)
get_map (s ∷ ss) zero set e = let same : s ≡ set = cc in ap (λ (v : SetView). Some v.ids) same
get_map (s ∷ ss) (suc k) set e = get_map ss k set e

get_range : (g : ℕ → List ℕ) (n a k : ℕ) → k < n → slice_get (map g (range_with_len a n)) k ≡ Some (g (a + k))
get_range g zero a k low = absurd (omega arith)
get_range g (suc n) a zero low = let e : a ≡ a + 0 = omega arith in ap (λ v. Some (g v)) e
get_range g (suc n) a (suc k) low = let e : a + 1 + k ≡ a + suc k = omega arith in get_range g n (a + 1) k (omega arith) ∙ ap (λ v. Some (g v)) e

nth_is : (cost : ℕ → ℕ) (universe : List ℕ) (sets : List SetView) (set : SetView) (k : ℕ) → k < 7 → map (λ (s : SetView). s.ids) sets ≡ ids_by_cost cost universe
    → slice_get sets k ≡ Some set → set.ids ≡ ids_at cost universe k
nth_is cost universe sets set k low all here =
    let own : slice_get (ids_by_cost cost universe) k ≡ Some set.ids = ap (λ v. slice_get v k) (sym all) ∙ get_map sets k set here in
    let range : slice_get (ids_by_cost cost universe) k ≡ Some (ids_at cost universe (0 + k)) = get_range (ids_at cost universe) 7 0 k low in
    let plain : 0 + k ≡ k = omega arith in
    let same : Some set.ids ≡ Some (ids_at cost universe (0 + k)) = sym own ∙ range in
    let is : set.ids ≡ ids_at cost universe (0 + k) = cc in
    is ∙ ap (ids_at cost universe) plain

pub pair_is : (view : PostingsView) (ranks : List (Option ℕ)) (left right : List ℕ) (prefix : Bool) (cost : ℕ) (universe : List ℕ) (sets : List SetView) (set : SetView) → cost < 7
    → ((documents : List Document) → StandsFor view documents → map (λ (s : SetView). s.ids) sets ≡ ids_by_cost (λ id. asked_cost (places_of id documents) left prefix right) universe)
    → (cost < length sets → slice_get sets cost ≡ Some set) → AreMeeting view ranks (Pair left right prefix cost) universe set.ids
pair_is view ranks left right prefix cost universe sets set low all here documents fresh have =
    let told = all documents fresh in
    let seven : length sets ≡ 7 = sym (lengths sets) ∙ ap length told in
    nth_is (λ id. asked_cost (places_of id documents) left prefix right) universe sets set cost low told (here (omega arith))
  where
    lengths : (xs : List SetView) → length (map (λ (s : SetView). s.ids) xs) ≡ length xs
    lengths [] = refl
    lengths (x ∷ xs) = ap suc (lengths xs)

-- ---- the sets of a number
pub rank_is : AreOfBlocks → (view : PostingsView) (ranks : List (Option ℕ)) (term : TermView) (rank : ℕ) (universe ids : List ℕ) (rows : List (ℕ × SetView))
    → AreNumbered view term (λ place. rank_at ranks place.path.0) universe rows → ids ≡ set_at rank rows → AreMeeting view ranks (AtRank term rank) universe ids
rank_is law view ranks term rank universe ids rows are is documents fresh have =
    is ∙ are.each documents fresh rank ∙ law.rank ranks documents have term universe rank

pub bucket_is : AreOfBlocks → (view : PostingsView) (ranks : List (Option ℕ)) (term : TermView) (at : ℕ) (universe ids : List ℕ) (rows : List (ℕ × SetView))
    → AreNumbered view term (λ place. Some (bucket_of place.position)) universe rows → ids ≡ set_at at rows → AreMeeting view ranks (AtBucket term at) universe ids
bucket_is law view ranks term at universe ids rows are is documents fresh have =
    is ∙ are.each documents fresh at ∙ law.bucket documents term universe at

-- the documents of the first bucket, whatever the ranks
pub first_is : AreOfBlocks → (view : PostingsView) (term : TermView) (universe ids : List ℕ)
    → ((documents : List Document) → StandsFor view documents → ids ≡ numbered documents term (λ place. Some (bucket_of place.position)) universe 0)
    → (ranks : List (Option ℕ)) → AreMeeting view ranks (AtBucket term 0) universe ids
first_is law view term universe ids is ranks documents fresh have = is documents fresh ∙ law.bucket documents term universe 0

-- what follows from what is said of a set, where there is one
pub some_of : {X : Type 0} (P Q : X → Type 0) (found : Option X) → IfSome found P → ((x : X) → P x → Q x) → IfSome found Q
some_of P Q None h f = tt
some_of P Q (Some x) h f = f x h

-- ---- the sets of all numbers
slice_get-some : (sets : List SetView) (k : ℕ) → k < length sets → (set : SetView) × (slice_get sets k ≡ Some set)
slice_get-some [] k low = absurd (omega arith)
slice_get-some (s ∷ ss) zero low = (s, refl)
slice_get-some (s ∷ ss) (suc k) low = slice_get-some ss k (omega arith)

set_at-listed : (sets : List SetView) (a k : ℕ) (set : SetView) → slice_get sets k ≡ Some set → set_at (a + k) (enumerate_from a sets) ≡ set.ids
set_at-listed [] a k set e = absurd (cc)
set_at-listed (s ∷ ss) a zero set e =
    let here : (a == a + zero) ≡ true = grind arith in
    let same : s ≡ set = cc in
    ap (λ b. cond b s.ids (set_at (a + zero) (enumerate_from (a + 1) ss))) here ∙ ap (λ (v : SetView). v.ids) same
set_at-listed (s ∷ ss) a (suc k) set e =
    let other : (a == a + suc k) ≡ false = grind arith in
    let next : a + suc k ≡ a + 1 + k = omega arith in
    ap (λ b. cond b s.ids (set_at (a + suc k) (enumerate_from (a + 1) ss))) other
    ∙ ap (λ n. set_at n (enumerate_from (a + 1) ss)) next ∙ set_at-listed ss (a + 1) k set e

map-length : (sets : List SetView) → length (map (λ (s : SetView). s.ids) sets) ≡ length sets
map-length [] = refl
map-length (s ∷ ss) = ap suc (map-length ss)

pub pairs_are : (view : PostingsView) (ranks : List (Option ℕ)) (left right : List ℕ) (prefix : Bool) (cost : ℕ) (universe : List ℕ) (sets : List SetView) (rows : List (ℕ × SetView))
    → ((documents : List Document) → StandsFor view documents → map (λ (s : SetView). s.ids) sets ≡ ids_by_cost (λ id. asked_cost (places_of id documents) left prefix right) universe)
    → rows ≡ enumerate_from 0 (take 7 sets) → AreMeetingByNumber view ranks (Pair left right prefix cost) universe rows
pairs_are view ranks left right prefix cost universe sets rows all is n low documents fresh have =
    let told = all documents fresh in
    let seven : length sets ≡ 7 = sym (map-length sets) ∙ ap length told in
    let here = slice_get-some sets n (omega arith) in
    let plain : n ≡ 0 + n = omega arith in
    ap (set_at n) is ∙ ap (λ l. set_at n (enumerate_from 0 l)) (take_all 7 sets (omega arith))
    ∙ ap (λ k. set_at k (enumerate_from 0 sets)) plain ∙ set_at-listed sets 0 n here.0 here.1
    ∙ nth_is (λ id. asked_cost (places_of id documents) left prefix right) universe sets here.0 n low told here.1

pub ranks_are : AreOfBlocks → (view : PostingsView) (ranks : List (Option ℕ)) (term : TermView) (rank : ℕ) (universe : List ℕ) (rows : List (ℕ × SetView))
    → AreNumbered view term (λ place. rank_at ranks place.path.0) universe rows → AreMeetingByNumber view ranks (AtRank term rank) universe rows
ranks_are law view ranks term rank universe rows are n is = rank_is law view ranks term n universe (set_at n rows) rows are refl

pub buckets_are : AreOfBlocks → (view : PostingsView) (ranks : List (Option ℕ)) (term : TermView) (at : ℕ) (universe : List ℕ) (rows : List (ℕ × SetView))
    → AreNumbered view term (λ place. Some (bucket_of place.position)) universe rows → AreMeetingByNumber view ranks (AtBucket term at) universe rows
buckets_are law view ranks term at universe rows are n is = bucket_is law view ranks term n universe (set_at n rows) rows are refl
