-- Documents that are left out before their costs are looked for.
use Rattle.std.proofs.Common.{◌≡◌, ℕ, zero, suc, ◌+◌, ◌-◌, ◌<◌, ◌==◌, min, Bool, true, false, ◌&&◌, cond, List, [], ◌∷◌, map, filter, unwrap_or, refl, sym, ap, ap₂, subst, ◌∙◌, arith, inl}
use Rattle.std.specs.List.{list_any, range_with_len}
use Rattle.std.specs.Str.{bytes_eq}
use Rattle.std.proofs.lemmas.Bool.{eqb-true, eq-eqb, and_from, true≢false}
use Rattle.std.proofs.lemmas.Map.Text.{is_eq-slice_cmp}
use Rattle.search_base.specs.declared.document.Place.{Place}
use Rattle.search_base.specs.Least.{least}
use Rattle.search_base.specs.Occurrence.{is_asked, is_word_at, occurs_at, occurs}
use Rattle.search_base.specs.PairCost.{distance, stands_apart, distances_from, distances, asked_cost}
use Rattle.search_base.proofs.Members.{Among, Among-map, Among-flat_map, Among-filter}
use Rattle.postings.specs.Dictionary.{PostingsView}
use Rattle.postings.specs.Documents.{Document}
use Rattle.postings.specs.Fresh.{StandsFor}
use Rattle.postings.proofs.WordLemmas.{same_word, bytes_itself}
use Rattle.posting_sets.proofs.WalkLemmas.{both_true}
use Rattle.posting_sets.proofs.OccursLemmas.{list_any-from}
use Rattle.posting_sets.specs.Found.{AreOccurring}
use Rattle.near_words.specs.ByCost.{ids_at, ids_by_cost}
use Rattle.near_words.specs.Narrowed.{word_term, has_word, AreNarrowed}

-- ---- tests
filter_both : (p q : ℕ → Bool) → ((x : ℕ) → p x ≡ true → q x ≡ true) → (xs : List ℕ) → filter p (filter q xs) ≡ filter p xs
filter_both p q so [] = refl
filter_both p q so (x ∷ xs) = by (q x) refl (filter_both p q so xs)
  where
    out : (b : Bool) → p x ≡ b → q x ≡ false → filter p xs ≡ cond b (x ∷ filter p xs) (filter p xs)
    out true e off = absurd (true≢false (sym (so x e) ∙ off))
    out false e off = refl

    by : (b : Bool) → q x ≡ b → filter p (filter q xs) ≡ filter p xs → filter p (cond b (x ∷ filter q xs) (filter q xs)) ≡ cond (p x) (x ∷ filter p xs) (filter p xs)
    by true e later = ap (λ rest. cond (p x) (x ∷ rest) rest) later
    by false e later = later ∙ out (p x) refl e

pub narrowed_found : (view : PostingsView) (word universe ids : List ℕ) → AreOccurring view (word_term word) universe ids → AreNarrowed view word universe ids
narrowed_found view word universe ids found documents fresh test so =
    ap (filter test) (found documents fresh) ∙ filter_both test (has_word documents word) so universe

-- ---- words that stand near each other stand in the document
word_stands : (places : List Place) (word : List ℕ) (place : Place) → Among places place → bytes_eq place.word word ≡ true → occurs places (word_term word) ≡ true
word_stands places word place there is =
    list_any-from (occurs_at places (word_term word)) places place there
    (and_from (list_any (is_word_at false place.path.0 place.position word) places) true
    (list_any-from (is_word_at false place.path.0 place.position word) places place there (here place.path.0 place.position)) refl)
  where
    here : (p n : ℕ) → (((p == p) && (n == n)) && bytes_eq place.word word) ≡ true
    here p n = and_from ((p == p) && (n == n)) (bytes_eq place.word word) (and_from (p == p) (n == n) (eq-eqb p p refl) (eq-eqb n n refl)) is

-- two places at a distance
abbrev pub AreNear : List Place → List ℕ → Bool → List ℕ → Type 0
AreNear places left prefix right = (a : Place) × (b : Place) × Among places a × Among places b × (bytes_eq left a.word ≡ true) × (is_asked prefix right b.word ≡ true)

near_places : (places : List Place) (left : List ℕ) (prefix : Bool) (right : List ℕ) → asked_cost places left prefix right < 7 → AreNear places left prefix right
near_places places left prefix right low = by (distances places (bytes_eq left) (is_asked prefix right)) refl low
  where
    by : (ds : List ℕ) → distances places (bytes_eq left) (is_asked prefix right) ≡ ds → min 8 (unwrap_or (least ds) 8) - 1 < 7 → AreNear places left prefix right
    by [] e low = absurd (omega arith)
    by (d ∷ ds) e low =
        let there : Among (distances places (bytes_eq left) (is_asked prefix right)) d = subst (λ zs. Among zs d) (sym e) (inl refl) in
        let from = Among-flat_map (distances_from places (is_asked prefix right)) (filter (λ (a : Place). bytes_eq left a.word) places) d there in
        let start = Among-filter (λ (a : Place). bytes_eq left a.word) places from.0 from.1 in
        let to = Among-map (λ (b : Place). distance from.0.position b.position) (filter (λ (b : Place). stands_apart from.0 b && is_asked prefix right b.word) places) d from.2 in
        let end = Among-filter (λ (b : Place). stands_apart from.0 b && is_asked prefix right b.word) places to.0 to.1 in
        (from.0, to.0, start.0, end.0, start.1, (both_true _ _ end.1).1)

same_bytes : (a b : List ℕ) → bytes_eq a b ≡ true → bytes_eq b a ≡ true
same_bytes a b h = subst (λ v. bytes_eq v a ≡ true) (same_word a b (is_eq-slice_cmp a b ∙ h)) (bytes_itself a)

pub left_stands : (places : List Place) (left : List ℕ) (prefix : Bool) (right : List ℕ) → asked_cost places left prefix right < 7 → occurs places (word_term left) ≡ true
left_stands places left prefix right low =
    let near = near_places places left prefix right low in
    word_stands places left near.0 near.2 (same_bytes left near.0.word near.4)

pub right_stands : (places : List Place) (left right : List ℕ) → asked_cost places left false right < 7 → occurs places (word_term right) ≡ true
right_stands places left right low =
    let near = near_places places left false right low in
    word_stands places right near.1 near.3 near.5

-- ---- costs
same_range : {Y : Type 0} (g h : ℕ → Y) (n a : ℕ) → ((k : ℕ) → k < a + n → g k ≡ h k) → map g (range_with_len a n) ≡ map h (range_with_len a n)
same_range g h zero a same = refl
same_range g h (suc n) a same = ap₂ (λ x xs. x ∷ xs) (same a (omega arith)) (same_range g h n (a + 1) (λ k low. same k (omega arith)))

-- documents without the word are at no cost
pub costs_narrowed : (view : PostingsView) (word universe ids : List ℕ) → AreNarrowed view word universe ids → (documents : List Document) → StandsFor view documents
    → (cost : ℕ → ℕ) → ((id : ℕ) → cost id < 7 → has_word documents word id ≡ true) → ids_by_cost cost ids ≡ ids_by_cost cost universe
costs_narrowed view word universe ids narrowed documents fresh cost stands =
    same_range (ids_at cost ids) (ids_at cost universe) 7 0 (λ k low.
    narrowed documents fresh (λ id. cost id == k) (λ id at. stands id (let same = eqb-true (cost id) k at in omega arith)))
