-- The entries of a document's places stand apart as the places do.
use Rattle.std.proofs.Common.{◌≡◌, ℕ, ◌+◌, ◌-◌, ◌*◌, ◌/◌, ◌^◌, ◌<◌, ◌≤◌, inl, inr, Bool, true, false, ◌&&◌, ◌||◌, ◌==◌, List, [], ◌∷◌, flat_map, filter, refl, sym, ap, ap₂, subst, ◌∙◌, arith}
use Rattle.std.specs.List.{list_any}
use Rattle.std.proofs.lemmas.Bool.{eqb-true, eq-eqb}
use Rattle.std.proofs.lemmas.Bool.Decides.{nat_tests}
use Rattle.search_base.specs.declared.document.Place.{Place}
use Rattle.search_base.specs.PairCost.{distance, stands_apart, distances_from, distances, cost_between}
use Rattle.search_base.proofs.Members.{Among, Among-map, Among-mapped, Among-filter, Among-filtered, Among-flat_map, Among-flat_mapped, All-among}
use Rattle.sorted_pages.specs.Entries.{has}
use Rattle.postings.specs.Documents.{entry_of, AreNarrow}
use Rattle.near_words.specs.EntryCost.{is_apart, distances_to, cut_distance, cost_of, AreEntriesOf}
use Rattle.near_words.proofs.CutLemmas.{cut_least, cut_greatest, cut_is}

both : (a b : Bool) → (a && b) ≡ true → (a ≡ true) × (b ≡ true)
both true true h = (refl, refl)
both true false h = absurd (cc)
both false b h = absurd (cc)

or_true : (b : Bool) → (b || true) ≡ true
or_true true = refl
or_true false = refl

pub among_has : (xs : List ℕ) (x : ℕ) → Among xs x → has xs x ≡ true
among_has [] x h = absurd h
among_has (y ∷ ys) x (inl same) = ap (λ b. b || has ys x) (eq-eqb y x same)
among_has (y ∷ ys) x (inr later) = ap (λ b. y == x || b) (among_has ys x later) ∙ or_true (y == x)

pub has_among : (xs : List ℕ) (x : ℕ) → has xs x ≡ true → Among xs x
has_among [] x h = absurd (cc)
has_among (y ∷ ys) x h = by (y == x) refl (has_among ys x) h
  where
    by : (b : Bool) → (y == x) ≡ b → (has ys x ≡ true → Among ys x) → (b || has ys x) ≡ true → Among (y ∷ ys) x
    by true is later h = inl (eqb-true y x is)
    by false is later h = inr (later h)

pub any_among : {X : Type 0} (p : X → Bool) (xs : List X) → list_any p xs ≡ true → (x : X) × Among xs x × (p x ≡ true)
any_among p [] h = absurd (cc)
any_among {X} p (y ∷ ys) h = by (p y) refl (any_among p ys) h
  where
    by : (b : Bool) → p y ≡ b → (list_any p ys ≡ true → (x : X) × Among ys x × (p x ≡ true)) → (b || list_any p ys) ≡ true → (x : X) × Among (y ∷ ys) x × (p x ≡ true)
    by true is later h = (y, inl refl, is)
    by false is later h = let found = later h in (found.0, inr found.1, found.2)

pub among_any : {X : Type 0} (p : X → Bool) (xs : List X) (x : X) → Among xs x → p x ≡ true → list_any p xs ≡ true
among_any p [] x h is = absurd h
among_any p (y ∷ ys) x (inl same) is = ap (λ b. b || list_any p ys) (ap p same ∙ is)
among_any p (y ∷ ys) x (inr later) is = ap (λ b. p y || b) (among_any p ys x later is) ∙ or_true (p y)

-- ---- one pair of places
abbrev packed : ℕ → ℕ → ℕ → ℕ
packed id path position = id * 2 ^ 32 + path * 2 ^ 16 + position

path_of : (id path position : ℕ) → position < 2 ^ 16 → packed id path position / 2 ^ 16 ≡ id * 2 ^ 16 + path
path_of id path position h = omega arith

same_apart : (id : ℕ) (a b : Place) → a.position < 2 ^ 16 → b.position < 2 ^ 16 → stands_apart a b ≡ is_apart (entry_of id a) (entry_of id b)
same_apart id a b h k =
    let left = path_of id a.path.0 a.position h in
    let right = path_of id b.path.0 b.position k in
    grind (arith, nat_tests, left, right)

same_distance : (id : ℕ) (a b : Place) → stands_apart a b ≡ true → distance a.position b.position ≡ distance (entry_of id a) (entry_of id b)
same_distance id a b apart = grind (arith, nat_tests)

module _ (id : ℕ) (places : List Place) (is_left is_right : List ℕ → Bool) (left right : List ℕ) (narrow : AreNarrow places)
    (lefts : AreEntriesOf id places is_left left) (rights : AreEntriesOf id places is_right right) where
  position : (a : Place) → Among places a → a.position < 2 ^ 16
  position a h = (All-among (λ place. (place.path.0 < 2 ^ 16) × (place.position < 2 ^ 16)) places a narrow h).1

  entry_in : (is_word : List ℕ → Bool) (entries : List ℕ) (a : Place) → AreEntriesOf id places is_word entries → Among places a → is_word a.word ≡ true → Among entries (entry_of id a)
  entry_in is_word entries a told h is =
      has_among entries (entry_of id a) (told.each (entry_of id a)
      ∙ among_any (λ place. is_word place.word && (entry_of id place == entry_of id a)) places a h (ap₂ ◌&&◌ is (eq-eqb (entry_of id a) (entry_of id a) refl)))

  place_in : (is_word : List ℕ → Bool) (entries : List ℕ) (x : ℕ) → AreEntriesOf id places is_word entries → Among entries x → (a : Place) × Among places a × (is_word a.word ≡ true) × (entry_of id a ≡ x)
  place_in is_word entries x told h =
      let found = any_among (λ place. is_word place.word && (entry_of id place == x)) places (sym (told.each x) ∙ among_has entries x h) in
      let passes = both (is_word found.0.word) (entry_of id found.0 == x) found.2 in
      (found.0, found.1, passes.0, eqb-true (entry_of id found.0) x passes.1)

  of_places : (m : ℕ) → Among (distances places is_left is_right) m → cut_distance left right ≤ m
  of_places m h =
      let lefted = filter (λ (a : Place). is_left a.word) places in
      let from = Among-flat_map (distances_from places is_right) lefted m h in
      let a = from.0 in
      let passed = Among-filter (λ (a : Place). is_left a.word) places a from.1 in
      let test = λ (b : Place). stands_apart a b && is_right b.word in
      let to = Among-map (λ (b : Place). distance a.position b.position) (filter test places) m from.2 in
      let b = to.0 in
      let reached = Among-filter test places b to.1 in
      let passes = both (stands_apart a b) (is_right b.word) reached.1 in
      let x = entry_of id a in
      let y = entry_of id b in
      let apart : is_apart x y ≡ true = sym (same_apart id a b (position a passed.0) (position b reached.0)) ∙ passes.0 in
      let least = cut_least (flat_map (distances_to right) left) (distance x y)
      (Among-flat_mapped (distances_to right) left x (distance x y) (entry_in is_left left a lefts passed.0 passed.1)
      (Among-mapped (distance x) (filter (is_apart x) right) y (Among-filtered (is_apart x) right y (entry_in is_right right b rights reached.0 passes.1) apart))) in
      subst (λ (n : ℕ). cut_distance left right ≤ n) (sym (same_distance id a b passes.0) ∙ to.2) least

  of_entries : (k : ℕ) → ((m : ℕ) → Among (distances places is_left is_right) m → k ≤ m) → (m : ℕ) → Among (flat_map (distances_to right) left) m → k ≤ m
  of_entries k below m h =
      let from = Among-flat_map (distances_to right) left m h in
      let x = from.0 in
      let to = Among-map (distance x) (filter (is_apart x) right) m from.2 in
      let y = to.0 in
      let reached = Among-filter (is_apart x) right y to.1 in
      let one = place_in is_left left x lefts from.1 in
      let other = place_in is_right right y rights reached.0 in
      let a = one.0 in
      let b = other.0 in
      let apart : stands_apart a b ≡ true = same_apart id a b (position a one.1) (position b other.1) ∙ ap₂ is_apart one.3 other.3 ∙ reached.1 in
      let test = λ (b : Place). stands_apart a b && is_right b.word in
      let lefted = filter (λ (a : Place). is_left a.word) places in
      let d = distance a.position b.position in
      let least = below d (Among-flat_mapped (distances_from places is_right) lefted a d (Among-filtered (λ (a : Place). is_left a.word) places a one.1 one.2)
      (Among-mapped (λ (b : Place). distance a.position b.position) (filter test places) b (Among-filtered test places b other.1 (ap₂ ◌&&◌ apart other.2)))) in
      subst (λ (n : ℕ). k ≤ n) (same_distance id a b apart ∙ ap₂ distance one.3 other.3 ∙ to.2) least

  pub document_cost : cost_of left right ≡ cost_between places is_left is_right
  document_cost = ap (λ n. n - 1) (cut_is (distances places is_left is_right) (cut_distance left right) of_places (omega arith)
      (λ k small below. cut_greatest (flat_map (distances_to right) left) k small (of_entries k below)))
