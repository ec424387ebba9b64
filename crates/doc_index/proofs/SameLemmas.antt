-- Documents that are the same under each internal id are the same to an index.
use Rattle.std.proofs.Common.{◌≡◌, ℕ, ◌==◌, ◌⊎◌, inl, inr, Bool, true, false, ◌||◌, cond, List, [], ◌∷◌, map, Some, refl, sym, ap, ◌∙◌, subst, eq-eqb, eqb-true}
use Rattle.std.specs.Cmp.{both_ways}
use Rattle.std.specs.Option.{unwrap_or, option_map}
use Rattle.std.specs.List.{list_any, AllByRecursion}
use Rattle.std.proofs.Math.Bool.{or-true}
use Rattle.std.proofs.lemmas.Bool.{cond-true, cond-false, true≢false}
use Rattle.search_base.proofs.AnyLemmas.{list_any-map}
use Rattle.search_base.proofs.Members.{Among, Among-map, Among-mapped, All-among}
use Rattle.postings.specs.Dictionary.{PostingsView}
use Rattle.postings.specs.Documents.{Document, stands_in}
use Rattle.postings.specs.Documents as postings
use Rattle.postings.specs.Fresh as fresh
use Rattle.path_lengths.specs.Measured.{measured}
use Rattle.facet_index.specs.LeavesView.{LeavesView}
use Rattle.facet_index.specs.Places.{IsNarrowDocument, keyed}
use Rattle.row_index.specs.Documents.{IndexedDocument, AreApart, document_at}
use Rattle.row_index.specs.Standing.{RowIndexView, StandsFor, placed, faceted}
use Rattle.row_index.proofs.PartLemmas.{at_faceted}
use Rattle.doc_index.specs.Ready.{AreTheSame}

-- ---- lists of the same members
pub record HaveSame {X : Type 0} (xs ys : List X) : Type 0 where
  pub to : (x : X) → Among xs x → Among ys x
  pub from : (x : X) → Among ys x → Among xs x

any-found : {X : Type 0} (p : X → Bool) (xs : List X) → list_any p xs ≡ true → (x : X) × Among xs x × (p x ≡ true)
any-found p [] h = absurd (cc)
any-found {X} p (z ∷ zs) h = by (p z) refl h (any-found p zs)
  where
    by : (b : Bool) → p z ≡ b → (b || list_any p zs) ≡ true → (list_any p zs ≡ true → (x : X) × Among zs x × (p x ≡ true)) → (x : X) × ((z ≡ x) ⊎ Among zs x) × (p x ≡ true)
    by true is h rest = (z, inl refl, is)
    by false is h rest = let found = rest h in (found.0, inr found.1, found.2)

any-from : {X : Type 0} (p : X → Bool) (xs : List X) (x : X) → Among xs x → p x ≡ true → list_any p xs ≡ true
any-from p [] x h is = absurd h
any-from p (z ∷ zs) x (inl same) is = ap (λ b. b || list_any p zs) (ap p same ∙ is)
any-from p (z ∷ zs) x (inr later) is = ap (λ b. p z || b) (any-from p zs x later is) ∙ or-true (p z)

any-same : {X : Type 0} (p : X → Bool) (xs ys : List X) → HaveSame xs ys → list_any p xs ≡ list_any p ys
any-same p xs ys same = both_ways _ _
    (λ h. let found = any-found p xs h in any-from p ys found.0 (same.to found.0 found.1) found.2)
    (λ h. let found = any-found p ys h in any-from p xs found.0 (same.from found.0 found.1) found.2)

pub all-from : {X : Type 0} (P : X → Type 0) (ys : List X) → ((x : X) → Among ys x → P x) → AllByRecursion P ys
all-from P [] h = tt
all-from P (y ∷ ys) h = (h y (inl refl), all-from P ys (λ x among. h x (inr among)))

all-same : {X : Type 0} (P : X → Type 0) (xs ys : List X) → HaveSame xs ys → AllByRecursion P xs → AllByRecursion P ys
all-same P xs ys same all = all-from P ys (λ x among. All-among P xs x all (same.from x among))

mapped-same : {X Y : Type 0} (f : X → Y) (xs ys : List X) → HaveSame xs ys → HaveSame (map f xs) (map f ys)
mapped-same {X} {Y} f xs ys same = record { to = go xs ys same.to; from = go ys xs same.from }
  where
    go : (us vs : List X) → ((x : X) → Among us x → Among vs x) → (y : Y) → Among (map f us) y → Among (map f vs) y
    go us vs to y h = let found = Among-map f us y h in subst (Among (map f vs)) found.2 (Among-mapped f vs found.0 (to found.0 found.1))

-- ---- documents under their ids
pub some-same : {X : Type 0} (x y : X) → Some x ≡ Some y → x ≡ y
some-same x y h = ap (λ o. unwrap_or o x) h

pub at-found : (id : ℕ) (documents : List IndexedDocument) (d : IndexedDocument) → document_at id documents ≡ Some d → Among documents d × (d.id ≡ id)
at-found id [] d h = absurd (cc)
at-found id (x ∷ xs) d h = by (x.id == id) refl (at-found id xs d)
  where
    by : (b : Bool) → (x.id == id) ≡ b → (document_at id xs ≡ Some d → Among xs d × (d.id ≡ id)) → ((x ≡ d) ⊎ Among xs d) × (d.id ≡ id)
    by true e rest = let is = some-same x d (sym (cond-true _ _ _ e) ∙ h) in (inl is, ap (λ y. y.id) (sym is) ∙ eqb-true x.id id e)
    by false e rest = let later = rest (sym (cond-false _ _ _ e) ∙ h) in (inr later.0, later.1)

pub at-among : (documents : List IndexedDocument) (d : IndexedDocument) → AreApart documents → Among documents d → document_at d.id documents ≡ Some d
at-among [] d apart h = absurd h
at-among (x ∷ xs) d apart (inl same) = subst (λ (y : IndexedDocument). document_at y.id (x ∷ xs) ≡ Some y) same (cond-true _ _ _ (eq-eqb x.id x.id refl))
at-among (x ∷ xs) d apart (inr later) = by (x.id == d.id) refl (at-among xs d apart.1 later)
  where
    by : (b : Bool) → (x.id == d.id) ≡ b → document_at d.id xs ≡ Some d → cond (x.id == d.id) (Some x) (document_at d.id xs) ≡ Some d
    by true e rest = absurd (true≢false (sym (any-from (λ y. y.id == x.id) xs d later (eq-eqb d.id x.id (sym (eqb-true x.id d.id e)))) ∙ apart.0))
    by false e rest = cond-false _ _ _ e ∙ rest

pub have-same : (xs ys : List IndexedDocument) → AreApart xs → AreApart ys → AreTheSame xs ys → HaveSame xs ys
have-same xs ys apart others same = record {
  to = λ d h. (at-found d.id ys d (sym (same d.id) ∙ at-among xs d apart h)).0;
  from = λ d h. (at-found d.id xs d (same d.id ∙ at-among ys d others h)).0;
}

-- ---- as the parts of an index know them
apart-placed : (documents : List IndexedDocument) → AreApart documents → postings.AreApart (map placed documents)
apart-placed [] h = tt
apart-placed (x ∷ xs) h = (list_any-map (λ (d : Document). d.id == x.id) placed xs ∙ h.0, apart-placed xs h.1)

placed-apart : (documents : List IndexedDocument) → postings.AreApart (map placed documents) → AreApart documents
placed-apart [] h = tt
placed-apart (x ∷ xs) h = (sym (list_any-map (λ (d : Document). d.id == x.id) placed xs) ∙ h.0, placed-apart xs h.1)

apart-measured : (documents : List Document) → postings.AreApart documents → postings.AreApart (map measured documents)
apart-measured [] h = tt
apart-measured (x ∷ xs) h = (list_any-map (λ (d : Document). d.id == x.id) measured xs ∙ h.0, apart-measured xs h.1)

apart-keyed : (documents : List IndexedDocument) → AreApart documents → postings.AreApart (map keyed (map faceted documents))
apart-keyed [] h = tt
apart-keyed (x ∷ xs) h =
    (list_any-map (λ (d : Document). d.id == x.id) keyed (map faceted xs) ∙ list_any-map (λ (d : LeavesView). d.id == x.id) faceted xs ∙ h.0, apart-keyed xs h.1)

lists-same : (view : PostingsView) (xs ys : List Document) → HaveSame xs ys → postings.AreApart ys → fresh.StandsFor view xs → fresh.StandsFor view ys
lists-same view xs ys same apart stood = record {
  each = λ word entry. stood.each word entry ∙ any-same (λ d. stands_in word entry d.id d.places) xs ys same;
  narrow = all-same _ xs ys same stood.narrow;
  apart = apart;
}

-- an index stands for documents that are the same
pub stands-same : (index : RowIndexView) (xs ys : List IndexedDocument) → AreApart ys → AreTheSame xs ys → StandsFor index xs → StandsFor index ys
stands-same index xs ys others the_same stood =
    let same = have-same xs ys (placed-apart xs stood.places.apart) others the_same in
    let places = mapped-same placed xs ys same in
    let leaves = mapped-same faceted xs ys same in
    record {
      places = lists-same index.places (map placed xs) (map placed ys) places (apart-placed ys others) stood.places;
      lengths = record {
        keys = lists-same index.lengths _ _ (mapped-same measured (map placed xs) (map placed ys) places) (apart-measured (map placed ys) (apart-placed ys others)) stood.lengths.keys;
        narrow = all-same _ (map placed xs) (map placed ys) places stood.lengths.narrow;
      };
      facets = record {
        keys = lists-same index.facets _ _ (mapped-same keyed (map faceted xs) (map faceted ys) leaves) (apart-keyed ys others) stood.facets.keys;
        narrow = all-same IsNarrowDocument (map faceted xs) (map faceted ys) leaves stood.facets.narrow;
      };
      leaves = λ id. stood.leaves id
          ∙ ap (option_map (λ document. document.leaves)) (at_faceted id xs ∙ ap (option_map faceted) (the_same id) ∙ sym (at_faceted id ys));
      ids = λ id. stood.ids id ∙ any-same (λ d. d.id == id) xs ys same;
    }
