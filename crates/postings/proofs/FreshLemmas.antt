-- Lists are those of the documents after a change.
use Rattle.std.proofs.Common.{◌≡◌, ℕ, ◌+◌, ◌*◌, ◌/◌, ◌^◌, ◌<◌, Bool, true, false, not, ◌&&◌, ◌||◌, ◌==◌, cond, List, [], ◌∷◌, ◌++◌, refl, sym, ap, ap₂, subst, ◌∙◌, arith}
use Rattle.std.specs.List.{AllByRecursion}
use Rattle.std.proofs.lemmas.Bool.{cond-true, cond-false, eqb-true, eq-eqb}
use Rattle.std.proofs.lemmas.List.Folds.{list_any-append}
use Rattle.search_base.specs.declared.document.Place.{Place}
use Rattle.postings.specs.Documents.{Document, is_place, stands_in, stands, AreNarrow, AllNarrow, has_id, AreApart, places_of, without, after, IsBatch}

-- the document of an entry
abbrev pub document_of : ℕ → ℕ
document_of entry = entry / 2 ^ 32

or_true : (b : Bool) → (b || true) ≡ true
or_true true = refl
or_true false = refl

clash : (b : Bool) → b ≡ true → b ≡ false → ⊥
clash true h k = cc
clash false h k = cc

not_true : (b : Bool) → (b ≡ true → ⊥) → b ≡ false
not_true true f = absurd (f refl)
not_true false f = refl

both : (a b : Bool) → (a && b) ≡ true → (a ≡ true) × (b ≡ true)
both true true h = (refl, refl)
both true false h = absurd (cc)
both false b h = absurd (cc)

either : {P : Type 0} (a b : Bool) → (a || b) ≡ true → (a ≡ true → P) → (b ≡ true → P) → P
either true b h f g = f refl
either false b h f g = g h

whole_of : (id path position : ℕ) → path < 2 ^ 16 → position < 2 ^ 16 → (id * 2 ^ 32 + path * 2 ^ 16 + position) / 2 ^ 32 ≡ id
whole_of id path position p q = omega arith

pub home_of : (word : List ℕ) (entry id : ℕ) (places : List Place) → AreNarrow places → stands_in word entry id places ≡ true → id ≡ document_of entry
home_of word entry id [] narrow h = absurd (cc)
home_of word entry id (place ∷ places) narrow h = either (is_place word entry id place) (stands_in word entry id places) h
    (λ here. sym (whole_of id place.path.0 place.position narrow.0.0 narrow.0.1) ∙ ap document_of (eqb-true _ _ (both _ _ here).1))
    (λ there. home_of word entry id places narrow.1 there)

-- what stands in some documents stands in one with the number of its entry
homes_of : (word : List ℕ) (entry : ℕ) (documents : List Document) → AllNarrow documents → stands word entry documents ≡ true → has_id (document_of entry) documents ≡ true
homes_of word entry [] narrow h = absurd (cc)
homes_of word entry (d ∷ ds) narrow h = either (stands_in word entry d.id d.places) (stands word entry ds) h
    (λ here. ap (λ b. b || has_id (document_of entry) ds) (eq-eqb d.id (document_of entry) (home_of word entry d.id d.places narrow.0 here)))
    (λ there. ap (λ b. d.id == document_of entry || b) (homes_of word entry ds narrow.1 there) ∙ or_true (d.id == document_of entry))

-- a document that stands among all, by its number
abbrev pub AreAmong : List Document → List Document → Type 0
AreAmong all documents = AllByRecursion (λ d. d.places ≡ places_of d.id all) documents

-- where a document goes, all its places go
goes_whole : (all gone : List Document) (word : List ℕ) (entry : ℕ) (d : Document) → AreAmong all gone → d.places ≡ places_of d.id all
    → has_id d.id gone ≡ true → stands_in word entry d.id d.places ≡ true → stands word entry gone ≡ true
goes_whole all [] word entry d among is has there = absurd (cc)
goes_whole all (g ∷ gs) word entry d among is has there = either (g.id == d.id) (has_id d.id gs) has
    (λ here.
    let same : g.id ≡ d.id = eqb-true _ _ here in
    let places : g.places ≡ d.places = among.0 ∙ ap (λ id. places_of id all) same ∙ sym is in
    ap (λ b. b || stands word entry gs) (ap₂ (λ id places. stands_in word entry id places) same places ∙ there))
    (λ later. ap (λ b. stands_in word entry g.id g.places || b) (goes_whole all gs word entry d among.1 is later there) ∙ or_true (stands_in word entry g.id g.places))

-- what is left: what stood and does not go
left_of_one : (s g rest : Bool) (gone : Bool) → (gone ≡ true → s ≡ true → g ≡ true) → (gone ≡ false → s ≡ true → g ≡ false)
    → cond (not gone) (s || (rest && not g)) (rest && not g) ≡ ((s || rest) && not g)
left_of_one true true true true f h = refl
left_of_one true true false true f h = refl
left_of_one true false rest true f h = absurd (clash _ (f refl refl) refl)
left_of_one true true rest false f h = absurd (clash _ refl (h refl refl))
left_of_one true false rest false f h = refl
left_of_one false g rest true f h = refl
left_of_one false g rest false f h = refl

stands_cond : (word : List ℕ) (entry : ℕ) (b : Bool) (xs ys : List Document) → stands word entry (cond b xs ys) ≡ cond b (stands word entry xs) (stands word entry ys)
stands_cond word entry true xs ys = refl
stands_cond word entry false xs ys = refl

stands_left : (all gone documents : List Document) (word : List ℕ) (entry : ℕ) → AreAmong all gone → AllNarrow gone → AreAmong all documents → AllNarrow documents
    → stands word entry (without gone documents) ≡ (stands word entry documents && not (stands word entry gone))
stands_left all gone [] word entry gone_among gone_narrow among narrow = refl
stands_left all gone (d ∷ ds) word entry gone_among gone_narrow among narrow =
    let s = stands_in word entry d.id d.places in
    let g = stands word entry gone in
    stands_cond word entry (not (has_id d.id gone)) (d ∷ without gone ds) (without gone ds)
    ∙ ap (λ b. cond (not (has_id d.id gone)) (s || b) b) (stands_left all gone ds word entry gone_among gone_narrow among.1 narrow.1)
    ∙ left_of_one s g (stands word entry ds) (has_id d.id gone)
    (λ goes there. goes_whole all gone word entry d gone_among among.0 goes there)
    (λ stays there. not_true g (λ same. clash _ (homes_of word entry gone gone_narrow same)
    (ap (λ id. has_id id gone) (sym (home_of word entry d.id d.places narrow.0 there)) ∙ stays)))

-- documents of different numbers are found by them
has_other : (id other : ℕ) (d : Document) (ds : List Document) → has_id id ds ≡ false → d.id ≡ other → has_id other ds ≡ true → (id == other) ≡ false
has_other id other d ds none is some = not_true (id == other) (λ same. clash _ (subst (λ n. has_id n ds ≡ true) (sym (eqb-true _ _ same)) some) none)

skip_first : (d : Document) (all documents : List Document) → ((x : ℕ) → has_id x documents ≡ true → has_id x all ≡ true) → has_id d.id all ≡ false
    → AreAmong all documents → AreAmong (d ∷ all) documents
skip_first d all [] inside none among = tt
skip_first d all (x ∷ xs) inside none among =
    let here : has_id x.id all ≡ true = inside x.id (ap (λ b. b || has_id x.id xs) (eq-eqb x.id x.id refl)) in (
      among.0 ∙ sym (cond-false (d.id == x.id) d.places (places_of x.id all) (has_other d.id x.id x all none refl here)),
      skip_first d all xs (λ q h. inside q (ap (λ b. x.id == q || b) h ∙ or_true (x.id == q))) none among.1,
    )

pub among_all : (documents : List Document) → AreApart documents → AreAmong documents documents
among_all [] apart = tt
among_all (d ∷ ds) apart =
    (sym (cond-true (d.id == d.id) d.places (places_of d.id ds) (eq-eqb d.id d.id refl)), skip_first d ds ds (λ x h. h) apart.0 (among_all ds apart.1))

narrow_place : (id : ℕ) (documents : List Document) → AllNarrow documents → AreNarrow (places_of id documents)
narrow_place id [] narrow = tt
narrow_place id (d ∷ ds) narrow = pick (d.id == id) (narrow_place id ds narrow.1)
  where
    pick : (b : Bool) → AreNarrow (places_of id ds) → AreNarrow (cond b d.places (places_of id ds))
    pick true rest = narrow.0
    pick false rest = rest

narrow_gone : (all gone : List Document) → AllNarrow all → AreAmong all gone → AllNarrow gone
narrow_gone all [] narrow among = tt
narrow_gone all (g ∷ gs) narrow among = (subst AreNarrow (sym among.0) (narrow_place g.id all narrow), narrow_gone all gs narrow among.1)

narrow_left : (gone documents : List Document) → AllNarrow documents → AllNarrow (without gone documents)
narrow_left gone [] narrow = tt
narrow_left gone (d ∷ ds) narrow = pick (not (has_id d.id gone)) (narrow_left gone ds narrow.1)
  where
    pick : (b : Bool) → AllNarrow (without gone ds) → AllNarrow (cond b (d ∷ without gone ds) (without gone ds))
    pick true rest = (narrow.0, rest)
    pick false rest = rest

narrow_both : (xs ys : List Document) → AllNarrow xs → AllNarrow ys → AllNarrow (xs ++ ys)
narrow_both [] ys h k = k
narrow_both (x ∷ xs) ys h k = (h.0, narrow_both xs ys h.1 k)

none_left : (id : ℕ) (gone documents : List Document) → has_id id documents ≡ false → has_id id (without gone documents) ≡ false
none_left id gone [] none = refl
none_left id gone (d ∷ ds) none = pick (not (has_id d.id gone)) (none_left id gone ds (tail (d.id == id) none))
  where
    tail : (b : Bool) → (b || has_id id ds) ≡ false → has_id id ds ≡ false
    tail true h = absurd (cc)
    tail false h = h

    head : (b : Bool) → (b || has_id id ds) ≡ false → b ≡ false
    head true h = absurd (cc)
    head false h = refl

    pick : (b : Bool) → has_id id (without gone ds) ≡ false → has_id id (cond b (d ∷ without gone ds) (without gone ds)) ≡ false
    pick true rest = ap (λ b. b || has_id id (without gone ds)) (head (d.id == id) none) ∙ rest
    pick false rest = rest

apart_left : (gone documents : List Document) → AreApart documents → AreApart (without gone documents)
apart_left gone [] apart = tt
apart_left gone (d ∷ ds) apart = pick (not (has_id d.id gone)) (apart_left gone ds apart.1)
  where
    pick : (b : Bool) → AreApart (without gone ds) → AreApart (cond b (d ∷ without gone ds) (without gone ds))
    pick true rest = (none_left d.id gone ds apart.0, rest)
    pick false rest = rest

apart_both : (xs ys : List Document) → AreApart xs → AreApart ys → AllByRecursion (λ d. has_id d.id ys ≡ false) xs → AreApart (xs ++ ys)
apart_both [] ys h k free = k
apart_both (x ∷ xs) ys h k free =
    (list_any-append (λ d. d.id == x.id) xs ys ∙ ap₂ (λ a b. a || b) h.0 free.0, apart_both xs ys h.1 k free.1)

pub stands_after : (gone come documents : List Document) (word : List ℕ) (entry : ℕ) → IsBatch gone come documents → AllNarrow documents → AreApart documents
    → stands word entry (after gone come documents) ≡ (stands word entry come || (stands word entry documents && not (stands word entry gone)))
stands_after gone come documents word entry batch narrow apart =
    list_any-append (λ d. stands_in word entry d.id d.places) come (without gone documents)
    ∙ ap (λ b. stands word entry come || b)
    (stands_left documents gone documents word entry batch.whole (narrow_gone documents gone narrow batch.whole) (among_all documents apart) narrow)

pub narrow_after : (gone come documents : List Document) → AllNarrow come → AllNarrow documents → AllNarrow (after gone come documents)
narrow_after gone come documents h k = narrow_both come (without gone documents) h (narrow_left gone documents k)

pub apart_after : (gone come documents : List Document) → IsBatch gone come documents → AreApart documents → AreApart (after gone come documents)
apart_after gone come documents batch apart = apart_both come (without gone documents) batch.once (apart_left gone documents apart) batch.free

-- what stands in the document of a number stands
stands_at : (word : List ℕ) (entry id : ℕ) (documents : List Document) → stands_in word entry id (places_of id documents) ≡ true → stands word entry documents ≡ true
stands_at word entry id [] h = absurd (cc)
stands_at word entry id (d ∷ ds) h = by (d.id == id) refl h (stands_at word entry id ds)
  where
    by : (b : Bool) → b ≡ (d.id == id) → stands_in word entry id (cond b d.places (places_of id ds)) ≡ true
        → (stands_in word entry id (places_of id ds) ≡ true → stands word entry ds ≡ true) → stands word entry (d ∷ ds) ≡ true
    by true same there later = ap (λ b. b || stands word entry ds) (ap (λ n. stands_in word entry n d.places) (eqb-true d.id id (sym same)) ∙ there)
    by false same there later = ap (λ b. stands_in word entry d.id d.places || b) (later there) ∙ or_true (stands_in word entry d.id d.places)

-- what goes stood
gone_stands : (all gone : List Document) (word : List ℕ) (entry : ℕ) → AreAmong all gone → stands word entry gone ≡ true → stands word entry all ≡ true
gone_stands all [] word entry among h = absurd (cc)
gone_stands all (g ∷ gs) word entry among h = either (stands_in word entry g.id g.places) (stands word entry gs) h
    (λ here. stands_at word entry g.id all (ap (stands_in word entry g.id) (sym among.0) ∙ here))
    (λ later. gone_stands all gs word entry among.1 later)

told_by : (come gone stood : Bool) → (gone ≡ true → stood ≡ true) → (((come && not gone) || stood) && not (gone && not come)) ≡ (come || (stood && not gone))
told_by true true stood h = ap (λ s. s && true) (h refl)
told_by true false stood h = refl
told_by false true true h = refl
told_by false true false h = refl
told_by false false true h = refl
told_by false false false h = refl

-- what is there after a commit, from what was named
pub told_after : (comes goes old : Bool) (gone come documents : List Document) (word : List ℕ) (entry : ℕ) → IsBatch gone come documents
    → comes ≡ (stands word entry come && not (stands word entry gone)) → goes ≡ (stands word entry gone && not (stands word entry come)) → old ≡ stands word entry documents
    → ((comes || old) && not goes) ≡ (stands word entry come || (stands word entry documents && not (stands word entry gone)))
told_after comes goes old gone come documents word entry batch a b c =
    ap₂ (λ x y. (x || old) && not y) a b
    ∙ ap (λ x. ((stands word entry come && not (stands word entry gone)) || x) && not (stands word entry gone && not (stands word entry come))) c
    ∙ told_by (stands word entry come) (stands word entry gone) (stands word entry documents) (gone_stands documents gone word entry batch.whole)
