-- What a map of numbers by key has once a number is put in, and which rows have these numbers.
use Rattle.std.proofs.Common.{◌≡◌, ◌∙◌, ℕ, ◌+◌, ◌<◌, Bool, true, false, cond, List, [], ◌∷◌, ◌++◌, length, map, filter, get_or, Option, Some, None, Vec, Ordering, unwrap_or, refl, sym, ap, subst, arith, append-nil, append_assoc, length-append}
use Rattle.std.specs.BTreeMap.{BTreeMap, get_by, UpdatesBy}
use Rattle.std.specs.Cmp.{eq_by_cmp_equiv}
use Rattle.std.specs.Cmp.Lexicographic.{pointwise, slice_cmp, lists_total, lists_equiv, lists_ties, nat_list_cmp_total, nat_list_eq_equiv, texts_ties}
use Rattle.std.specs.List.{AllByRecursion}
use Rattle.std.specs.Map.{lookup, IsKeyTest, AreApart, KeepsOthers}
use Rattle.std.specs.Option.{option_map_or}
use Rattle.std.specs.Ordering.{nat_cmp, is_eq}
use Rattle.std.specs.Prelude.{bytes_eq}
use Rattle.std.proofs.Math.Seq.{get_or-append_seam}
use Rattle.std.proofs.lemmas.Slice.Eq.{bytes_eq-Decides, slice_eq-Decides}
use Rattle.search_base.specs.TermView.{TermView}
use Rattle.synonym_terms.specs.SynonymRowView.{SynonymRowView}
use Rattle.synonym_terms.specs.Synonyms.{is_keyed, term_of, terms_for}
use Rattle.synonym_terms.specs.Keyed.{numbers_at, numbers_of}

abbrev order : List (List ℕ) → List (List ℕ) → Ordering
order = slice_cmp (slice_cmp nat_cmp)

abbrev same : List (List ℕ) → List (List ℕ) → Bool
same = pointwise bytes_eq

ties : (v w : List (List ℕ)) → is_eq (order v w) ≡ same v w
ties v w = sym (lists_ties (slice_cmp nat_cmp) texts_ties v w)

other_entries : {K X : Type 0} (eq : K → K → Bool) (test : K → Bool) (old new : List (K × X)) → KeepsOthers eq test old new
    → (other : K → Bool) → IsKeyTest eq other → AreApart test other → lookup other new ≡ lookup other old
unfolding KeepsOthers
other_entries eq test old new h = h

-- a key that is the words is none of other words
apart : (words other key : List (List ℕ)) → same words other ≡ false → is_eq (order words key) ≡ true → is_eq (order other key) ≡ false
apart words other key differ is =
    let laws = lists_equiv nat_list_eq_equiv in
    ties other key ∙ laws.symm other key ∙ sym (laws.congr words key other (sym (ties words key) ∙ is)) ∙ differ

items_of_default : {B : Type 0} (found : Option (Vec ℕ B)) (empty : Vec ℕ B) → empty.items ≡ []
    → (unwrap_or found empty).items ≡ option_map_or (λ (list : Vec ℕ B). list.items) found []
items_of_default None empty none = none
items_of_default (Some list) empty none = refl

module _ {A B : Type 0} where
  -- what a change at some words leaves at others
  kept : (words other : List (List ℕ)) (old new : BTreeMap (Vec (List ℕ) A) (Vec ℕ B)) (w : Option (Vec ℕ B))
      → UpdatesBy (λ x y. order x.items y.items) (λ key. order words key.items) old new w → same words other ≡ false → numbers_at new other ≡ numbers_at old other
  kept words other old new w updates differ =
      ap (λ found. option_map_or (λ (list : Vec ℕ B). list.items) found [])
      (other_entries _ _ _ _ updates.3 (λ key. is_eq (order other key.items))
      (λ x y. (eq_by_cmp_equiv (lists_total nat_list_cmp_total)).congr other x.items y.items) (λ key. apart words other key.items differ))

  -- the number is put behind those of its key, and the other keys keep theirs
  pub added : (old removed new : BTreeMap (Vec (List ℕ) A) (Vec ℕ B)) (row : SynonymRowView) (number : ℕ) (asked : List (List ℕ)) (key : Vec (List ℕ) A) (list longer empty : Vec ℕ B)
      → asked ≡ row.key → UpdatesBy (λ x y. order x.items y.items) (λ k. order asked k.items) old removed None
      → list ≡ unwrap_or (get_by (λ k. order asked k.items) old) empty → empty.items ≡ [] → longer.items ≡ list.items ++ number ∷ [] → key.items ≡ row.key
      → UpdatesBy (λ x y. order x.items y.items) (λ k. order key.items k.items) removed new (Some longer)
      → (words : List (List ℕ)) → numbers_at new words ≡ numbers_at old words ++ cond (is_keyed words row) (number ∷ []) []
  added old removed new row number asked key list longer empty asked_is takes list_is none longer_is key_is puts words = go (same words row.key) refl
    where
      items : Option (Vec ℕ B) → List ℕ
      items found = option_map_or (λ (v : Vec ℕ B). v.items) found []

      put : UpdatesBy (λ x y. order x.items y.items) (λ k. order row.key k.items) removed new (Some longer)
      put = subst (λ (k : List (List ℕ)). UpdatesBy (λ x y. order x.items y.items) (λ y. order k y.items) removed new (Some longer)) key_is puts

      taken : UpdatesBy (λ x y. order x.items y.items) (λ k. order row.key k.items) old removed None
      taken = subst (λ (k : List (List ℕ)). UpdatesBy (λ x y. order x.items y.items) (λ y. order k y.items) old removed None) asked_is takes

      list_was : list ≡ unwrap_or (get_by (λ k. order row.key k.items) old) empty
      list_was = subst (λ (k : List (List ℕ)). list ≡ unwrap_or (get_by (λ y. order k y.items) old) empty) asked_is list_is

      here : numbers_at new row.key ≡ numbers_at old row.key ++ number ∷ []
      here =
          ap items put.1 ∙ longer_is
          ∙ ap (λ (ns : List ℕ). ns ++ number ∷ [])
          (ap (λ (v : Vec ℕ B). v.items) list_was ∙ items_of_default (get_by (λ k. order row.key k.items) old) empty none)

      there : same row.key words ≡ false → numbers_at new words ≡ numbers_at old words
      there differ = kept row.key words removed new (Some longer) put differ ∙ kept row.key words old removed None taken differ

      go : (b : Bool) → same words row.key ≡ b → numbers_at new words ≡ numbers_at old words ++ cond b (number ∷ []) []
      go true e =
          subst (λ (q : List (List ℕ)). numbers_at new q ≡ numbers_at old q ++ number ∷ []) (sym ((slice_eq-Decides bytes_eq-Decides words row.key _ refl).0 e)) here
      go false e = there ((lists_equiv nat_list_eq_equiv).symm row.key words ∙ e) ∙ sym (append-nil (numbers_at old words))

-- ---- the rows with the numbers of a key

abbrev pub row_at : List SynonymRowView → ℕ → TermView
row_at rows n = term_of (get_or rows n (record { key = []; term = [] }))

one_row : (words : List (List ℕ)) (row : SynonymRowView) (rest all : List SynonymRowView) (n : ℕ) → n < length all → row_at all n ≡ term_of row
    → AllByRecursion (λ k. k < length all) (numbers_of words (n + 1) rest) × (map (row_at all) (numbers_of words (n + 1) rest) ≡ terms_for rest words)
    → AllByRecursion (λ k. k < length all) (numbers_of words n (row ∷ rest)) × (map (row_at all) (numbers_of words n (row ∷ rest)) ≡ terms_for (row ∷ rest) words)
one_row words row rest all n within here later = by (is_keyed words row)
  where
    by : (b : Bool)
        → AllByRecursion (λ k. k < length all) (cond b (n ∷ numbers_of words (n + 1) rest) (numbers_of words (n + 1) rest))
        × (map (row_at all) (cond b (n ∷ numbers_of words (n + 1) rest) (numbers_of words (n + 1) rest)) ≡ map term_of (cond b (row ∷ filter (is_keyed words) rest) (filter (is_keyed words) rest)))
    by true = ((within, later.0), let rest_is = later.1 in cc)
    by false = later

numbers_read : (words : List (List ℕ)) (front rest all : List SynonymRowView) → front ++ rest ≡ all → (n : ℕ) → length front ≡ n
    → AllByRecursion (λ k. k < length all) (numbers_of words n rest) × (map (row_at all) (numbers_of words n rest) ≡ terms_for rest words)
numbers_read words front [] all e n count = (tt, refl)
numbers_read words front (row ∷ rest) all e n count =
    one_row words row rest all n (omega (arith, sym (length-append front (row ∷ rest)) ∙ ap length e, count))
    (subst (λ (rows : List SynonymRowView). row_at rows n ≡ term_of row) e
    (subst (λ (k : ℕ). row_at (front ++ row ∷ rest) k ≡ term_of row) count (ap term_of (get_or-append_seam front row rest _))))
    (numbers_read words (front ++ row ∷ []) rest all (append_assoc front (row ∷ []) rest ∙ e) (n + 1) (omega (arith, length-append front (row ∷ []), count)))

pub rows_read : (rows : List SynonymRowView) (words : List (List ℕ)) (numbers : List ℕ) → numbers ≡ numbers_of words 0 rows
    → AllByRecursion (λ k. k < length rows) numbers × (map (row_at rows) numbers ≡ terms_for rows words)
rows_read rows words numbers is =
    subst (λ (ns : List ℕ). AllByRecursion (λ k. k < length rows) ns × (map (row_at rows) ns ≡ terms_for rows words)) (sym is) (numbers_read words [] rows rows refl 0 refl)
