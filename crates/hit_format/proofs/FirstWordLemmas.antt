-- The terms that may begin at a token are the prefix terms and those kept by its word.
use Rattle.std.proofs.Common.{◌≡◌, ◌∙◌, ℕ, ◌+◌, ◌<◌, ◌==◌, Bool, true, false, not, ◌&&◌, cond, max, List, [], ◌∷◌, ◌++◌, length, map, filter, Option, Some, None, Vec, Ordering, unwrap_or, refl, sym, ap, ap₂, subst, arith, append-nil, append_assoc, length-append}
use Rattle.std.specs.BTreeMap.{BTreeMap, get_by, UpdatesBy}
use Rattle.std.specs.Cmp.{eq_by_cmp_equiv}
use Rattle.std.specs.Cmp.Lexicographic.{slice_cmp, nat_list_cmp_total, nat_list_eq_equiv, texts_ties}
use Rattle.std.specs.List.{AllByRecursion, slice_get}
use Rattle.std.specs.Map.{lookup, IsKeyTest, AreApart, KeepsOthers}
use Rattle.std.specs.Option.{option_map_or}
use Rattle.std.specs.Ordering.{nat_cmp, is_eq}
use Rattle.std.specs.Prelude.{bytes_eq}
use Rattle.std.proofs.Math.Seq.{get_or-append_seam}
use Rattle.std.proofs.lemmas.Bool.{and_left, and_right}
use Rattle.std.proofs.lemmas.Slice.Eq.{bytes_eq-Decides}
use Rattle.search_base.specs.Occurrence.{is_asked}
use Rattle.search_base.specs.TermView.{TermView}
use Rattle.search_base.specs.declared.token.Token.{Token}
use Rattle.hit_format.specs.FirstWords.{is_first, is_prefix, begins_with, numbers_of, numbers_at, term_at, longest_at}
use Rattle.hit_format.specs.Runs.{goes_on, run_of, longest}

abbrev order : List ℕ → List ℕ → Ordering
order = slice_cmp nat_cmp

ties : (v w : List ℕ) → is_eq (order v w) ≡ bytes_eq v w
ties v w = sym (texts_ties v w)

other_entries : {K X : Type 0} (eq : K → K → Bool) (test : K → Bool) (old new : List (K × X)) → KeepsOthers eq test old new
    → (other : K → Bool) → IsKeyTest eq other → AreApart test other → lookup other new ≡ lookup other old
unfolding KeepsOthers
other_entries eq test old new h = h

-- a key that is the word is no other word
apart : (word other key : List ℕ) → bytes_eq word other ≡ false → is_eq (order word key) ≡ true → is_eq (order other key) ≡ false
apart word other key differ is =
    ties other key ∙ nat_list_eq_equiv.symm other key ∙ sym (nat_list_eq_equiv.congr word key other (sym (ties word key) ∙ is)) ∙ differ

items_of_default : {B : Type 0} (found : Option (Vec ℕ B)) (empty : Vec ℕ B) → empty.items ≡ []
    → (unwrap_or found empty).items ≡ option_map_or (λ (list : Vec ℕ B). list.items) found []
items_of_default None empty none = none
items_of_default (Some list) empty none = refl

module _ {B : Type 0} where
  -- what a change at a word leaves at another
  kept : (word other : List ℕ) (old new : BTreeMap (List ℕ) (Vec ℕ B)) (w : Option (Vec ℕ B))
      → UpdatesBy order (order word) old new w → bytes_eq word other ≡ false → numbers_at new other ≡ numbers_at old other
  kept word other old new w updates differ =
      ap (λ found. option_map_or (λ (list : Vec ℕ B). list.items) found [])
      (other_entries _ _ _ _ updates.3 (λ key. is_eq (order other key))
      (λ x y. (eq_by_cmp_equiv nat_list_cmp_total).congr other x y) (λ key. apart word other key differ))

  -- the number is put behind those of its word, and the other words keep theirs
  pub added : (old removed new : BTreeMap (List ℕ) (Vec ℕ B)) (first key : List ℕ) (number : ℕ) (list longer empty : Vec ℕ B)
      → UpdatesBy order (order first) old removed None → list ≡ unwrap_or (get_by (order first) old) empty → empty.items ≡ []
      → longer.items ≡ list.items ++ number ∷ [] → key ≡ first → UpdatesBy order (order key) removed new (Some longer)
      → (word : List ℕ) → numbers_at new word ≡ numbers_at old word ++ cond (bytes_eq first word) (number ∷ []) []
  added old removed new first key number list longer empty taken list_is none longer_is key_is puts word = go (bytes_eq first word) refl
    where
      items : Option (Vec ℕ B) → List ℕ
      items found = option_map_or (λ (v : Vec ℕ B). v.items) found []

      put : UpdatesBy order (order first) removed new (Some longer)
      put = subst (λ (k : List ℕ). UpdatesBy order (order k) removed new (Some longer)) key_is puts

      here : numbers_at new first ≡ numbers_at old first ++ number ∷ []
      here =
          ap items put.1 ∙ longer_is
          ∙ ap (λ (ns : List ℕ). ns ++ number ∷ [])
          (ap (λ (v : Vec ℕ B). v.items) list_is ∙ items_of_default (get_by (order first) old) empty none)

      go : (b : Bool) → bytes_eq first word ≡ b → numbers_at new word ≡ numbers_at old word ++ cond b (number ∷ []) []
      go true e = subst (λ (q : List ℕ). numbers_at new q ≡ numbers_at old q ++ number ∷ []) ((bytes_eq-Decides first word).0 e) here
      go false e = kept first word removed new (Some longer) put e ∙ kept first word old removed None taken e ∙ sym (append-nil (numbers_at old word))

-- ---- the terms with the numbers of those that are picked

one_term : (picks : TermView → Bool) (term : TermView) (rest all : List TermView) (n : ℕ) → n < length all → term_at all n ≡ term
    → AllByRecursion (λ k. k < length all) (numbers_of picks (n + 1) rest) × (map (term_at all) (numbers_of picks (n + 1) rest) ≡ filter picks rest)
    → AllByRecursion (λ k. k < length all) (numbers_of picks n (term ∷ rest)) × (map (term_at all) (numbers_of picks n (term ∷ rest)) ≡ filter picks (term ∷ rest))
one_term picks term rest all n within here later = by (picks term)
  where
    by : (b : Bool)
        → AllByRecursion (λ k. k < length all) (cond b (n ∷ numbers_of picks (n + 1) rest) (numbers_of picks (n + 1) rest))
        × (map (term_at all) (cond b (n ∷ numbers_of picks (n + 1) rest) (numbers_of picks (n + 1) rest)) ≡ cond b (term ∷ filter picks rest) (filter picks rest))
    by true = ((within, later.0), let rest_is = later.1 in cc)
    by false = later

terms_read : (picks : TermView → Bool) (front rest all : List TermView) → front ++ rest ≡ all → (n : ℕ) → length front ≡ n
    → AllByRecursion (λ k. k < length all) (numbers_of picks n rest) × (map (term_at all) (numbers_of picks n rest) ≡ filter picks rest)
terms_read picks front [] all e n count = (tt, refl)
terms_read picks front (term ∷ rest) all e n count =
    one_term picks term rest all n (omega (arith, sym (length-append front (term ∷ rest)) ∙ ap length e, count))
    (subst (λ (terms : List TermView). term_at terms n ≡ term) e
    (subst (λ (k : ℕ). term_at (front ++ term ∷ rest) k ≡ term) count (get_or-append_seam front term rest _)))
    (terms_read picks (front ++ term ∷ []) rest all (append_assoc front (term ∷ []) rest ∙ e) (n + 1) (omega (arith, length-append front (term ∷ []), count)))

pub numbers-within : (picks : TermView → Bool) (terms : List TermView) (numbers : List ℕ) → numbers ≡ numbers_of picks 0 terms
    → AllByRecursion (λ k. k < length terms) numbers
numbers-within picks terms numbers is = subst (AllByRecursion (λ k. k < length terms)) (sym is) (terms_read picks [] terms terms refl 0 refl).0

longest_at-is : (tokens : List Token) (picks : TermView → Bool) (terms : List TermView) (numbers : List ℕ) → numbers ≡ numbers_of picks 0 terms
    → longest_at tokens terms numbers ≡ longest tokens (filter picks terms)
longest_at-is tokens picks terms numbers is =
    ap (λ ns. longest tokens (map (term_at terms) ns)) is ∙ ap (longest tokens) (terms_read picks [] terms terms refl 0 refl).1

-- ---- no other term has a run there

none_there : (t : Token) (ts : List Token) (prefix : Bool) (words : List (List ℕ)) → prefix ≡ false → is_first t.word words ≡ false
    → cond (goes_on prefix t.position words (t ∷ ts)) (length words) 0 ≡ 0
none_there t ts prefix [] whole other = refl
none_there t ts true (w ∷ words) whole other = absurd (let e : true ≡ false = whole in cc)
none_there t ts false (w ∷ words) whole other =
    ap (λ goes. cond goes (length (w ∷ words)) 0)
    (and_left ((t.position == t.position) && is_asked false w t.word) (goes_on false (t.position + 1) words ts)
    (and_right (t.position == t.position) (is_asked false w t.word) (nat_list_eq_equiv.symm t.word w ∙ other)))

to_first : (r l b p : ℕ) → l ≡ max b p → max r l ≡ max (max r b) p
to_first r l b p h = omega (arith, h)

to_second : (r l b p : ℕ) → l ≡ max b p → max r l ≡ max b (max r p)
to_second r l b p h = omega (arith, h)

to_none : (r l b p : ℕ) → r ≡ 0 → l ≡ max b p → max r l ≡ max b p
to_none r l b p z h = omega (arith, z, h)

one_more : (t : Token) (ts : List Token) (term : TermView) (terms : List TermView)
    → longest (t ∷ ts) terms ≡ max (longest (t ∷ ts) (filter (begins_with t.word) terms)) (longest (t ∷ ts) (filter is_prefix terms))
    → longest (t ∷ ts) (term ∷ terms) ≡ max (longest (t ∷ ts) (filter (begins_with t.word) (term ∷ terms))) (longest (t ∷ ts) (filter is_prefix (term ∷ terms)))
one_more t ts term terms later = by (is_prefix term) (is_first t.word term.words) refl refl
  where
    all : List Token
    all = t ∷ ts

    begun : List TermView
    begun = filter (begins_with t.word) terms

    prefixes : List TermView
    prefixes = filter is_prefix terms

    by : (p f : Bool) → is_prefix term ≡ p → is_first t.word term.words ≡ f
        → max (run_of all term) (longest all terms) ≡ max (longest all (cond (not p && f) (term ∷ begun) begun)) (longest all (cond p (term ∷ prefixes) prefixes))
    by true f prefix first = to_second (run_of all term) (longest all terms) (longest all begun) (longest all prefixes) later
    by false true prefix first = to_first (run_of all term) (longest all terms) (longest all begun) (longest all prefixes) later
    by false false prefix first =
        to_none (run_of all term) (longest all terms) (longest all begun) (longest all prefixes) (none_there t ts term.prefix term.words prefix first) later

longest-parts : (t : Token) (ts : List Token) (terms : List TermView)
    → longest (t ∷ ts) terms ≡ max (longest (t ∷ ts) (filter (begins_with t.word) terms)) (longest (t ∷ ts) (filter is_prefix terms))
longest-parts t ts [] = refl
longest-parts t ts (term ∷ terms) = one_more t ts term terms (longest-parts t ts terms)

-- one of the terms that begin with the first token's word, or of the prefix terms, has the longest run
pub longest-kept : (tokens : List Token) (first : Token) → Some first ≡ slice_get tokens 0 → (terms : List TermView) (numbers prefixes : List ℕ)
    → numbers ≡ numbers_of (begins_with first.word) 0 terms → prefixes ≡ numbers_of is_prefix 0 terms
    → max (longest_at tokens terms numbers) (longest_at tokens terms prefixes) ≡ longest tokens terms
longest-kept [] first is terms numbers prefixes by_word by_prefix = absurd (let e : Some first ≡ None = is in cc)
longest-kept (t ∷ ts) first is terms numbers prefixes by_word by_prefix =
    let same : first ≡ t = let e : Some first ≡ Some t = is in cc in
    ap₂ max
    (longest_at-is (t ∷ ts) (begins_with t.word) terms numbers (by_word ∙ ap (λ (token : Token). numbers_of (begins_with token.word) 0 terms) same))
    (longest_at-is (t ∷ ts) is_prefix terms prefixes by_prefix)
    ∙ sym (longest-parts t ts terms)

no_run : (terms : List TermView) → 0 ≡ longest [] terms
no_run [] = refl
no_run (term ∷ terms) = let h = no_run terms in omega (arith, h)

pub longest-none : (tokens : List Token) (terms : List TermView) → None ≡ slice_get tokens 0 → 0 ≡ longest tokens terms
longest-none [] terms is = no_run terms
longest-none (t ∷ ts) terms is = absurd (let e : None ≡ Some t = is in cc)
