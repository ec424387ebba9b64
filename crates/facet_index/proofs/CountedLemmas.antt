-- The keys of the texts as which a document's values are counted.
use Rattle.std.proofs.Common.{◌≡◌, ℕ, Bool, true, false, not, ◌&&◌, ◌||◌, ◌==◌, cond, List, [], ◌∷◌, ◌++◌, refl, sym, ap, ap₂, ◌∙◌}
use Rattle.std.specs.BTreeSet.{BTreeSet, contains}
use Rattle.std.specs.List.{filter, list_any}
use Rattle.std.specs.Str.{bytes_eq}
use Rattle.std.specs.Ordering.{is_eq}
use Rattle.std.proofs.lemmas.Bool.{eqb-true}
use Rattle.std.proofs.lemmas.List.Folds.{list_any-append}
use Rattle.std.proofs.lemmas.Map.Text.{is_eq-slice_cmp}
use Rattle.search_base.specs.declared.document.Leaf.{Leaf}
use Rattle.search_base.specs.declared.document.MarkKind.{MarkKind}
use Rattle.search_base.specs.declared.value.FacetValue.{FacetValue}
use Rattle.search_base.specs.SortKeys.{leaves_under}
use Rattle.facet_counts.specs.Counts.{text_of, is_of, first_shown}
use Rattle.postings.specs.Dictionary.{word_cmp}
use Rattle.facet_keys.specs.Keys.{Facet, leaf, mark, counted, spelling, key_bytes, IsNarrow}
use Rattle.facet_keys.specs.Laws.{AreApart}
use Rattle.facet_index.specs.LeavesView.{LeavesView}
use Rattle.facet_index.specs.Ends.{end_facet}
use Rattle.facet_index.specs.Counted.{is_counted, has_text, is_spelled, if_other, new_counted, counted_from, counted_of, HasSeen}
use Rattle.facet_index.specs.Places.{IsNarrowDocument}
use Rattle.facet_index.proofs.TestLemmas.{both}
use Rattle.facet_index.proofs.KeyLemmas.{and_false, any_never, bytes_same, ends_none, facet_key, facet_test, facets_say, has_key, is_facet}

-- ---- a leaf

-- whether a facet under a path is the wanted one
abbrev is_wanted : ℕ → Facet → ℕ × Facet → Bool
is_wanted path f x = (x.0 == path) && is_facet f x.1

is_the : (path : ℕ) (text : List ℕ) (x : Leaf) → is_counted path text x ≡ true → (x.path.0 ≡ path) × (text_of x.value ≡ text)
is_the path text x h =
    let parts = both (x.path.0 == path) (is_of text x) h in
    (eqb-true x.path.0 path parts.0, bytes_same (text_of x.value) text parts.1)

new_text : (path : ℕ) (text : List ℕ) (before : List Leaf) (x : Leaf) → list_any (is_wanted path (counted text)) (new_counted before x)
    ≡ (not (has_text path text before) && is_counted path text x)
new_text path text before x = by (is_counted path text x) refl
  where
    other : (same : Bool) → list_any (is_wanted path (counted text)) (cond same [] ((x.path.0, spelling (text_of x.value) x.shown) ∷ [])) ≡ false
    other true = refl
    other false = ap (λ b. b || false) (and_false (x.path.0 == path))

    here : (old : Bool) → list_any (is_wanted path (counted text))
        (cond old [] ((x.path.0, counted (text_of x.value)) ∷ if_other x.path.0 (text_of x.value) x.shown)) ≡ (not old && is_counted path text x)
    here true = refl
    here false = ap (λ b. is_counted path text x || b) (other (bytes_eq x.shown (text_of x.value))) ∙ or_false (is_counted path text x)
      where
        or_false : (b : Bool) → (b || false) ≡ b
        or_false true = refl
        or_false false = refl

    by : (b : Bool) → b ≡ is_counted path text x → list_any (is_wanted path (counted text)) (new_counted before x)
        ≡ (not (has_text path text before) && is_counted path text x)
    by true s =
        let one = is_the path text x (sym s) in
        here (has_text x.path.0 (text_of x.value) before)
        ∙ ap₂ (λ (p : ℕ) (t : List ℕ). not (has_text p t before) && is_counted path text x) one.0 one.1
    by false s = here (has_text x.path.0 (text_of x.value) before)
        ∙ ap (λ b. not (has_text x.path.0 (text_of x.value) before) && b) (sym s) ∙ and_false (not (has_text x.path.0 (text_of x.value) before))
        ∙ sym (ap (λ b. not (has_text path text before) && b) (sym s) ∙ and_false (not (has_text path text before)))

new_spelling : (path : ℕ) (text shown : List ℕ) (before : List Leaf) (x : Leaf) → list_any (is_wanted path (spelling text shown)) (new_counted before x)
    ≡ (not (has_text path text before) && (is_counted path text x && (bytes_eq x.shown shown && not (bytes_eq shown text))))
new_spelling path text shown before x = by (is_counted path text x) refl
  where
    wanted : ℕ × Facet → Bool
    wanted = is_wanted path (spelling text shown)

    spelled : (p : ℕ) (t s : List ℕ) → list_any (is_wanted path (spelling text shown)) (if_other p t s)
        ≡ (((p == path) && bytes_eq t text) && (bytes_eq s shown && not (bytes_eq shown t)))
    spelled p t s = at (bytes_eq s t) (bytes_eq s shown) refl refl
      where
        none : (a b : Bool) → false ≡ ((a && b) && false)
        none a b = sym (and_false (a && b))

        some : (a b c : Bool) → ((a && (b && c)) || false) ≡ ((a && b) && (c && true))
        some true true true = refl
        some true true false = refl
        some true false c = refl
        some false b c = refl

        at : (same is : Bool) → same ≡ bytes_eq s t → is ≡ bytes_eq s shown
            → list_any (is_wanted path (spelling text shown)) (cond same [] ((p, spelling t s) ∷ []))
            ≡ (((p == path) && bytes_eq t text) && (bytes_eq s shown && not (bytes_eq shown t)))
        at true true e f = none (p == path) (bytes_eq t text)
            ∙ ap₂ (λ u v. ((p == path) && bytes_eq t text) && (u && not v)) f (e ∙ ap (λ w. bytes_eq w t) (bytes_same s shown (sym f)))
        at true false e f = none (p == path) (bytes_eq t text)
            ∙ ap (λ u. ((p == path) && bytes_eq t text) && (u && not (bytes_eq shown t))) f
        at false true e f = some (p == path) (bytes_eq t text) (bytes_eq s shown)
            ∙ ap (λ v. ((p == path) && bytes_eq t text) && (bytes_eq s shown && not v)) (e ∙ ap (λ w. bytes_eq w t) (bytes_same s shown (sym f)))
        at false false e f =
            ap (λ u. ((p == path) && (bytes_eq t text && u)) || false) (sym f) ∙ some (p == path) (bytes_eq t text) false
            ∙ ap (λ u. ((p == path) && bytes_eq t text) && (u && not (bytes_eq shown t))) f

    here : (old : Bool) → list_any (is_wanted path (spelling text shown))
        (cond old [] ((x.path.0, counted (text_of x.value)) ∷ if_other x.path.0 (text_of x.value) x.shown))
        ≡ (not old && (is_counted path text x && (bytes_eq x.shown shown && not (bytes_eq shown (text_of x.value)))))
    here true = refl
    here false = ap (λ b. b || list_any (is_wanted path (spelling text shown)) (if_other x.path.0 (text_of x.value) x.shown)) (and_false (x.path.0 == path))
        ∙ spelled x.path.0 (text_of x.value) x.shown

    by : (b : Bool) → b ≡ is_counted path text x → list_any (is_wanted path (spelling text shown)) (new_counted before x)
        ≡ (not (has_text path text before) && (is_counted path text x && (bytes_eq x.shown shown && not (bytes_eq shown text))))
    by true s =
        let one = is_the path text x (sym s) in
        here (has_text x.path.0 (text_of x.value) before)
        ∙ ap₂ (λ (p : ℕ) (t : List ℕ). not (has_text p t before) && (is_counted path text x && (bytes_eq x.shown shown && not (bytes_eq shown t)))) one.0 one.1
    by false s =
        here (has_text x.path.0 (text_of x.value) before)
        ∙ ap (λ b. not (has_text x.path.0 (text_of x.value) before) && (b && (bytes_eq x.shown shown && not (bytes_eq shown (text_of x.value))))) (sym s)
        ∙ and_false (not (has_text x.path.0 (text_of x.value) before))
        ∙ sym (ap (λ b. not (has_text path text before) && (b && (bytes_eq x.shown shown && not (bytes_eq shown text)))) (sym s)
        ∙ and_false (not (has_text path text before)))

-- ---- the leaves of a document

behind : (path : ℕ) (text : List ℕ) (before : List Leaf) (x : Leaf) → has_text path text (before ++ x ∷ [])
    ≡ (has_text path text before || (is_counted path text x || false))
behind path text before x = list_any-append (is_counted path text) before (x ∷ [])

text_says : (path : ℕ) (text : List ℕ) (before leaves : List Leaf) → list_any (is_wanted path (counted text)) (counted_from before leaves)
    ≡ (not (has_text path text before) && has_text path text leaves)
text_says path text before [] = sym (and_false (not (has_text path text before)))
text_says path text before (x ∷ xs) =
    list_any-append (is_wanted path (counted text)) (new_counted before x) (counted_from (before ++ x ∷ []) xs)
    ∙ ap₂ (λ a b. a || b) (new_text path text before x)
    (text_says path text (before ++ x ∷ []) xs ∙ ap (λ b. not b && has_text path text xs) (behind path text before x))
    ∙ by (has_text path text before) (is_counted path text x) (has_text path text xs)
  where
    by : (h b r : Bool) → ((not h && b) || (not (h || (b || false)) && r)) ≡ (not h && (b || r))
    by true b r = refl
    by false true r = refl
    by false false r = refl

first_here : (path : ℕ) (text : List ℕ) (x : Leaf) (xs : List Leaf) → first_shown (filter (is_of text) (leaves_under path (x ∷ xs)))
    ≡ cond (is_counted path text x) x.shown (first_shown (filter (is_of text) (leaves_under path xs)))
first_here path text x xs = by (x.path.0 == path) (is_of text x) refl
  where
    of : (b : Bool) → first_shown (cond b (x ∷ filter (is_of text) (leaves_under path xs)) (filter (is_of text) (leaves_under path xs)))
        ≡ cond b x.shown (first_shown (filter (is_of text) (leaves_under path xs)))
    of true = refl
    of false = refl

    by : (a b : Bool) → b ≡ is_of text x → first_shown (filter (is_of text) (cond a (x ∷ leaves_under path xs) (leaves_under path xs)))
        ≡ cond (a && is_of text x) x.shown (first_shown (filter (is_of text) (leaves_under path xs)))
    by true b s = of (is_of text x)
    by false b s = refl

spelling_says : (path : ℕ) (text shown : List ℕ) (before leaves : List Leaf)
    → list_any (is_wanted path (spelling text shown)) (counted_from before leaves)
    ≡ (not (has_text path text before) && is_spelled path text shown leaves)
spelling_says path text shown before [] = sym (and_false (not (has_text path text before)))
spelling_says path text shown before (x ∷ xs) =
    list_any-append (is_wanted path (spelling text shown)) (new_counted before x) (counted_from (before ++ x ∷ []) xs)
    ∙ ap₂ (λ a b. a || b) (new_spelling path text shown before x)
    (spelling_says path text shown (before ++ x ∷ []) xs ∙ ap (λ b. not b && is_spelled path text shown xs) (behind path text before x))
    ∙ by (has_text path text before) (is_counted path text x) (not (bytes_eq shown text))
    ∙ ap (λ s. not (has_text path text before) && ((is_counted path text x || has_text path text xs) && (bytes_eq s shown && not (bytes_eq shown text))))
    (sym (first_here path text x xs))
  where
    others : List ℕ
    others = first_shown (filter (is_of text) (leaves_under path xs))

    or_false : (b : Bool) → (b || false) ≡ b
    or_false true = refl
    or_false false = refl

    by : (h b o : Bool) → ((not h && (b && (bytes_eq x.shown shown && o)))
        || (not (h || (b || false)) && (has_text path text xs && (bytes_eq (first_shown (filter (is_of text) (leaves_under path xs))) shown && o))))
        ≡ (not h && ((b || has_text path text xs) && (bytes_eq (cond b x.shown (first_shown (filter (is_of text) (leaves_under path xs)))) shown && o)))
    by true b o = refl
    by false true o = or_false (bytes_eq x.shown shown && o)
    by false false o = refl

-- ---- keys

none_else : (f : Facet) → ((v : FacetValue) → is_facet f (leaf v) ≡ false) → ((kind : MarkKind) → is_facet f (mark kind) ≡ false)
    → ((up : Bool) (v : FacetValue) → is_facet f (end_facet up v) ≡ false) → AreApart → (path : ℕ) (document : LeavesView)
    → IsNarrow path f → IsNarrowDocument document
    → has_key (key_bytes path f) document ≡ list_any (is_wanted path f) (counted_of document.leaves)
none_else f no_leaf no_mark no_end apart path document asked narrow =
    facet_key apart path f document asked narrow ∙ facets_say (is_wanted path f) document
    ∙ ap₂ (λ a b. a || b) (any_never (λ x. (x.path.0 == path) && is_facet f (leaf x.value)) document.leaves
    (λ x. ap (λ b. (x.path.0 == path) && b) (no_leaf x.value) ∙ and_false (x.path.0 == path)))
    (ap₂ (λ a b. a || b) (any_never (λ x. (x.path.0 == path) && is_facet f (mark x.kind)) document.marks
    (λ x. ap (λ b. (x.path.0 == path) && b) (no_mark x.kind) ∙ and_false (x.path.0 == path)))
    (ap (λ a. a || list_any (is_wanted path f) (counted_of document.leaves)) (ends_none (is_wanted path f) document.leaves
    (λ up q v. ap (λ b. (q == path) && b) (no_end up v) ∙ and_false (q == path)))))

-- a document has the key of a text exactly where a leaf is counted as it
pub text_key : AreApart → (path : ℕ) (text : List ℕ) (document : LeavesView) → IsNarrow path (counted text) → IsNarrowDocument document
    → has_key (key_bytes path (counted text)) document ≡ has_text path text document.leaves
text_key apart path text document asked narrow =
    none_else (counted text) (λ v. refl) (λ kind. refl) no_end apart path document asked narrow ∙ text_says path text [] document.leaves
  where
    no_end : (up : Bool) (v : FacetValue) → is_facet (counted text) (end_facet up v) ≡ false
    no_end true v = refl
    no_end false v = refl

-- and that of a spelling where this is the first, and another than the text
pub spelled_key : AreApart → (path : ℕ) (text shown : List ℕ) (document : LeavesView) → IsNarrow path (spelling text shown) → IsNarrowDocument document
    → has_key (key_bytes path (spelling text shown)) document ≡ is_spelled path text shown document.leaves
spelled_key apart path text shown document asked narrow =
    none_else (spelling text shown) (λ v. refl) (λ kind. refl) no_end apart path document asked narrow
    ∙ spelling_says path text shown [] document.leaves
  where
    no_end : (up : Bool) (v : FacetValue) → is_facet (spelling text shown) (end_facet up v) ≡ false
    no_end true v = refl
    no_end false v = refl

-- ---- one leaf more

-- the keys that were seen, and one more
pub seen_more : AreApart → (old new : BTreeSet (List ℕ)) (key text : List ℕ) (x : Leaf) → text ≡ text_of x.value → key ≡ key_bytes x.path.0 (counted text)
    → IsNarrow x.path.0 (counted text)
    → ((q : List ℕ) → contains word_cmp new q ≡ cond (is_eq (word_cmp key q)) true (contains word_cmp old q))
    → (before : List Leaf) → HasSeen old before → HasSeen new (before ++ x ∷ [])
seen_more apart old new key text x of is narrow made before seen = λ path asked wanted.
    made (key_bytes path (counted asked))
    ∙ ap₂ (λ a b. cond a true b) (one path asked wanted) (seen path asked wanted)
    ∙ by (is_counted path asked x) (has_text path asked before) ∙ sym (behind path asked before x)
  where
    by : (b h : Bool) → cond b true h ≡ (h || (b || false))
    by true true = refl
    by true false = refl
    by false true = refl
    by false false = refl

    one : (path : ℕ) (asked : List ℕ) → IsNarrow path (counted asked) → is_eq (word_cmp key (key_bytes path (counted asked))) ≡ is_counted path asked x
    one path asked wanted =
        ap (λ k. is_eq (word_cmp k (key_bytes path (counted asked)))) is ∙ is_eq-slice_cmp (key_bytes x.path.0 (counted text)) (key_bytes path (counted asked))
        ∙ facet_test apart (x.path.0, counted text) path (counted asked) narrow wanted
        ∙ ap (λ t. (x.path.0 == path) && bytes_eq t asked) of

-- a test of leaves under a path
pub any_under : (p : Leaf → Bool) (path : ℕ) (leaves : List Leaf) → list_any (λ x. (x.path.0 == path) && p x) leaves ≡ list_any p (leaves_under path leaves)
any_under p path [] = refl
any_under p path (x ∷ xs) = by (x.path.0 == path) (any_under p path xs)
  where
    by : (b : Bool) → list_any (λ y. (y.path.0 == path) && p y) xs ≡ list_any p (leaves_under path xs)
        → ((b && p x) || list_any (λ y. (y.path.0 == path) && p y) xs) ≡ list_any p (cond b (x ∷ leaves_under path xs) (leaves_under path xs))
    by true later = ap (λ b. p x || b) later
    by false later = later
