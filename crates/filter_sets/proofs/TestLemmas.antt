-- What the facet facets answers is what tests ask of rows.
use Rattle.std.proofs.Common.{◌≡◌, ℕ, ℤ, ◌≤◌, Bool, true, false, not, ◌&&◌, ◌||◌, ◌==◌, cond, int_lt, List, [], ◌∷◌, ◌++◌, drop, length, Option, Some, None, Result, Ok, Err, refl, sym, ap, ap₂, subst, ◌∙◌}
use Rattle.std.specs.List.{filter, list_any, AllByRecursion}
use Rattle.std.specs.Option.{IfSome}
use Rattle.std.specs.Result.{IfOk}
use Rattle.std.specs.Str.{bytes_eq}
use Rattle.std.specs.Ordering.{is_eq}
use Rattle.std.specs.BTreeSet.{BTreeSet, contains}
use Rattle.std.proofs.lemmas.Map.Text.{is_eq-slice_cmp}
use Rattle.std.specs.Int.{w128}
use Rattle.std.specs.Int.RustNames.{FitsSigned}
use Rattle.search_base.specs.declared.document.Leaf.{Leaf}
use Rattle.search_base.specs.declared.document.Mark.{Mark}
use Rattle.search_base.specs.declared.document.MarkKind.{MarkKind}
use Rattle.search_base.specs.declared.document.MarkKind.TheVariants.{Exists, Null, Empty}
use Rattle.search_base.specs.declared.value.FacetValue.{FacetValue}
use Rattle.search_base.specs.declared.value.FacetValue.TheVariants as facet
use Rattle.search_base.specs.RowsView.{RowsView}
use Rattle.search_base.specs.SortKeys.{leaves_under}
use Rattle.token_words.specs.Normal.{normal}
use Rattle.filter_tree.specs.Number.{number_of}
use Rattle.row_filter.specs.Holds as row
use Rattle.row_filter.specs.Holds.{is_equal, some_value, some_number, marks_under}
use Rattle.doc_sets.specs.Sets.{has, union}
use Rattle.doc_sets.specs.SetView.{SetView}
use Rattle.doc_sets.specs.Membership.{AreByMembers}
use Rattle.postings.specs.Dictionary.{word_cmp}
use Rattle.facet_keys.specs.Keys.{leaf, IsNarrowValue, IsNarrow}
use Rattle.facet_index.specs.LeavesView.{LeavesView}
use Rattle.facet_index.specs.Documents.{is_same, is_kind, is_number_that, is_between, has_value, has_mark, has_number_that, passes_at}
use Rattle.facet_index.specs.Batches.{document_at}
use Rattle.facet_index.specs.Counted.{counted_of}
use Rattle.facet_index.specs.Ends.{ends_of}
use Rattle.facet_index.specs.Places.{leaf_facets, mark_facets, IsNarrowDocument, IsIndexOf}
use Rattle.facet_index.proofs.TestLemmas.{any_same, any_where, filter_same}
use Rattle.facet_index.proofs.KeyLemmas.{and_false, bytes_same, bytes_itself}
use Rattle.facet_index.proofs.RangeLemmas.{leaves_narrow, first_part}
use Rattle.facet_index.proofs.SortDocLemmas.{if_passes, passes_is, documents_apart}
use Rattle.facet_index.specs.LeavesView.{leaves_of}
use Rattle.leaf_table.specs.Tables.{kept_at}
use Rattle.leaf_table.specs.Numbers.{has_between}
use Rattle.leaf_table.proofs.TableLemmas.{leaves_kept}
use Rattle.filter_sets.specs.declared.source.Facets.{Facets}
use Rattle.filter_sets.specs.Selects.{marks_of, Selects, AreBetween}
use Rattle.filter_sets.proofs.JoinLemmas.{filter_none}
use Rattle.filter_sets.proofs.SweepLemmas.{AddsAny, AreFound, still_found, any_selected}

-- ---- documents and rows

-- a document that is there is narrow
abbrev IsNarrowAt : Option LeavesView → Type 0
IsNarrowAt None = Unit {0}
IsNarrowAt (Some x) = IsNarrowDocument x

narrow_at : (d : ℕ) (documents : List LeavesView) → AllByRecursion IsNarrowDocument documents → IsNarrowAt (document_at d documents)
narrow_at d [] all = tt
narrow_at d (x ∷ xs) all = by (x.id == d) (narrow_at d xs all.1)
  where
    by : (b : Bool) → IsNarrowAt (document_at d xs) → IsNarrowAt (cond b (Some x) (document_at d xs))
    by true later = all.0
    by false later = later

-- a test of documents is one of their rows
pub selects_of : (facets : Facets) (f : LeavesView → Bool) (g : RowsView → Bool) (ids docs : List ℕ)
    → ((x : LeavesView) (rows : RowsView) → IsNarrowDocument x → rows.leaves ≡ x.leaves → rows.marks ≡ x.marks → f x ≡ g rows)
    → ((rows : RowsView) → rows.leaves ≡ [] → rows.marks ≡ [] → false ≡ g rows)
    → ((documents : List LeavesView) → IsIndexOf facets.index.now documents → docs ≡ filter (passes_at f documents) ids) → Selects facets g ids docs
selects_of facets f g ids docs says nothing answer = λ documents rows of are.
    answer documents of.index ∙ filter_same (passes_at f documents) (λ d. g (rows d)) ids
    (λ d. passes_is f d documents (documents_apart documents of.index.keys.apart) ∙ one (document_at d documents) (narrow_at d documents of.index.narrow) (rows d) (are.leaves d) (are.marks d))
  where
    one : (o : Option LeavesView) → IsNarrowAt o → (rows : RowsView) → rows.leaves ≡ leaves_of o → rows.marks ≡ marks_of o → if_passes f o ≡ g rows
    one None narrow rows leaves marks = nothing rows leaves marks
    one (Some x) narrow rows leaves marks = says x rows narrow leaves marks

-- tests that say one of the same rows
pub selects_same : (facets : Facets) (g h : RowsView → Bool) (ids docs : List ℕ) → ((rows : RowsView) → g rows ≡ h rows) → Selects facets g ids docs → Selects facets h ids docs
selects_same facets g h ids docs same selects = λ documents rows of are. selects documents rows of are ∙ filter_same _ _ ids (λ d. same (rows d))

any_under : (p : Leaf → Bool) (path : ℕ) (leaves : List Leaf) → list_any (λ x. (x.path.0 == path) && p x) leaves ≡ list_any p (leaves_under path leaves)
any_under p path [] = refl
any_under p path (x ∷ xs) = by (x.path.0 == path) (any_under p path xs)
  where
    by : (b : Bool) → list_any (λ y. (y.path.0 == path) && p y) xs ≡ list_any p (leaves_under path xs)
        → ((b && p x) || list_any (λ y. (y.path.0 == path) && p y) xs) ≡ list_any p (cond b (x ∷ leaves_under path xs) (leaves_under path xs))
    by true later = ap (λ b. p x || b) later
    by false later = later

any_marked : (p : Mark → Bool) (path : ℕ) (marks : List Mark) → list_any (λ x. (x.path.0 == path) && p x) marks ≡ list_any p (marks_under path marks)
any_marked p path [] = refl
any_marked p path (x ∷ xs) = by (x.path.0 == path) (any_marked p path xs)
  where
    by : (b : Bool) → list_any (λ y. (y.path.0 == path) && p y) xs ≡ list_any p (marks_under path xs)
        → ((b && p x) || list_any (λ y. (y.path.0 == path) && p y) xs) ≡ list_any p (cond b (x ∷ marks_under path xs) (marks_under path xs))
    by true later = ap (λ b. p x || b) later
    by false later = later

-- ---- one test

pub value_selects : (facets : Facets) (path : ℕ) (v : FacetValue) (ids docs : List ℕ)
    → ((documents : List LeavesView) → IsIndexOf facets.index.now documents → docs ≡ filter (passes_at (has_value v path) documents) ids)
    → Selects facets (λ rows. some_value (is_same v) (leaves_under path rows.leaves)) ids docs
value_selects facets path v ids docs = selects_of facets (has_value v path) (λ rows. some_value (is_same v) (leaves_under path rows.leaves)) ids docs
    (λ x rows narrow leaves marks. any_under (λ y. is_same v y.value) path x.leaves ∙ ap (λ ls. some_value (is_same v) (leaves_under path ls)) (sym leaves))
    (λ rows leaves marks. ap (λ ls. some_value (is_same v) (leaves_under path ls)) (sym leaves))

numbers_same : (passes wanted : ℤ → Bool) → ((n : ℤ) → FitsSigned w128 n → passes n ≡ wanted n) → (path : ℕ) (leaves : List Leaf)
    → AllByRecursion (λ x. IsNarrow x.path.0 (leaf x.value)) leaves
    → list_any (λ x. (x.path.0 == path) && is_number_that passes x.value) leaves ≡ list_any (λ x. (x.path.0 == path) && row.is_number_that wanted x.value) leaves
numbers_same passes wanted says path leaves all = any_where (λ x. IsNarrow x.path.0 (leaf x.value)) _ _ leaves all
    (λ x narrow. ap (λ b. (x.path.0 == path) && b) (one x.value narrow.1))
  where
    one : (v : FacetValue) → IsNarrowValue v → is_number_that passes v ≡ row.is_number_that wanted v
    one (facet.Number n) h = says n h
    one (facet.Text t) h = refl

pub number_selects : (facets : Facets) (path : ℕ) (passes wanted : ℤ → Bool) (ids docs : List ℕ) → ((n : ℤ) → FitsSigned w128 n → passes n ≡ wanted n)
    → ((documents : List LeavesView) → IsIndexOf facets.index.now documents → docs ≡ filter (passes_at (has_number_that passes path) documents) ids)
    → Selects facets (λ rows. some_number wanted (leaves_under path rows.leaves)) ids docs
number_selects facets path passes wanted ids docs says = selects_of facets (has_number_that passes path) (λ rows. some_number wanted (leaves_under path rows.leaves)) ids docs
    (λ x rows narrow leaves marks.
    numbers_same passes wanted says path x.leaves (leaves_narrow x.leaves (first_part (leaf_facets x.leaves) (mark_facets x.marks ++ (ends_of x.leaves ++ counted_of x.leaves)) narrow))
    ∙ any_under (λ y. row.is_number_that wanted y.value) path x.leaves
    ∙ ap (λ ls. some_number wanted (leaves_under path ls)) (sym leaves))
    (λ rows leaves marks. ap (λ ls. some_number wanted (leaves_under path ls)) (sym leaves))

-- a range of numbers that is asked of the leaves of each document
pub between_selects : (facets : Facets) (path : ℕ) (passes wanted : ℤ → Bool) (ids docs : List ℕ) → ((n : ℤ) → FitsSigned w128 n → passes n ≡ wanted n)
    → docs ≡ filter (λ d. list_any (λ x. (x.path.0 == path) && is_number_that passes x.value) (kept_at d facets.leaves.now)) ids
    → Selects facets (λ rows. some_number wanted (leaves_under path rows.leaves)) ids docs
between_selects facets path passes wanted ids docs says answer = λ documents rows of are.
    answer ∙ filter_same _ (λ d. some_number wanted (leaves_under path (rows d).leaves)) ids
    (λ d. ap (list_any (λ x. (x.path.0 == path) && is_number_that passes x.value)) (leaves_kept facets.leaves.now documents of.leaves d)
    ∙ one (document_at d documents) (narrow_at d documents of.index.narrow)
    ∙ ap (λ ls. some_number wanted (leaves_under path ls)) (sym (are.leaves d)))
  where
    one : (o : Option LeavesView) → IsNarrowAt o
        → list_any (λ x. (x.path.0 == path) && is_number_that passes x.value) (leaves_of o) ≡ some_number wanted (leaves_under path (leaves_of o))
    one None narrow = refl
    one (Some x) narrow =
        numbers_same passes wanted says path x.leaves (leaves_narrow x.leaves (first_part (leaf_facets x.leaves) (mark_facets x.marks ++ (ends_of x.leaves ++ counted_of x.leaves)) narrow))
        ∙ any_under (λ y. row.is_number_that wanted y.value) path x.leaves

kind_same : (a b : MarkKind) → is_kind a b ≡ row.is_kind a b
kind_same Exists Exists = refl
kind_same Exists Null = refl
kind_same Exists Empty = refl
kind_same Null Exists = refl
kind_same Null Null = refl
kind_same Null Empty = refl
kind_same Empty Exists = refl
kind_same Empty Null = refl
kind_same Empty Empty = refl

pub mark_selects : (facets : Facets) (path : ℕ) (kind : MarkKind) (ids docs : List ℕ)
    → ((documents : List LeavesView) → IsIndexOf facets.index.now documents → docs ≡ filter (passes_at (has_mark kind path) documents) ids)
    → Selects facets (λ rows. row.has_mark kind (marks_under path rows.marks)) ids docs
mark_selects facets path kind ids docs = selects_of facets (has_mark kind path) (λ rows. row.has_mark kind (marks_under path rows.marks)) ids docs
    (λ x rows narrow leaves marks. any_marked (λ y. is_kind kind y.kind) path x.marks
    ∙ any_same _ _ (marks_under path x.marks) (λ y. kind_same kind y.kind)
    ∙ ap (λ ms. row.has_mark kind (marks_under path ms)) (sym marks))
    (λ rows leaves marks. ap (λ ms. row.has_mark kind (marks_under path ms)) (sym marks))

-- ---- a text as a value

bytes_turned : (a b : List ℕ) → bytes_eq a b ≡ bytes_eq b a
bytes_turned a b = by (bytes_eq a b) (bytes_eq b a) refl refl
  where
    turn : (x y : List ℕ) → bytes_eq x y ≡ true → bytes_eq y x ≡ true
    turn x y h = subst (λ z. bytes_eq z x ≡ true) (bytes_same x y h) (bytes_itself x)

    by : (u v : Bool) → u ≡ bytes_eq a b → v ≡ bytes_eq b a → u ≡ v
    by true v s t = sym (t ∙ turn a b (sym s))
    by false true s t = s ∙ turn b a (sym t)
    by false false s t = refl

-- whether a value is the number that a text writes, if it writes one
abbrev pub is_written : Option ℤ → FacetValue → Bool
is_written None v = false
is_written (Some n) v = is_same (facet.Number n) v

equal_is : (text : List ℕ) (v : FacetValue) → (is_same (facet.Text (normal text)) v || is_written (number_of text) v) ≡ is_equal text v
equal_is text (facet.Number n) = by (number_of text)
  where
    turned : (a b : Bool) → (a && b) ≡ (b && a)
    turned true true = refl
    turned true false = refl
    turned false true = refl
    turned false false = refl

    by : (o : Option ℤ) → is_written o (facet.Number n) ≡ row.is_number n o
    by None = refl
    by (Some m) = turned (not (int_lt m n)) (not (int_lt n m))
equal_is text (facet.Text form) = by (number_of text) ∙ bytes_turned (normal text) form
  where
    or_false : (b : Bool) → (b || false) ≡ b
    or_false true = refl
    or_false false = refl

    by : (o : Option ℤ) → (bytes_eq (normal text) form || is_written o (facet.Text form)) ≡ bytes_eq (normal text) form
    by None = or_false (bytes_eq (normal text) form)
    by (Some m) = or_false (bytes_eq (normal text) form)

any_or : {X : Type 0} (p q : X → Bool) (xs : List X) → (list_any p xs || list_any q xs) ≡ list_any (λ x. p x || q x) xs
any_or p q [] = refl
any_or p q (x ∷ xs) = by (p x) (q x) (list_any p xs) (list_any q xs) ∙ ap (λ b. (p x || q x) || b) (any_or p q xs)
  where
    by : (a b c d : Bool) → ((a || c) || (b || d)) ≡ ((a || b) || (c || d))
    by true b c d = refl
    by false true true d = refl
    by false true false d = refl
    by false false c d = refl

pub equal_to : (text : List ℕ) (leaves : List Leaf)
    → (some_value (is_same (facet.Text (normal text))) leaves || some_value (is_written (number_of text)) leaves) ≡ some_value (is_equal text) leaves
equal_to text leaves = any_or (λ x. is_same (facet.Text (normal text)) x.value) (λ x. is_written (number_of text) x.value) leaves
    ∙ any_same _ _ leaves (λ x. equal_is text x.value)

pub none_written : (leaves : List Leaf) → some_value (is_written None) leaves ≡ false
none_written [] = refl
none_written (x ∷ xs) = none_written xs

-- ---- one of some texts

-- whether a document has a value equal to a text
abbrev pub equals : ℕ → RowsView → List ℕ → Bool
equals path rows text = some_value (is_equal text) (leaves_under path rows.leaves)

-- the documents of the texts that were asked for were found
abbrev pub IsAskedOf : Facets → ℕ → BTreeSet (List ℕ) → List ℕ → List ℕ → Type 0
IsAskedOf facets path asked found ids = (text : List ℕ) → contains word_cmp asked text ≡ true → AreFound facets (λ rows. equals path rows text) found ids

pub asked_more : (facets : Facets) (path : ℕ) (asked more : BTreeSet (List ℕ)) (text copy found ids : List ℕ) → copy ≡ text
    → ((q : List ℕ) → contains word_cmp more q ≡ cond (is_eq (word_cmp copy q)) true (contains word_cmp asked q))
    → AreFound facets (λ rows. equals path rows text) found ids → IsAskedOf facets path asked found ids → IsAskedOf facets path more found ids
asked_more facets path asked more text copy found ids same made there before = λ other is. by other (is_eq (word_cmp copy other)) refl (sym (made other) ∙ is)
  where
    by : (other : List ℕ) (b : Bool) → b ≡ is_eq (word_cmp copy other) → cond (is_eq (word_cmp copy other)) true (contains word_cmp asked other) ≡ true
        → AreFound facets (λ rows. equals path rows other) found ids
    by other true s is = subst (λ t. AreFound facets (λ rows. equals path rows t) found ids)
        (sym same ∙ bytes_same copy other (sym (is_eq-slice_cmp copy other) ∙ sym s)) there
    by other false s is = before other (ap (λ b. cond b true (contains word_cmp asked other)) s ∙ is)

pub still_asked : AreByMembers → (facets : Facets) (path : ℕ) (asked : BTreeSet (List ℕ)) (docs found more ids : List ℕ) → more ≡ union docs found
    → IsAskedOf facets path asked found ids → IsAskedOf facets path asked more ids
still_asked by_members facets path asked docs found more ids made before = λ text is.
    still_found by_members facets (λ rows. equals path rows text) docs found more ids made (before text is)

-- ---- answers of the facets

pub value_answer : {E : Type 0} (facets : Facets) (path : ℕ) (v : FacetValue) (ids : List ℕ) (r : Result SetView E)
    → IfOk r (λ docs. (documents : List LeavesView) → IsIndexOf facets.index.now documents → docs.ids ≡ filter (passes_at (has_value v path) documents) ids)
    → IfOk r (λ docs. Selects facets (λ rows. some_value (is_same v) (leaves_under path rows.leaves)) ids docs.ids)
value_answer facets path v ids (Ok docs) h = value_selects facets path v ids docs.ids h
value_answer facets path v ids (Err e) h = tt

pub number_answer : (facets : Facets) (path : ℕ) (low high low' high' : ℤ) → low' ≡ low → high' ≡ high → (ids : List ℕ) (found : Option SetView) (docs : SetView)
    → found ≡ Some docs
    → IfSome found (λ docs. (documents : List LeavesView) → IsIndexOf facets.index.now documents
    → docs.ids ≡ filter (passes_at (has_number_that (is_between low' high') path) documents) ids)
    → (wanted : ℤ → Bool) → AreBetween low high wanted → Selects facets (λ rows. some_number wanted (leaves_under path rows.leaves)) ids docs.ids
number_answer facets path low high low' high' e f ids found docs is h = λ wanted are.
    number_selects facets path (is_between low' high') wanted ids docs.ids (λ n fits. ap₂ (λ (a b : ℤ). is_between a b n) e f ∙ are n fits)
    (subst (λ o. IfSome o (λ docs. (documents : List LeavesView) → IsIndexOf facets.index.now documents
    → docs.ids ≡ filter (passes_at (has_number_that (is_between low' high') path) documents) ids)) is h)

pub between_answer : {E : Type 0} (facets : Facets) (path : ℕ) (low high low' high' : ℤ) → low' ≡ low → high' ≡ high → (ids : List ℕ) (r : Result SetView E)
    → IfOk r (λ docs. docs.ids ≡ filter (λ d. has_between path low' high' (kept_at d facets.leaves.now)) ids)
    → IfOk r (λ docs. (wanted : ℤ → Bool) → AreBetween low high wanted
    → Selects facets (λ rows. some_number wanted (leaves_under path rows.leaves)) ids docs.ids)
between_answer facets path low high low' high' e f ids (Ok docs) h = λ wanted are.
    between_selects facets path (is_between low' high') wanted ids docs.ids (λ n fits. ap₂ (λ (a b : ℤ). is_between a b n) e f ∙ are n fits) h
between_answer facets path low high low' high' e f ids (Err x) h = tt

pub mark_answer : {E : Type 0} (facets : Facets) (path : ℕ) (kind : MarkKind) (ids : List ℕ) (r : Result SetView E)
    → IfOk r (λ docs. (documents : List LeavesView) → IsIndexOf facets.index.now documents → docs.ids ≡ filter (passes_at (has_mark kind path) documents) ids)
    → IfOk r (λ docs. Selects facets (λ rows. row.has_mark kind (marks_under path rows.marks)) ids docs.ids)
mark_answer facets path kind ids (Ok docs) h = mark_selects facets path kind ids docs.ids h
mark_answer facets path kind ids (Err e) h = tt

-- the numbers that a test wants
pub wanted_answer : {E : Type 0} (facets : Facets) (path : ℕ) (low high low' high' : ℤ) → low' ≡ low → high' ≡ high → (wanted : ℤ → Bool) (ids : List ℕ)
    → AreBetween low high wanted → (r : Result SetView E) → IfOk r (λ docs. (wanted : ℤ → Bool) → AreBetween low' high' wanted
    → Selects facets (λ rows. some_number wanted (leaves_under path rows.leaves)) ids docs.ids)
    → IfOk r (λ docs. Selects facets (λ rows. some_number wanted (leaves_under path rows.leaves)) ids docs.ids)
wanted_answer facets path low high low' high' e f wanted ids are (Ok docs) h = h wanted (λ n fits. ap₂ (λ (a b : ℤ). is_between a b n) e f ∙ are n fits)
wanted_answer facets path low high low' high' e f wanted ids are (Err x) h = tt

-- no number of 128 bits is wanted
abbrev pub AreNone : (ℤ → Bool) → Type 0
AreNone wanted = (n : ℤ) → FitsSigned w128 n → wanted n ≡ false

pub none_wanted : (facets : Facets) (path : ℕ) (wanted : ℤ → Bool) (ids docs : List ℕ) → docs ≡ [] → AreNone wanted
    → Selects facets (λ rows. some_number wanted (leaves_under path rows.leaves)) ids docs
none_wanted facets path wanted ids docs none never = number_selects facets path (λ n. false) wanted ids docs (λ n fits. sym (never n fits))
    (λ documents of. none ∙ filter_none (passes_at (has_number_that (λ n. false) path) documents) ids (λ d. nowhere d documents))
  where
    no_number : (v : FacetValue) → is_number_that (λ n. false) v ≡ false
    no_number (facet.Number n) = refl
    no_number (facet.Text t) = refl

    no_leaf : (leaves : List Leaf) → list_any (λ x. (x.path.0 == path) && is_number_that (λ n. false) x.value) leaves ≡ false
    no_leaf [] = refl
    no_leaf (x ∷ xs) = ap₂ (λ a b. ((x.path.0 == path) && a) || b) (no_number x.value) (no_leaf xs) ∙ ap (λ b. b || false) (and_false (x.path.0 == path))

    nowhere : (d : ℕ) (documents : List LeavesView) → passes_at (has_number_that (λ n. false) path) documents d ≡ false
    nowhere d [] = refl
    nowhere d (x ∷ xs) = ap₂ (λ a b. ((x.id == d) && a) || b) (no_leaf x.leaves) (nowhere d xs) ∙ ap (λ b. b || false) (and_false (x.id == d))

-- ---- an equal text

pub both_equal : (facets : Facets) (path : ℕ) (text : List ℕ) (n : ℤ) (ids docs more all : List ℕ) → Some n ≡ number_of text
    → Selects facets (λ rows. some_value (is_same (facet.Text (normal text))) (leaves_under path rows.leaves)) ids docs
    → Selects facets (λ rows. some_value (is_same (facet.Number n)) (leaves_under path rows.leaves)) ids more
    → ((passes other : ℕ → Bool) → docs ≡ filter passes ids → more ≡ filter other ids → all ≡ filter (λ d. passes d || other d) ids)
    → Selects facets (λ rows. some_value (is_equal text) (leaves_under path rows.leaves)) ids all
both_equal facets path text n ids docs more all written forms numbers joined = λ documents rows of are.
    joined (λ d. some_value (is_same (facet.Text (normal text))) (leaves_under path (rows d).leaves))
    (λ d. some_value (is_same (facet.Number n)) (leaves_under path (rows d).leaves)) (forms documents rows of are) (numbers documents rows of are)
    ∙ filter_same _ (λ d. some_value (is_equal text) (leaves_under path (rows d).leaves)) ids
    (λ d. ap (λ o. some_value (is_same (facet.Text (normal text))) (leaves_under path (rows d).leaves) || some_value (is_written o) (leaves_under path (rows d).leaves)) written
    ∙ equal_to text (leaves_under path (rows d).leaves))

pub either_answer : {E : Type 0} (facets : Facets) (path : ℕ) (text form : List ℕ) (n n' : ℤ) (ids docs more : List ℕ) → n' ≡ n → form ≡ normal text → Some n ≡ number_of text
    → Selects facets (λ rows. some_value (is_same (facet.Text form)) (leaves_under path rows.leaves)) ids docs
    → Selects facets (λ rows. some_value (is_same (facet.Number n')) (leaves_under path rows.leaves)) ids more
    → (r : Result SetView E)
    → IfOk r (λ both. (passes other : ℕ → Bool) → docs ≡ filter passes ids → more ≡ filter other ids → both.ids ≡ filter (λ d. passes d || other d) ids)
    → IfOk r (λ both. Selects facets (λ rows. some_value (is_equal text) (leaves_under path rows.leaves)) ids both.ids)
either_answer facets path text form n n' ids docs more e is written forms numbers (Ok both) h = both_equal facets path text n ids docs more both.ids written
    (subst (λ f. Selects facets (λ rows. some_value (is_same (facet.Text f)) (leaves_under path rows.leaves)) ids docs) is forms)
    (subst (λ (k : ℤ). Selects facets (λ rows. some_value (is_same (facet.Number k)) (leaves_under path rows.leaves)) ids more) e numbers) h
either_answer facets path text form n n' ids docs more e is written forms numbers (Err x) h = tt

pub equal_selected_answer : {E : Type 0} (facets : Facets) (path : ℕ) (texts : List (List ℕ)) (i : ℕ) (found ids : List ℕ) → length texts ≤ i
    → AddsAny facets (equals path) (drop i texts) found texts ids → (r : Result SetView E)
    → IfOk r (λ docs. (passes : ℕ → Bool) → ((d : ℕ) → has found d ≡ (passes d && has ids d)) → docs.ids ≡ filter passes ids)
    → IfOk r (λ docs. Selects facets (λ rows. list_any (equals path rows) texts) ids docs.ids)
equal_selected_answer facets path texts i found ids past adds (Ok docs) h = any_selected facets (equals path) texts i found docs.ids ids past adds h
equal_selected_answer facets path texts i found ids past adds (Err e) h = tt

-- a path that is not there is met by none
pub none_at : (facets : Facets) (ids docs : List ℕ) → docs ≡ [] → Selects facets (λ rows. false) ids docs
none_at facets ids docs none = λ documents rows of are. none ∙ filter_none (λ d. false) ids (λ d. refl)
