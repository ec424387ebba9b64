-- What the lists of keys say of documents.
use Rattle.std.proofs.Common.{◌≡◌, ℕ, ℤ, pos, negsuc, ◌*◌, ◌/◌, ◌^◌, Bool, true, false, not, ◌&&◌, ◌||◌, ◌==◌, cond, List, [], ◌∷◌, ◌++◌, Option, None, Some, map, flat_map, append_assoc, int_lt, refl, sym, ap, ap₂, subst, ◌∙◌, arith}
use Rattle.std.specs.List.{filter, list_any, AllByRecursion}
use Rattle.std.specs.Str.{bytes_eq}
use Rattle.std.specs.Ordering.{is_eq}
use Rattle.std.specs.declared.cmp.Ordering.{Ordering}
use Rattle.std.specs.declared.cmp.Ordering.TheVariants.{Less, Equal, Greater}
use Rattle.std.specs.Cmp.Lexicographic.{nat_list_cmp_total}
use Rattle.std.proofs.lemmas.Bool.{eqb-true, eq-eqb}
use Rattle.std.proofs.lemmas.Bool.Decides.{nat_tests}
use Rattle.std.proofs.lemmas.Cmp.{int_ranked, eq_by_cmp_equiv}
use Rattle.std.proofs.lemmas.List.{map-append}
use Rattle.std.proofs.lemmas.List.Folds.{list_any-append}
use Rattle.std.proofs.lemmas.Map.Lookups.{exact_bytes}
use Rattle.std.proofs.lemmas.Map.Text.{is_eq-slice_cmp}
use Rattle.search_base.specs.declared.document.Leaf.{Leaf}
use Rattle.search_base.specs.declared.document.MarkKind.{MarkKind}
use Rattle.search_base.specs.declared.document.MarkKind.TheVariants.{Exists, Null, Empty}
use Rattle.search_base.specs.declared.value.FacetValue.{FacetValue}
use Rattle.search_base.specs.declared.value.FacetValue.TheVariants as facet
use Rattle.sorted_pages.specs.Entries.{has}
use Rattle.postings.specs.Dictionary.{PostingsView, word_cmp, list_at, some_list}
use Rattle.postings.specs.Documents.{entry_of, is_place, stands}
use Rattle.facet_keys.specs.Keys.{Facet, leaf, mark, least, greatest, counted, spelling, key_bytes, IsNarrow}
use Rattle.facet_keys.specs.Laws.{AreApart}
use Rattle.facet_counts.specs.Counts.{text_of}
use Rattle.facet_index.specs.LeavesView.{LeavesView}
use Rattle.facet_index.specs.Documents.{is_same, is_kind, has_value, has_mark, passes_at}
use Rattle.facet_index.specs.Ends.{first_value, end_facet, if_end, end_at, ends_at, ends_of, paths_of}
use Rattle.facet_index.specs.Counted.{has_text, new_counted, counted_from, counted_of}
use Rattle.facet_index.specs.Places.{leaf_facets, mark_facets, facets_of, key_of, keys_of, place_of, places_of, keyed, IsNarrowDocument, IsIndexOf, has_document}
use Rattle.facet_index.proofs.TestLemmas.{same_bool, both, any_map, any_where, any_same, any_and, filter_same}

-- ---- the places of a document

pub places_by_kind : (xs ys zs ws : List (ℕ × Facet))
    → ((places_of xs ++ places_of ys) ++ places_of zs) ++ places_of ws ≡ places_of (xs ++ (ys ++ (zs ++ ws)))
places_by_kind xs ys zs ws =
    append_assoc (places_of xs ++ places_of ys) (places_of zs) (places_of ws)
    ∙ append_assoc (places_of xs) (places_of ys) (places_of zs ++ places_of ws)
    ∙ sym (of xs (ys ++ (zs ++ ws)) ∙ ap (λ ps. places_of xs ++ ps) (of ys (zs ++ ws) ∙ ap (λ ps. places_of ys ++ ps) (of zs ws)))
  where
    of : (fs gs : List (ℕ × Facet)) → places_of (fs ++ gs) ≡ places_of fs ++ places_of gs
    of fs gs = map-append (λ x. place_of (key_of x)) fs gs

pub all_both : {X : Type 0} (P : X → Type 0) (xs ys : List X) → AllByRecursion P xs → AllByRecursion P ys → AllByRecursion P (xs ++ ys)
all_both P [] ys h k = k
all_both P (x ∷ xs) ys h k = (h.0, all_both P xs ys h.1 k)

map_twice : {X Y Z : Type 0} (f : Y → Z) (g : X → Y) (xs : List X) → map f (map g xs) ≡ map (λ x. f (g x)) xs
map_twice f g [] = refl
map_twice f g (x ∷ xs) = ap (λ rest. f (g x) ∷ rest) (map_twice f g xs)

-- ---- entries

pub bytes_same : (a b : List ℕ) → bytes_eq a b ≡ true → a ≡ b
bytes_same a b h = exact_bytes a b (by (word_cmp a b) (is_eq-slice_cmp a b ∙ h))
  where
    by : (o : Ordering) → is_eq o ≡ true → o ≡ Equal
    by Less h = absurd (cc)
    by Equal h = refl
    by Greater h = absurd (cc)

pub bytes_itself : (a : List ℕ) → bytes_eq a a ≡ true
bytes_itself a = sym (is_eq-slice_cmp a a) ∙ (eq_by_cmp_equiv nat_list_cmp_total).refl a

-- whether the document has the key
abbrev pub has_key : List ℕ → LeavesView → Bool
has_key key document = list_any (λ k. bytes_eq k key) (keys_of document)

times : (m n : ℕ) → (m * 2 ^ 32 == n * 2 ^ 32) ≡ (m == n)
times m n = same_bool (m * 2 ^ 32 == n * 2 ^ 32) (m == n)
    (λ h. let same : m * 2 ^ 32 ≡ n * 2 ^ 32 = eqb-true _ _ h in eq-eqb m n (omega arith))
    (λ h. eq-eqb (m * 2 ^ 32) (n * 2 ^ 32) (ap (λ (v : ℕ). v * 2 ^ 32) (eqb-true m n h)))

entry_is : (id d : ℕ) (key : List ℕ) → (entry_of id (place_of key) == d * 2 ^ 32) ≡ (id == d)
entry_is id d key = let e : entry_of id (place_of key) ≡ id * 2 ^ 32 = omega arith in ap (λ v. v == d * 2 ^ 32) e ∙ times id d

pub stands_at : (key : List ℕ) (d : ℕ) (documents : List LeavesView) → stands key (d * 2 ^ 32) (map keyed documents) ≡ passes_at (has_key key) documents d
stands_at key d [] = refl
stands_at key d (document ∷ documents) = ap₂ (λ a b. a || b)
    (ap (list_any (is_place key (d * 2 ^ 32) document.id)) (sym (map_twice place_of key_of (facets_of document)))
    ∙ any_map place_of (is_place key (d * 2 ^ 32) document.id) (keys_of document)
    ∙ any_same _ (λ k. bytes_eq k key && (document.id == d)) (keys_of document) (λ k. ap (λ v. bytes_eq k key && v) (entry_is document.id d k))
    ∙ any_and (document.id == d) (λ k. bytes_eq k key) (keys_of document))
    (stands_at key d documents)

-- an entry is of a document as a whole
pub round : (key : List ℕ) (entry : ℕ) (documents : List LeavesView) → stands key entry (map keyed documents) ≡ true → (id : ℕ) × (entry ≡ id * 2 ^ 32)
round key entry [] h = absurd (cc)
round key entry (document ∷ documents) h = here (round key entry documents) (facets_of document) h
  where
    here : (stands key entry (map keyed documents) ≡ true → (id : ℕ) × (entry ≡ id * 2 ^ 32)) → (facets : List (ℕ × Facet)) → (list_any (is_place key entry document.id) (places_of facets) || stands key entry (map keyed documents)) ≡ true
        → (id : ℕ) × (entry ≡ id * 2 ^ 32)
    here later [] h = later h
    here later (x ∷ facets) h = by (here later facets) (bytes_eq (key_of x) key) (entry_of document.id (place_of (key_of x)) == entry) refl h
      where
        by : ((list_any (is_place key entry document.id) (places_of facets) || stands key entry (map keyed documents)) ≡ true
            → (id : ℕ) × (entry ≡ id * 2 ^ 32)) → (b same : Bool) → same ≡ (entry_of document.id (place_of (key_of x)) == entry)
            → (((b && same) || list_any (is_place key entry document.id) (places_of facets)) || stands key entry (map keyed documents)) ≡ true
            → (id : ℕ) × (entry ≡ id * 2 ^ 32)
        by rest true true s h = (document.id, let e : entry_of document.id (place_of (key_of x)) ≡ entry = eqb-true _ _ (sym s) in omega arith)
        by rest true false s h = rest h
        by rest false same s h = rest h

-- the document has a place in a list of such entries
pub document_has : (d : ℕ) (entries : List ℕ) → ((e : ℕ) → has entries e ≡ true → (id : ℕ) × (e ≡ id * 2 ^ 32)) → has_document d entries ≡ has entries (d * 2 ^ 32)
document_has d [] whole = refl
document_has d (e ∷ es) whole =
    let first : (id : ℕ) × (e ≡ id * 2 ^ 32) = whole e (ap (λ b. b || has es e) (eq-eqb e e refl)) in
    ap₂ (λ a b. a || b) (one first.0 first.1) (document_has d es (λ x inside. whole x (ap (λ b. (e == x) || b) inside ∙ or_true (e == x))))
  where
    or_true : (b : Bool) → (b || true) ≡ true
    or_true true = refl
    or_true false = refl

    one : (id : ℕ) → e ≡ id * 2 ^ 32 → (e / 2 ^ 32 == d) ≡ (e == d * 2 ^ 32)
    one id is = let div : e / 2 ^ 32 ≡ id = omega arith in
        ap (λ v. v == d) div ∙ sym (times id d) ∙ ap (λ v. v == d * 2 ^ 32) (sym is)

pub has_at : (view : PostingsView) (documents : List LeavesView) (key : List ℕ) (d : ℕ) → IsIndexOf view documents
    → has_document d (list_at key view) ≡ passes_at (has_key key) documents d
has_at view documents key d index =
    document_has d (list_at key view) (λ e inside. round key e documents (sym (index.keys.each key e) ∙ inside))
    ∙ index.keys.each key (d * 2 ^ 32) ∙ stands_at key d documents

-- ---- which key

pub same_value : (v w : FacetValue) → is_same v w ≡ true → v ≡ w
same_value (facet.Number m) (facet.Number n) h = ap facet.Number (int_ranked m n Equal (by (int_lt m n) (int_lt n m) h))
  where
    by : (a b : Bool) → (not a && not b) ≡ true → Equal ≡ cond a Less (cond b Greater Equal)
    by true b h = absurd (cc)
    by false true h = absurd (cc)
    by false false h = refl
same_value (facet.Number m) (facet.Text w) h = absurd (cc)
same_value (facet.Text v) (facet.Number n) h = absurd (cc)
same_value (facet.Text v) (facet.Text w) h = ap facet.Text (bytes_same v w h)

pub value_itself : (v : FacetValue) → is_same v v ≡ true
value_itself (facet.Number n) = ap (λ b. not b && not b) (not_less n)
  where
    not_less : (n : ℤ) → int_lt n n ≡ false
    not_less (pos n) = grind (arith, nat_tests)
    not_less (negsuc n) = grind (arith, nat_tests)
value_itself (facet.Text w) = bytes_itself w

kind_same : (a b : MarkKind) → is_kind a b ≡ true → a ≡ b
kind_same Exists Exists h = refl
kind_same Exists Null h = absurd (cc)
kind_same Exists Empty h = absurd (cc)
kind_same Null Exists h = absurd (cc)
kind_same Null Null h = refl
kind_same Null Empty h = absurd (cc)
kind_same Empty Exists h = absurd (cc)
kind_same Empty Null h = absurd (cc)
kind_same Empty Empty h = refl

kind_itself : (a : MarkKind) → is_kind a a ≡ true
kind_itself Exists = refl
kind_itself Null = refl
kind_itself Empty = refl

-- whether two facets are one
abbrev pub is_facet : Facet → Facet → Bool
is_facet (leaf v) (leaf w) = is_same v w
is_facet (mark a) (mark b) = is_kind a b
is_facet (least v) (least w) = is_same v w
is_facet (greatest v) (greatest w) = is_same v w
is_facet (counted s) (counted t) = bytes_eq t s
is_facet (spelling s x) (spelling t y) = bytes_eq t s && bytes_eq y x
is_facet _ _ = false

facet_same : (f g : Facet) → is_facet f g ≡ true → f ≡ g
facet_same (leaf v) (leaf w) h = ap leaf (same_value v w h)
facet_same (leaf v) (mark b) h = absurd (cc)
facet_same (leaf v) (least w) h = absurd (cc)
facet_same (leaf v) (greatest w) h = absurd (cc)
facet_same (leaf v) (counted t) h = absurd (cc)
facet_same (leaf v) (spelling t y) h = absurd (cc)
facet_same (mark a) (leaf w) h = absurd (cc)
facet_same (mark a) (mark b) h = ap mark (kind_same a b h)
facet_same (mark a) (least w) h = absurd (cc)
facet_same (mark a) (greatest w) h = absurd (cc)
facet_same (mark a) (counted t) h = absurd (cc)
facet_same (mark a) (spelling t y) h = absurd (cc)
facet_same (least v) (leaf w) h = absurd (cc)
facet_same (least v) (mark b) h = absurd (cc)
facet_same (least v) (least w) h = ap least (same_value v w h)
facet_same (least v) (greatest w) h = absurd (cc)
facet_same (least v) (counted t) h = absurd (cc)
facet_same (least v) (spelling t y) h = absurd (cc)
facet_same (greatest v) (leaf w) h = absurd (cc)
facet_same (greatest v) (mark b) h = absurd (cc)
facet_same (greatest v) (least w) h = absurd (cc)
facet_same (greatest v) (greatest w) h = ap greatest (same_value v w h)
facet_same (greatest v) (counted t) h = absurd (cc)
facet_same (greatest v) (spelling t y) h = absurd (cc)
facet_same (counted s) (leaf w) h = absurd (cc)
facet_same (counted s) (mark b) h = absurd (cc)
facet_same (counted s) (least w) h = absurd (cc)
facet_same (counted s) (greatest w) h = absurd (cc)
facet_same (counted s) (counted t) h = ap counted (sym (bytes_same t s h))
facet_same (counted s) (spelling t y) h = absurd (cc)
facet_same (spelling s x) (leaf w) h = absurd (cc)
facet_same (spelling s x) (mark b) h = absurd (cc)
facet_same (spelling s x) (least w) h = absurd (cc)
facet_same (spelling s x) (greatest w) h = absurd (cc)
facet_same (spelling s x) (counted t) h = absurd (cc)
facet_same (spelling s x) (spelling t y) h = let parts = both (bytes_eq t s) (bytes_eq y x) h in ap₂ spelling (sym (bytes_same t s parts.0)) (sym (bytes_same y x parts.1))

pub facet_itself : (f : Facet) → is_facet f f ≡ true
facet_itself (leaf v) = value_itself v
facet_itself (mark a) = kind_itself a
facet_itself (least v) = value_itself v
facet_itself (greatest v) = value_itself v
facet_itself (counted s) = bytes_itself s
facet_itself (spelling s x) = ap₂ (λ a b. a && b) (bytes_itself s) (bytes_itself x)

-- whether a document has the facet under the path
abbrev pub has_facet : ℕ → Facet → LeavesView → Bool
has_facet path f document = list_any (λ x. (x.0 == path) && is_facet f x.1) (facets_of document)

pub facet_test : AreApart → (x : ℕ × Facet) (path : ℕ) (f : Facet) → IsNarrow x.0 x.1 → IsNarrow path f
    → bytes_eq (key_of x) (key_bytes path f) ≡ ((x.0 == path) && is_facet f x.1)
facet_test apart x path f narrow asked = same_bool _ _
    (λ h. let one : (x.0 ≡ path) × (x.1 ≡ f) = apart x.0 path x.1 f narrow asked (bytes_same _ _ h) in
    ap₂ (λ a b. a && b) (eq-eqb x.0 path one.0) (ap (is_facet f) one.1 ∙ facet_itself f))
    (λ h. let one = both (x.0 == path) (is_facet f x.1) h in
    subst (λ key. bytes_eq (key_of x) key ≡ true) (ap₂ key_bytes (eqb-true x.0 path one.0) (sym (facet_same f x.1 one.1)))
    (bytes_itself (key_of x)))

pub facet_key : AreApart → (path : ℕ) (f : Facet) (document : LeavesView) → IsNarrow path f → IsNarrowDocument document
    → has_key (key_bytes path f) document ≡ has_facet path f document
facet_key apart path f document asked narrow =
    any_map key_of (λ k. bytes_eq k (key_bytes path f)) (facets_of document)
    ∙ any_where (λ x. IsNarrow x.0 x.1) _ (λ x. (x.0 == path) && is_facet f x.1) (facets_of document) narrow
    (λ x each. facet_test apart x path f each asked)

-- ---- the facets of a document, by kind

pub facets_say : (p : ℕ × Facet → Bool) (document : LeavesView) → list_any p (facets_of document)
    ≡ (list_any (λ x. p (x.path.0, leaf x.value)) document.leaves
    || (list_any (λ x. p (x.path.0, mark x.kind)) document.marks || (list_any p (ends_of document.leaves) || list_any p (counted_of document.leaves))))
facets_say p document =
    list_any-append p (leaf_facets document.leaves) (mark_facets document.marks ++ (ends_of document.leaves ++ counted_of document.leaves))
    ∙ ap₂ (λ a b. a || b) (any_map (λ x. (x.path.0, leaf x.value)) p document.leaves)
    (list_any-append p (mark_facets document.marks) (ends_of document.leaves ++ counted_of document.leaves)
    ∙ ap₂ (λ a b. a || b) (any_map (λ x. (x.path.0, mark x.kind)) p document.marks) (list_any-append p (ends_of document.leaves) (counted_of document.leaves)))

pub any_never : {X : Type 0} (p : X → Bool) (xs : List X) → ((x : X) → p x ≡ false) → list_any p xs ≡ false
any_never p [] none = refl
any_never p (x ∷ xs) none = ap₂ (λ a b. a || b) (none x) (any_never p xs none)

pub any_flat : {X Y : Type 0} (p : Y → Bool) (f : X → List Y) (xs : List X) → list_any p (flat_map f xs) ≡ list_any (λ x. list_any p (f x)) xs
any_flat p f [] = refl
any_flat p f (x ∷ xs) = list_any-append p (f x) (flat_map f xs) ∙ ap (λ b. list_any p (f x) || b) (any_flat p f xs)

pub ends_none : (p : ℕ × Facet → Bool) (leaves : List Leaf) → ((up : Bool) (path : ℕ) (v : FacetValue) → p (path, end_facet up v) ≡ false)
    → list_any p (ends_of leaves) ≡ false
ends_none p leaves none =
    any_flat p (ends_at leaves) (paths_of leaves)
    ∙ any_never (λ path. list_any p (ends_at leaves path)) (paths_of leaves)
    (λ path. list_any-append p (end_at true path leaves) (end_at false path leaves)
    ∙ ap₂ (λ a b. a || b) (at true path (first_value true path leaves)) (at false path (first_value false path leaves)))
  where
    at : (up : Bool) (path : ℕ) (o : Option FacetValue) → list_any p (if_end up path o) ≡ false
    at up path None = refl
    at up path (Some v) = ap (λ b. b || false) (none up path v)

pub and_false : (b : Bool) → (b && false) ≡ false
and_false true = refl
and_false false = refl

pub or_false : (b : Bool) → (b || false) ≡ b
or_false true = refl
or_false false = refl

-- no facet for a count
pub counted_none : (p : ℕ × Facet → Bool) (before leaves : List Leaf) → ((path : ℕ) (text : List ℕ) → p (path, counted text) ≡ false)
    → ((path : ℕ) (text shown : List ℕ) → p (path, spelling text shown) ≡ false) → list_any p (counted_from before leaves) ≡ false
counted_none p before [] no_text no_spelling = refl
counted_none p before (x ∷ xs) no_text no_spelling =
    list_any-append p (new_counted before x) (counted_from (before ++ x ∷ []) xs)
    ∙ ap₂ (λ a b. a || b) (here (has_text x.path.0 (text_of x.value) before) (bytes_eq x.shown (text_of x.value)))
    (counted_none p (before ++ x ∷ []) xs no_text no_spelling)
  where
    here : (old same : Bool) → list_any p (cond old []
        ((x.path.0, counted (text_of x.value)) ∷ cond same [] ((x.path.0, spelling (text_of x.value) x.shown) ∷ []))) ≡ false
    here true same = refl
    here false true = ap (λ b. b || false) (no_text x.path.0 (text_of x.value))
    here false false = ap₂ (λ a b. a || (b || false)) (no_text x.path.0 (text_of x.value)) (no_spelling x.path.0 (text_of x.value) x.shown)

-- neither an end nor a facet for a count
no_other : (f : Facet) → ((up : Bool) (v : FacetValue) → is_facet f (end_facet up v) ≡ false)
    → ((text : List ℕ) → is_facet f (counted text) ≡ false) → ((text shown : List ℕ) → is_facet f (spelling text shown) ≡ false)
    → (path : ℕ) (leaves : List Leaf)
    → (list_any (λ x. (x.0 == path) && is_facet f x.1) (ends_of leaves) || list_any (λ x. (x.0 == path) && is_facet f x.1) (counted_of leaves)) ≡ false
no_other f none no_text no_spelling path leaves =
    let p : ℕ × Facet → Bool = λ x. (x.0 == path) && is_facet f x.1 in
    ap₂ (λ a b. a || b)
    (ends_none p leaves (λ up q v. ap (λ b. (q == path) && b) (none up v) ∙ and_false (q == path)))
    (counted_none p [] leaves (λ q t. ap (λ b. (q == path) && b) (no_text t) ∙ and_false (q == path))
    (λ q t s. ap (λ b. (q == path) && b) (no_spelling t s) ∙ and_false (q == path)))

value_key : AreApart → (path : ℕ) (v : FacetValue) (document : LeavesView) → IsNarrow path (leaf v) → IsNarrowDocument document
    → has_key (key_bytes path (leaf v)) document ≡ has_value v path document
value_key apart path v document asked narrow =
    facet_key apart path (leaf v) document asked narrow ∙ facets_say (λ x. (x.0 == path) && is_facet (leaf v) x.1) document
    ∙ ap (λ b. has_value v path document || b) (ap₂ (λ a b. a || b)
    (any_never (λ x. (x.path.0 == path) && false) document.marks (λ x. and_false (x.path.0 == path))) (no_other (leaf v) other (λ t. refl) (λ t s. refl) path document.leaves))
    ∙ or_false (has_value v path document)
  where
    other : (up : Bool) (w : FacetValue) → is_facet (leaf v) (end_facet up w) ≡ false
    other true w = refl
    other false w = refl

kind_key : AreApart → (path : ℕ) (kind : MarkKind) (document : LeavesView) → IsNarrow path (mark kind) → IsNarrowDocument document
    → has_key (key_bytes path (mark kind)) document ≡ has_mark kind path document
kind_key apart path kind document asked narrow =
    facet_key apart path (mark kind) document asked narrow ∙ facets_say (λ x. (x.0 == path) && is_facet (mark kind) x.1) document
    ∙ ap₂ (λ a b. a || b) (any_never (λ x. (x.path.0 == path) && false) document.leaves (λ x. and_false (x.path.0 == path)))
    (ap (λ b. has_mark kind path document || b) (no_other (mark kind) other (λ t. refl) (λ t s. refl) path document.leaves) ∙ or_false (has_mark kind path document))
  where
    other : (up : Bool) (w : FacetValue) → is_facet (mark kind) (end_facet up w) ≡ false
    other true w = refl
    other false w = refl

-- ---- answers

pub none_found : (entries universe : List ℕ) → None ≡ some_list entries → [] ≡ filter (λ d. has_document d entries) universe
none_found [] universe h = empty universe
  where
    empty : (ids : List ℕ) → [] ≡ filter (λ d. false) ids
    empty [] = refl
    empty (d ∷ ds) = empty ds
none_found (x ∷ xs) universe h = absurd (cc)

-- the documents of a key
pub documents_at_key : (view : PostingsView) (documents : List LeavesView) (key : List ℕ) (test : LeavesView → Bool) (universe : List ℕ) → IsIndexOf view documents
    → ((document : LeavesView) → IsNarrowDocument document → has_key key document ≡ test document)
    → filter (λ d. has_document d (list_at key view)) universe ≡ filter (passes_at test documents) universe
documents_at_key view documents key test universe index says = filter_same _ (passes_at test documents) universe
    (λ d. has_at view documents key d index
    ∙ any_where IsNarrowDocument _ (λ document. (document.id == d) && test document) documents index.narrow
    (λ document narrow. ap (λ b. (document.id == d) && b) (says document narrow)))

pub value_at_key : AreApart → (view : PostingsView) (documents : List LeavesView) (path : ℕ) (v : FacetValue) (universe : List ℕ)
    → IsNarrow path (leaf v) → IsIndexOf view documents
    → filter (λ d. has_document d (list_at (key_bytes path (leaf v)) view)) universe ≡ filter (passes_at (has_value v path) documents) universe
value_at_key apart view documents path v universe asked index =
    documents_at_key view documents (key_bytes path (leaf v)) (has_value v path) universe index
    (λ document narrow. value_key apart path v document asked narrow)

pub mark_at_key : AreApart → (view : PostingsView) (documents : List LeavesView) (path : ℕ) (kind : MarkKind) (universe : List ℕ)
    → IsNarrow path (mark kind) → IsIndexOf view documents
    → filter (λ d. has_document d (list_at (key_bytes path (mark kind)) view)) universe ≡ filter (passes_at (has_mark kind path) documents) universe
mark_at_key apart view documents path kind universe asked index =
    documents_at_key view documents (key_bytes path (mark kind)) (has_mark kind path) universe index
    (λ document narrow. kind_key apart path kind document asked narrow)
