-- Indexes and the rows of an image, one after the other.
use Rattle.std.proofs.Common.{◌≡◌, ℕ, List, [], ◌∷◌, ◌++◌, map, true, refl, sym, ap, ap₂, subst, ◌∙◌, append_assoc, append-nil}
use Rattle.std.specs.declared.cmp.Ordering.{Ordering}
use Rattle.std.specs.declared.cmp.Ordering.TheVariants.{Less, Equal, Greater}
use Rattle.std.specs.Cmp.Lexicographic.{slice_cmp, nat_list_cmp_total}
use Rattle.std.specs.Ordering.{nat_cmp, is_lt, match_ordering, ordering_reverse}
use Rattle.std.specs.Map.{keys_of}
use Rattle.std.specs.BTreeMap.{insert_entry}
use Rattle.std.specs.List.{AllByRecursion}
use Rattle.std.specs.List.Sorted.{IsStrictlySortedBy}
use Rattle.std.proofs.lemmas.Map.Keys.{sorted_head, sorted_tail}
use Rattle.doc_values.specs.Ids.{is_uid}
use Rattle.std.proofs.lemmas.List.{map-append}
use Rattle.index_image.specs.declared.rows.ImageIndex.{ImageIndex}
use Rattle.index_image.specs.Rows.{IndexData, index_view}
use Rattle.index_image.specs.State.{EachAfter, IsIndex, is_above}
use Rattle.index_changes.specs.Index.{Index}
use Rattle.index_changes.specs.Images.{index_of}
use Rattle.named_indexes.specs.Indexes.{Indexes}
use Rattle.named_indexes.specs.Images.{entry_of}

pub one_more_after : {A : Type 0} (P : List A → A → Type 0) (before xs : List A) (x : A) → EachAfter P before xs → P (before ++ xs) x → EachAfter P before (xs ++ x ∷ [])
one_more_after P before [] x h p = (subst (λ b. P b x) (append-nil before) p, tt)
one_more_after P before (y ∷ ys) x h p = (h.0, one_more_after P (before ++ y ∷ []) ys x h.1 (subst (λ b. P b x) (sym (append_assoc before (y ∷ []) ys)) p))

-- the uid of an entry is above those of the entries before it
pub above_sorted : (done : List IndexData) (e : List ℕ × Index) (rest : Indexes) → IsStrictlySortedBy (slice_cmp nat_cmp) (keys_of (map entry_of done ++ e ∷ rest)) → is_above done e.0 ≡ true
above_sorted [] e rest up = refl
above_sorted (i ∷ []) e rest up = ap is_lt (sorted_head (slice_cmp nat_cmp) i.uid (e.0 ∷ keys_of rest) up).0
above_sorted (i ∷ j ∷ done) e rest up = above_sorted (j ∷ done) e rest (sorted_tail (slice_cmp nat_cmp) i.uid (keys_of (map entry_of (j ∷ done) ++ e ∷ rest)) up)

is_less : (a : Ordering) → is_lt a ≡ true → a ≡ Less
is_less Less is = refl
is_less Equal is = absurd (cc)
is_less Greater is = absurd (cc)

-- a uid above the last is above the first
first_below : (i : IndexData) (done : List IndexData) (uid : List ℕ) → IsStrictlySortedBy (slice_cmp nat_cmp) (keys_of (map entry_of (i ∷ done))) → is_above (i ∷ done) uid ≡ true → slice_cmp nat_cmp i.uid uid ≡ Less
first_below i [] uid up above = is_less (slice_cmp nat_cmp i.uid uid) above
first_below i (j ∷ done) uid up above =
    nat_list_cmp_total.trans i.uid j.uid uid (sorted_head (slice_cmp nat_cmp) i.uid (keys_of (map entry_of (j ∷ done))) up).0
    (first_below j done uid (sorted_tail (slice_cmp nat_cmp) i.uid (keys_of (map entry_of (j ∷ done))) up) above)

above_rest : (i : IndexData) (done : List IndexData) (uid : List ℕ) → is_above (i ∷ done) uid ≡ true → is_above done uid ≡ true
above_rest i [] uid above = refl
above_rest i (j ∷ done) uid above = above

-- what is inserted above the last comes last
pub inserted_last : (done : List IndexData) (uid : List ℕ) (v : Index) → IsStrictlySortedBy (slice_cmp nat_cmp) (keys_of (map entry_of done)) → is_above done uid ≡ true
    → insert_entry (slice_cmp nat_cmp) (map entry_of done) uid v ≡ map entry_of done ++ (uid, v) ∷ []
inserted_last [] uid v up above = refl
inserted_last (i ∷ done) uid v up above =
    let es = map entry_of done in
    let below = first_below i done uid up above in
    let after : slice_cmp nat_cmp uid i.uid ≡ Greater = nat_list_cmp_total.antisymm uid i.uid ∙ ap ordering_reverse below in
    ap (λ a. match_ordering a ((uid, v) ∷ entry_of i ∷ es) ((i.uid, v) ∷ es) (entry_of i ∷ insert_entry (slice_cmp nat_cmp) es uid v)) after
    ∙ ap (λ rest. entry_of i ∷ rest) (inserted_last done uid v (sorted_tail (slice_cmp nat_cmp) i.uid (keys_of es) up) (above_rest i done uid above))

-- ---- a loop that makes indexes of rows

-- so many rows are done, and these are left
pub record IsOpening (all left : List IndexData) (es : Indexes) : Type 0 where
  pub done : List IndexData
  pub entries : es ≡ map entry_of done
  pub whole : done ++ left ≡ all
  pub each : EachAfter IsIndex done left

map_last : (done : List IndexData) (i : IndexData) → map entry_of done ++ entry_of i ∷ [] ≡ map entry_of (done ++ i ∷ [])
map_last [] i = refl
map_last (j ∷ done) i = ap (λ es. entry_of j ∷ es) (map_last done i)

pub opened_more : (all left : List IndexData) (es new : Indexes) (i : IndexData) → IsOpening all (i ∷ left) es → IsStrictlySortedBy (slice_cmp nat_cmp) (keys_of es)
    → new ≡ insert_entry (slice_cmp nat_cmp) es i.uid (index_of i) → IsOpening all left new
opened_more all left es new i so_far up put = record {
  done = so_far.done ++ i ∷ [];
  entries =
      let sorted : IsStrictlySortedBy (slice_cmp nat_cmp) (keys_of (map entry_of so_far.done)) = subst (λ s. IsStrictlySortedBy (slice_cmp nat_cmp) (keys_of s)) so_far.entries up in
      put ∙ ap (λ s. insert_entry (slice_cmp nat_cmp) s i.uid (index_of i)) so_far.entries
      ∙ inserted_last so_far.done i.uid (index_of i) sorted so_far.each.0.above ∙ map_last so_far.done i;
  whole = append_assoc so_far.done (i ∷ []) left ∙ so_far.whole;
  each = so_far.each.1;
}

-- ---- a loop that makes rows of indexes

-- these rows are of the indexes before the ones that are left
pub record IsListing (es left : Indexes) (rows : List ImageIndex) : Type 0 where
  pub entries : map entry_of (map index_view rows) ++ left ≡ es
  pub each : EachAfter IsIndex [] (map index_view rows)

-- at the end no index is left
pub listed : (es left : Indexes) (rows : List ImageIndex) → IsListing es left rows → left ≡ [] → map entry_of (map index_view rows) ≡ es
listed es left rows so_far none =
    sym (append-nil (map entry_of (map index_view rows))) ∙ ap (λ (l : Indexes). map entry_of (map index_view rows) ++ l) (sym none) ∙ so_far.entries

here : (P : List ℕ → Type 0) (done : Indexes) (e : List ℕ × Index) (rest : Indexes) → AllByRecursion P (keys_of (done ++ e ∷ rest)) → P e.0
here P [] e rest all = all.0
here P (d ∷ done) e rest all = here P done e rest all.1

pub listed_more : (es left rest : Indexes) (uid : List ℕ) (v : Index) (rows new : List ImageIndex) (row : ImageIndex)
    → IsStrictlySortedBy (slice_cmp nat_cmp) (keys_of es) → AllByRecursion (λ u. is_uid u ≡ true) (keys_of es) → IsListing es left rows → left ≡ (uid, v) ∷ rest
    → new ≡ rows ++ row ∷ [] → row.uid ≡ uid → index_of (index_view row) ≡ v
    → (is_uid uid ≡ true → (before : List IndexData) → is_above before uid ≡ true → IsIndex before (index_view row)) → IsListing es rest new
listed_more es left rest uid v rows new row up uids so_far next push named is each =
    let done = map index_view rows in
    let all : map entry_of done ++ (uid, v) ∷ rest ≡ es = ap (λ l. map entry_of done ++ l) (sym next) ∙ so_far.entries in
    let more : map index_view new ≡ done ++ index_view row ∷ [] = ap (map index_view) push ∙ map-append index_view rows (row ∷ []) in
    let valid : is_uid uid ≡ true = here (λ u. is_uid u ≡ true) (map entry_of done) (uid, v) rest (subst (λ s. AllByRecursion (λ u. is_uid u ≡ true) (keys_of s)) (sym all) uids) in
    let above : is_above done uid ≡ true = above_sorted done (uid, v) rest (subst (λ s. IsStrictlySortedBy (slice_cmp nat_cmp) (keys_of s)) (sym all) up) in
    let entry : entry_of (index_view row) ≡ (uid, v) = ap₂ (λ u i. (u, i)) named is in record {
      entries =
          ap (λ d. map entry_of d ++ rest) more ∙ ap (λ d. d ++ rest) (sym (map_last done (index_view row)))
          ∙ append_assoc (map entry_of done) (entry_of (index_view row) ∷ []) rest ∙ ap (λ e. map entry_of done ++ e ∷ rest) entry ∙ all;
      each = subst (EachAfter IsIndex []) (sym more) (one_more_after IsIndex [] done (index_view row) so_far.each (each valid done above));
    }
