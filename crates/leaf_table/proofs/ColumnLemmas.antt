-- Cells, and columns of them.
use Rattle.std.proofs.Common.{◌≡◌, ℕ, ◌+◌, ◌<◌, ◌≤◌, Bool, true, false, ◌==◌, cond, ℤ, List, [], ◌∷◌, ◌++◌, Option, Vec, length, get_or, set, unwrap_or, ltb, refl, sym, ap, subst, ◌∙◌, arith}
use borrow.Author.Count.{below_more}
use Rattle.std.specs.Global.{Global}
use Rattle.std.specs.Vec.{with_items}
use Rattle.std.proofs.lemmas.Bool.{eqb-true, false≢true}
use Rattle.std.proofs.lemmas.Bool.Decides.{nat_tests}
use Rattle.std.proofs.lemmas.List.{with_items_is, get_or-set_same, get_or-set_other, get_or_past, get_or_default, get_or-map, map-set, length-map, length-append, append-nil}
use Rattle.std.proofs.lemmas.List.Elements.{filter-append}
use Rattle.std.proofs.Math.Seq.{get_or-append_seam}
use Rattle.std.proofs.Math.ListN.{get_or-append}
use Rattle.search_base.specs.declared.document.Leaf.{Leaf}
use Rattle.search_base.specs.declared.value.FacetValue.{FacetValue}
use Rattle.search_base.specs.SortKeys.{leaves_under}
use Rattle.leaf_table.specs.declared.columns.TheConstants.{OTHER}
use Rattle.leaf_table.specs.Columns.{leaves_in, Tells, cell_in, columns_of, cell_at, IsColumn, AreColumns}
use Rattle.leaf_table.proofs.ChangeLemmas.{kept_in, kept_set}

pub tells_other : (leaves : List Leaf) → Tells OTHER leaves
tells_other leaves = record { nothing = λ h. absurd (false≢true h); number = λ h. absurd (false≢true h) }

-- ---- one column

-- one cell is set
pub cell_set_same : (column : List ℤ) (at : ℕ) (v : ℤ) → at < length column → cell_in at (set column at v) ≡ v
cell_set_same column at v within = grind (arith, get_or-set_same)

-- a cell that is there, whatever is read past the end
pub cell_read : (column : List ℤ) (at : ℕ) (d : ℤ) → at < length column → cell_in at column ≡ get_or column at d
cell_read column at d within = get_or_default column at OTHER d within

pushed_other : (column : List ℤ) (v : ℤ) (id : ℕ) → (id == length column) ≡ false → cell_in id (column ++ v ∷ []) ≡ cell_in id column
pushed_other column v id off = by (ltb id (length column)) refl
  where
    by : (b : Bool) → ltb id (length column) ≡ b → cell_in id (column ++ v ∷ []) ≡ cell_in id column
    by true h = get_or-append column (v ∷ []) OTHER id (grind (arith, nat_tests))
    by false h =
        let past : length column < id = grind (arith, nat_tests) in
        get_or_past (column ++ v ∷ []) id OTHER (omega (arith, length-append column (v ∷ []))) ∙ sym (get_or_past column id OTHER (omega arith))

-- a column is made longer by a cell
pub cell_pushed : (path : ℕ) (column : List ℤ) (rows : List (Option (List Leaf))) (v : ℤ) → IsColumn path column rows
    → Tells v (leaves_under path (leaves_in (length column) rows)) → IsColumn path (column ++ v ∷ []) rows
cell_pushed path column rows v is told id = by (id == length column) refl
  where
    by : (b : Bool) → (id == length column) ≡ b → Tells (cell_in id (column ++ v ∷ [])) (leaves_under path (leaves_in id rows))
    by true h =
        let e = eqb-true id (length column) h in
        subst (λ n. Tells (cell_in n (column ++ v ∷ [])) (leaves_under path (leaves_in n rows))) (sym e)
        (subst (λ cell. Tells cell (leaves_under path (leaves_in (length column) rows))) (sym (get_or-append_seam column v [] OTHER)) told)
    by false h = subst (λ cell. Tells cell (leaves_under path (leaves_in id rows))) (sym (pushed_other column v id h)) (is id)

-- ---- one leaf more

-- what a value makes of what was told
abbrev pub AddsTo : ℤ → ℤ → FacetValue → Type 0
AddsTo cell next value = (leaves : List Leaf) (leaf : Leaf) → leaf.value ≡ value → Tells cell leaves → Tells next (leaves ++ leaf ∷ [])

-- ---- all columns

abbrev pub column_in : ℕ → List (Vec ℤ Global) → List ℤ
column_in path columns = get_or (columns_of columns) path []

-- one column is set
pub column_set_same : (columns : List (Vec ℤ Global)) (at : ℕ) (column : Vec ℤ Global) → at < length columns → column_in at (set columns at column) ≡ column.items
column_set_same columns at column within =
    ap (λ list. get_or list at []) (map-set (λ (c : Vec ℤ Global). c.items) columns at column)
    ∙ same (columns_of columns) column.items (let n = length-map columns (λ (c : Vec ℤ Global). c.items) in omega arith)
  where
    same : (lists : List (List ℤ)) (list : List ℤ) → at < length lists → get_or (set lists at list) at [] ≡ list
    same lists list h = grind (arith, get_or-set_same)

pub column_set_other : (columns : List (Vec ℤ Global)) (at path : ℕ) (column : Vec ℤ Global) → (at == path) ≡ false
    → column_in path (set columns at column) ≡ column_in path columns
column_set_other columns at path column off =
    ap (λ list. get_or list path []) (map-set (λ (c : Vec ℤ Global). c.items) columns at column)
    ∙ other (columns_of columns) column.items
  where
    other : (lists : List (List ℤ)) (list : List ℤ) → get_or (set lists at list) path [] ≡ get_or lists path []
    other lists list = grind (arith, nat_tests, get_or-set_other)

-- the items of a column
pub column_is : (columns : List (Vec ℤ Global)) (at : ℕ) (column : Vec ℤ Global) → at < length columns → (get_or columns at column).items ≡ column_in at columns
column_is columns at column within = sym (get_or-map (λ (c : Vec ℤ Global). c.items) columns at column [] within)

-- past the last column there may be anything
pub tells_past : (columns : List (Vec ℤ Global)) (path id : ℕ) (leaves : List Leaf) → length columns ≤ path → Tells (cell_at path id columns) leaves
tells_past columns path id leaves past =
    subst (λ column. Tells (cell_in id column) leaves)
    (sym (get_or_past (columns_of columns) path [] (let n = length-map columns (λ (c : Vec ℤ Global). c.items) in omega arith)))
    (tells_other leaves)

module _ (columns : List (Vec ℤ Global)) (at id : ℕ) (column : Vec ℤ Global) (within : at < length columns) where
  -- the cells of other documents stay in all columns where they stay in one
  pub others_set : (was now : List ℤ) → was ≡ column_in at columns → column.items ≡ now
      → ((d : ℕ) → (id == d) ≡ false → cell_in d now ≡ cell_in d was)
      → (path d : ℕ) → (id == d) ≡ false → cell_at path d (set columns at column) ≡ cell_at path d columns
  others_set was now is items stay path d off = by (at == path) refl
    where
      by : (b : Bool) → (at == path) ≡ b → cell_at path d (set columns at column) ≡ cell_at path d columns
      by true h =
          subst (λ p. cell_at p d (set columns at column) ≡ cell_at p d columns) (eqb-true at path h)
          (ap (cell_in d) (column_set_same columns at column within ∙ items) ∙ stay d off ∙ ap (cell_in d) is)
      by false h = ap (cell_in d) (column_set_other columns at path column h)

  -- a leaf is added in its column
  pub leaf_set : (was now : List ℤ) (leaf : Leaf) → was ≡ column_in at columns → column.items ≡ now → at ≡ leaf.path.0
      → AddsTo (cell_in id was) (cell_in id now) leaf.value
      → (path : ℕ) (leaves : List Leaf) → Tells (cell_at path id columns) (leaves_under path leaves)
      → Tells (cell_at path id (set columns at column)) (leaves_under path (leaves ++ leaf ∷ []))
  leaf_set was now leaf is items its adds path leaves told =
      subst (Tells (cell_at path id (set columns at column))) (sym (filter-append (λ (x : Leaf). x.path.0 == path) leaves (leaf ∷ [])))
      (by (leaf.path.0 == path) refl)
    where
      by : (b : Bool) → (leaf.path.0 == path) ≡ b → Tells (cell_at path id (set columns at column)) (leaves_under path leaves ++ cond b (leaf ∷ []) [])
      by true h =
          let e : at ≡ path = its ∙ eqb-true leaf.path.0 path h in
          subst (λ cell. Tells cell (leaves_under path leaves ++ leaf ∷ []))
          (sym (ap (cell_in id) (column_set_same columns at column within ∙ items)) ∙ ap (λ p. cell_at p id (set columns at column)) e)
          (adds (leaves_under path leaves) leaf refl
          (subst (λ cell. Tells cell (leaves_under path leaves)) (ap (λ p. cell_at p id columns) (sym e) ∙ ap (cell_in id) (sym is)) told))
      by false h =
          subst (λ cell. Tells cell (leaves_under path leaves ++ []))
          (sym (ap (cell_in id) (column_set_other columns at path column (ap (λ n. n == path) its ∙ h))))
          (subst (Tells (cell_at path id columns)) (sym (append-nil (leaves_under path leaves))) told)

-- a leaf for which there is no column
pub leaf_past : (columns : List (Vec ℤ Global)) (id : ℕ) (leaf : Leaf) → length columns ≤ leaf.path.0
    → (path : ℕ) (leaves : List Leaf) → Tells (cell_at path id columns) (leaves_under path leaves)
    → Tells (cell_at path id columns) (leaves_under path (leaves ++ leaf ∷ []))
leaf_past columns id leaf past path leaves told =
    subst (Tells (cell_at path id columns)) (sym (filter-append (λ (x : Leaf). x.path.0 == path) leaves (leaf ∷ [])))
    (by (leaf.path.0 == path) refl)
  where
    by : (b : Bool) → (leaf.path.0 == path) ≡ b → Tells (cell_at path id columns) (leaves_under path leaves ++ cond b (leaf ∷ []) [])
    by true h = tells_past columns path id (leaves_under path leaves ++ leaf ∷ []) (subst (λ p. length columns ≤ p) (eqb-true leaf.path.0 path h) past)
    by false h = subst (Tells (cell_at path id columns)) (sym (append-nil (leaves_under path leaves))) told

-- one column more tells of no leaf
pub unset_more : (columns : List (Vec ℤ Global)) (at id : ℕ) (column : Vec ℤ Global) (now : List ℤ) → at < length columns → column.items ≡ now → Tells (cell_in id now) []
    → ((path : ℕ) → path < at → Tells (cell_at path id columns) []) → (path : ℕ) → path < at + 1 → Tells (cell_at path id (set columns at column)) []
unset_more columns at id column now within items told before =
    below_more (λ path. Tells (cell_at path id (set columns at column)) []) at
    (λ path less. subst (λ cell. Tells cell []) (sym (ap (cell_in id) (column_set_other columns at path column (grind (arith, nat_tests))))) (before path less))
    (subst (λ cell. Tells cell []) (sym (ap (cell_in id) (column_set_same columns at column within ∙ items))) told)

pub unset_all : (columns : List (Vec ℤ Global)) (n id : ℕ) → length columns ≤ n → ((path : ℕ) → path < n → Tells (cell_at path id columns) [])
    → (path : ℕ) → Tells (cell_at path id columns) []
unset_all columns n id enough before path = by (ltb path n) refl
  where
    by : (b : Bool) → ltb path n ≡ b → Tells (cell_at path id columns) []
    by true h = before path (grind (arith, nat_tests))
    by false h = tells_past columns path id [] (grind (arith, nat_tests))

-- the column of a path is set
pub column_filled : (columns : List (Vec ℤ Global)) (rows : List (Option (List Leaf))) (at : ℕ) (column : Vec ℤ Global) → at < length columns
    → AreColumns columns rows → IsColumn at column.items rows → AreColumns (set columns at column) rows
column_filled columns rows at column within are is path = by (at == path) refl
  where
    by : (b : Bool) → (at == path) ≡ b → IsColumn path (column_in path (set columns at column)) rows
    by true h =
        subst (λ p. IsColumn p (column_in p (set columns at column)) rows) (eqb-true at path h)
        (subst (λ list. IsColumn at list rows) (sym (column_set_same columns at column within)) is)
    by false h = subst (λ list. IsColumn path list rows) (sym (column_set_other columns at path column h)) (are path)

-- ---- columns beside rows

-- a row is set once the columns tell of it
pub row_set : (columns new : List (Vec ℤ Global)) (rows : List (Option (List Leaf))) (at : ℕ) (row : Option (List Leaf)) → at < length rows
    → AreColumns columns rows
    → ((path : ℕ) → Tells (cell_at path at new) (leaves_under path (unwrap_or row [])))
    → ((path d : ℕ) → (at == d) ≡ false → cell_at path d new ≡ cell_at path d columns)
    → AreColumns new (set rows at row)
row_set columns new rows at row within are told others path d =
    subst (λ kept. Tells (cell_at path d new) (leaves_under path (unwrap_or kept []))) (sym (kept_set d rows at row within)) (by (at == d) refl)
  where
    by : (b : Bool) → (at == d) ≡ b → Tells (cell_at path d new) (leaves_under path (unwrap_or (cond b row (kept_in d rows)) []))
    by true h = subst (λ n. Tells (cell_at path n new) (leaves_under path (unwrap_or row []))) (eqb-true at d h) (told path)
    by false h = subst (λ cell. Tells cell (leaves_under path (unwrap_or (kept_in d rows) []))) (sym (others path d h)) (are path d)

-- the same, where the columns were lent and written
pub row_put : (columns : Vec (Vec ℤ Global) Global) (was new : List (Vec ℤ Global)) (rows : List (Option (List Leaf))) (at : ℕ)
    (row : Option (List Leaf)) → length new ≡ columns.len → was ≡ columns.items → at < length rows → AreColumns columns.items rows
    → ((path : ℕ) → Tells (cell_at path at new) (leaves_under path (unwrap_or row [])))
    → ((path d : ℕ) → (at == d) ≡ false → cell_at path d new ≡ cell_at path d was)
    → AreColumns (with_items columns new).items (set rows at row)
row_put columns was new rows at row same is within are told others =
    subst (λ list. AreColumns list (set rows at row)) (sym (with_items_is columns new same))
    (row_set columns.items new rows at row within are told (λ path d off. others path d off ∙ ap (cell_at path d) is))

-- columns that tell the same
pub same_columns : (columns new : List (Vec ℤ Global)) (rows : List (Option (List Leaf)))
    → ((path : ℕ) → column_in path new ≡ column_in path columns) → AreColumns columns rows → AreColumns new rows
same_columns columns new rows same are path = subst (λ column. IsColumn path column rows) (sym (same path)) (are path)
