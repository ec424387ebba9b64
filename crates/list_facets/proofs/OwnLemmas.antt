-- Documents are counted at a path by the leaves that they have there.
use Rattle.std.proofs.Common.{◌≡◌, ℕ, suc, Bool, true, false, cond, List, [], ◌∷◌, ◌++◌, map, take, length, Option, None, Some, unwrap_or, refl, sym, ap, ap₂, subst, ◌∙◌}
use Rattle.std.specs.List.{list_any, filter}
use Rattle.search_base.specs.declared.document.Leaf.{Leaf}
use Rattle.search_base.specs.declared.document.PathId.{PathId}
use Rattle.search_base.specs.RowsView.{RowsView}
use Rattle.search_base.specs.SortKeys.{leaves_under, numbers, first_by, is_less, is_greater}
use Rattle.facet_counts.specs.Counts.{text_of, is_of, leaves_at, values_at, both_of, count_of, count_row, count_rows, stats_of, rows_of, stats_at, counted, first_shown}
use Rattle.facet_counts.specs.FacetView.{FacetView}
use Rattle.facet_counts.specs.Order.{in_order}
use Rattle.facet_counts.specs.declared.rows.CountRow.{CountRow}
use Rattle.facet_counts.specs.declared.rows.FacetPath.{FacetPath}
use Rattle.leaf_table.specs.Tables.{TableView, kept_at}
use Rattle.leaf_table.proofs.TableLemmas.{under_twice}
use Rattle.list_facets.specs.Rows.{AreKeptRows}

map_same : {X Y : Type 0} (f g : X → Y) → ((x : X) → f x ≡ g x) → (xs : List X) → map f xs ≡ map g xs
map_same f g same [] = refl
map_same f g same (x ∷ xs) = ap₂ ◌∷◌ (same x) (map_same f g same xs)

-- rows that have the same leaves under a path
module _ (path : ℕ) (own rows : ℕ → RowsView) (same : (id : ℕ) → leaves_under path (own id).leaves ≡ leaves_under path (rows id).leaves) where
  same_leaves : (ids : List ℕ) → leaves_at path (map own ids) ≡ leaves_at path (map rows ids)
  same_leaves [] = refl
  same_leaves (id ∷ ids) = ap₂ ◌++◌ (same id) (same_leaves ids)

  same_count : (value : List ℕ) (ids : List ℕ) → count_of path (map own ids) value ≡ count_of path (map rows ids) value
  same_count value [] = refl
  same_count value (id ∷ ids) =
      by (list_any (is_of value) (leaves_under path (own id).leaves)) (list_any (is_of value) (leaves_under path (rows id).leaves))
      (ap (list_any (is_of value)) (same id)) (same_count value ids)
    where
      has : RowsView → Bool
      has x = list_any (is_of value) (leaves_under path x.leaves)

      by : (a b : Bool) → a ≡ b → length (filter has (map own ids)) ≡ length (filter has (map rows ids))
          → length (cond a (own id ∷ filter has (map own ids)) (filter has (map own ids)))
          ≡ length (cond b (rows id ∷ filter has (map rows ids)) (filter has (map rows ids)))
      by true true h later = ap suc later
      by true false h later = absurd (cc)
      by false true h later = absurd (cc)
      by false false h later = later

  same_row : (ids : List ℕ) (value : List ℕ) → count_row path (map own ids) value ≡ count_row path (map rows ids) value
  same_row ids value =
      ap₂ (λ leaves count. record { value = value; shown = first_shown (filter (is_of value) leaves); count = count }) (same_leaves ids) (same_count value ids)

  same_rows : (most : ℕ) (ids : List ℕ) → count_rows path most (map own ids) ≡ count_rows path most (map rows ids)
  same_rows most ids =
      map_same (count_row path (map own ids)) (count_row path (map rows ids)) (same_row ids) (take most (values_at path (map own ids)))
      ∙ ap (λ leaves. map (count_row path (map rows ids)) (take most (in_order (map (λ (leaf : Leaf). text_of leaf.value) leaves)))) (same_leaves ids)

  same_stats : (ids : List ℕ) → stats_of path (map own ids) ≡ stats_of path (map rows ids)
  same_stats ids = ap (λ leaves. both_of (first_by is_less (numbers leaves)) (first_by is_greater (numbers leaves))) (same_leaves ids)

-- ---- the leaves under a path, as a table keeps them

-- rows that have these leaves alone
pub own_rows : ℕ → TableView → ℕ → RowsView
own_rows path table id = record { places = []; leaves = leaves_under path (kept_at id table); marks = [] }

pub own_leaves : (path : ℕ) (table : TableView) (id : ℕ) → (own_rows path table id).leaves ≡ leaves_under path (kept_at id table)
unfolding own_rows
own_leaves path table id = refl

module _ (table : TableView) (path other : PathId) (rows : ℕ → RowsView) (are : AreKeptRows rows table) where
  own_same : (id : ℕ) → leaves_under path.0 (own_rows path.0 table id).leaves ≡ leaves_under path.0 (rows id).leaves
  own_same id =
      ap (leaves_under path.0) (own_leaves path.0 table id) ∙ under_twice path.0 (kept_at id table) ∙ ap (leaves_under path.0) (sym (are id))

  counted_own : (asked : Option PathId) (most : ℕ) (ids : List ℕ) → path ≡ unwrap_or asked other
      → (rows_of asked most (map (own_rows path.0 table) ids) ≡ rows_of asked most (map rows ids))
      × (stats_at asked (map (own_rows path.0 table) ids) ≡ stats_at asked (map rows ids))
  counted_own None most ids is = (refl, refl)
  counted_own (Some at) most ids is =
      subst (λ (p : PathId). (rows_of (Some p) most (map (own_rows path.0 table) ids) ≡ rows_of (Some p) most (map rows ids))
      × (stats_at (Some p) (map (own_rows path.0 table) ids) ≡ stats_at (Some p) (map rows ids))) is
      (same_rows path.0 (own_rows path.0 table) rows own_same most ids, same_stats path.0 (own_rows path.0 table) rows own_same ids)

  -- the counts by these leaves are those by all
  pub own_counted : (asked : FacetPath) (most : ℕ) (ids : List ℕ) → path ≡ unwrap_or asked.path other
      → counted most (map (own_rows path.0 table) ids) asked ≡ counted most (map rows ids) asked
  own_counted asked most ids is =
      let both = counted_own asked.path most ids is in
      ap₂ (λ found stats. record { attribute = asked.attribute; rows = found; stats = stats }) both.0 both.1
