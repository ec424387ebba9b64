-- The numbers of documents, said of the rows of each id.
use Rattle.std.proofs.Common.{◌≡◌, ℕ, ℤ, Bool, true, false, List, [], ◌∷◌, map, Option, Some, None, refl, sym, ap, ◌∙◌}
use Rattle.std.specs.List.{AllByRecursion}
use Rattle.std.specs.Option.{option_map, IfSome}
use Rattle.search_base.specs.declared.document.DocId.{DocId}
use Rattle.search_base.specs.declared.document.Leaf.{Leaf}
use Rattle.search_base.specs.declared.value.FacetValue.{FacetValue}
use Rattle.search_base.specs.declared.value.FacetValue.TheVariants as facet
use Rattle.search_base.specs.SortKeys.{first_by}
use Rattle.facet_index.specs.Ends.{value_before, values_under}
use Rattle.facet_index.specs.Starts.{entry_of}
use Rattle.facet_index.proofs.SortLemmas.{entry_is}
use Rattle.leaf_table.specs.Tables.{TableView, AreLeavesOf, kept_at}
use Rattle.leaf_table.specs.Numbers.{AreNumbersOf}
use Rattle.leaf_table.proofs.TableLemmas.{leaves_kept}
use Rattle.sort_rule.specs.Numbers.{number_key, AreNumbered}
use Rattle.rule_buckets.specs.Entries.{sort_entry}
use Rattle.row_index.specs.Documents.{IndexedDocument}
use Rattle.row_index.specs.Standing.{faceted}
use Rattle.doc_search.specs.Rows.{rows_at}
use Rattle.doc_search.proofs.RowLemmas.{leaves_same}
use Rattle.doc_search.proofs.SortLemmas.{entry_same}

pub if_some : {A : Type 0} {P Q : A → Type 0} → ((a : A) → P a → Q a) → (o : Option A) → IfSome o P → IfSome o Q
if_some f None p = tt
if_some f (Some a) p = f a p

-- the entry of a number that is the only value
entry_numbered : (up : Bool) (path : ℕ) (leaves : List Leaf) (n : ℤ) → values_under path leaves ≡ facet.Number n ∷ []
    → sort_entry up path leaves ≡ Some (number_key up n)
entry_numbered up path leaves n only =
    sym (entry_same up path leaves) ∙ entry_is up path leaves
    ∙ ap (λ (values : List FacetValue). option_map (entry_of up) (first_by (value_before up) values)) only ∙ by up
  where
    by : (b : Bool) → option_map (entry_of b) (first_by (value_before b) (facet.Number n ∷ [])) ≡ Some (number_key b n)
    by true = refl
    by false = refl

-- what a table of the documents' leaves tells of their numbers
pub numbered_by_rows : (documents : List IndexedDocument) (table : TableView) (path : ℕ) (universe : List ℕ) (pairs : List (ℤ × DocId))
    → AreLeavesOf table (map faceted documents) → AreNumbersOf path table universe pairs
    → (up : Bool) → AreNumbered (λ d. sort_entry up path (rows_at documents d).leaves) up universe pairs
numbered_by_rows documents table path universe pairs are numbers up = record {
  ids = numbers.ids;
  keys = each pairs numbers.only;
}
  where
    each : (ps : List (ℤ × DocId)) → AllByRecursion (λ pair. values_under path (kept_at pair.1.0 table) ≡ facet.Number pair.0 ∷ []) ps
        → AllByRecursion (λ pair. sort_entry up path (rows_at documents pair.1.0).leaves ≡ Some (number_key up pair.0)) ps
    each [] all = tt
    each (p ∷ ps) all = (
      entry_numbered up path (rows_at documents p.1.0).leaves p.0
          (ap (values_under path) (leaves_same documents p.1.0 ∙ sym (leaves_kept table (map faceted documents) are p.1.0)) ∙ all.0),
      each ps all.1,
    )
