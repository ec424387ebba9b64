-- Buckets of documents by their entries, said of the rows of each id.
use Rattle.std.proofs.Common.{◌≡◌, ℕ, Bool, List, [], ◌∷◌, map, Option, sym, ap, ◌∙◌}
use Rattle.std.proofs.lemmas.List.Elements.{filter_agree}
use Rattle.search_base.specs.declared.cost_key.CostKey.{CostKey}
use Rattle.bucket_sort.specs.declared.bucket.Bucket.{Bucket}
use Rattle.doc_sets.specs.Sets.{difference}
use Rattle.sort_rule.specs.Ordered.{AreOrdered}
use Rattle.sort_rule.specs.Rows.{is_under}
use Rattle.facet_index.specs.Sorts as facets
use Rattle.rule_buckets.specs.Entries.{sort_entry}
use Rattle.leaf_table.specs.Tables.{TableView, AreLeavesOf, kept_at}
use Rattle.leaf_table.proofs.TableLemmas.{leaves_kept}
use Rattle.row_index.specs.Documents.{IndexedDocument}
use Rattle.row_index.specs.Standing.{faceted}
use Rattle.doc_search.specs.Rows.{rows_at}
use Rattle.doc_search.proofs.RowLemmas.{leaves_same}
use Rattle.doc_search.proofs.SortLemmas.{entry_same}

-- the same, where keys are written otherwise
ordered_same : (key other : ℕ → Option CostKey) → ((d : ℕ) → key d ≡ other d) → (universe : List ℕ) (buckets : List Bucket)
    → AreOrdered key universe buckets → AreOrdered other universe buckets
ordered_same key other same universe [] none = λ d inside. sym (same d) ∙ none d inside
ordered_same key other same universe (bucket ∷ buckets) ordered = (
  record {
    some = ordered.0.some;
    docs_are = ordered.0.docs_are ∙ filter_agree (λ d. is_under bucket.key (key d)) (λ d. is_under bucket.key (other d)) (λ d. ap (is_under bucket.key) (same d)) universe;
    is_least = λ d k inside e. ordered.0.is_least d k inside (same d ∙ e);
  },
  ordered_same key other same (difference universe bucket.docs.ids) buckets ordered.1,
)

-- what a table of the documents' leaves puts in order
pub ordered_by_rows : (documents : List IndexedDocument) (table : TableView) (up : Bool) (path : ℕ) (universe : List ℕ) (buckets : List Bucket)
    → AreLeavesOf table (map faceted documents) → AreOrdered (λ d. facets.sort_entry up path (kept_at d table)) universe buckets
    → AreOrdered (λ d. sort_entry up path (rows_at documents d).leaves) universe buckets
ordered_by_rows documents table up path universe buckets are =
    ordered_same (λ d. facets.sort_entry up path (kept_at d table)) (λ d. sort_entry up path (rows_at documents d).leaves)
    (λ d. ap (facets.sort_entry up path) (leaves_kept table (map faceted documents) are d ∙ sym (leaves_same documents d)) ∙ entry_same up path (rows_at documents d).leaves) universe buckets
