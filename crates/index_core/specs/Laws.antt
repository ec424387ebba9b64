-- What holds of each search, and what a patch leaves of it.
use Rattle.std.specs.Prelude.{◌≡◌, List, [], take, drop, map, true, Ok, None}
use Rattle.std.specs.List.{list_all}
use Rattle.document_changes.specs.Changes.{patch}
use Rattle.serde_json.specs.Data.{Data}
use Rattle.doc_store.specs.Sound.{IsSound}
use Rattle.search_base.specs.declared.rule.Rule.{Rule}
use Rattle.search_base.specs.CostOrder.{before}
use Rattle.search_base.specs.EmptyQuery.{is_query_rule}
use Rattle.search_base.specs.Hits.{stands_before}
use Rattle.bucket_sort.specs.Hits.{AreOrdered}
use Rattle.search_call.specs.SearchView.{SearchView}
use Rattle.search_call.specs.Windows.{offset_of}
use Rattle.filter_tree.specs.Tree.{all}
use Rattle.index_changes.specs.Fetches.{needed, LeavesUses}
use Rattle.index_changes.specs.Index.{Index, documents}
use Rattle.index_changes.specs.PlanView.{PlanView}
use Rattle.index_changes.specs.Plans.{planned, applied}
use Rattle.index_core.specs.Distinct.{distinct_attribute_in}
use Rattle.index_core.specs.Found.{asked, found_in, most_hits, window_size}
use Rattle.index_core.specs.Matching.{Matching, query_in, rows_in, rules_in}

-- each rule asks how a document meets the query, and none for a value of the document
abbrev pub AskOfTheQuery : List Rule → Type 0
AskOfTheQuery rules = list_all is_query_rule rules ≡ true

-- under such rules a search for no word, without a filter, finds the documents in the order of their internal ids,
-- where hits may have values in common
abbrev pub NoWordFindsTheList : Type 0
NoWordFindsTheList = (index : Index) (call : SearchView) → IsSound index.store → (query_in index call).levels ≡ []
    → AskOfTheQuery (rules_in index call) → call.filter ≡ all → distinct_attribute_in index call ≡ None →
    map (λ hit. hit.document) (found_in index call).hits
    ≡ take (window_size (most_hits index) call) (drop (offset_of call.window) (documents index))

-- each hit of a search stands before those after it, by its costs and then by its internal id, so that none stands
-- twice
abbrev pub HitsAreEachOnce : Type 0
HitsAreEachOnce = (index : Index) (call : SearchView) → IsSound index.store →
    AreOrdered (stands_before before (λ (m : Matching). m.costs) (λ (m : Matching). m.row.id))
    (asked index call)

-- a patch that names no member that says how paths are used leaves what a search sees of documents and the rules that
-- rank them, and reads no document
pub record LeavesRanking (index after : Index) (plan : PlanView) : Type 0 where
  pub rows : (document : Data) → rows_in after document ≡ rows_in index document
  pub rules : (call : SearchView) → rules_in after call ≡ rules_in index call
  pub reads : needed plan.work index ≡ 0

abbrev pub OtherPatchesLeaveRanking : Type 0
OtherPatchesLeaveRanking = (index after : Index) (members : Data) (plan : PlanView) → LeavesUses members →
    planned index (patch members) ≡ Ok plan → applied plan index ≡ Ok after → LeavesRanking index after plan
