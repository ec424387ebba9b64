-- The table of refusals: the status, the code and the message of each, and the body that says them.
use Rattle.std.specs.Prelude.{ℕ, List, ◌++◌, codes, decimal}
use Rattle.serde_json.specs.Data.{Data, string, object, member, no_members}
use Rattle.serde_json.specs.Written.{compact_text}
use Rattle.http_wire.specs.Reply.{Answer}
use Rattle.request_refusals.specs.declared.refusal.Refusal.{Refusal}
use Rattle.request_refusals.specs.declared.refusal.Refusal.TheVariants.{NoRoute, MethodNotAllowed, InvalidUid, InvalidTaskUid, Unknown, InvalidSearch, NotJson, NotList, NotObject, NumberNotWhole, BadListedId, MissingUid, BadSettings, BadRankingRule, BadQueries, MissingQueryUid, MissingFacetName, InvalidFacetName, InvalidFacetQuery, NoIndex, NoTask, NoDocument, ChangesSpent, FilterSyntax, FilterTooDeep, FilterNotANumber, NoSortRule, NotSortable, NotFilterable, NotFacet}
use Rattle.request_refusals.specs.Members.{row_of}

pub record Told : Type 0 where
  pub status : ℕ
  pub code : List ℕ
  pub message : List ℕ

abbrev pub told : ℕ → List ℕ → List ℕ → Told
told status code message = record { status = status; code = code; message = message }

abbrev pub told_of : Refusal → Told
told_of NoRoute = told 404 (codes "not_found") (codes "No such route.")
told_of MethodNotAllowed = told 405 (codes "method_not_allowed") (codes "Method not allowed.")
told_of InvalidUid = told 400 (codes "invalid_index_uid") (codes "Invalid index uid.")
told_of InvalidTaskUid = told 400 (codes "invalid_task_uid") (codes "Invalid task uid.")
told_of (Unknown name) = told 400 (codes "bad_request") (codes "Unknown or malformed `" ++ name ++ codes "`.")
told_of (InvalidSearch m) = told 400 (row_of m).code (codes "Invalid `" ++ (row_of m).name ++ codes "`.")
told_of (FilterSyntax text place) =
    told 400 (codes "invalid_search_filter")
    (codes "Filter text " ++ (decimal text ++ (codes ": unexpected at byte " ++ (decimal place ++ codes "."))))
told_of (FilterTooDeep text place) =
    told 400 (codes "invalid_search_filter")
    (codes "Filter text " ++ (decimal text ++ (codes ": deeper than 200 at byte " ++ (decimal place ++ codes "."))))
told_of (FilterNotANumber value) =
    told 400 (codes "invalid_search_filter") (codes "`" ++ value ++ codes "` is not a whole number.")
told_of NotJson = told 400 (codes "malformed_payload") (codes "The body is not JSON.")
told_of NotList = told 400 (codes "malformed_payload") (codes "The body is not a list.")
told_of (NotObject k) =
    told 400 (codes "malformed_payload") (codes "Document " ++ decimal k ++ codes " is not an object.")
told_of (NumberNotWhole k path) =
    told 400 (codes "number_not_whole")
    (codes "Document " ++ (decimal k ++ (codes " has a number at `" ++ (path ++ codes "` that is not whole."))))
told_of (BadListedId k) = told 400 (codes "invalid_document_id") (codes "Id " ++ decimal k ++ codes " is invalid.")
told_of MissingUid = told 400 (codes "missing_index_uid") (codes "The uid is missing.")
told_of (BadSettings name) = told 400 (codes "invalid_settings") (codes "Invalid `" ++ name ++ codes "`.")
told_of (BadRankingRule text) =
    told 400 (codes "invalid_settings_ranking_rules") (codes "Invalid ranking rule `" ++ text ++ codes "`.")
told_of BadQueries = told 400 (codes "bad_request") (codes "Malformed `queries`.")
told_of (MissingQueryUid k) =
    told 400 (codes "missing_index_uid") (codes "Query " ++ decimal k ++ codes " has no index uid.")
told_of MissingFacetName =
    told 400 (codes "missing_facet_search_facet_name") (codes "The facet name is missing.")
told_of InvalidFacetName = told 400 (codes "invalid_facet_search_facet_name") (codes "Invalid `facetName`.")
told_of InvalidFacetQuery = told 400 (codes "invalid_facet_search_facet_query") (codes "Invalid `facetQuery`.")
told_of (NoIndex uid) = told 404 (codes "index_not_found") (codes "No index `" ++ uid ++ codes "`.")
told_of (NoTask number) = told 404 (codes "task_not_found") (codes "No task " ++ decimal number ++ codes ".")
told_of (NoDocument id) = told 404 (codes "document_not_found") (codes "No document `" ++ id ++ codes "`.")
told_of ChangesSpent = told 400 (codes "changes_spent") (codes "No more changes.")
told_of NoSortRule = told 400 (codes "invalid_search_sort") (codes "The ranking rules have no sort.")
told_of (NotSortable attribute) =
    told 400 (codes "invalid_search_sort") (codes "`" ++ attribute ++ codes "` is not sortable.")
told_of (NotFilterable attribute) =
    told 400 (codes "invalid_search_filter") (codes "`" ++ attribute ++ codes "` is not filterable.")
told_of (NotFacet attribute) =
    told 400 (codes "invalid_search_facets") (codes "`" ++ attribute ++ codes "` is not filterable.")

abbrev pub refusal_data : List ℕ → List ℕ → Data
refusal_data code message =
    object (member (codes "code") (string code)
    (member (codes "message") (string message)
    (member (codes "type") (string (codes "invalid_request")) no_members)))

-- the reply to a request that is refused
abbrev pub refused : Refusal → Answer
refused r = let t = told_of r in record { status = t.status; body = compact_text (refusal_data t.code t.message) }
