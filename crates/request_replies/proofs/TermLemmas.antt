-- Which terms there are decides what a search shows.
use Rattle.std.proofs.Common.{◌≡◌, ℕ, List, ap}
use Rattle.search_base.specs.TermView.{TermView}
use Rattle.search_base.specs.Terms.{HaveSame}
use Rattle.search_call.specs.SearchView.{SearchView}
use Rattle.search_result.specs.View.{Found}
use Rattle.search_replies.proofs.TermLemmas.{hits_by_terms}
use Rattle.request_replies.specs.Replies.{hits_data, found_data}

pub found-alike : (terms other : List TermView) → HaveSame terms other → (displayed : List (List ℕ)) (call : SearchView) (found : Found)
    → found_data displayed call terms found ≡ found_data displayed call other found
found-alike terms other same displayed call found =
    ap (hits_data call.q call.window found.total found.facets) (hits_by_terms terms other same displayed call found.hits)
