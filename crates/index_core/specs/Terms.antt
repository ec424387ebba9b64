-- The terms by which the texts of hits are marked.
use Rattle.std.specs.Prelude.{List, [], if◌then◌else◌}
use Rattle.search_base.specs.Terms.{terms_under}
use Rattle.search_base.specs.TermView.{TermView}
use Rattle.search_call.specs.FormatView.{shows_matches}
use Rattle.search_call.specs.SearchView.{SearchView}
use Rattle.index_changes.specs.Index.{Index}
use Rattle.index_core.specs.Matching.{query_in}

-- those of the query, where hits show which words are matched
abbrev pub terms_in : Index → SearchView → List TermView
terms_in index call = if shows_matches call.formats then terms_under (query_in index call) else []
