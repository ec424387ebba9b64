-- What a search found, as the code holds it.
use Rattle.serde_json.specs.Data.{Data}
use Rattle.search_call.specs.SearchView.{SearchView}
use Rattle.search_result.specs.View.{found_view}
use Rattle.request_replies.specs.Replies as replies
use Rattle.search_routes.specs.declared.searching.Shown.{Shown}

-- what a search with this call shows of it
abbrev pub shown_data : SearchView → Shown → Data
shown_data call shown =
    replies.found_data shown.settings.now.displayed_attributes call shown.found.terms.items (found_view shown.found)
