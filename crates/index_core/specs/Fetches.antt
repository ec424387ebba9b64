-- How many stored documents a search has to read.
use Rattle.std.specs.Prelude.{ℕ, ◌+◌, List, length, Option, None, Some}
use Rattle.search_call.specs.SearchView.{SearchView}
use Rattle.search_settings.specs.SearchFaults.{search_fault}
use Rattle.index_changes.specs.Index.{Index}
use Rattle.index_core.specs.Distinct.{distinct_attribute_in}
use Rattle.index_core.specs.Found.{asked}
use Rattle.index_core.specs.Looked.{LookedAt, looked_at, unless_refused}

-- the values under an attribute are read of each document that is looked at
abbrev pub compared_of : Option (List ℕ) → LookedAt → ℕ
compared_of None looked = 0
compared_of (Some attribute) looked = looked.end

abbrev pub compared : Index → SearchView → ℕ
compared index call = compared_of (distinct_attribute_in index call) (looked_at index call)

-- a search reads its hits, and before them the documents that are told apart, and none where it is refused
abbrev pub documents_needed : Index → SearchView → ℕ
documents_needed index call =
    unless_refused (search_fault index.settings call) (compared index call + length (asked index call)) 0
