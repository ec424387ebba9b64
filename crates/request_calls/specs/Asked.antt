-- What a request asks for, as contracts see it: each vector is a list.
use Rattle.std.specs.Prelude.{ℕ, List}
use Rattle.search_call.specs.SearchView.{SearchView, FacetCallView}
use Rattle.document_changes.specs.Changes.{ChangeData}
use Rattle.search_bodies.specs.MultiData.{MultiData}
use Rattle.request_calls.specs.declared.call.ReadCall.{ReadCall}
use Rattle.request_calls.specs.declared.call.ReadCall.TheVariants as called

-- what is read: the health, what becomes of the task of a number, the indexes from a place on, an index, its documents
-- from a place on, one of its documents (each with the names of the members that are shown), its settings, the hits of
-- a search, those of several searches, and the values of a facet
pub data ReadData : Type 0 where
  health : ReadData
  task : ℕ → ReadData
  indexes : ℕ → ℕ → ReadData
  index : List ℕ → ReadData
  documents : List ℕ → ℕ → ℕ → List (List ℕ) → ReadData
  document : List ℕ → List ℕ → List (List ℕ) → ReadData
  settings : List ℕ → ReadData
  search : List ℕ → SearchView → ReadData
  multi : List MultiData → ReadData
  facets : List ℕ → FacetCallView → ReadData

abbrev pub read_view : ReadCall → ReadData
read_view called.Health = health
read_view (called.Task number) = task number
read_view (called.Indexes offset limit) = indexes offset limit
read_view (called.Index uid) = index uid
read_view (called.Documents uid offset limit fields) = documents uid offset limit fields.items
read_view (called.Document uid id fields) = document uid id fields.items
read_view (called.Settings uid) = settings uid
read_view (called.Search uid call) = search uid call
read_view (called.Multi calls) = multi calls.items
read_view (called.Facets uid call) = facets uid call

-- a change, or a read
pub data CallData : Type 0 where
  write : ChangeData → CallData
  read : ReadData → CallData
