-- What a change of documents makes each part lose and gain.
use Rattle.std.specs.Prelude.{◌≡◌, ℕ, not, ◌&&◌, ◌||◌, List, map}
use Rattle.doc_sets.specs.Sets.{has}
use Rattle.postings.specs.Changes.{ChangeView}
use Rattle.postings.specs.Changes as postings
use Rattle.postings.specs.Dictionary.{list_at, none}
use Rattle.postings.specs.Dictionary as lists
use Rattle.path_lengths.specs.Measured.{IsLengthChangeOf}
use Rattle.path_lengths.specs.Measured as lengths
use Rattle.facet_index.specs.Batches.{IsChangeFor, IsPreparedFor}
use Rattle.leaf_table.specs.Tables.{row_at}
use Rattle.leaf_table.specs.Changes.{IsLeafChangeOf, HasRows}
use Rattle.leaf_table.specs.Changes as leaves
use Rattle.row_index.specs.Documents.{IndexedDocument, has_id}
use Rattle.row_index.specs.Standing.{RowIndexView, placed, faceted}

-- what each part loses and gains, and the ids of the documents that go and come
pub record RowChangeView : Type 0 where
  pub places : ChangeView
  pub lengths : ChangeView
  pub facets : ChangeView
  pub leaves : leaves.ChangeView
  pub gone : List ℕ
  pub come : List ℕ

-- what each part loses and gains, and the ids after that
pub record PreparedView : Type 0 where
  pub places : ChangeView
  pub lengths : ChangeView
  pub facets : ChangeView
  pub leaves : leaves.ChangeView
  pub ids : List ℕ

-- what goes are the rows of some documents, and what comes those of others
pub record IsChangeOf (change : RowChangeView) (gone come : List IndexedDocument) : Type 0 where
  pub places : postings.IsChangeOf change.places (map placed gone) (map placed come)
  pub lengths : IsLengthChangeOf change.lengths (map placed gone) (map placed come)
  pub facets : IsChangeFor change.facets (map faceted gone) (map faceted come)
  pub leaves : IsLeafChangeOf change.leaves (map faceted gone) (map faceted come)
  pub goes : (id : ℕ) → has change.gone id ≡ has_id id gone
  pub comes : (id : ℕ) → has change.come id ≡ has_id id come

-- the same of a change that was prepared on this index
pub record IsPreparedOf (index : RowIndexView) (prepared : PreparedView) (gone come : List IndexedDocument) : Type 0 where
  pub places : postings.IsPreparedOf prepared.places (map placed gone) (map placed come)
  pub lengths : lengths.IsPreparedFor prepared.lengths (map placed gone) (map placed come)
  pub facets : IsPreparedFor prepared.facets (map faceted gone) (map faceted come)
  pub leaves : IsLeafChangeOf prepared.leaves (map faceted gone) (map faceted come)
  pub ids : (id : ℕ) → has prepared.ids id ≡ (has_id id come || (has index.ids id && not (has_id id gone)))

-- there is room for what each list gains, and a row for the leaves of each document that comes
pub record HasRooms (index : RowIndexView) (prepared : PreparedView) : Type 0 where
  pub places : lists.HasRooms index.places.lists prepared.places.words
  pub lengths : lists.HasRooms index.lengths.lists prepared.lengths.words
  pub facets : lists.HasRooms index.facets.lists prepared.facets.words
  pub leaves : HasRows index.leaves prepared.leaves

-- no list is empty
pub record IsTight (index : RowIndexView) : Type 0 where
  pub places : lists.IsTight none index.places.lists
  pub lengths : lists.IsTight none index.lengths.lists
  pub facets : lists.IsTight none index.facets.lists

-- no list is empty but those that a prepared change fills
pub record IsTightBut (prepared : PreparedView) (index : RowIndexView) : Type 0 where
  pub places : lists.IsTight prepared.places.words index.places.lists
  pub lengths : lists.IsTight prepared.lengths.words index.lengths.lists
  pub facets : lists.IsTight prepared.facets.words index.facets.lists

-- each list has the entries that it had, each document its leaves, and the ids are the same
pub record AnswersAsBefore (old new : RowIndexView) : Type 0 where
  pub places : (word : List ℕ) → list_at word new.places ≡ list_at word old.places
  pub lengths : (key : List ℕ) → list_at key new.lengths ≡ list_at key old.lengths
  pub facets : (key : List ℕ) → list_at key new.facets ≡ list_at key old.facets
  pub leaves : (id : ℕ) → row_at id new.leaves ≡ row_at id old.leaves
  pub ids : new.ids ≡ old.ids
