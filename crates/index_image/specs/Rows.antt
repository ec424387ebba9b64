-- What contracts see of the rows of an image: each vector is a list.
use Rattle.std.specs.Prelude.{ℕ, List, map, Option}
use Rattle.search_base.specs.declared.outcome.OutcomeRow.{OutcomeRow}
use Rattle.index_settings.specs.View.{SettingsView}
use Rattle.index_image.specs.declared.rows.ImageDocument.{ImageDocument}
use Rattle.index_image.specs.declared.rows.ImageIndex.{ImageIndex}
use Rattle.index_image.specs.declared.rows.ImageRows.{ImageRows}

pub record IndexData : Type 0 where
  pub uid : List ℕ
  pub key : Option (List ℕ)
  pub next_id : ℕ
  pub paths : List (List ℕ)
  pub settings : SettingsView
  pub documents : List ImageDocument

pub record ImageData : Type 0 where
  pub changes : ℕ
  pub indexes : List IndexData
  pub outcomes : List OutcomeRow

abbrev pub index_view : ImageIndex → IndexData
index_view i = record {
  uid = i.uid;
  key = i.key;
  next_id = i.next_id;
  paths = i.paths.items;
  settings = i.settings;
  documents = i.documents.items;
}

abbrev pub image_view : ImageRows → ImageData
image_view r = record { changes = r.changes; indexes = map index_view r.indexes.items; outcomes = r.outcomes.items }
