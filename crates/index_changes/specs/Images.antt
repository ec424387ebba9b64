-- The index that stands in an image.
use Rattle.std.specs.Prelude.{ℕ, List, [], map, unwrap_or}
use Rattle.doc_store.specs.Store.{Row}
use Rattle.index_image.specs.declared.rows.ImageDocument.{ImageDocument}
use Rattle.index_image.specs.Rows.{IndexData}
use Rattle.index_image.specs.State.{id_under}
use Rattle.index_changes.specs.Index.{Index}

-- a document under the external id that it has by the key
abbrev pub row_under : List ℕ → ImageDocument → Row
row_under key d = record { id = d.id.0; external = unwrap_or (id_under key d.document) []; document = d.document }

abbrev pub index_of : IndexData → Index
index_of i = record {
  key = i.key;
  store = record { paths = i.paths; next_id = i.next_id; rows = map (row_under (unwrap_or i.key [])) i.documents };
  settings = i.settings;
}

-- a document without its external id
abbrev pub document_of : Row → ImageDocument
document_of r = record { id = record { 0 = r.id }; document = r.document }
