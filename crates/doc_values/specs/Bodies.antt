-- The documents of a body.
use Rattle.std.specs.Prelude.{ℕ, ◌+◌, List, [], ◌∷◌, Result, Ok, Err}
use Rattle.serde_json.specs.Data.{Data, null, boolean, number, string, array, object, Items, no_items, item}
use Rattle.doc_values.specs.Walk.{document_of}
use Rattle.search_base.specs.Trying.{◌>>=◌, refused_as}
use Rattle.doc_values.specs.declared.document.DocumentRefusal.{DocumentRefusal}
use Rattle.doc_values.specs.declared.document.DocumentRefusal.TheVariants as whole
use Rattle.doc_values.specs.declared.bodies.BodyRefusal.{BodyRefusal}
use Rattle.doc_values.specs.declared.bodies.BodyRefusal.TheVariants.{NotList, NotObject, NumberNotWhole}

-- why the document at a place, counted from 1, is none
abbrev pub placed : ℕ → DocumentRefusal → BodyRefusal
placed place whole.NotObject = NotObject place
placed place (whole.NumberNotWhole path) = NumberNotWhole place path

-- the documents of a list whose first stands at this place
abbrev pub documents_in : ℕ → Items → Result (List Data) BodyRefusal
documents_in place no_items = Ok []
documents_in place (item d ds) =
    refused_as (placed place) (document_of d) >>= (λ first. documents_in (place + 1) ds >>= (λ more. Ok (first ∷ more)))

abbrev pub documents_of : Data → Result (List Data) BodyRefusal
documents_of null = Err NotList
documents_of (boolean b) = Err NotList
documents_of (number n) = Err NotList
documents_of (string s) = Err NotList
documents_of (array ds) = documents_in 1 ds
documents_of (object ms) = documents_in 1 (item (object ms) no_items)
