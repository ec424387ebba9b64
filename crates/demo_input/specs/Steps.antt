-- The requests of the demo, one after the other.
use Rattle.std.specs.Prelude.{ℕ, zero, suc, ◌+◌, ◌-◌, min, Bool, false, List, [], ◌∷◌, ◌++◌, codes, Option, Some, None, if◌then◌else◌, drop}
use Rattle.std.specs.Int.{div_ceil}
use Rattle.http_wire.specs.Stream.{Request}
use Rattle.http_wire.specs.Wire.{request_of}
use Rattle.demo_input.specs.Draws.{draw}
use Rattle.demo_input.specs.Documents.{documents, list_text}
use Rattle.demo_input.specs.declared.demo.Step.{Step}

-- a request, and which search it is, if it is one
pub record DemoStep : Type 0 where
  pub search : Option ℕ
  pub request : Request

abbrev pub view_of : Step → DemoStep
view_of step = record { search = step.search; request = request_of step.wire }

abbrev pub request_to : List ℕ → List ℕ → List ℕ → Request
request_to method target body = record { method = method; target = target; body = body; closes = false }

-- the settings come first
unfoldable pub settings_step : DemoStep
settings_step = record {
  search = None;
  request = request_to (codes "PATCH") (codes "/indexes/demo/settings")
      (codes "{\"filterableAttributes\":[\"tags\",\"year\"],\"sortableAttributes\":[\"year\"]}");
}

-- so many documents behind the first `made`, where x was drawn before them
unfoldable pub batch : ℕ → ℕ → ℕ → DemoStep
batch n made x = record {
  search = None;
  request = request_to (codes "POST") (codes "/indexes/demo/documents") (list_text (documents n made x));
}

-- n batches of 1,000 documents, of which the last ends with document `count`
unfoldable pub batches : ℕ → ℕ → ℕ → ℕ → List DemoStep
batches zero made count x = []
batches (suc n) made count x =
    batch (min 1000 (count - made)) made x ∷ batches n (made + 1000) count (draw 6000 x)

-- the bodies of the searches
unfoldable pub queries : List (List ℕ)
queries =
    codes "{\"q\":\"cloud garden\"}"
    ∷ codes "{\"q\":\"amber bri\"}"
    ∷ codes "{\"q\":\"\\\"north pebble\\\"\"}"
    ∷ codes "{\"q\":\"ocean delta forest\"}"
    ∷ codes "{\"q\":\"delta\",\"filter\":\"year > 2005\"}"
    ∷ codes "{\"q\":\"\",\"sort\":[\"year:desc\"],\"limit\":5}"
    ∷ codes "{\"facets\":[\"tags\"],\"limit\":0}"
    ∷ codes "{\"q\":\"ember\",\"matchingStrategy\":\"all\",\"filter\":\"tags = red\"}"
    ∷ codes "{\"q\":\"harb our\"}"
    ∷ codes "{\"q\":\"kettle lantern\",\"page\":2,\"hitsPerPage\":3}"
    ∷ []

unfoldable pub search_step : ℕ → List ℕ → DemoStep
search_step number body = record {
  search = Some number;
  request = request_to (codes "POST") (codes "/indexes/demo/search") body;
}

-- searches with these bodies, numbered behind the first `done`
abbrev pub searches : ℕ → List (List ℕ) → List DemoStep
searches done [] = []
searches done (body ∷ bodies) = search_step (done + 1) body ∷ searches (done + 1) bodies

-- all requests of the demo of so many documents, drawn from a seed
unfoldable pub steps : ℕ → ℕ → List DemoStep
steps count seed = settings_step ∷ (batches (div_ceil count 1000) 0 count seed ++ searches 0 queries)

-- ---- as the code does it

-- what is left once the settings are sent or not, so many documents are made, and so many searches are done
unfoldable pub steps_left : Bool → ℕ → ℕ → ℕ → ℕ → List DemoStep
steps_left settled made count x done =
    (if settled then [] else settings_step ∷ [])
    ++ (batches (div_ceil (count - made) 1000) made count x ++ searches done (drop done queries))
