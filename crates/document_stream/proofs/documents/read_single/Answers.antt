use Rattle.std.proofs.Common.{◌∷◌}
use Rattle.json.specs.Reads.{token_of}
use Rattle.serde_json.specs.View.{view}
use Rattle.document_stream.proofs.Shallow.{value_at-shallow}
use Rattle.document_stream.proofs.documents.read_single.Goals as goal

pub documents_of-requires : goal.documents_of-requires
documents_of-requires c = value_at-shallow 127 (token_of c.args.first ∷ c.args.reader.now) c.value_from.new.reader (view c.in_ok-value.value) c.in_ok-value.ensures.value
