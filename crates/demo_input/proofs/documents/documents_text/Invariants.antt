use Rattle.std.proofs.Common.{◌≡◌, ◌+◌, ◌-◌, ◌*◌, ◌++◌, nat_lt, string_bytes, false}
use Rattle.demo_input.specs.Draws.{draw}
use Rattle.demo_input.specs.Documents.{documents}
use Rattle.demo_input.proofs.DocumentLemmas.{rest_text}
use Rattle.demo_input.proofs.documents.documents_text.Given as goal

-- the text so far, with the documents that are left, is the text at first with all documents
abbrev pub invariant-loop-place : goal.invariant-loop-place
invariant-loop-place l = record {
  text : string_bytes l.text ++ rest_text (nat_lt 0 l.place) (documents (l.count - l.place) (l.made + l.place) l.draws.last)
      ≡ string_bytes l.initial.text ++ rest_text false (documents l.count l.made l.initial.draws.last);
  drawn : l.draws.last ≡ draw (6 * l.place) l.initial.draws.last;
}
