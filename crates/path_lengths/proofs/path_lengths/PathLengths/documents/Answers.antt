use Rattle.std.proofs.Common.{◌≡◌, false, List, ap, subst}
use Rattle.std.specs.List.{filter}
use Rattle.std.specs.Result.{IfOk}
use Rattle.posting_sets.specs.Found.{term_of}
use Rattle.posting_sets.proofs.OccursLemmas.{ok_of}
use Rattle.postings.specs.Documents.{Document, places_of}
use Rattle.path_lengths.specs.Lengths.{has_length}
use Rattle.path_lengths.specs.Measured.{AreLengthsOf}
use Rattle.path_lengths.proofs.AnswerLemmas.{length_answer}
use Rattle.path_lengths.proofs.path_lengths.PathLengths.documents.Goals as goal

pub returns : goal.returns
returns c = subst
    (λ view. IfOk c.documents.result (λ set. (documents : List Document) → AreLengthsOf view documents
    → set.ids ≡ filter (λ id. has_length (places_of id documents) c.args.path.0 c.args.length) c.args.universe.now.ids)) c.self.view_is
    (ok_of _ _ c.documents.result c.documents.ensures (λ set found.
    length_answer c.keys_tell_facets_apart.ensures c.self.inside.keys c.args.path.0 c.args.length c.in_ok-key.key (term_of false c.in_ok-from_array.field-0.items)
    c.args.universe.now.ids set.ids c.in_ok-key.ensures.key c.in_ok-key.ensures.narrow (ap (term_of false) c.in_ok-from_array.ensures.items) found))
