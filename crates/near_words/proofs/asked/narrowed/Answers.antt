use Rattle.std.proofs.Common.{false, [], ◌∷◌, ap, subst, ◌∙◌}
use Rattle.posting_sets.specs.Found.{AreOccurring, term_of}
use Rattle.posting_sets.proofs.OccursLemmas.{ok_of}
use Rattle.near_words.proofs.NarrowLemmas.{narrowed_found}
use Rattle.near_words.proofs.asked.narrowed.Goals as goal

pub returns : goal.returns
returns c = ok_of _ _ c.documents.result c.documents.ensures (λ set found.
    narrowed_found c.args.postings.now c.args.word.now c.args.universe.now.ids set.ids
    (subst (λ term. AreOccurring c.args.postings.now term c.args.universe.now.ids set.ids)
    (ap (term_of false) (c.in_ok-from_array.ensures.items ∙ ap (λ word. word ∷ []) c.in_ok-copy.ensures)) found))
