use Rattle.std.proofs.Common.{[], subst}
use Rattle.std.proofs.lemmas.List.{append-nil}
use Rattle.row_index.specs.Standing.{StandsFor}
use Rattle.doc_index.proofs.RisingLemmas.{come-batch}
use Rattle.doc_index.proofs.whole.index_of_change.Goals as goal

pub returns-clause-stands : goal.returns-clause-stands
returns-clause-stands c = λ documents change apart.
    subst (StandsFor c.commit.new.self) (append-nil documents)
    (c.commit.ensures.stands [] documents [] (c.in_ok-prepared.ensures.made [] documents change) (come-batch documents apart) (c.prepare.ensures.same [] c.new-index.ensures.stands))
