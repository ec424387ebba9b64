use Rattle.row_index.specs.Documents.{after}
use Rattle.doc_index.proofs.SameLemmas.{stands-same}
use Rattle.doc_index.proofs.change.commit.Goals as goal

pub returns-clause-stands : goal.returns-clause-stands
returns-clause-stands c = λ documents ready.
    stands-same c.commit.new.self (after ready.gone ready.come ready.before) documents ready.apart ready.leads
    (c.commit.ensures.stands ready.gone ready.come ready.before ready.is ready.batch ready.stood)
