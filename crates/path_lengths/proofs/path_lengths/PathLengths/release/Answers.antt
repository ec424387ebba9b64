use Rattle.std.proofs.Common.{sym, subst}
use Rattle.path_lengths.specs.Measured.{AreLengthsOf}
use Rattle.path_lengths.proofs.BatchLemmas.{lengths_same}
use Rattle.path_lengths.proofs.path_lengths.PathLengths.release.Goals as goal

pub returns-clause-same : goal.returns-clause-same
returns-clause-same c = λ documents lengths.
    lengths_same c.self.inside.keys c.release.new.self documents c.release.ensures.lists (subst (λ v. AreLengthsOf v documents) (sym c.self.view_is) lengths)
