use Rattle.std.proofs.Common.{map, sym, subst}
use Rattle.postings.specs.Changes.{IsChangeOf}
use Rattle.path_lengths.specs.Measured.{measured, AreLengthsOf}
use Rattle.path_lengths.proofs.BatchLemmas.{lengths_same}
use Rattle.path_lengths.proofs.path_lengths.PathLengths.prepare.Goals as goal

pub returns-in_err-keys-clause-same : goal.returns-in_err-keys-clause-same
returns-in_err-keys-clause-same c = λ documents lengths.
    lengths_same c.self.inside.keys c.prepare.new.self documents c.prepare.ensures.lists (subst (λ v. AreLengthsOf v documents) (sym c.self.view_is) lengths)

pub returns-clause-same : goal.returns-clause-same
returns-clause-same c = λ documents lengths.
    lengths_same c.self.inside.keys c.prepare.new.self documents c.prepare.ensures.lists (subst (λ v. AreLengthsOf v documents) (sym c.self.view_is) lengths)

pub returns-clause-made : goal.returns-clause-made
returns-clause-made c = λ gone come was. record {
  keys = c.in_ok-keys.ensures.made (map measured gone) (map measured come)
      (subst (λ v. IsChangeOf v (map measured gone) (map measured come)) (sym c.change.view_is) was.keys);
  narrow = was.narrow;
}
