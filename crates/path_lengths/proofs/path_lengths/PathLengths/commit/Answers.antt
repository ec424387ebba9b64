use Rattle.std.proofs.Common.{map, sym, subst}
use Rattle.postings.specs.Fresh.{StandsFor}
use Rattle.postings.specs.Changes.{IsPreparedOf}
use Rattle.path_lengths.specs.Measured.{measured}
use Rattle.path_lengths.proofs.BatchLemmas.{after_measured, batch_measured, narrow_after}
use Rattle.path_lengths.proofs.path_lengths.PathLengths.commit.Goals as goal

pub returns-clause-fresh : goal.returns-clause-fresh
returns-clause-fresh c = λ gone come documents prepared batch lengths. record {
  keys = subst (StandsFor c.commit.new.self) (after_measured gone come documents)
      (c.commit.ensures.fresh (map measured gone) (map measured come) (map measured documents)
      (subst (λ v. IsPreparedOf v (map measured gone) (map measured come)) (sym c.prepared.view_is) prepared.keys)
      (batch_measured gone come documents batch)
      (subst (λ v. StandsFor v (map measured documents)) (sym c.self.view_is) lengths.keys));
  narrow = narrow_after gone come documents prepared.narrow lengths.narrow;
}
