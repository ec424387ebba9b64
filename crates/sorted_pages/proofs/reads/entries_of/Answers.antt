use Rattle.std.proofs.Common.{sym, subst, arith, append-nil}
use Rattle.sorted_pages.specs.Entries.{IsIncreasing}
use Rattle.sorted_pages.proofs.WholeLemmas.{last_up}
use Rattle.sorted_pages.proofs.reads.entries_of.Goals as goal

pub invariant_of-result : goal.invariant_of-result
invariant_of-result c = record {
  full = tt;
  some = λ l. absurd (omega (arith, l));
  up = subst IsIncreasing (sym (append-nil c.args.last.now)) (last_up c.args.pages.now c.args.last.now c.requires);
}
