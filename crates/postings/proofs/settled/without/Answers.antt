use Rattle.std.proofs.Common.{not, rules, arith}
use Rattle.std.proofs.lemmas.Fn.{filter_same}
use Rattle.std.proofs.lemmas.Grind.{common_steps}
use Rattle.sorted_pages.specs.Entries.{has}
use Rattle.postings.proofs.settled.without.Goals as goal

pub returns : goal.returns
returns c = filter_same _ (λ d. not (has c.args.others.now d)) _ (λ x b f called. first_of (search rules, grind (arith, common_steps))) _ _ c.retain.ensures.filtered
