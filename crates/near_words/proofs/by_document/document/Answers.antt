use Rattle.near_words.proofs.ReadLemmas.{from_first, first_passed, none_left}
use Rattle.near_words.proofs.by_document.document.Goals as goal

pub returns-in-Some-clause-some : goal.returns-in-Some-clause-some
returns-in-Some-clause-some c = from_first c.in-Some.entry c.args.left.now c.in-Some.ensures.first c.in-Some.ensures.increasing

pub returns-in-Some-clause-passed : goal.returns-in-Some-clause-passed
returns-in-Some-clause-passed c = first_passed c.in-Some.entry c.args.left.now c.in-Some.ensures.first

pub returns-in-None-clause-none : goal.returns-in-None-clause-none
returns-in-None-clause-none c = none_left c.args.left.now c.in-None.ensures.first
