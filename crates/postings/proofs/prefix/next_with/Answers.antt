use Rattle.std.proofs.Common.{sym, ap, ◌∙◌, rules}
use Rattle.postings.specs.Prefixes.{first_rows}
use Rattle.postings.proofs.PrefixLemmas.{first_passed, first_ends}
use Rattle.postings.proofs.prefix.next_with.Goals as goal

pub returns-then-not-begins-clause-none : goal.returns-then-not-begins-clause-none
returns-then-not-begins-clause-none c = sym c.loop-word.invariant ∙ ap (first_rows c.args.slots.now c.args.prefix.now) c.in-Some.ensures.steps
    ∙ first_ends c.args.slots.now c.args.prefix.now c.in-Some.word.now c.in-Some.number.now c.next.new.self (search rules)

pub loop-word-preserved : goal.loop-word-preserved
loop-word-preserved c =
    sym (first_passed c.args.slots.now c.args.prefix.now c.in-Some.word.now c.in-Some.number.now c.next.new.self (search rules) c.in-None.ensures)
    ∙ ap (first_rows c.args.slots.now c.args.prefix.now) (sym c.in-Some.ensures.steps) ∙ c.loop-word.invariant
