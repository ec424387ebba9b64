use Rattle.std.proofs.Common.{sym, ap, ◌∙◌}
use Rattle.postings.specs.Words.{shown_rows}
use Rattle.postings.proofs.BackLemmas.{last_found, last_passed}
use Rattle.postings.proofs.words.last_shown.Goals as goal

pub returns-in-Some-shown_at-clause-some : goal.returns-in-Some-shown_at-clause-some
returns-in-Some-shown_at-clause-some c =
    sym c.loop-word.invariant ∙ ap (shown_rows c.args.slots.now) c.in-Some.ensures.steps
    ∙ last_found c.args.slots.now c.in-Some.word.now c.in-Some.number.now c.in-Some-shown_at.list.now.entries c.next_back.new.self c.in-Some-shown_at.ensures

pub loop-word-preserved : goal.loop-word-preserved
loop-word-preserved c =
    sym (last_passed c.args.slots.now c.in-Some.word.now c.in-Some.number.now c.next_back.new.self c.in-None.ensures)
    ∙ ap (shown_rows c.args.slots.now) (sym c.in-Some.ensures.steps) ∙ c.loop-word.invariant
