use Rattle.std.proofs.Common.{sym, ap, ◌∙◌}
use Rattle.postings.specs.Words.{shown_rows}
use Rattle.postings.proofs.FromLemmas.{shown_passed}
use Rattle.postings.proofs.words.next_shown.Goals as goal

pub loop-word-preserved : goal.loop-word-preserved
loop-word-preserved c =
    sym (shown_passed c.args.slots.now c.in-Some.word.now c.in-Some.number.now c.next.new.self c.in-None.ensures)
    ∙ ap (shown_rows c.args.slots.now) (sym c.in-Some.ensures.steps) ∙ c.loop-word.invariant
