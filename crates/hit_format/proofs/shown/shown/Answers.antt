use Rattle.std.proofs.Common.{sym, subst, ◌∙◌}
use Rattle.hit_format.specs.Tagged.{AreCuts}
use Rattle.hit_format.proofs.TagLemmas.{shown-cuts}
use Rattle.hit_format.proofs.shown.shown.Goals as goal

pub push_tagged-requires : goal.push_tagged-requires
push_tagged-requires c =
    let round = c.window_of-window.ensures.round in
    subst (AreCuts c.args.text.now c.window_of-window.result.from c.window_of-window.result.to) (sym (c.as_slice.ensures.value ∙ c.in_ok-spans.ensures))
    (shown-cuts c.args.text.now c.window_of-window.result.from c.window_of-window.result.to c.args.how.now.highlight _ _ round.cuts round.ends round.bytes round.from round.to)
