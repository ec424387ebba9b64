use Rattle.std.proofs.Common.{ap, ◌∙◌}
use Rattle.doc_sets.specs.Sets.{union}
use Rattle.doc_sets.proofs.SetLemmas.{or-nil}
use Rattle.doc_sets.proofs.kept.bits_of.Goals as goal

pub returns : goal.returns
returns c =
    c.set_each.ensures.ids ∙ ap (union c.args.ids.now) c.in_ok-bits.ensures.ids ∙ or-nil c.args.ids.now c.requires.up
