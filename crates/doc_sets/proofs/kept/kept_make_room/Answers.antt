use Rattle.std.proofs.Common.{◌≡◌, length, ap, sym, subst, ◌∙◌}
use Rattle.doc_sets.specs.Sets.{IsIncreasing, union}
use Rattle.doc_sets.specs.Kept.{kept_ids}
use Rattle.doc_sets.proofs.SetLemmas.{or-nil}
use Rattle.doc_sets.proofs.KeptLemmas.{kept_increasing}
use Rattle.doc_sets.proofs.kept.kept_make_room.Goals as goal

pub returns-clause-ids : goal.returns-clause-ids
returns-clause-ids c =
    let ids = kept_ids c.args.kept.now in
    c.add_to.ensures.ids ∙ ap (union ids) c.in_ok-bits.ensures.ids ∙ or-nil ids (kept_increasing c.args.kept.now c.requires.kept)

pub returns-clause-sound : goal.returns-clause-sound
returns-clause-sound c =
    let ids = kept_ids c.args.kept.now in
    let up = kept_increasing c.args.kept.now c.requires.kept in
    let same : c.add_to.new.bits.ids ≡ ids = c.add_to.ensures.ids ∙ ap (union ids) c.in_ok-bits.ensures.ids ∙ or-nil ids up in
    (subst IsIncreasing (sym same) up, c.kept_len-count.ensures.len ∙ sym (ap length same))
