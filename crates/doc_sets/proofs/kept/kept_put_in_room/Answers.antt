use Rattle.std.proofs.Common.{◌+◌, length, ap, sym, subst, ◌∙◌}
use Rattle.doc_sets.specs.Sets.{IsIncreasing, with_id}
use Rattle.doc_sets.specs.Kept.{kept_ids, IsKept}
use Rattle.doc_sets.proofs.SetLemmas.{increasing-put}
use Rattle.doc_sets.proofs.PlaceLemmas.{put-present, length-put}
use Rattle.doc_sets.proofs.kept.kept_put_in_room.Goals as goal

pub returns-then-not-contains-clause-sound : goal.returns-then-not-contains-clause-sound
returns-then-not-contains-clause-sound c =
    let id = c.args.id.0 in
    let ids = c.in-Many.bits.ids in
    let sound = subst IsKept c.in-Many.is c.requires in (
      subst IsIncreasing (sym c.set.ensures.ids) (increasing-put id ids sound.0),
      ap (λ v. v + 1) sound.1 ∙ sym (ap length c.set.ensures.ids ∙ length-put id ids (sym c.if-not-contains.ensures)),
    )

pub returns-else-not-contains-clause-put : goal.returns-else-not-contains-clause-put
returns-else-not-contains-clause-put c =
    let sound = subst IsKept c.in-Many.is c.requires in
    sym (ap (λ v. with_id c.args.id.0 (kept_ids v)) c.in-Many.is ∙ put-present c.args.id.0 c.in-Many.bits.ids sound.0 (sym c.if-not-contains.ensures))
