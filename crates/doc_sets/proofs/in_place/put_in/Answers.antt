use Rattle.std.proofs.Common.{ap, sym, ◌∙◌, subst}
use Rattle.doc_sets.specs.Sets.{union}
use Rattle.doc_sets.specs.Kept.{kept_ids, IsKept}
use Rattle.doc_sets.proofs.SetLemmas.{or-turned}
use Rattle.doc_sets.proofs.in_place.put_in.Goals as goal

pub returns-in-Many-clause-ids : goal.returns-in-Many-clause-ids
returns-in-Many-clause-ids c =
    let sound = subst IsKept c.in-Many.is c.requires.other in
    c.or_with.ensures.ids ∙ or-turned c.args.bits.now.ids c.in-Many.others.ids c.limit-limit.ensures.increasing sound.0
    ∙ ap (λ v. union (kept_ids v) c.args.bits.now.ids) (sym c.in-Many.is)
