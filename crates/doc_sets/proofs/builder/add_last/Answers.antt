use Rattle.std.proofs.Common.{refl, sym, subst, ◌∙◌, arith}
use Rattle.doc_sets.specs.Sets.{IsIncreasing}
use Rattle.doc_sets.specs.Kept.{AreBelow}
use Rattle.doc_sets.proofs.SetLemmas.{increasing-put}
use Rattle.doc_sets.proofs.PlaceLemmas.{put-behind}
use Rattle.doc_sets.proofs.builder.add_last.Goals as goal

pub returns-clause-added : goal.returns-clause-added
returns-clause-added c =
    let xs = c.args.ids.now.items in
    let below : AreBelow c.args.id xs = subst (AreBelow c.args.id) c.as_slice.ensures (λ k l. omega (arith, c.list_limit.ensures.below k l)) in
    λ _. c.in_ok-push.ensures.ok ∙ sym (put-behind c.args.id xs below)

pub returns-clause-increasing : goal.returns-clause-increasing
returns-clause-increasing c =
    subst IsIncreasing (sym (returns-clause-added c refl)) (increasing-put c.args.id c.args.ids.now.items c.requires)
