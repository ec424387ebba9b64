use Rattle.std.proofs.Common.{◌≡◌, subst, arith}
use Rattle.std.proofs.lemmas.Grind.{common_steps}
use Rattle.serde_json.specs.View.{members_view}
use Rattle.index_settings.specs.Limits.{AreInOrder}
use Rattle.index_settings.specs.Values.{member_synonyms}
use Rattle.index_settings.proofs.Ordered.{in_order_of_map}
use Rattle.index_settings.proofs.synonyms.synonyms_of_members.Goals as goal

pub returns-clause-in_order : goal.returns-clause-in_order
returns-clause-in_order c =
    let is : member_synonyms (members_view c.args.members.now.entries) ≡ c.loop-key.lists.items = grind (arith, common_steps) in
    subst AreInOrder is (in_order_of_map c.args.members.now.entries c.iter-key-items.ensures.ordered)
