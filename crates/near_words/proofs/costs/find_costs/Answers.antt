use Rattle.std.proofs.Common.{ℕ, ◌≤◌, List, refl, sym, subst, ◌∙◌}
use Rattle.doc_sets.specs.Sets.{IsIncreasing}
use Rattle.near_words.specs.ByCost.{cost_in}
use Rattle.near_words.proofs.CostLemmas.{IsFound, AreRead, found_more, found_past, read_more, same_cost}
use Rattle.near_words.proofs.costs.find_costs.Goals as goal

pub loop-id-preserved-in-Continue-branch-2 : goal.loop-id-preserved-in-Continue-branch-2
loop-id-preserved-in-Continue-branch-2 c =
    let left = c.args.left.now.entries in
    let right = c.args.right.now.entries in
    let cost = cost_in left right in
    let universe = c.args.universe.now.ids in
    let id = c.in-Some.id.0 in
    let rest = c.next.new.self in
    let found = c.loop-id.found.items in
    let lefts = subst (λ (ids : List ℕ). AreRead left ids c.loop-id.lefts) c.in-Some.ensures.steps c.loop-id.invariant.lefts in
    let rights = subst (λ (ids : List ℕ). AreRead right ids c.loop-id.rights) c.in-Some.ensures.steps c.loop-id.invariant.rights in
    let order = subst IsIncreasing c.in-Some.ensures.steps c.loop-id.invariant.order in
    record {
      found = subst (IsFound cost universe rest) (sym c.in_ok-push.ensures.items)
          (found_more cost universe rest found _ id (subst (λ (ids : List ℕ). IsFound cost universe ids found) c.in-Some.ensures.steps c.loop-id.invariant.found) refl
          (c.in_ok-cost.ensures.cost ∙ same_cost left right c.loop-id.lefts c.loop-id.rights rest id lefts rights));
      lefts = subst (AreRead left rest) (sym c.in_ok-cost.ensures.left) (read_more left c.loop-id.lefts rest id order lefts);
      rights = subst (AreRead right rest) (sym c.in_ok-cost.ensures.right) (read_more right c.loop-id.rights rest id order rights);
      order = order.1;
    }

pub loop-id-preserved : goal.loop-id-preserved
loop-id-preserved c =
    let left = c.args.left.now.entries in
    let right = c.args.right.now.entries in
    let cost = cost_in left right in
    let universe = c.args.universe.now.ids in
    let id = c.in-Some.id.0 in
    let rest = c.next.new.self in
    let found = c.loop-id.found.items in
    let lefts = subst (λ (ids : List ℕ). AreRead left ids c.loop-id.lefts) c.in-Some.ensures.steps c.loop-id.invariant.lefts in
    let rights = subst (λ (ids : List ℕ). AreRead right ids c.loop-id.rights) c.in-Some.ensures.steps c.loop-id.invariant.rights in
    let order = subst IsIncreasing c.in-Some.ensures.steps c.loop-id.invariant.order in
    record {
      found = found_past cost universe rest found id (subst (λ (ids : List ℕ). IsFound cost universe ids found) c.in-Some.ensures.steps c.loop-id.invariant.found)
          (subst (λ (n : ℕ). 7 ≤ n) (c.in_ok-cost.ensures.cost ∙ same_cost left right c.loop-id.lefts c.loop-id.rights rest id lefts rights) c.if-cost-lt7.false);
      lefts = subst (AreRead left rest) (sym c.in_ok-cost.ensures.left) (read_more left c.loop-id.lefts rest id order lefts);
      rights = subst (AreRead right rest) (sym c.in_ok-cost.ensures.right) (read_more right c.loop-id.rights rest id order rights);
      order = order.1;
    }
