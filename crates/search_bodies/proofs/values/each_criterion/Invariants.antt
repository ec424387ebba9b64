use Rattle.std.proofs.Common.{◌≡◌, ◌++◌, drop, option_map}
use Rattle.serde_json.specs.View.{items_view}
use Rattle.search_bodies.specs.Values.{each_of, criterion_in}
use Rattle.search_bodies.proofs.values.each_criterion.Given as goal

-- the criteria so far, and those that are left, are all
abbrev pub invariant-loop-item : goal.invariant-loop-item
invariant-loop-item l =
    each_of criterion_in (items_view l.items)
    ≡ option_map (λ more. l.criteria.items ++ more) (each_of criterion_in (items_view (drop l.item-index l.items)))
