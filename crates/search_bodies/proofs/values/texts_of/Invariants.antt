use Rattle.std.proofs.Common.{◌≡◌, ◌++◌, drop, option_map}
use Rattle.serde_json.specs.Find.{as_str}
use Rattle.serde_json.specs.View.{items_view}
use Rattle.search_bodies.specs.Values.{each_of}
use Rattle.search_bodies.proofs.values.texts_of.Given as goal

-- the texts so far, and those that are left, are all
abbrev pub invariant-loop-item : goal.invariant-loop-item
invariant-loop-item l =
    each_of as_str (items_view l.items) ≡ option_map (λ more. l.texts.items ++ more) (each_of as_str (items_view (drop l.item-index l.items)))
