use Rattle.std.proofs.Common.{◌≡◌, ◌++◌, drop, map, string_bytes, false}
use Rattle.serde_json.specs.View.{items_of}
use Rattle.serde_json.specs.Written.{items_text}
use Rattle.search_replies.specs.Costs.{cost_data}
use Rattle.search_replies.proofs.costs.put_costs.Given as goal

-- the text so far, with the costs that are left, is the text at first with all costs
abbrev pub invariant-loop-cost : goal.invariant-loop-cost
invariant-loop-cost l =
    string_bytes l.text ++ items_text l.later (items_of (map cost_data (drop l.cost-index l.costs)))
    ≡ string_bytes l.initial.text ++ items_text false (items_of (map cost_data l.costs))
