use Rattle.std.proofs.Common.{◌≡◌, ◌+◌, ◌++◌, ◌≤◌, length, flat_map, string_bytes}
use Rattle.demo_input.specs.Steps.{steps}
use Rattle.demo_input.specs.Summary.{line_for}
use Rattle.search_routes.specs.State.{empty_state}
use Rattle.search_server.specs.Demo.{replied, demo_needs, demo_openings, demo_text}
use Rattle.search_server.proofs.demo.demo_text.Given as goal

abbrev pub invariant-loop-text : goal.invariant-loop-text
invariant-loop-text g l = record {
  text : string_bytes l.text ++ flat_map (λ r. line_for r.0.search r.1) (replied l.machine l.demo) ≡ demo_text l.fn.count l.fn.seed;
  fetched : l.fetches + demo_needs l.machine l.demo ≤ l.fn.fetches + demo_needs empty_state (steps l.fn.count l.fn.seed);
  opened : l.openings + demo_openings l.machine l.demo ≤ l.fn.openings + demo_openings empty_state (steps l.fn.count l.fn.seed);
}

abbrev pub decreases-loop-text : goal.decreases-loop-text
decreases-loop-text g l = length l.demo
