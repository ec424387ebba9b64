use Rattle.std.proofs.Common.{◌≡◌, ◌||◌, Some, sym, ap, ◌∙◌}
use Rattle.doc_sets.specs.Sets.{has, union}
use Rattle.doc_sets.specs.SetView.{SetView}
use Rattle.doc_sets.proofs.SetLemmas.{has-union}
use Rattle.rule_buckets.specs.Streams.{LevelCostsView, without}
use Rattle.rule_buckets.proofs.Streaming.{left-none, taken-all}
use Rattle.rule_buckets.proofs.paths.take_from.Goals as goal

pub returns-in_ok-all-in-Some-clause-found : goal.returns-in_ok-all-in-Some-clause-found
returns-in_ok-all-in-Some-clause-found g c = λ d.
    let ahead : c.args.stream.ahead ≡ Some (c.in-Some.here, c.in-Some.docs) = sym (ap (λ (s : LevelCostsView g.row.S.Denot). s.ahead) c.stream.view_is) ∙ c.in-Some.is in
    ap (λ l. has l d) (c.in_ok-all-in-Some.ensures ∙ ap (λ (s : SetView). union s.ids c.in-Some.docs.ids) c.replace-others.ensures.value) ∙ has-union c.args.found.now.ids c.in-Some.docs.ids d
    ∙ ap (λ l. has c.args.found.now.ids d || has l d) (sym (taken-all c.args.stream.ahead c.args.cost c.in-Some.here c.in-Some.docs ahead c.if-here-cost.false))

pub returns-in_ok-all-in-Some-clause-left : goal.returns-in_ok-all-in-Some-clause-left
returns-in_ok-all-in-Some-clause-left g c =
    let whole : LevelCostsView g.row.S.Denot = record { source = c.stream.inside.costs.source; graph = c.stream.inside.costs.graph; ahead = c.stream.inside.next; rest = c.stream.inside.costs.remaining } in
    left-none whole c.args.cost c.in-Some.here c.in-Some.docs c.in-Some.is c.if-here-cost.false ∙ ap (without c.args.cost) c.stream.view_is
