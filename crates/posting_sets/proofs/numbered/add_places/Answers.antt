use Rattle.std.proofs.Common.{◌∷◌, [], map, sym, ap, ◌∙◌}
use Rattle.std.specs.List.{filter}
use Rattle.posting_sets.specs.Starts.{is_inside}
use Rattle.posting_sets.proofs.NumberLemmas.{on_ok}
use Rattle.posting_sets.proofs.PrefixLemmas.{only_one}
use Rattle.posting_sets.proofs.StartLemmas.{starts_in_list}
use Rattle.posting_sets.proofs.numbered.add_places.Goals as goal

pub returns-then-is_walked-clause-each : goal.returns-then-is_walked-clause-each
returns-then-is_walked-clause-each c = on_ok c.add_listed.result c.add_listed.ensures.each (λ each.
    let ids = c.args.universe.now.ids in
    let list = c.index-lists-0.result in
    let one = only_one c.args.lists.now list c.if-lists-eq1.true ∙ ap (λ l. l ∷ []) (sym c.index-lists-0.is) in (
      filter (is_inside ids) list.now.entries,
      starts_in_list ids list.now.entries (map (λ l. l.now.entries) c.args.lists.now) (ap (map (λ l. l.now.entries)) one) c.len.ensures.increasing,
      each,
    ))
