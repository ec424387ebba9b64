use Rattle.std.proofs.Common.{◌||◌, ◌∷◌, [], refl, sym, ap, subst, ◌∙◌}
use Rattle.std.specs.List.{filter}
use Rattle.sorted_pages.specs.Entries.{has, IsIncreasing}
use Rattle.posting_sets.specs.Starts.{is_inside}
use Rattle.posting_sets.specs.Gathered.{ids_at, AddsStarts}
use Rattle.posting_sets.proofs.NumberLemmas.{on_ok}
use Rattle.posting_sets.proofs.RankLemmas.{all_first}
use Rattle.posting_sets.proofs.StartLemmas.{starts_in_list}
use Rattle.posting_sets.proofs.numbered.add_list.Goals as goal

pub returns-in-Some-clause-each : goal.returns-in-Some-clause-each
returns-in-Some-clause-each c = on_ok c.add_paths.result c.add_paths.ensures.each (λ each.
    let ids = c.args.universe.now.ids in
    let list = c.args.list.now.entries in
    subst (λ number. AddsStarts c.args.sets.now.items c.add_paths.new.sets.items number ids (list ∷ [])) (sym c.in-Rank.is) (
      filter (is_inside ids) list,
      starts_in_list ids list (list ∷ []) refl (subst (λ v. IsIncreasing v.entries) c.pages.ensures c.len-entries.ensures.increasing),
      each,
    ))

pub returns-in-Some-path_limit-clause-each : goal.returns-in-Some-path_limit-clause-each
returns-in-Some-path_limit-clause-each c = on_ok c.add_beginnings.result c.add_beginnings.ensures.each (λ each.
    let ids = c.args.universe.now.ids in
    let list = c.args.list.now.entries in
    subst (λ number. AddsStarts c.args.sets.now.items c.add_beginnings.new.sets.items number ids (list ∷ [])) (sym c.in-Beginning.is) (
      filter (is_inside ids) list,
      starts_in_list ids list (list ∷ []) refl (subst (λ v. IsIncreasing v.entries) c.pages.ensures c.len-entries.ensures.increasing),
      each,
    ))

pub returns-in-Some-starting_any-clause-each : goal.returns-in-Some-starting_any-clause-each
returns-in-Some-starting_any-clause-each c = on_ok c.add_set.result c.add_set.ensures.each (λ each.
    let ids = c.args.universe.now.ids in
    let list = c.args.list.now.entries in
    let old = c.args.sets.now.items in
    subst (λ number. AddsStarts old c.add_set.new.sets.items number ids (list ∷ [])) (sym c.in-First.is) (
      filter (is_inside ids) list,
      starts_in_list ids list (list ∷ []) refl (subst (λ v. IsIncreasing v.entries) c.pages.ensures c.len-entries.ensures.increasing),
      (λ n q. each n q ∙ ap (λ b. b || has (ids_at n old) q) (all_first ids list n q c.in-Some-starting_any.set.now.ids c.in-Some-starting_any.ensures)),
    ))
