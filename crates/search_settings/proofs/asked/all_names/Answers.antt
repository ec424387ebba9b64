use Rattle.std.proofs.Common.{ℕ, List, [], ◌∷◌, ◌++◌, take, ap, sym, ◌∙◌}
use Rattle.std.specs.List.{flat_map}
use Rattle.std.proofs.lemmas.List.{flat_map_more, take_more}
use Rattle.search_settings.specs.Asked.{names_for}
use Rattle.search_settings.proofs.asked.all_names.Goals as goal

pub loop-name-preserved : goal.loop-name-preserved
loop-name-preserved c =
    let f : List ℕ → List (List ℕ) = names_for c.args.settings.now in
    let items = c.args.names.now in
    let i = c.loop-name.name-index in
    let name = c.name-item.result in
    c.in_ok-add_names.ensures ∙ ap (λ v. v ++ f name) c.loop-name.invariant ∙ flat_map_more f [] (take i items) name
    ∙ ap (flat_map f) (sym (take_more items i name c.loop-name-test.true ∙ ap (λ v. take i items ++ v ∷ []) (sym c.name-item.is)))
