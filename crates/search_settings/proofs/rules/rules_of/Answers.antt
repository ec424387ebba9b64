use Rattle.std.proofs.Common.{ℕ, List, [], ◌∷◌, ◌++◌, take, ap, sym, ◌∙◌}
use Rattle.std.specs.List.{flat_map}
use Rattle.std.proofs.lemmas.List.{flat_map_more, take_more}
use Rattle.index_settings.specs.Rules.{rule_of}
use Rattle.search_base.specs.declared.rule.Rule.{Rule}
use Rattle.search_settings.specs.Rules.{entries_named}
use Rattle.search_settings.proofs.rules.rules_of.Goals as goal

pub loop-text-preserved : goal.loop-text-preserved
loop-text-preserved c =
    let f : List ℕ → List Rule = λ text. entries_named c.args.paths.now c.args.sort.now (rule_of text) in
    let items = c.ranking_rules-text-items.result.now in
    let i = c.loop-text.text-index in
    let text = c.text-item.result in
    c.in_ok-add_named.ensures ∙ ap (λ v. v ++ f text) c.loop-text.invariant ∙ flat_map_more f [] (take i items) text
    ∙ ap (flat_map f) (sym (take_more items i text c.loop-text-test.true ∙ ap (λ v. take i items ++ v ∷ []) (sym c.text-item.is)))
