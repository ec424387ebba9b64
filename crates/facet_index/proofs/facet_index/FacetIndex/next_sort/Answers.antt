use Rattle.std.proofs.Common.{◌∙◌, sym, ap, subst, Some}
use Rattle.std.specs.Option.{option_copied}
use Rattle.facet_index.specs.Places.{IsIndexOf}
use Rattle.facet_index.specs.Starts.{IsNext, HasNoneFrom}
use Rattle.facet_index.proofs.NextLemmas.{IsEndOf, next_found, next_nowhere, next_never}
use Rattle.facet_index.proofs.facet_index.FacetIndex.next_sort.Goals as goal

pub returns-in_default : goal.returns-in_default
returns-in_default c = next_never c.args.up c.args.path.0 (option_copied c.args.after) c.args.self.now c.args.universe.now.ids (sym c.in_default.is ∙ c.in_ok-start.ensures)

pub returns-in_default-next_word : goal.returns-in_default-next_word
returns-in_default-next_word c = λ documents index.
    next_nowhere c.keys_tell_facets_apart.ensures c.keys_are_in_order.ensures c.args.up c.args.path.0 (option_copied c.args.after) c.in-Some.start c.self.inside.keys
    c.args.universe.now.ids c.in_ok-first.ensures.narrow (sym c.in-Some.is ∙ c.in_ok-start.ensures)
    (subst (λ key. HasNoneFrom c.args.up c.in-Some.start.behind key c.args.universe.now.ids c.self.inside.keys) c.in_ok-first.ensures.key c.in_default-next_word.ensures.none)
    documents (subst (λ v. IsIndexOf v documents) (sym c.self.view_is) index)

pub returns-in-Some-2 : goal.returns-in-Some-2
returns-in-Some-2 c = λ documents index.
    ap Some c.entry_of.ensures
    ∙ next_found c.keys_tell_facets_apart.ensures c.keys_are_in_order.ensures c.keys_are_ordered.ensures c.args.up c.args.path.0 (option_copied c.args.after)
    c.in-Some.start c.self.inside.keys c.args.universe.now.ids c.in-Some-next_word.word.now (Some c.in-Some-2.value) c.in_ok-first.ensures.narrow (sym c.in-Some.is ∙ c.in_ok-start.ensures)
    (subst (λ key. IsNext c.args.up c.in-Some.start.behind c.args.path.0 key c.args.universe.now.ids c.self.inside.keys c.in-Some-next_word.word.now) c.in_ok-first.ensures.key c.in-Some-next_word.ensures.some)
    (subst (IsEndOf c.args.up c.args.path.0 c.in-Some-next_word.word.now) c.in-Some-2.is c.in_ok-value.ensures)
    documents (subst (λ v. IsIndexOf v documents) (sym c.self.view_is) index)

pub returns : goal.returns
returns c = λ documents index.
    next_found c.keys_tell_facets_apart.ensures c.keys_are_in_order.ensures c.keys_are_ordered.ensures c.args.up c.args.path.0 (option_copied c.args.after)
    c.in-Some.start c.self.inside.keys c.args.universe.now.ids c.in-Some-next_word.word.now _ c.in_ok-first.ensures.narrow (sym c.in-Some.is ∙ c.in_ok-start.ensures)
    (subst (λ key. IsNext c.args.up c.in-Some.start.behind c.args.path.0 key c.args.universe.now.ids c.self.inside.keys c.in-Some-next_word.word.now) c.in_ok-first.ensures.key c.in-Some-next_word.ensures.some)
    (subst (IsEndOf c.args.up c.args.path.0 c.in-Some-next_word.word.now) c.in-None.is c.in_ok-value.ensures)
    documents (subst (λ v. IsIndexOf v documents) (sym c.self.view_is) index)
