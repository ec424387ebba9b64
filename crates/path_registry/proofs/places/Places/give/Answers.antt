use Rattle.std.proofs.Common.{sym, ap, ◌∙◌, Some}
use Rattle.std.specs.Prelude.{bytes_eq, if◌then◌else◌}
use Rattle.path_registry.specs.Names.{is_kept, number_at}
use Rattle.path_registry.proofs.NameLemmas.{none_is_some}
use Rattle.path_registry.proofs.ShelfLemmas.{kept-found, is_written, shelf-was, shelved-written, number-written, kept-stays}
use Rattle.path_registry.proofs.places.Places.give.Goals as goal

pub give-requires : goal.give-requires
give-requires c = sym (kept-found c.args.name.now _ c.self.inside.shelves _ c.length_of.ensures c.in-Some.ensures.value c.self.invariant) ∙ ap (is_kept c.args.name.now) c.self.view_is ∙ c.requires

pub unreachable-requires : goal.unreachable-requires
unreachable-requires c =
    none_is_some (sym (kept-found c.args.name.now _ c.self.inside.shelves _ c.length_of.ensures c.in-None.ensures.value c.self.invariant) ∙ ap (is_kept c.args.name.now) c.self.view_is ∙ c.requires)

pub invariant_of-self : goal.invariant_of-self
invariant_of-self c =
    let now = c.give.new.self in
    let new = c.get_mut.follows.lender now in
    shelved-written c.args.name.now _ now c.self.inside.shelves new
    (is_written c.args.name.now _ _ now c.self.inside.shelves new c.length_of.ensures c.in-Some.ensures.value c.self.invariant (c.get_mut.follows.holds now) (λ q other kept. sym (c.give.ensures.kept q) ∙ kept))

pub returns-clause-numbers : goal.returns-clause-numbers
returns-clause-numbers c = λ q.
    let now = c.give.new.self in
    let new = c.get_mut.follows.lender now in
    let name = c.args.name.now in
    rw (← c.self.view_is) (number-written name q _ now c.self.inside.shelves new (Some c.args.number)
    (is_written name _ _ now c.self.inside.shelves new c.length_of.ensures c.in-Some.ensures.value c.self.invariant (c.get_mut.follows.holds now) (λ p other kept. sym (c.give.ensures.kept p) ∙ kept))
    (c.give.ensures.numbers q ∙ ap (λ v. if bytes_eq name q then Some c.args.number else number_at q v) (shelf-was _ _ c.self.inside.shelves c.in-Some.ensures.value)))

pub returns-clause-kept : goal.returns-clause-kept
returns-clause-kept c = λ q.
    let now = c.give.new.self in
    let new = c.get_mut.follows.lender now in
    let name = c.args.name.now in
    rw (← c.self.view_is) (kept-stays name q _ now c.self.inside.shelves new
    (is_written name _ _ now c.self.inside.shelves new c.length_of.ensures c.in-Some.ensures.value c.self.invariant (c.get_mut.follows.holds now) (λ p other kept. sym (c.give.ensures.kept p) ∙ kept))
    (c.give.ensures.kept q ∙ ap (is_kept q) (shelf-was _ _ c.self.inside.shelves c.in-Some.ensures.value)))
