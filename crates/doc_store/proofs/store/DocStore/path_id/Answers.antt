use Rattle.std.proofs.Common.{◌∙◌, sym, ap, arith}
use Rattle.std.specs.Prelude.{position, bytes_eq}
use Rattle.doc_store.specs.StoreView.{StoreView}
use Rattle.doc_store.proofs.PathLemmas.{place-once, place-within}
use Rattle.doc_store.proofs.store.DocStore.path_id.Goals as goal

pub overflow_cast-result : goal.overflow_cast-result
overflow_cast-result c =
    let below = place-within c.args.path.now c.self.inside.paths.paths c.in-Some.place c.self.invariant.sound.once (sym c.find.ensures ∙ c.in-Some.is) in
    omega (arith, below, c.self.invariant.sound.paths_within)

pub returns-in-Some : goal.returns-in-Some
returns-in-Some c = sym c.in-Some.is ∙ c.find.ensures ∙ place-once c.args.path.now c.self.inside.paths.paths c.self.invariant.sound.once
    ∙ ap (λ (v : StoreView). position (λ p. bytes_eq p c.args.path.now) v.content.paths) c.self.view_is

pub returns-in-None : goal.returns-in-None
returns-in-None c = sym c.in-None.is ∙ c.find.ensures ∙ place-once c.args.path.now c.self.inside.paths.paths c.self.invariant.sound.once
    ∙ ap (λ (v : StoreView). position (λ p. bytes_eq p c.args.path.now) v.content.paths) c.self.view_is
