use Rattle.std.proofs.Common.{◌∙◌, sym}
use Rattle.path_registry.proofs.ShelfLemmas.{number-found}
use Rattle.path_registry.proofs.places.Places.find.Goals as goal

pub returns-in-Some : goal.returns-in-Some
returns-in-Some c = rw (← c.self.view_is) (c.find.ensures ∙ sym (number-found c.args.name.now _ c.self.inside.shelves _ c.length_of.ensures c.in-Some.ensures.value c.self.invariant))

pub returns-in-None : goal.returns-in-None
returns-in-None c = rw (← c.self.view_is) (sym (number-found c.args.name.now _ c.self.inside.shelves _ c.length_of.ensures c.in-None.ensures.value c.self.invariant))
