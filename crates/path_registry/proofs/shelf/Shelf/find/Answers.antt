use Rattle.std.proofs.Common.{sym, ap, ◌∙◌}
use Rattle.std.specs.Option.{option_flatten}
use Rattle.path_registry.proofs.ShortLemmas.{stands-key, stands-not, lookup-short, lookup-other}
use Rattle.path_registry.proofs.shelf.Shelf.find.Goals as goal

pub returns-in-Some : goal.returns-in-Some
returns-in-Some c =
    let shelf = c.self.inside in
    let stands = stands-key shelf.length c.args.name.now c.in-Some.key c.in-Some.ensures.key c.in-Some.ensures.bytes in
    rw (← c.self.view_is) (c.flatten.ensures
    ∙ ap option_flatten (c.copied.ensures ∙ c.get.ensures.value ∙ sym (lookup-short shelf.length c.args.name.now c.in-Some.key shelf.short.entries shelf.others.entries stands c.self.invariant)))

pub returns : goal.returns
returns c =
    let shelf = c.self.inside in
    let other = stands-not shelf.length c.args.name.now c.in_default.ensures.key in
    rw (← c.self.view_is) (c.flatten-2.ensures
    ∙ ap option_flatten (c.copied-2.ensures ∙ c.get-2.ensures.value ∙ sym (lookup-other shelf.length c.args.name.now shelf.short.entries shelf.others other)))
