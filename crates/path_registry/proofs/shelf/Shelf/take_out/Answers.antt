use Rattle.std.proofs.Common.{None}
use Rattle.path_registry.specs.ShortNames.{names_of}
use Rattle.path_registry.proofs.NameLemmas.{number-out, kept-out}
use Rattle.path_registry.proofs.ShortLemmas.{stands-key, stands-not, short-updated, other-updated, others-still}
use Rattle.path_registry.proofs.shelf.Shelf.take_out.Goals as goal

pub returns-in-Some-clause-numbers : goal.returns-in-Some-clause-numbers
returns-in-Some-clause-numbers c = λ q.
    let shelf = c.self.inside in
    let new = c.remove-number.new.self in
    let stands = stands-key shelf.length c.args.name.now c.in-Some.key c.in-Some.ensures.key c.in-Some.ensures.bytes in
    rw (← c.self.view_is) (number-out c.args.name.now q (names_of shelf.length shelf.short.entries shelf.others.entries) (names_of shelf.length new.entries shelf.others.entries)
    (short-updated shelf.length c.args.name.now c.in-Some.key q shelf.short new shelf.others.entries None stands c.self.invariant c.remove-number.ensures.updates))

pub returns-in-Some-clause-only : goal.returns-in-Some-clause-only
returns-in-Some-clause-only c = λ q.
    let shelf = c.self.inside in
    let new = c.remove-number.new.self in
    let stands = stands-key shelf.length c.args.name.now c.in-Some.key c.in-Some.ensures.key c.in-Some.ensures.bytes in
    rw (← c.self.view_is) (kept-out c.args.name.now q (names_of shelf.length shelf.short.entries shelf.others.entries) (names_of shelf.length new.entries shelf.others.entries)
    (short-updated shelf.length c.args.name.now c.in-Some.key q shelf.short new shelf.others.entries None stands c.self.invariant c.remove-number.ensures.updates))

pub invariant_of-self-2 : goal.invariant_of-self-2
invariant_of-self-2 c =
    let shelf = c.self.inside in
    let other = stands-not shelf.length c.args.name.now c.in_default.ensures.key in
    others-still shelf.length c.args.name.now shelf.others c.remove-number-2.new.self None other c.remove-number-2.ensures.updates c.self.invariant

pub returns-clause-numbers : goal.returns-clause-numbers
returns-clause-numbers c = λ q.
    let shelf = c.self.inside in
    let new = c.remove-number-2.new.self in
    let other = stands-not shelf.length c.args.name.now c.in_default.ensures.key in
    rw (← c.self.view_is) (number-out c.args.name.now q (names_of shelf.length shelf.short.entries shelf.others.entries) (names_of shelf.length shelf.short.entries new.entries)
    (other-updated shelf.length c.args.name.now q shelf.short.entries shelf.others new None other c.remove-number-2.ensures.updates))

pub returns-clause-only : goal.returns-clause-only
returns-clause-only c = λ q.
    let shelf = c.self.inside in
    let new = c.remove-number-2.new.self in
    let other = stands-not shelf.length c.args.name.now c.in_default.ensures.key in
    rw (← c.self.view_is) (kept-out c.args.name.now q (names_of shelf.length shelf.short.entries shelf.others.entries) (names_of shelf.length shelf.short.entries new.entries)
    (other-updated shelf.length c.args.name.now q shelf.short.entries shelf.others new None other c.remove-number-2.ensures.updates))
