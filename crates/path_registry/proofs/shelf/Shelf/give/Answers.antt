use Rattle.std.proofs.Common.{◌≡◌, sym, ap, ◌∙◌, Some, subst, true, rules}
use Rattle.std.specs.Option.{is_some}
use Rattle.path_registry.specs.Names.{is_kept}
use Rattle.path_registry.specs.ShortNames.{names_of}
use Rattle.path_registry.proofs.NameLemmas.{number-given, kept-same, none_is_some}
use Rattle.path_registry.proofs.ShortLemmas.{stands-key, stands-not, lookup-short, lookup-other, short-updated, other-updated, others-still}
use Rattle.path_registry.proofs.shelf.Shelf.give.Goals as goal

pub unreachable-requires : goal.unreachable-requires
unreachable-requires c =
    let shelf = c.self.inside in
    let stands = stands-key shelf.length c.args.name.now c.in-Some.key c.in-Some.ensures.key c.in-Some.ensures.bytes in
    let absent = lookup-short shelf.length c.args.name.now c.in-Some.key shelf.short.entries shelf.others.entries stands c.self.invariant ∙ sym c.in-None.ensures.value in
    let kept = subst (λ names. is_kept c.args.name.now names ≡ true) (sym c.self.view_is) c.requires in
    absurd (none_is_some (sym (ap is_some absent) ∙ kept))

pub returns-in-Some-clause-numbers : goal.returns-in-Some-clause-numbers
returns-in-Some-clause-numbers c = λ q.
    let shelf = c.self.inside in
    let w = Some c.args.number in
    let new = c.get_mut.follows.lender w in
    let stands = stands-key shelf.length c.args.name.now c.in-Some.key c.in-Some.ensures.key c.in-Some.ensures.bytes in
    rw (← c.self.view_is) (number-given c.args.name.now q w (names_of shelf.length shelf.short.entries shelf.others.entries) (names_of shelf.length new.entries shelf.others.entries)
    (short-updated shelf.length c.args.name.now c.in-Some.key q shelf.short new shelf.others.entries (Some w) stands c.self.invariant ((c.get_mut.follows.holds w).3 (search rules))))

pub returns-in-Some-clause-kept : goal.returns-in-Some-clause-kept
returns-in-Some-clause-kept c = λ q.
    let shelf = c.self.inside in
    let w = Some c.args.number in
    let new = c.get_mut.follows.lender w in
    let stands = stands-key shelf.length c.args.name.now c.in-Some.key c.in-Some.ensures.key c.in-Some.ensures.bytes in
    rw (← c.self.view_is) (kept-same c.args.name.now q w (names_of shelf.length shelf.short.entries shelf.others.entries) (names_of shelf.length new.entries shelf.others.entries)
    (short-updated shelf.length c.args.name.now c.in-Some.key q shelf.short new shelf.others.entries (Some w) stands c.self.invariant ((c.get_mut.follows.holds w).3 (search rules)))
    (subst (λ names. is_kept c.args.name.now names ≡ true) (sym c.self.view_is) c.requires))

pub unreachable-requires-in-None-get_mut : goal.unreachable-requires-in-None-get_mut
unreachable-requires-in-None-get_mut c =
    let shelf = c.self.inside in
    let other = stands-not shelf.length c.args.name.now c.in_default.ensures.key in
    let absent = lookup-other shelf.length c.args.name.now shelf.short.entries shelf.others other ∙ sym c.in-None-get_mut.ensures.value in
    let kept = subst (λ names. is_kept c.args.name.now names ≡ true) (sym c.self.view_is) c.requires in
    absurd (none_is_some (sym (ap is_some absent) ∙ kept))

pub invariant_of-self-2 : goal.invariant_of-self-2
invariant_of-self-2 c =
    let shelf = c.self.inside in
    let w = Some c.args.number in
    let other = stands-not shelf.length c.args.name.now c.in_default.ensures.key in
    others-still shelf.length c.args.name.now shelf.others (c.get_mut-2.follows.lender w) (Some w) other ((c.get_mut-2.follows.holds w).3 (search rules)) c.self.invariant

pub returns-clause-numbers : goal.returns-clause-numbers
returns-clause-numbers c = λ q.
    let shelf = c.self.inside in
    let w = Some c.args.number in
    let new = c.get_mut-2.follows.lender w in
    let other = stands-not shelf.length c.args.name.now c.in_default.ensures.key in
    rw (← c.self.view_is) (number-given c.args.name.now q w (names_of shelf.length shelf.short.entries shelf.others.entries) (names_of shelf.length shelf.short.entries new.entries)
    (other-updated shelf.length c.args.name.now q shelf.short.entries shelf.others new (Some w) other ((c.get_mut-2.follows.holds w).3 (search rules))))

pub returns-clause-kept : goal.returns-clause-kept
returns-clause-kept c = λ q.
    let shelf = c.self.inside in
    let w = Some c.args.number in
    let new = c.get_mut-2.follows.lender w in
    let other = stands-not shelf.length c.args.name.now c.in_default.ensures.key in
    rw (← c.self.view_is) (kept-same c.args.name.now q w (names_of shelf.length shelf.short.entries shelf.others.entries) (names_of shelf.length shelf.short.entries new.entries)
    (other-updated shelf.length c.args.name.now q shelf.short.entries shelf.others new (Some w) other ((c.get_mut-2.follows.holds w).3 (search rules)))
    (subst (λ names. is_kept c.args.name.now names ≡ true) (sym c.self.view_is) c.requires))
