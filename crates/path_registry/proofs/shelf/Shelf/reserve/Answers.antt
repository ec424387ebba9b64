use Rattle.std.proofs.Common.{sym, ap, ◌∙◌, None, Some, subst}
use Rattle.std.specs.Prelude.{bytes_eq}
use Rattle.std.specs.Option.{is_some}
use Rattle.std.specs.Map.{lookup}
use Rattle.std.specs.BTreeMap.{UpdatesBy}
use Rattle.std.specs.Ordering.{nat_cmp}
use Rattle.std.specs.Cmp.Lexicographic.{slice_cmp}
use Rattle.path_registry.specs.Names.{is_kept}
use Rattle.path_registry.specs.ShortNames.{names_of}
use Rattle.path_registry.proofs.NameLemmas.{number-reserved, kept-given, kept-here, none_kept, kept-other}
use Rattle.path_registry.proofs.ShortLemmas.{stands-key, stands-not, lookup-short, lookup-other, short-updated, other-updated, others-still}
use Rattle.path_registry.proofs.shelf.Shelf.reserve.Goals as goal

pub returns-then-contains_key-clause-made : goal.returns-then-contains_key-clause-made
returns-then-contains_key-clause-made c =
    let shelf = c.self.inside in
    let stands = stands-key shelf.length c.args.name.now c.in-Some.key c.in-Some.ensures.key c.in-Some.ensures.bytes in
    rw (← c.self.view_is) (ap is_some (lookup-short shelf.length c.args.name.now c.in-Some.key shelf.short.entries shelf.others.entries stands c.self.invariant)
    ∙ sym c.contains_key.ensures ∙ c.if-contains_key.true)

pub returns-in-Some-clause-numbers : goal.returns-in-Some-clause-numbers
returns-in-Some-clause-numbers c = λ q.
    let shelf = c.self.inside in
    let new = c.insert.new.self in
    let name = c.args.name.now in
    let stands = stands-key shelf.length name c.in-Some.key c.in-Some.ensures.key c.in-Some.ensures.bytes in
    let old_names = names_of shelf.length shelf.short.entries shelf.others.entries in
    let absent = none_kept (lookup (bytes_eq name) old_names) (ap is_some (lookup-short shelf.length name c.in-Some.key shelf.short.entries shelf.others.entries stands c.self.invariant)
    ∙ sym c.contains_key.ensures ∙ c.if-contains_key.false) in
    rw (← c.self.view_is) (number-reserved name q old_names (names_of shelf.length new.entries shelf.others.entries) absent
    (short-updated shelf.length name c.in-Some.key q shelf.short new shelf.others.entries (Some None) stands c.self.invariant c.in_ok-insert.ensures.updates))

pub returns-in-Some-clause-kept : goal.returns-in-Some-clause-kept
returns-in-Some-clause-kept c = λ q h.
    let shelf = c.self.inside in
    let new = c.insert.new.self in
    let name = c.args.name.now in
    let stands = stands-key shelf.length name c.in-Some.key c.in-Some.ensures.key c.in-Some.ensures.bytes in
    kept-given name q None (names_of shelf.length shelf.short.entries shelf.others.entries) (names_of shelf.length new.entries shelf.others.entries)
    (short-updated shelf.length name c.in-Some.key q shelf.short new shelf.others.entries (Some None) stands c.self.invariant c.in_ok-insert.ensures.updates)
    (ap (is_kept q) c.self.view_is ∙ h)

pub returns-in-Some-clause-only : goal.returns-in-Some-clause-only
returns-in-Some-clause-only c = λ q other.
    let shelf = c.self.inside in
    let new = c.insert.new.self in
    let name = c.args.name.now in
    let stands = stands-key shelf.length name c.in-Some.key c.in-Some.ensures.key c.in-Some.ensures.bytes in
    rw (← c.self.view_is) (kept-other name q (Some None) (names_of shelf.length shelf.short.entries shelf.others.entries) (names_of shelf.length new.entries shelf.others.entries)
    (short-updated shelf.length name c.in-Some.key q shelf.short new shelf.others.entries (Some None) stands c.self.invariant c.in_ok-insert.ensures.updates) other)

pub returns-in-Some-clause-made : goal.returns-in-Some-clause-made
returns-in-Some-clause-made c =
    let shelf = c.self.inside in
    let new = c.insert.new.self in
    let name = c.args.name.now in
    let stands = stands-key shelf.length name c.in-Some.key c.in-Some.ensures.key c.in-Some.ensures.bytes in
    kept-here name None (names_of shelf.length shelf.short.entries shelf.others.entries) (names_of shelf.length new.entries shelf.others.entries)
    (short-updated shelf.length name c.in-Some.key name shelf.short new shelf.others.entries (Some None) stands c.self.invariant c.in_ok-insert.ensures.updates)

pub returns-then-contains_key-2-clause-made : goal.returns-then-contains_key-2-clause-made
returns-then-contains_key-2-clause-made c =
    let shelf = c.self.inside in
    let other = stands-not shelf.length c.args.name.now c.in_default.ensures.key in
    rw (← c.self.view_is) (ap is_some (lookup-other shelf.length c.args.name.now shelf.short.entries shelf.others other) ∙ sym c.contains_key-2.ensures ∙ c.if-contains_key-2.true)

pub invariant_of-self-2 : goal.invariant_of-self-2
invariant_of-self-2 c =
    let shelf = c.self.inside in
    let other = stands-not shelf.length c.args.name.now c.in_default.ensures.key in
    others-still shelf.length c.args.name.now shelf.others c.insert-2.new.self (Some None) other
    (subst (λ name. UpdatesBy (slice_cmp nat_cmp) (slice_cmp nat_cmp name) shelf.others c.insert-2.new.self (Some None)) c.in_ok-clone.ensures.cases c.in_ok-insert-2.ensures.updates)
    c.self.invariant

pub returns-clause-numbers : goal.returns-clause-numbers
returns-clause-numbers c = λ q.
    let shelf = c.self.inside in
    let new = c.insert-2.new.self in
    let name = c.args.name.now in
    let other = stands-not shelf.length name c.in_default.ensures.key in
    let updates = subst (λ v. UpdatesBy (slice_cmp nat_cmp) (slice_cmp nat_cmp v) shelf.others new (Some None)) c.in_ok-clone.ensures.cases c.in_ok-insert-2.ensures.updates in
    let old_names = names_of shelf.length shelf.short.entries shelf.others.entries in
    let absent = none_kept (lookup (bytes_eq name) old_names) (ap is_some (lookup-other shelf.length name shelf.short.entries shelf.others other)
    ∙ sym c.contains_key-2.ensures ∙ c.if-contains_key-2.false) in
    rw (← c.self.view_is) (number-reserved name q old_names (names_of shelf.length shelf.short.entries new.entries) absent
    (other-updated shelf.length name q shelf.short.entries shelf.others new (Some None) other updates))

pub returns-clause-kept : goal.returns-clause-kept
returns-clause-kept c = λ q h.
    let shelf = c.self.inside in
    let new = c.insert-2.new.self in
    let name = c.args.name.now in
    let other = stands-not shelf.length name c.in_default.ensures.key in
    let updates = subst (λ v. UpdatesBy (slice_cmp nat_cmp) (slice_cmp nat_cmp v) shelf.others new (Some None)) c.in_ok-clone.ensures.cases c.in_ok-insert-2.ensures.updates in
    kept-given name q None (names_of shelf.length shelf.short.entries shelf.others.entries) (names_of shelf.length shelf.short.entries new.entries)
    (other-updated shelf.length name q shelf.short.entries shelf.others new (Some None) other updates) (ap (is_kept q) c.self.view_is ∙ h)

pub returns-clause-only : goal.returns-clause-only
returns-clause-only c = λ q apart.
    let shelf = c.self.inside in
    let new = c.insert-2.new.self in
    let name = c.args.name.now in
    let other = stands-not shelf.length name c.in_default.ensures.key in
    let updates = subst (λ v. UpdatesBy (slice_cmp nat_cmp) (slice_cmp nat_cmp v) shelf.others new (Some None)) c.in_ok-clone.ensures.cases c.in_ok-insert-2.ensures.updates in
    rw (← c.self.view_is) (kept-other name q (Some None) (names_of shelf.length shelf.short.entries shelf.others.entries) (names_of shelf.length shelf.short.entries new.entries)
    (other-updated shelf.length name q shelf.short.entries shelf.others new (Some None) other updates) apart)

pub returns-clause-made : goal.returns-clause-made
returns-clause-made c =
    let shelf = c.self.inside in
    let new = c.insert-2.new.self in
    let name = c.args.name.now in
    let other = stands-not shelf.length name c.in_default.ensures.key in
    let updates = subst (λ v. UpdatesBy (slice_cmp nat_cmp) (slice_cmp nat_cmp v) shelf.others new (Some None)) c.in_ok-clone.ensures.cases c.in_ok-insert-2.ensures.updates in
    kept-here name None (names_of shelf.length shelf.short.entries shelf.others.entries) (names_of shelf.length shelf.short.entries new.entries)
    (other-updated shelf.length name name shelf.short.entries shelf.others new (Some None) other updates)
