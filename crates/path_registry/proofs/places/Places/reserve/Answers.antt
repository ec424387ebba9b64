use Rattle.std.proofs.Common.{sym, ap, ◌∙◌, Some, subst}
use Rattle.std.specs.BTreeMap.{UpdatesBy}
use Rattle.std.specs.Ordering.{nat_cmp}
use Rattle.path_registry.specs.Names.{is_kept, number_at}
use Rattle.path_registry.proofs.ShelfLemmas.{is_written, is_new, shelf-was, shelf-none, shelved-written, number-stays, kept-still, kept-written, on-ok}
use Rattle.path_registry.proofs.places.Places.reserve.Goals as goal

pub invariant_of-self : goal.invariant_of-self
invariant_of-self c =
    let now = c.reserve.new.self in
    shelved-written c.args.name.now _ now c.self.inside.shelves (c.get_mut.follows.lender now)
    (is_written c.args.name.now _ _ now c.self.inside.shelves _ c.length_of-length.ensures c.in-Some.ensures.value c.self.invariant (c.get_mut.follows.holds now) (λ q other kept. sym (c.reserve.ensures.only q other) ∙ kept))

pub returns-in-Some-clause-numbers : goal.returns-in-Some-clause-numbers
returns-in-Some-clause-numbers c = λ q.
    let now = c.reserve.new.self in
    rw (← c.self.view_is) (number-stays c.args.name.now q _ now c.self.inside.shelves (c.get_mut.follows.lender now)
    (is_written c.args.name.now _ _ now c.self.inside.shelves _ c.length_of-length.ensures c.in-Some.ensures.value c.self.invariant (c.get_mut.follows.holds now) (λ p other kept. sym (c.reserve.ensures.only p other) ∙ kept))
    (c.reserve.ensures.numbers q ∙ ap (number_at q) (shelf-was _ _ c.self.inside.shelves c.in-Some.ensures.value)))

pub returns-in-Some-clause-kept : goal.returns-in-Some-clause-kept
returns-in-Some-clause-kept c = λ q was.
    let now = c.reserve.new.self in
    kept-still c.args.name.now q _ now c.self.inside.shelves (c.get_mut.follows.lender now)
    (is_written c.args.name.now _ _ now c.self.inside.shelves _ c.length_of-length.ensures c.in-Some.ensures.value c.self.invariant (c.get_mut.follows.holds now) (λ p other kept. sym (c.reserve.ensures.only p other) ∙ kept))
    (λ k. c.reserve.ensures.kept q (ap (is_kept q) (shelf-was _ _ c.self.inside.shelves c.in-Some.ensures.value) ∙ k))
    (ap (is_kept q) c.self.view_is ∙ was)

pub returns-in-Some-clause-made : goal.returns-in-Some-clause-made
returns-in-Some-clause-made c =
    let now = c.reserve.new.self in
    on-ok c.reserve.result (λ made. kept-written c.args.name.now _ now c.self.inside.shelves (c.get_mut.follows.lender now)
    (is_written c.args.name.now _ _ now c.self.inside.shelves _ c.length_of-length.ensures c.in-Some.ensures.value c.self.invariant (c.get_mut.follows.holds now) (λ p other kept. sym (c.reserve.ensures.only p other) ∙ kept)) made)
    c.reserve.ensures.made

pub returns-clause-numbers : goal.returns-clause-numbers
returns-clause-numbers c = λ q.
    let now = c.reserve-2.new.self in
    rw (← c.self.view_is) (number-stays c.args.name.now q _ now c.self.inside.shelves c.insert.new.self
    (is_new c.args.name.now _ c.new-shelf.result now c.self.inside.shelves c.insert.new.self c.length_of-length.ensures c.in_default.ensures.value c.self.invariant
    (subst (λ m. UpdatesBy nat_cmp (nat_cmp c.length_of-length.result) m c.insert.new.self (Some now)) c.get_mut.follows.holds-at-none c.in_ok-insert.ensures.updates) c.insert.ensures.ordered c.new-shelf.ensures c.reserve-2.ensures.only)
    (c.reserve-2.ensures.numbers q ∙ ap (number_at q) (sym (shelf-none _ _ c.self.inside.shelves c.in_default.ensures.value c.new-shelf.ensures))))

pub returns-clause-kept : goal.returns-clause-kept
returns-clause-kept c = λ q was.
    let now = c.reserve-2.new.self in
    kept-still c.args.name.now q _ now c.self.inside.shelves c.insert.new.self
    (is_new c.args.name.now _ c.new-shelf.result now c.self.inside.shelves c.insert.new.self c.length_of-length.ensures c.in_default.ensures.value c.self.invariant
    (subst (λ m. UpdatesBy nat_cmp (nat_cmp c.length_of-length.result) m c.insert.new.self (Some now)) c.get_mut.follows.holds-at-none c.in_ok-insert.ensures.updates) c.insert.ensures.ordered c.new-shelf.ensures c.reserve-2.ensures.only)
    (λ k. c.reserve-2.ensures.kept q (ap (is_kept q) (sym (shelf-none _ _ c.self.inside.shelves c.in_default.ensures.value c.new-shelf.ensures)) ∙ k))
    (ap (is_kept q) c.self.view_is ∙ was)

pub returns-clause-made : goal.returns-clause-made
returns-clause-made c =
    let now = c.reserve-2.new.self in
    kept-written c.args.name.now _ now c.self.inside.shelves c.insert.new.self
    (is_new c.args.name.now _ c.new-shelf.result now c.self.inside.shelves c.insert.new.self c.length_of-length.ensures c.in_default.ensures.value c.self.invariant
    (subst (λ m. UpdatesBy nat_cmp (nat_cmp c.length_of-length.result) m c.insert.new.self (Some now)) c.get_mut.follows.holds-at-none c.in_ok-insert.ensures.updates) c.insert.ensures.ordered c.new-shelf.ensures c.reserve-2.ensures.only)
    c.in_ok-reserve.ensures.made
