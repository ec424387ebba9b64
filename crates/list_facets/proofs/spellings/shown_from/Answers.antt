use Rattle.std.proofs.Common.{rules, ◌≡◌, ◌*◌, ◌^◌, ◌∙◌, true, refl, ap, sym, subst, arith}
use Rattle.std.specs.List.{AllByRecursion}
use Rattle.std.proofs.lemmas.Grind.{common_steps}
use Rattle.sorted_pages.specs.Entries.{has}
use Rattle.postings.specs.Prefixes.{rows_left}
use Rattle.list_facets.proofs.KeyLemmas.{IsRowIn, has_row, rows_in, spelling_found, no_spelling}
use Rattle.list_facets.proofs.spellings.shown_from.Goals as goal

pub loop-key-init : goal.loop-key-init
loop-key-init c =
    let items = c.with_prefix-key-items in
    record {
      rows = subst (λ l. AllByRecursion (IsRowIn c.args.first.now c.args.keys.now) (rows_left l)) (sym c.into_iter-key-iterator.ensures.into_iter_gives)
          (rows_in c.args.first.now c.args.keys.now (rows_left items.result) items.ensures.order items.ensures.lists);
      none = refl;
    }

pub returns-then-contains : goal.returns-then-contains
returns-then-contains c =
    let row = (subst (AllByRecursion (IsRowIn c.args.first.now c.args.keys.now)) c.in-Some.ensures.steps c.loop-key.invariant.rows).0 in
    let inside : has c.in-Some.list.now.entries (c.args.id.0 * 2 ^ 32) ≡ true = first_of (search rules, grind (arith, common_steps)) in
    spelling_found c.keys_tell_facets_apart.ensures c.args.keys.now c.args.text.now c.args.first.now c.in-Some.key.now c.in-Some.list.now.entries c.args.id.0
    row inside c.rest_of.result c.rest_of.ensures

pub returns : goal.returns
returns c = λ rows path are narrow is has_one.
    let items = c.with_prefix-key-items in
    c.in_ok-clone.ensures.cases
    ∙ no_spelling c.keys_tell_facets_apart.ensures c.args.keys.now rows path c.args.text.now c.args.first.now (rows_left items.result) c.args.id.0 are narrow is
    items.ensures.lists
    (sym (ap (λ l. has_row c.args.id.0 (rows_left l)) c.into_iter-key-iterator.ensures.into_iter_gives) ∙ sym c.loop-key.invariant.none
    ∙ ap (has_row c.args.id.0) c.in-None.ensures.steps.0)
    has_one
