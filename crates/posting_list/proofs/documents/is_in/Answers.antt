use Rattle.std.proofs.Common.{◌≡◌, ◌/◌, ◌^◌, Bool, true, false, not, eqb, leb, refl, sym, ap, subst, ◌∙◌}
use Rattle.sorted_pages.specs.Entries.{IsIncreasing}
use Rattle.posting_list.specs.Sets.{has_passing, is_part}
use Rattle.sorted_pages.proofs.SetLemmas.{increasing-filter}
use Rattle.posting_list.proofs.SetLemmas.{AreFrom, are_from, none_before, is_behind}
use Rattle.posting_list.proofs.documents.is_in.Goals as goal

pub loop-entry-init : goal.loop-entry-init
loop-entry-init c =
    let p = is_part c.args.part in
    let id = c.args.id.0 in
    let list = c.args.list.now.entries in
    let gives = c.into_iter-entry-iterator.ensures.into_iter_gives in
    let e = gives ∙ c.from-entry-items.ensures.entries in
    record {
      same = ap (λ v. has_passing p v id) e ∙ none_before p id c.first_entry.result list c.first_entry.ensures;
      up = subst IsIncreasing (sym e) (increasing-filter (λ x. leb c.first_entry.result x) list c.from-entry-items.ensures.increasing);
      from = subst (AreFrom id) (sym e) (are_from id c.first_entry.result list c.first_entry.ensures);
    }

is_not : (b : Bool) → true ≡ not b → b ≡ false
is_not true h = h
is_not false h = refl

pub returns-then-ne : goal.returns-then-ne
returns-then-ne c =
    let p = is_part c.args.part in
    let id = c.args.id.0 in
    let entry = c.in-Some.entry in
    let left = c.next.new.self in
    let steps = c.in-Some.ensures.steps in
    let apart : eqb (entry / 2 ^ 32) id ≡ false = ap (λ d. eqb d id) (sym c.document_of.ensures) ∙ is_not (eqb c.document_of.result.0 id) c.if-ne.ensures in
    sym (is_behind p id entry left (subst IsIncreasing steps c.loop-entry.invariant.up).0 (subst (AreFrom id) steps c.loop-entry.invariant.from).0 apart)
    ∙ ap (λ v. has_passing p v id) (sym steps) ∙ c.loop-entry.invariant.same
