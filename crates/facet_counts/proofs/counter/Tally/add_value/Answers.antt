use Rattle.std.proofs.Common.{◌≡◌, Some, None, rules, refl, sym, ap, cond, ◌∙◌}
use Rattle.std.specs.BTreeMap.{get, is_at}
use Rattle.std.specs.Cmp.Lexicographic.{slice_cmp}
use Rattle.std.specs.Ordering.{nat_cmp}
use Rattle.facet_counts.specs.Counting.{seen}
use Rattle.std.proofs.lemmas.Result.{on_ok_weaker}
use Rattle.facet_counts.proofs.Keys.{keys-found, seen-first}
use Rattle.facet_counts.proofs.counter.Tally.add_value.Goals as goal

pub returns-in-Some-clause-seen : goal.returns-in-Some-clause-seen
returns-in-Some-clause-seen c =
    let old = c.args.self.now.values in
    let value = c.args.value.now in
    let w = c.see.new.self in
    let holds = c.get_mut.follows.holds w in
    let found : get (slice_cmp nat_cmp) old value ≡ Some c.in-Some.known.now = sym c.in-Some.ensures.value in
    on_ok_weaker c.see.result (λ w_is. record {
      path = refl;
      documents = refl;
      values = holds.1 ∙ sym (keys-found old.entries value c.in-Some.known.now c.in-Some.ensures.ordered found);
      each = λ other. (holds.3 (search rules)).0 other
          ∙ ap (λ v. cond (is_at (slice_cmp nat_cmp value) other) (Some v) (get (slice_cmp nat_cmp) old other)) (w_is ∙ ap (seen c.args.shown.now c.args.self.now.documents) (sym found));
    }) c.see.ensures

pub returns-clause-seen : goal.returns-clause-seen
returns-clause-seen c =
    let old = c.args.self.now.values in
    let value = c.args.value.now in
    let absent : get (slice_cmp nat_cmp) old value ≡ None = sym c.in_default.ensures.value in
    let first = seen-first value c.in_ok-clone-2.field-0 c.args.shown.now c.in_ok-clone.field-0 c.args.self.now.documents old c.get_mut.follows.lender-at-none c.insert.new.self absent
    (ap (λ m. m.entries) c.get_mut.follows.holds-at-none) c.in_ok-clone-2.ensures.cases c.in_ok-clone.ensures.cases c.in_ok-insert.ensures.entries c.in_ok-insert.ensures.updates in
    record { path = refl; documents = refl; values = first.0; each = first.1 }
