use Rattle.std.proofs.Common.{◌≡◌, Bool, true, false, cond, Some, None, refl, sym, ap, ap₂, ◌∙◌}
use Rattle.std.specs.Prelude.{bytes_eq}
use Rattle.std.specs.BTreeMap.{get}
use Rattle.std.specs.Cmp.Lexicographic.{slice_cmp}
use Rattle.std.specs.Ordering.{nat_cmp}
use Rattle.index_changes.specs.Plans.{over}
use Rattle.index_changes.specs.Updating.{waits_after}
use Rattle.index_changes.proofs.Updating.{found}
use Rattle.index_changes.proofs.update.updated.Goals as goal

pub returns-then-is_last-clause-waiting : goal.returns-then-is_last-clause-waiting
returns-then-is_last-clause-waiting c = λ q.
    let old = c.args.waiting.now in
    let external = c.args.row.external in
    let all = over (get (slice_cmp nat_cmp) old external) c.args.row.document in
    found old c.remove-before.new.self external None c.remove-before.ensures.updates q
    ∙ ap (λ b. cond (bytes_eq external q) (waits_after b all) (get (slice_cmp nat_cmp) old q)) (sym c.if-is_last.true)

again : {A : Type 0} (b : Bool) (x y z : A) → cond b x (cond b y z) ≡ cond b x z
again true x y z = refl
again false x y z = refl

pub returns-clause-waiting : goal.returns-clause-waiting
returns-clause-waiting c = λ q.
    let old = c.args.waiting.now in
    let external = c.args.row.external in
    let all = over (get (slice_cmp nat_cmp) old external) c.args.row.document in
    let same = c.in_ok-all.ensures ∙ ap (λ o. over o c.args.row.document) (c.as_ref.ensures.value ∙ c.remove-before.ensures.value) in
    found c.remove-before.new.self c.insert.new.self c.in_ok-clone.field-0 (Some c.in_ok-all.all) c.in_ok-insert.ensures.updates q
    ∙ ap₂ (λ k v. cond (bytes_eq k q) (Some v) (get (slice_cmp nat_cmp) c.remove-before.new.self q)) c.in_ok-clone.ensures.cases same
    ∙ ap (cond (bytes_eq external q) (Some all)) (found old c.remove-before.new.self external None c.remove-before.ensures.updates q)
    ∙ again (bytes_eq external q) (Some all) None (get (slice_cmp nat_cmp) old q)
    ∙ ap (λ b. cond (bytes_eq external q) (waits_after b all) (get (slice_cmp nat_cmp) old q)) (sym c.if-is_last.false)
