use Rattle.std.proofs.Common.{ℕ, List, drop, sym, subst, ◌∙◌}
use Rattle.sorted_pages.specs.Entries.{IsIncreasing}
use Rattle.posting_sets.proofs.PassLemmas.{rest_of}
use Rattle.near_words.proofs.ReadLemmas.{IsReading, reading_start, reading_more, reading_over, reading_end, first_of_left, none_left}
use Rattle.near_words.proofs.by_document.read.Goals as goal

pub loop-entry-init : goal.loop-entry-init
loop-entry-init c =
    subst (λ (left : List ℕ). IsReading c.args.id.0 c.args.run.now.items c.args.left.now c.args.run.now.items left) (sym c.seek.ensures)
    (reading_start c.args.id.0 c.args.run.now.items c.args.left.now)

pub loop-entry-preserved : goal.loop-entry-preserved
loop-entry-preserved c =
    let id = c.args.id.0 in
    let had = c.args.run.now.items in
    let old = c.args.left.now in
    let left = c.loop-entry.left in
    let entry = c.in-Some.entry in
    let reading = subst (λ (v : List ℕ). IsReading id had old c.loop-entry.run.items v) (first_of_left left entry c.in-Some.ensures.first) c.loop-entry.invariant in
    subst (λ (v : List ℕ). IsReading id had old c.push.new.self.items v) (sym (rest_of _ _ _ c.next-entry.ensures.steps))
    (subst (λ (v : List ℕ). IsReading id had old v (drop 1 left)) (sym c.in_ok-push.ensures.items)
    (reading_more id entry had old c.loop-entry.run.items (drop 1 left) reading (c.if-entry-from.false ∙ c.from.ensures)))

pub returns-then-entry-from-clause-left : goal.returns-then-entry-from-clause-left
returns-then-entry-from-clause-left c =
    let left = c.loop-entry.left in
    let entry = c.in-Some.entry in
    let whole = first_of_left left entry c.in-Some.ensures.first in
    let reading = subst (λ (v : List ℕ). IsReading c.args.id.0 c.args.run.now.items c.args.left.now c.loop-entry.run.items v) whole c.loop-entry.invariant in
    whole ∙ (reading_over c.args.id.0 entry c.args.run.now.items c.args.left.now c.loop-entry.run.items (drop 1 left) reading
    (subst IsIncreasing whole c.in-Some.ensures.increasing) (λ same. c.if-entry-from.true (same ∙ sym c.from.ensures))).1

pub returns-then-entry-from-clause-run : goal.returns-then-entry-from-clause-run
returns-then-entry-from-clause-run c =
    let left = c.loop-entry.left in
    let entry = c.in-Some.entry in
    let whole = first_of_left left entry c.in-Some.ensures.first in
    let reading = subst (λ (v : List ℕ). IsReading c.args.id.0 c.args.run.now.items c.args.left.now c.loop-entry.run.items v) whole c.loop-entry.invariant in
    (reading_over c.args.id.0 entry c.args.run.now.items c.args.left.now c.loop-entry.run.items (drop 1 left) reading
    (subst IsIncreasing whole c.in-Some.ensures.increasing) (λ same. c.if-entry-from.true (same ∙ sym c.from.ensures))).0

pub returns-clause-left : goal.returns-clause-left
returns-clause-left c =
    let none = none_left c.loop-entry.left c.in_default.ensures.first in
    none ∙ (reading_end c.args.id.0 c.args.run.now.items c.args.left.now c.loop-entry.run.items
    (subst (λ (v : List ℕ). IsReading c.args.id.0 c.args.run.now.items c.args.left.now c.loop-entry.run.items v) none c.loop-entry.invariant)).1

pub returns-clause-run : goal.returns-clause-run
returns-clause-run c =
    let none = none_left c.loop-entry.left c.in_default.ensures.first in
    (reading_end c.args.id.0 c.args.run.now.items c.args.left.now c.loop-entry.run.items
    (subst (λ (v : List ℕ). IsReading c.args.id.0 c.args.run.now.items c.args.left.now c.loop-entry.run.items v) none c.loop-entry.invariant)).0
