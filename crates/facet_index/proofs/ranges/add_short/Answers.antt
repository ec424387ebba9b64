use Rattle.std.proofs.Common.{◌≡◌, true, ◌&&◌, ◌||◌, sym, ap, subst, ◌∙◌, rules, arith}
use Rattle.std.specs.declared.cmp.Ordering.TheVariants.{Less}
use Rattle.std.specs.Ordering.{is_le}
use Rattle.std.specs.List.Sorted.{IsStrictlySortedBy}
use Rattle.std.specs.Map.{keys_of}
use Rattle.std.proofs.lemmas.Grind.{common_steps}
use Rattle.doc_sets.specs.Sets.{has}
use Rattle.postings.specs.Dictionary.{word_cmp}
use Rattle.facet_index.specs.Places.{has_document}
use Rattle.facet_index.specs.Ranges.{is_listed}
use Rattle.facet_index.proofs.RowLemmas.{past_last, one_listed, not_past, step, later_sorted}
use Rattle.facet_index.proofs.ranges.add_short.Goals as goal

pub returns-then-lt : goal.returns-then-lt
returns-then-lt c = λ whole d.
    let past : word_cmp c.args.last.now c.in-Some.key.now ≡ Less = first_of (search rules, grind (arith, common_steps)) in
    let sorted = subst (λ rows. IsStrictlySortedBy word_cmp (keys_of rows)) c.in-Some.ensures.steps c.loop-key.invariant.sorted in
    sym (ap (λ b. (b && has c.args.universe.now.ids d) || has c.loop-key.found d)
    (ap (is_listed c.args.last.now d) c.in-Some.ensures.steps ∙ past_last c.args.last.now c.in-Some.key.now c.in-Some.list.now.entries d c.next.new.self past sorted))
    ∙ c.loop-key.invariant.found d

pub loop-key-preserved : goal.loop-key-preserved
loop-key-preserved c =
    let le : is_le (word_cmp c.in-Some.key.now c.args.last.now) ≡ true
    = not_past c.args.last.now c.in-Some.key.now (λ less. first_of (search rules, grind (arith, common_steps))) in
    let sorted = subst (λ rows. IsStrictlySortedBy word_cmp (keys_of rows)) c.in-Some.ensures.steps c.loop-key.invariant.sorted in
    record {
      found = λ d. ap (λ b. (is_listed c.args.last.now d c.next.new.self && has c.args.universe.now.ids d) || b) (c.in_ok-add_documents.ensures d)
          ∙ step (is_listed c.args.last.now d c.next.new.self) (has_document d c.in-Some.list.now.entries) (has c.args.universe.now.ids d) (has c.loop-key.found d)
          ∙ ap (λ b. (b && has c.args.universe.now.ids d) || has c.loop-key.found d)
          (sym (ap (is_listed c.args.last.now d) c.in-Some.ensures.steps ∙ one_listed c.args.last.now c.in-Some.key.now c.in-Some.list.now.entries d c.next.new.self le))
          ∙ c.loop-key.invariant.found d;
      sorted = later_sorted c.in-Some.key.now c.in-Some.list.now.entries c.next.new.self sorted;
    }
