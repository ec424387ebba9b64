use Rattle.std.proofs.Common.{◌≤◌, subst, ◌∙◌, sym, refl, arith, append_assoc, append-nil, List, ℕ}
use Rattle.unicode_segmentation.specs.Iter.{word_bounds_left}
use Rattle.unicode_segmentation.specs.Word.{is_word_break}
use Rattle.unicode_segmentation.proofs.SegmentsLemmas.{concat-segments}
use Rattle.token_words.specs.Segments.{is_word, is_hard}
use Rattle.token_words.specs.Tokens.{tokens, tokens_from}
use Rattle.token_words.proofs.Steps.{some_if, none_if, tokens-word, tokens-separator, room-step, next_position-le, all_are}
use Rattle.token_words.proofs.token_list.first_tokens.Goals as goal

pub loop-segment-init : goal.loop-segment-init
loop-segment-init c = rw (c.into_iter-segment-iterator.ensures.into_iter_gives, c.split_word_bounds-segment-items.ensures.left, c.in_ok-list.ensures.items, concat-segments is_word_break c.args.text.now c.utf8.text) (record {
  told = refl;
  room = omega arith;
  few = omega (arith, c.in_ok-list.ensures);
  small = omega (arith, c.in_ok-list.ensures);
})

pub loop-segment-preserved-in_ok-push-in-Some-2 : goal.loop-segment-preserved-in_ok-push-in-Some-2
loop-segment-preserved-in_ok-push-in-Some-2 c =
    let segment : List ℕ = c.in-Some.segment.now in
    let word = some_if (is_word segment) c.in-Some-2.word _ (sym c.in-Some-2.is ∙ c.in_ok-word.ensures) in
    let step = tokens-word c.loop-segment.last c.loop-segment.hard c.loop-segment.at segment (word_bounds_left c.next.new.self) word.0 in
    let told = rw (c.in-Some.ensures.steps, step) at c.loop-segment.invariant.told in
    record {
      told = rw (c.in_ok-push-in-Some-2.ensures.items, append_assoc, c.next_position-position.ensures, word.1) told;
      room = room-step _ _ _ _ _ c.in-Some.ensures.steps c.loop-segment.invariant.room;
      few = omega (arith, c.in_ok-push-in-Some-2.ensures.len);
      small = let le = next_position-le c.loop-segment.last c.loop-segment.hard _ c.loop-segment.invariant.small in omega (arith, c.in_ok-push-in-Some-2.ensures.len);
    }

pub loop-segment-preserved-then-hard : goal.loop-segment-preserved-then-hard
loop-segment-preserved-then-hard c =
    let segment : List ℕ = c.in-Some.segment.now in
    let separator = none_if (is_word segment) _ (sym c.in-None-2.is ∙ c.in_ok-word.ensures) in
    let step = tokens-separator c.loop-segment.last c.loop-segment.hard c.loop-segment.at segment (word_bounds_left c.next.new.self) separator in
    let told = rw (c.in-Some.ensures.steps, step, c.if-hard.true) at c.loop-segment.invariant.told in
    record {
      told = rw c.if-hard.true told;
      room = room-step _ _ _ _ _ c.in-Some.ensures.steps c.loop-segment.invariant.room;
      few = c.loop-segment.invariant.few;
      small = c.loop-segment.invariant.small;
    }

pub loop-segment-preserved : goal.loop-segment-preserved
unfolding is_hard
loop-segment-preserved c =
    let segment : List ℕ = c.in-Some.segment.now in
    let separator = none_if (is_word segment) _ (sym c.in-None-2.is ∙ c.in_ok-word.ensures) in
    let step = tokens-separator c.loop-segment.last c.loop-segment.hard c.loop-segment.at segment (word_bounds_left c.next.new.self) separator in
    let told = rw (c.in-Some.ensures.steps, step, c.if-hard.false) at c.loop-segment.invariant.told in
    record {
      told = rw c.is_hard-hard.ensures told;
      room = room-step _ _ _ _ _ c.in-Some.ensures.steps c.loop-segment.invariant.room;
      few = c.loop-segment.invariant.few;
      small = c.loop-segment.invariant.small;
    }

pub returns : goal.returns
unfolding tokens_from
returns c =
    all_are c.args.most c.loop-segment.list.items (tokens c.args.text.now)
    (sym (append-nil _) ∙ (rw c.in-None.ensures.steps.0 at c.loop-segment.invariant.told))
    (subst (λ n. n ≤ c.args.most) c.loop-segment.list.ok.0 c.loop-segment.invariant.few)
