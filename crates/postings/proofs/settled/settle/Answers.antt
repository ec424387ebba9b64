use Rattle.std.proofs.Common.{◌≡◌, ◌+◌, ◌<◌, [], ◌∷◌, ◌++◌, length, sym, ap, subst, ◌∙◌, rules}
use Rattle.std.specs.List.{All}
use Rattle.std.specs.List.Sorted.{IsStrictlySortedBy}
use Rattle.std.specs.Map.{keys_of}
use Rattle.std.proofs.lemmas.List.Elements.{All-push}
use Rattle.postings.specs.Dictionary.{word_cmp, value_at}
use Rattle.postings.specs.Changes.{IsSettled}
use Rattle.postings.proofs.RowLemmas.{is_alone, IsAlone, words_moved, words_dropped, settled_named, settled_alone, dropped_named}
use Rattle.postings.proofs.settled.settle.Goals as goal

pub loop-word-preserved-then-is_empty : goal.loop-word-preserved-then-is_empty
loop-word-preserved-then-is_empty c =
    let done = c.loop-word.rows.items in
    let left = c.next.new.self in
    let word = c.in-Some.word in
    let old = c.in-Some.change in
    let new = c.in_ok-settled.settled in
    let popped : c.loop-word.word-iterator ≡ (word, old) ∷ left = c.in-Some.ensures.steps in
    let invariant = c.loop-word.invariant in
    let words = subst (λ v. IsStrictlySortedBy word_cmp (keys_of (done ++ v))) popped invariant.words in
    let empty : length new.gone.items + length new.come.items ≡ 0 = search rules in
    record {
      words = words_dropped done left (word, old) words;
      each = invariant.each;
      named = λ s w e. dropped_named done left word old new c.in_ok-settled.ensures empty words s w e
          ∙ ap (λ v. is_alone s e (value_at w (done ++ v))) (sym popped) ∙ invariant.named s w e;
      alone = invariant.alone;
    }

pub loop-word-preserved : goal.loop-word-preserved
loop-word-preserved c =
    let done = c.loop-word.rows.items in
    let left = c.next.new.self in
    let word = c.in-Some.word in
    let old = c.in-Some.change in
    let new = c.in_ok-settled.settled in
    let row = c.in_ok-settled.ensures in
    let popped : c.loop-word.word-iterator ≡ (word, old) ∷ left = search rules in
    let pushed : c.push.new.self.items ≡ done ++ (word, new) ∷ [] = c.in_ok-push.ensures.items in
    let invariant = c.loop-word.invariant in
    let some : 0 < length new.gone.items + length new.come.items = search rules in
    record {
      words = subst (IsStrictlySortedBy word_cmp)
          (ap (λ v. keys_of (done ++ v)) popped ∙ sym (words_moved done left word old new) ∙ ap (λ v. keys_of (v ++ left)) (sym pushed)) invariant.words;
      each = subst (All IsSettled) (sym pushed) (All-push IsSettled done (word, new) invariant.each (record { increasing = row.increasing; some = some }));
      named = λ s w e. ap (λ v. is_alone s e (value_at w (v ++ left))) pushed ∙ settled_named done left word old new row s w e
          ∙ ap (λ v. is_alone s e (value_at w (done ++ v))) (sym popped) ∙ invariant.named s w e;
      alone = λ s w e. subst (λ v. IsAlone s e (value_at w v)) (sym pushed) (settled_alone done word old new row s w e (invariant.alone s w e));
    }
