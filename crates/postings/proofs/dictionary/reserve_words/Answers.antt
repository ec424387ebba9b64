use Rattle.std.proofs.Common.{◌≡◌, ℕ, ◌<◌, List, length, get_or, sym, subst, ◌∙◌, arith}
use Rattle.std.proofs.lemmas.List.{get_or_default}
use borrow.Author.Count.{below_more}
use Rattle.postings.specs.declared.change.WordChange.{WordChange}
use Rattle.std.proofs.Common.{false}
use Rattle.std.specs.Ordering.{is_eq}
use Rattle.postings.specs.Dictionary.{lists_of, word_cmp, pages_at, RoomAt}
use Rattle.postings.proofs.WordLemmas.{turned}
use Rattle.postings.proofs.RowLemmas.{rows_apart}
use Rattle.postings.proofs.TightLemmas.{absent_apart}
use Rattle.postings.proofs.dictionary.reserve_words.Goals as goal

pub loop-row-preserved : goal.loop-row-preserved
loop-row-preserved c =
    let rows = c.args.rows.now in
    let i = c.loop-row.row-index in
    let x = c.row-item.result in
    let new = (lists_of c.reserve_word.new.lists) in
    let inside : i < length rows = omega arith in
    record {
      numbered = c.in_ok-number.ensures.numbered;
      lists = λ w. c.in_ok-number.ensures.lists w ∙ c.loop-row.invariant.lists w;
      others = λ w none. c.in_ok-number.ensures.others w (subst (λ y. is_eq (word_cmp y.0 w) ≡ false) (sym c.row-item.is) (absent_apart rows i x w inside none))
          ∙ c.loop-row.invariant.others w none;
      room = λ k d below. below_more (λ k. (d : List ℕ × WordChange) → RoomAt (pages_at (get_or rows k d).0 new) (get_or rows k d).1.come.items) i
          (λ k below d. subst (λ o. RoomAt o (get_or rows k d).1.come.items)
          (sym (c.in_ok-number.ensures.others (get_or rows k d).0
          (subst (λ y. is_eq (word_cmp y.0 (get_or rows k d).0) ≡ false) (sym c.row-item.is)
          (turned (get_or rows i x).0 (get_or rows k d).0 ∙ rows_apart rows k i d x c.requires.settled.words below inside))))
          (c.loop-row.invariant.room k d below))
          (λ d. subst (λ y. RoomAt (pages_at y.0 new) y.1.come.items) (c.row-item.is ∙ get_or_default rows i x d inside)
          (subst (λ xs. RoomAt (pages_at x.0 new) xs) c.deref.ensures.value c.in_ok-number.ensures.room)) k below d;
    }

pub returns-in_err-number-clause-others : goal.returns-in_err-number-clause-others
returns-in_err-number-clause-others c = λ w none.
    let rows = c.args.rows.now in
    let i = c.loop-row.row-index in
    let x = c.row-item.result in
    let inside : i < length rows = omega arith in
    c.in_err-number.ensures.others w (subst (λ y. is_eq (word_cmp y.0 w) ≡ false) (sym c.row-item.is) (absent_apart rows i x w inside none))
    ∙ c.loop-row.invariant.others w none

pub returns-in_err-push-clause-others : goal.returns-in_err-push-clause-others
returns-in_err-push-clause-others c = λ w none.
    let rows = c.args.rows.now in
    let i = c.loop-row.row-index in
    let x = c.row-item.result in
    let inside : i < length rows = omega arith in
    c.in_ok-number.ensures.others w (subst (λ y. is_eq (word_cmp y.0 w) ≡ false) (sym c.row-item.is) (absent_apart rows i x w inside none))
    ∙ c.loop-row.invariant.others w none
