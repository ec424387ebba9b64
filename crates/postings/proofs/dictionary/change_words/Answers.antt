use Rattle.std.proofs.Common.{◌≡◌, ◌+◌, ◌<◌, false, length, take, drop, get_or, None, sym, subst, arith}
use Rattle.std.specs.Ordering.{is_eq}
use Rattle.postings.specs.Dictionary.{lists_of, word_cmp, value_at, RoomAt, IsTight}
use Rattle.posting_list.proofs.SetLemmas.{take_one_more}
use Rattle.postings.proofs.RowLemmas.{Told, told_none, told_more, rows_apart, absent_before}
use Rattle.postings.proofs.TightLemmas.{tight_less, drop_one}
use Rattle.postings.proofs.dictionary.change_words.Goals as goal

pub loop-row-init : goal.loop-row-init
loop-row-init c = record {
  numbered = c.requires.numbered;
  room = λ k d low inside. c.requires.room.each k d inside;
  tight = λ h. h;
  told = told_none (lists_of c.args.lists.now);
}

pub loop-row-preserved : goal.loop-row-preserved
loop-row-preserved c =
    let rows = c.args.rows.now in
    let i = c.loop-row.row-index in
    let x = c.row-item.result in
    let first = lists_of c.args.lists.now in
    let old = (lists_of c.loop-row.lists) in
    let new = (lists_of c.change_word.new.lists) in
    let inside : i < length rows = omega arith in
    let absent : value_at x.0 (take i rows) ≡ None =
    subst (λ y. value_at y.0 (take i rows) ≡ None) (sym c.row-item.is) (absent_before rows i x c.requires.settled.words inside) in
    record {
      numbered = c.change_word.ensures.numbered;
      room = λ k d low most. subst (λ o. RoomAt o (get_or rows k d).1.come.items)
          (sym (c.change_word.ensures.others (get_or rows k d).0
          (subst (λ y. is_eq (word_cmp y.0 (get_or rows k d).0) ≡ false) (sym c.row-item.is) (rows_apart rows i k x d c.requires.settled.words (omega arith) most))))
          (c.loop-row.invariant.room k d (omega arith) most);
      tight = λ h. tight_less x (drop (i + 1) rows) old new c.change_word.ensures.tight c.change_word.ensures.others
          (subst (λ v. IsTight v old) (drop_one rows i x inside c.row-item.is) (c.loop-row.invariant.tight h));
      told = λ word entry. subst (λ v. Told first v new word entry) (sym (take_one_more rows i x inside c.row-item.is))
          (told_more x (take i rows) first old new absent c.loop-row.invariant.told c.change_word.ensures.list c.change_word.ensures.others word entry);
    }
