use Rattle.std.proofs.Common.{◌∙◌, sym, ap, refl, Some, length, nat_eq}
use Rattle.unicode_segmentation.specs.Segments.{has_alphanumeric}
use Rattle.token_words.specs.Normal.{normal}
use Rattle.token_words.specs.Segments.{is_word}
use Rattle.token_words.proofs.Steps.{is_empty-length}
use Rattle.token_words.proofs.segment.word_of.Goals as goal

pub returns-then-not-has_alphanumeric : goal.returns-then-not-has_alphanumeric
unfolding is_word has_alphanumeric
returns-then-not-has_alphanumeric c =
    rw (sym c.has_alphanumeric.ensures ∙ c.if-not-has_alphanumeric.true) refl

pub returns-then-is_empty : goal.returns-then-is_empty
unfolding is_word has_alphanumeric
returns-then-is_empty c =
    let some = sym c.has_alphanumeric.ensures ∙ c.if-not-has_alphanumeric.false in
    let none = sym (is_empty-length (normal c.args.segment.now)) ∙ ap (λ xs. nat_eq (length xs) 0) (sym (c.as_str.ensures ∙ c.in_ok-word.ensures)) ∙ sym c.is_empty.ensures ∙ c.if-is_empty.true in
    rw (some, none) refl

pub returns-else-is_empty : goal.returns-else-is_empty
unfolding is_word has_alphanumeric
returns-else-is_empty c =
    let some = sym c.has_alphanumeric.ensures ∙ c.if-not-has_alphanumeric.false in
    let none = sym (is_empty-length (normal c.args.segment.now)) ∙ ap (λ xs. nat_eq (length xs) 0) (sym (c.as_str.ensures ∙ c.in_ok-word.ensures)) ∙ sym c.is_empty.ensures ∙ c.if-is_empty.false in
    rw (some, none) (ap Some c.in_ok-word.ensures)
