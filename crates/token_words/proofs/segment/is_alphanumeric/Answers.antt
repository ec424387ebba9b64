use Rattle.std.proofs.Common.{sym, ◌∙◌, ltb-true}
use Rattle.unicode_segmentation.proofs.AsciiLemmas.{is_alphanumeric_ascii}
use Rattle.token_words.proofs.segment.is_alphanumeric.Goals as goal

pub returns-then-is_ascii : goal.returns-then-is_ascii
returns-then-is_ascii c =
    c.is_ascii_alphanumeric.ensures.value ∙ is_alphanumeric_ascii c.args.c (ltb-true _ _ (sym c.if-is_ascii.ensures))
