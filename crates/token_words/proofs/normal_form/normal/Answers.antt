use Rattle.std.proofs.Common.{◌≡◌, ◌∙◌, sym, ap, subst, IfOk, encode_utf8_all, filter, map}
use Rattle.std.proofs.lemmas.Str.{chars_from_encodes}
use Rattle.std.specs.Str.{chars}
use Rattle.std.specs.Char.{to_ascii_lowercase}
use Rattle.caseless.specs.Caseless.{default_case_fold}
use Rattle.unicode_normalization.specs.Forms.{nfkd}
use Rattle.token_words.specs.Normal.{normal, is_kept}
use Rattle.token_words.proofs.AsciiLemmas.{normal-ascii}
use Rattle.token_words.proofs.normal_form.normal.Goals as goal

pub returns-then-is_ascii : goal.returns-then-is_ascii
returns-then-is_ascii c =
    subst (λ bs. IfOk c.from_string.result (λ word. word ≡ bs))
    (c.in_ok-lowered.ensures.ok ∙ sym (normal-ascii c.args.text.now c.if-is_ascii.ensures.cases)) c.from_string.ensures

pub returns : goal.returns
unfolding normal
returns c =
    let decomposed = sym (chars_from_encodes (nfkd (chars c.args.text.now)) c.as_str.result.now c.as_str.utf8 (sym (c.as_str.ensures.value ∙ c.in_ok-decomposed.ensures))) in
    let kept = sym (chars_from_encodes (filter is_kept (chars c.as_str.result.now)) c.as_str-2.result.now c.as_str-2.utf8 (sym (c.as_str-2.ensures.value ∙ c.in_ok-kept.ensures))) in
    subst (λ bs. IfOk c.from_string-2.result (λ word. word ≡ bs))
    (c.in_ok-folded.ensures ∙ ap (λ cs. encode_utf8_all (default_case_fold cs)) (kept ∙ ap (filter is_kept) decomposed)) c.from_string-2.ensures

pub returns-then-is_lower : goal.returns-then-is_lower
returns-then-is_lower c =
    let lower = subst (λ bytes. map to_ascii_lowercase bytes ≡ bytes) c.as_bytes.ensures.value c.if-is_lower.ensures in
    subst (λ bs. IfOk c.new.result (λ word. word ≡ bs))
    (sym (normal-ascii c.args.text.now c.if-is_ascii.ensures.cases ∙ lower)) c.new.ensures
