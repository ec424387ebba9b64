use Rattle.std.proofs.Common.{◌≡◌, map, IfOk, sym, subst, ◌∙◌, ap, ap₂}
use Rattle.hit_format.specs.Cuts.{CutsFrom}
use Rattle.hit_format.specs.Marked.{marked_format}
use Rattle.hit_format.specs.Matched.{is_matched}
use Rattle.hit_format.specs.Runs.{IsFrom}
use Rattle.hit_format.proofs.FormatLemmas.{marks_of, format-is}
use Rattle.hit_format.proofs.TokenLemmas.{tokens-from, tokens-cut}
use Rattle.hit_format.proofs.term_set.TermSet.format.Goals as goal

pub marks-requires : goal.marks-requires
marks-requires c = subst (IsFrom 0) (sym (c.as_slice.ensures.value ∙ c.in_ok-found.ensures)) (tokens-from c.args.text.now)

pub shown-requires-clause-cut : goal.shown-requires-clause-cut
shown-requires-clause-cut c =
    subst (CutsFrom c.args.text.now 0) (sym (c.as_slice-2.ensures.value ∙ c.in_ok-found.ensures)) (tokens-cut c.args.text.now c.utf8.text)

pub returns : goal.returns
returns c =
    let first = c.as_slice.ensures.value ∙ c.in_ok-found.ensures in
    let second = c.as_slice-2.ensures.value ∙ c.in_ok-found.ensures in
    let marks : c.as_slice-3.result.now ≡ marks_of c.args.text.now c.args.self.now =
    c.as_slice-3.ensures.value ∙ c.in_ok-marks.ensures ∙ ap (λ list. map (is_matched list c.args.self.now) list) first in
    subst (λ text. IfOk c.shown.result (λ word. word ≡ text))
    (ap₂ (λ list bs. marked_format c.args.text.now list bs c.args.how.now) second marks ∙ format-is c.args.text.now c.args.self.now c.args.how.now)
    c.shown.ensures
