use Rattle.std.proofs.Common.{◌≡◌, map, IfOk, sym, subst, ◌∙◌, ap, ap₂}
use Rattle.hit_format.specs.Marked.{marked}
use Rattle.hit_format.specs.Matched.{is_matched, spans_of}
use Rattle.hit_format.specs.Runs.{IsFrom}
use Rattle.hit_format.proofs.FormatLemmas.{marks_of, matched-is}
use Rattle.hit_format.proofs.TokenLemmas.{tokens-from}
use Rattle.hit_format.proofs.term_set.TermSet.matched.Goals as goal

pub marks-requires : goal.marks-requires
marks-requires c = subst (IsFrom 0) (sym (c.as_slice.ensures.value ∙ c.in_ok-found.ensures)) (tokens-from c.args.text.now)

pub returns : goal.returns
returns c =
    let first = c.as_slice.ensures.value ∙ c.in_ok-found.ensures in
    let second = c.as_slice-2.ensures.value ∙ c.in_ok-found.ensures in
    let marks : c.as_slice-3.result.now ≡ marks_of c.args.text.now c.args.self.now =
    c.as_slice-3.ensures.value ∙ c.in_ok-marks.ensures ∙ ap (λ list. map (is_matched list c.args.self.now) list) first in
    subst (λ all. IfOk c.marked_spans.result (λ spans. spans.items ≡ all))
    (ap₂ (λ list bs. spans_of (marked bs list)) second marks ∙ matched-is c.args.text.now c.args.self.now) c.marked_spans.ensures
