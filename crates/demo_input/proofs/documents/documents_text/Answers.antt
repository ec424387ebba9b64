use Rattle.std.proofs.Common.{ℕ, List, ◌+◌, ◌-◌, ◌++◌, ◌<◌, nat_lt, string_bytes, ap, ◌∙◌, arith}
use Rattle.std.proofs.lemmas.Bool.{lt-ltb}
use Rattle.demo_input.specs.Draws.{draw}
use Rattle.demo_input.specs.Documents.{documents}
use Rattle.demo_input.proofs.DrawLemmas.{draw_six_more, draw_none}
use Rattle.demo_input.proofs.DocumentLemmas.{rest_text, from_the_start, one_more, none_left, list_closed}
use Rattle.demo_input.proofs.documents.documents_text.Goals as goal

pub loop-place-init : goal.loop-place-init
loop-place-init c = record {
  text = ap (λ v. string_bytes c.in_ok-text.text ++ v) (from_the_start c.args.count c.args.made c.args.draws.now.last);
  drawn = draw_none c.args.draws.now.last;
}

pub loop-place-preserved : goal.loop-place-preserved
loop-place-preserved c =
    let place = c.loop-place.place in
    let last = c.loop-place.draws.last in
    let some : 0 < place + 1 = omega arith in
    let text = string_bytes c.put_document.new.text in
    let left : ℕ → List (List ℕ) = λ x. documents (c.args.count - (place + 1)) (c.args.made + (place + 1)) x in
    record {
      text =
          ap (λ x. text ++ rest_text (nat_lt 0 (place + 1)) (left x)) c.in_ok-put_document.ensures.drawn
          ∙ ap (λ later. text ++ rest_text later (left (draw 6 last))) (lt-ltb 0 (place + 1) some)
          ∙ one_more c.args.count place c.args.made last (nat_lt 0 place) _ _ _ c.loop-place-test.true
          c.in_ok-put_comma.ensures c.in_ok-put_document.ensures.text
          ∙ c.loop-place.invariant.text;
      drawn =
          c.in_ok-put_document.ensures.drawn ∙ ap (draw 6) c.loop-place.invariant.drawn
          ∙ draw_six_more place c.args.draws.now.last;
    }

pub returns-clause-text : goal.returns-clause-text
returns-clause-text c =
    let x = c.args.draws.now.last in
    list_closed (documents c.args.count c.args.made x) (string_bytes c.in_ok-text.text) (string_bytes c.loop-place.text) _
    c.in_ok-text.ensures.ok
    (none_left c.args.count c.loop-place.place c.args.made c.loop-place.draws.last (nat_lt 0 c.loop-place.place) _ _ c.loop-place-test.false c.loop-place.invariant.text)
    c.in_ok-push_str.ensures.bytes
