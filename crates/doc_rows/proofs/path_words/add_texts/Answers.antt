use Rattle.std.proofs.Common.{◌∙◌, ℕ, List, ap, arith}
use Rattle.token_words.specs.Tokens.{tokens}
use Rattle.doc_rows.proofs.StartLemmas.{texts_step}
use Rattle.doc_rows.proofs.path_words.add_texts.Goals as goal

pub loop-text-preserved : goal.loop-text-preserved
loop-text-preserved c =
    let words_are = c.as_slice-words.ensures.value ∙ c.in_ok-words.ensures ∙ ap (λ (text : List ℕ). tokens text) c.as_str.ensures in
    record {
      told = texts_step c.args.number c.args.rank c.loop-text.start c.next_start-start.result c.loop-text.text-index c.text-item.result c.args.texts.now c.loop-text.places.items c.add_words.new.places.items _ c.as_slice-words.result.now
          c.loop-text-test.true c.text-item.is words_are c.next_start-start.ensures c.in_ok-add_words.ensures c.loop-text.invariant.told;
      near = omega (arith, c.next_start-start.ensures);
    }
