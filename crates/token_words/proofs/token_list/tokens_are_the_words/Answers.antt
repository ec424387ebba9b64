use Rattle.unicode_segmentation.specs.Word.{is_word_break}
use Rattle.unicode_segmentation.proofs.SegmentsLemmas.{concat-segments}
use Rattle.token_words.proofs.WordsLemmas.{tokens-are_words}
use Rattle.token_words.proofs.token_list.tokens_are_the_words.Goals as goal

pub returns : goal.returns
returns c = tokens-are_words c.args.text.now (concat-segments is_word_break c.args.text.now c.utf8.text)
