use Rattle.std.proofs.Common.{◌≤◌, subst, length, false, None, ℕ, List}
use Rattle.std.proofs.lemmas.List.{take_all}
use Rattle.unicode_segmentation.specs.Word.{is_word_break, word_bounds}
use Rattle.unicode_segmentation.proofs.SegmentsLemmas.{concat-segments}
use Rattle.token_words.specs.Tokens.{tokens}
use Rattle.token_words.proofs.WordsLemmas.{few_tokens}
use Rattle.token_words.proofs.token_list.tokens.Goals as goal

pub returns : goal.returns
returns c =
    let text : List ℕ = c.args.text.now in
    let few : length (tokens text) ≤ length text =
    subst (λ bytes. length (tokens text) ≤ length bytes) (concat-segments is_word_break text c.utf8.text) (few_tokens None false 0 (word_bounds text)) in
    rw (take_all (length text) (tokens text) few) at c.first_tokens.ensures
