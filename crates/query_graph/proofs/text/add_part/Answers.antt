use Rattle.std.proofs.Common.{◌∙◌}
use Rattle.query_graph.proofs.ItemLemmas.{first_words_added}
use Rattle.query_graph.proofs.text.add_part.Goals as goal

pub returns-in_ok-words-2 : goal.returns-in_ok-words-2
returns-in_ok-words-2 c =
    first_words_added c.add_words.result c.args.quoted c.args.last c.args.list.now.items c.add_words.new.list.items c.as_slice-else-quoted.result.now
    c.args.part.now c.if-quoted.false (c.as_slice-else-quoted.ensures.value ∙ c.in_ok-words-2.ensures) c.add_words.ensures
