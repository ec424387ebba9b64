use Rattle.query_graph.proofs.ItemLemmas.{words_added}
use Rattle.query_graph.proofs.text.add_words.Goals as goal

pub returns : goal.returns
returns c =
    rw (c.in_ok-push.ensures.items, c.in_ok-add_whole_words.ensures, c.in_ok-word_item.ensures, c.ends_text-prefix.ensures)
    (words_added c.args.last c.args.end c.args.list.now.items c.in-Some.front.now c.in-Some.word.now c.args.words.now c.in-Some.ensures.cases.0)
