use Rattle.search_server.proofs.FewWords.{one_other, two_words}
use Rattle.search_server.proofs.words.command_of.Goals as goal

pub returns-in_default-as_str : goal.returns-in_default-as_str
returns-in_default-as_str c =
    one_other c.args.words.now c.word-item.result c.as_str.result.now c.in-len1.len_at_least c.in-len1.len_below c.word-item.is c.as_str.ensures.value
    c.in_default-as_str.not-pipe

pub returns-in_default-2 : goal.returns-in_default-2
returns-in_default-2 c = two_words c.args.words.now c.in_default.len_at_least c.in_default.len_below
