use Rattle.index_core.proofs.LawLemmas.{no_word_finds_the_list}
use Rattle.index_core.proofs.laws.no_word_finds_the_list.Goals as goal

pub returns : goal.returns
returns c = no_word_finds_the_list
