use Rattle.std.proofs.Common.{◌≡◌, ◌++◌, map, take, false}
use Rattle.query_graph.specs.Items.{word_item}
use Rattle.query_graph.proofs.text.add_whole_words.Given as goal

-- the items of the words so far are added
abbrev pub invariant-loop-word : goal.invariant-loop-word
invariant-loop-word l = l.list.items ≡ l.initial.list.items ++ map (λ token. word_item false token.word) (take l.word-index l.words)
