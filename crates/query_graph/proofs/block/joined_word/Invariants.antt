use Rattle.std.proofs.Common.{◌≡◌, ◌++◌, drop, string_bytes}
use Rattle.std.specs.List.{concat}
use Rattle.query_graph.proofs.block.joined_word.Given as goal

-- the text so far and the words to come are the words
abbrev pub invariant-loop-word : goal.invariant-loop-word
invariant-loop-word l = string_bytes l.text ++ concat (drop l.word-index l.words) ≡ concat l.words
