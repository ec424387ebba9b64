use Rattle.std.proofs.Common.{◌≡◌, map, take}
use Rattle.search_settings.proofs.synonyms.words_of.Given as goal

-- the words of the tokens so far
abbrev pub invariant-loop-token : goal.invariant-loop-token
invariant-loop-token l = l.words.items ≡ map (λ token. token.word) (take l.token-index l.token-items)
