use Rattle.std.proofs.Common.{◌≡◌, map, take}
use Rattle.postings.specs.Dictionary.{list_at}
use Rattle.posting_sets.proofs.lists.lists_of.Given as goal

abbrev pub invariant-loop-word : goal.invariant-loop-word
invariant-loop-word l = map (λ list. list.now.entries) l.lists.items ≡ map (λ word. list_at word l.postings) (take l.word-index l.words)
