use Rattle.std.proofs.Common.{◌≡◌, ◌++◌, drop, map, filter}
use Rattle.doc_rows.specs.Rows.{place_of, is_searched}
use Rattle.doc_rows.proofs.path_words.add_words.Given as goal

-- the words so far and those to come are the text's
abbrev pub invariant-loop-word : goal.invariant-loop-word
invariant-loop-word l =
    l.places.items ++ filter is_searched (map (place_of l.fn.number l.fn.rank l.fn.start) (drop l.word-index l.fn.words)) ≡ l.initial.places.items ++ filter is_searched (map (place_of l.fn.number l.fn.rank l.fn.start) l.fn.words)
