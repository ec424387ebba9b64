use Rattle.std.proofs.Common.{◌≡◌, ◌≤◌, ◌++◌, drop, filter}
use Rattle.doc_rows.specs.Rows.{all_places, is_searched, places_of}
use Rattle.doc_rows.proofs.path_words.add_texts.Given as goal

-- the words so far and those of the texts to come are the path's
abbrev pub invariant-loop-text : goal.invariant-loop-text
invariant-loop-text l = record {
  told : l.places.items ++ filter is_searched (all_places l.fn.number l.fn.rank l.start (drop l.text-index l.fn.texts)) ≡ l.initial.places.items ++ places_of l.fn.number l.fn.rank l.fn.texts;
  near : l.start ≤ 65536;
}
