use Rattle.std.proofs.Common.{◌≡◌, ◌++◌, filter}
use Rattle.std.specs.Prelude.{not}
use Rattle.search_settings.specs.QueryWords.{each_once, is_seen}
use Rattle.search_settings.proofs.synonyms.each_once.Given as goal

-- the rows so far, and those to come once each without the words that were seen, are the rows once each
abbrev pub invariant-loop-row : goal.invariant-loop-row
invariant-loop-row l =
    l.kept.items ++ filter (λ later. not (is_seen l.seen later)) (each_once l.row-iterator.rest.items) ≡ each_once l.initial.row-iterator.rest.items
