use Rattle.std.proofs.Common.{◌≡◌, ◌++◌, drop}
use Rattle.std.specs.List.{filter_map}
use Rattle.doc_rows.specs.Texts.{leaf_text}
use Rattle.doc_rows.proofs.path_texts.texts.Given as goal

-- the texts so far and those of the values to come are the texts
abbrev pub invariant-loop-value : goal.invariant-loop-value
invariant-loop-value l = l.texts.items ++ filter_map leaf_text (drop l.value-index l.fn.values) ≡ filter_map leaf_text l.fn.values
