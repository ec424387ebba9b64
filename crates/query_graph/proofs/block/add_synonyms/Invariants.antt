use Rattle.std.proofs.Common.{◌≡◌, ◌++◌, map}
use Rattle.search_base.specs.declared.query.Kind.TheVariants.{Synonym}
use Rattle.query_graph.specs.ItemReadings.{block_of}
use Rattle.query_graph.proofs.block.add_synonyms.Given as goal

-- the blocks so far and those of the terms to come are the blocks
abbrev pub invariant-loop-term : goal.invariant-loop-term
invariant-loop-term l =
    l.blocks.items ++ map (block_of l.part Synonym) l.term-iterator.rest.items ≡ l.initial.blocks.items ++ map (block_of l.part Synonym) l.initial.term-iterator.rest.items
