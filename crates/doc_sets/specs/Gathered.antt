-- The two forms in which a builder keeps what was added.
use Rattle.std.specs.Prelude.{ℕ, ⊤, List}
use Rattle.doc_sets.specs.declared.builder.Gathered.{Gathered}
use Rattle.doc_sets.specs.declared.builder.Gathered.TheVariants.{Few, Many}
use Rattle.doc_sets.specs.Sets.{IsIncreasing}

abbrev pub gathered_ids : Gathered → List ℕ
gathered_ids (Few ids) = ids.items
gathered_ids (Many bits) = bits.ids

-- the ids of a list increase, as those of bits always do
abbrev pub IsGathered : Gathered → Type 0
IsGathered (Few ids) = IsIncreasing ids.items
IsGathered (Many bits) = ⊤
