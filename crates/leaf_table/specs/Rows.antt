-- The rows of documents: numbers, each of which names a leaf of a pool.
use Rattle.std.specs.Prelude.{◌-◌, ℕ, Vec, vec_len, vec_capacity, List, [], ◌∷◌, ◌++◌, map, min, slice_index_or, Option, None, Some, unwrap_or}
use Rattle.std.specs.Global.{Global}
use Rattle.std.specs.List.{All}
use Rattle.std.specs.Option.{option_map, option_to_list}
use Rattle.search_base.specs.declared.document.Leaf.{Leaf}
use Rattle.leaf_table.specs.declared.pool.TheConstants.{LIMIT}
use Rattle.leaf_table.specs.declared.leaf_row.Kept.{Kept}
use Rattle.leaf_table.specs.declared.leaf_row.Kept.TheVariants as kept

-- the numbers of a document's leaves, and nothing where there is no document
abbrev pub row_numbers : Kept → Option (List ℕ)
row_numbers kept.Nothing = None
row_numbers (kept.Few numbers) = Some numbers
row_numbers (kept.More numbers) = Some numbers.value.items

-- the leaf of a number, where it has one
abbrev pub leaf_in : List (Option Leaf) → ℕ → Option Leaf
leaf_in leaves number = slice_index_or leaves number None

-- the leaves of some numbers
abbrev pub leaves_named : List (Option Leaf) → List ℕ → List Leaf
leaves_named leaves [] = []
leaves_named leaves (number ∷ numbers) = option_to_list (leaf_in leaves number) ++ leaves_named leaves numbers

-- the leaves of each document, and nothing where there is no document
abbrev pub rows_named : List (Option Leaf) → List (Option (List ℕ)) → List (Option (List Leaf))
rows_named leaves rows = map (option_map (leaves_named leaves)) rows

-- each number of a row is such a one
abbrev pub Each : (ℕ → Type 0) → List (Option (List ℕ)) → Type 0
Each P rows = All (λ row. All P (unwrap_or row [])) rows

-- so many leaves more can be given numbers without memory
abbrev pub room_of : Vec (Option Leaf) Global → ℕ
room_of leaves = min (vec_capacity leaves) LIMIT - vec_len leaves
