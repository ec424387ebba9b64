-- The parts of an entry of a posting list.
use Rattle.std.specs.Prelude.{ℕ, ◌/◌, ◌%◌, ◌^◌}

-- the document of an entry
abbrev pub document_of : ℕ → ℕ
document_of entry = entry / 2 ^ 32

-- its path
abbrev pub path_of : ℕ → ℕ
path_of entry = entry / 2 ^ 16 % 2 ^ 16

-- its position in the path
abbrev pub position_of : ℕ → ℕ
position_of entry = entry % 2 ^ 16
