-- What holds of the table of members.
use Rattle.std.specs.Prelude.{◌≡◌, ℕ, List, [], ◌∷◌, ◌++◌, ◌+◌, ◌&&◌, nat_le, codes, Some, if◌then◌else◌}
use Rattle.request_refusals.specs.declared.member.SearchMember.{SearchMember}
use Rattle.request_refusals.specs.Members.{row_of, member_named}

-- each member is the one of its name
abbrev pub EachIsFound : Type 0
EachIsFound = (m : SearchMember) → member_named (row_of m).name ≡ Some m

-- a capital letter becomes `_` and the small one
abbrev pub snake : List ℕ → List ℕ
snake [] = []
snake (b ∷ bytes) = if nat_le 65 b && nat_le b 90 then 95 ∷ (b + 32) ∷ snake bytes else b ∷ snake bytes

-- the code of a member has its name in small letters
abbrev pub EachHasItsCode : Type 0
EachHasItsCode = (m : SearchMember) → (row_of m).code ≡ codes "invalid_search_" ++ snake (row_of m).name
