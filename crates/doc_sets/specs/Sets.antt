-- Sets of numbers, as increasing lists.
use Rattle.std.specs.Prelude.{ℕ, ◌≡◌, ◌<◌, ◌≤◌, length, slice_index, Bool, false, not, ◌||◌, ◌==◌, List}
use Rattle.std.specs.Prelude.{[], ◌∷◌, if◌then◌else◌, nat_lt, ⊤}
use Rattle.std.specs.List.{filter}

-- whether d is in the list
abbrev pub has : List ℕ → ℕ → Bool
has [] d = false
has (x ∷ xs) d = x == d || has xs d

-- each number is above a
abbrev pub AreAbove : ℕ → List ℕ → Type 0
AreAbove a [] = ⊤
AreAbove a (x ∷ xs) = (a < x) × AreAbove a xs

-- each number is below the next
abbrev pub IsIncreasing : List ℕ → Type 0
IsIncreasing [] = ⊤
IsIncreasing (x ∷ xs) = AreAbove x xs × IsIncreasing xs

-- the list with d in it, at its place
abbrev pub with_id : ℕ → List ℕ → List ℕ
with_id d [] = d ∷ []
with_id d (x ∷ xs) = if nat_lt d x then d ∷ (x ∷ xs) else if d == x then x ∷ xs else x ∷ with_id d xs

-- the list without d
abbrev pub without_id : ℕ → List ℕ → List ℕ
without_id d [] = []
without_id d (x ∷ xs) = if d == x then xs else x ∷ without_id d xs

-- what is in both lists
abbrev pub intersection : List ℕ → List ℕ → List ℕ
intersection xs ys = filter (λ d. has ys d) xs

-- what is in the first list alone
abbrev pub difference : List ℕ → List ℕ → List ℕ
difference xs ys = filter (λ d. not (has ys d)) xs

-- what is greater than d
abbrev pub above : ℕ → List ℕ → List ℕ
above d xs = filter (nat_lt d) xs

-- what is in one list or the other
abbrev pub union : List ℕ → List ℕ → List ℕ
union [] ys = ys
union (x ∷ xs) ys = with_id x (union xs ys)

-- d stands at place i
pub record IsAt (xs : List ℕ) (d i : ℕ) : Type 0 where
  pub within : i < length xs
  pub is : slice_index xs i ≡ d

-- d would go to place i: what is before it is less, and what is from it on is greater
pub record IsGap (xs : List ℕ) (d i : ℕ) : Type 0 where
  pub within : i ≤ length xs
  pub below : (k : ℕ) → k < i → slice_index xs k < d
  pub above : (k : ℕ) → i ≤ k → k < length xs → d < slice_index xs k

-- what is in any of the lists
abbrev pub union_all : List (List ℕ) → List ℕ
union_all [] = []
union_all (xs ∷ xss) = union xs (union_all xss)
