-- The parser as a machine over tokens, between the grammar and the code. The law `answers_are_the_grammars` of `filter_expr` ties it to the grammar.
use Rattle.std.specs.Prelude.{ℕ, List, [], ◌∷◌, ◌++◌, length, Bool, true, false, Option, Some, None}
use Rattle.filter_tree.specs.Tree.{Tree, negation, and_of, or_of}
use Rattle.filter_machine.specs.Number.{bad_in}
use Rattle.filter_machine.specs.Grammar.{Condition, compared, between, among, existing, nullish, emptyish, condition_tree, condition_values}
use Rattle.filter_machine.specs.declared.token.Token.{Token}
use Rattle.filter_machine.specs.declared.token.Token.TheVariants.{Text, And, Or, Not, In, To, Exists, Is, Null, Empty, Compare, Open, Close, ListOpen, ListClose, Comma}
use Rattle.filter_machine.specs.declared.token.Comparison.{Comparison}

-- what of a condition has come
pub data State : Type 0 where
  start : State
  attribute : List ℕ → State
  value : List ℕ → Comparison → State
  low : List ℕ → List ℕ → State
  high : List ℕ → List ℕ → State
  refused : List ℕ → State
  in_list : List ℕ → Bool → State
  first : List ℕ → Bool → State
  item : List ℕ → Bool → List (List ℕ) → State
  after_comma : List ℕ → Bool → List (List ℕ) → State
  being : List ℕ → State
  not_being : List ℕ → State
  done : State

-- The members of OR and of AND in the innermost bracket, and the first value of all so far that should be a number and is none.
pub record Level : Type 0 where
  pub ors : List Tree
  pub ands : List Tree
  pub bad : Option (List ℕ)

-- What is open: a NOT, or a bracket, with the members before it.
pub data Frame : Type 0 where
  under_not : Frame
  bracket : List Tree → List Tree → Frame

-- The innermost frame stands first.
pub record Machine : Type 0 where
  pub state : State
  pub level : Level
  pub outer : List Frame

-- how many NOTs and brackets are open
abbrev pub opened : Machine → ℕ
opened m = length m.outer

abbrev pub level_of : List Tree → List Tree → Option (List ℕ) → Level
level_of os ns bad = record { ors = os; ands = ns; bad = bad }

abbrev pub at : State → Level → List Frame → Machine
at s l o = record { state = s; level = l; outer = o }

abbrev pub or_first : Option (List ℕ) → Option (List ℕ) → Option (List ℕ)
or_first (Some w) next = Some w
or_first None next = next

-- the first bad value, after these values too
abbrev pub bad_after : Option (List ℕ) → List (List ℕ) → Option (List ℕ)
bad_after bad [] = bad
bad_after bad (v ∷ vs) = bad_after (or_first bad (bad_in v)) vs

abbrev pub noted : List (List ℕ) → Level → Level
noted vs l = level_of l.ors l.ands (bad_after l.bad vs)

abbrev pub with_member : Tree → Level → Level
with_member t l = level_of l.ors (l.ands ++ t ∷ []) l.bad

-- a member ends, and with it the NOTs just over it
abbrev pub member_end : Tree → Level → List Frame → Machine
member_end t l [] = at done (with_member t l) []
member_end t l (under_not ∷ o) = member_end (negation t) l o
member_end t l (bracket os ns ∷ o) = at done (with_member t l) (bracket os ns ∷ o)

abbrev pub whole : Level → Tree
whole l = or_of (l.ors ++ and_of l.ands ∷ [])

abbrev pub next_or : Level → Level
next_or l = level_of (l.ors ++ and_of l.ands ∷ []) [] l.bad

abbrev pub closed : Level → List Frame → Option Machine
closed l [] = None
closed l (under_not ∷ o) = None
closed l (bracket os ns ∷ o) = Some (member_end (whole l) (level_of os ns l.bad) o)

abbrev pub ended : Condition → Level → List Frame → Option Machine
ended c l o = Some (member_end (condition_tree c) (noted (condition_values c) l) o)

abbrev pub go : State → Level → List Frame → Option Machine
go s l o = Some (at s l o)

-- one token
abbrev pub move : State → Token → Level → List Frame → Option Machine
move start (Text a) l o = go (attribute a) l o
move start Not l o = go start l (under_not ∷ o)
move start Open l o = go start (level_of [] [] l.bad) (bracket l.ors l.ands ∷ o)
move (attribute a) (Compare c) l o = go (value a c) l o
move (attribute a) (Text b) l o = go (low a b) l o
move (attribute a) Not l o = go (refused a) l o
move (attribute a) In l o = go (in_list a false) l o
move (attribute a) Exists l o = ended (existing a false) l o
move (attribute a) Is l o = go (being a) l o
move (value a c) (Text v) l o = ended (compared a c v) l o
move (low a b) To l o = go (high a b) l o
move (high a b) (Text v) l o = ended (between a b v) l o
move (refused a) In l o = go (in_list a true) l o
move (refused a) Exists l o = ended (existing a true) l o
move (in_list a n) ListOpen l o = go (first a n) l o
move (first a n) (Text v) l o = go (item a n (v ∷ [])) l o
move (first a n) ListClose l o = ended (among a n []) l o
move (item a n vs) Comma l o = go (after_comma a n vs) l o
move (item a n vs) ListClose l o = ended (among a n vs) l o
move (after_comma a n vs) (Text v) l o = go (item a n (vs ++ v ∷ [])) l o
move (being a) Not l o = go (not_being a) l o
move (being a) Null l o = ended (nullish a false) l o
move (being a) Empty l o = ended (emptyish a false) l o
move (not_being a) Null l o = ended (nullish a true) l o
move (not_being a) Empty l o = ended (emptyish a true) l o
move done And l o = go start l o
move done Or l o = go start (next_or l) o
move done Close l o = closed l o
move _ _ l o = None

abbrev pub step : Machine → Token → Option Machine
step m t = move m.state t m.level m.outer

abbrev pub then : (Machine → Option Machine) → Option Machine → Option Machine
then f None = None
then f (Some m) = f m

abbrev pub run : List Token → Machine → Option Machine
run [] m = Some m
run (t ∷ ts) m = then (run ts) (step m t)

abbrev pub new_machine : Machine
new_machine = at start (level_of [] [] None) []

-- A text that is read: its tree, and its first value that should be a number and is none.
pub record Reading : Type 0 where
  pub tree : Tree
  pub bad : Option (List ℕ)

abbrev pub reading : Tree → Option (List ℕ) → Reading
reading t b = record { tree = t; bad = b }

abbrev pub accepted : State → List Frame → Reading → Option Reading
accepted done [] r = Some r
accepted _ _ r = None

abbrev pub accept : Machine → Option Reading
accept m = accepted m.state m.outer (reading (whole m.level) m.level.bad)
