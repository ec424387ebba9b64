-- The grammar of a filter over its tokens. A derivation has its tokens, the depth at each of them, and its tree.
use Rattle.std.specs.Prelude.{ℕ, suc, List, [], ◌∷◌, ◌++◌, map, Bool, true, false}
use Rattle.filter_tree.specs.Tree.{equal, above, at_least, below, at_most, between as between_both, one_of, exists, null as is_null, empty as is_empty, Tree, negation, test, and_of, or_of}
use Rattle.filter_machine.specs.declared.token.Token.{Token}
use Rattle.filter_machine.specs.declared.token.Token.TheVariants.{Text, And, Or, Not, In, To, Exists, Is, Null, Empty, Compare, Open, Close, ListOpen, ListClose, Comma}
use Rattle.filter_machine.specs.declared.token.Comparison.{Comparison}
use Rattle.filter_machine.specs.declared.token.Comparison.TheVariants.{Equal, Unequal, Above, AtLeast, Below, AtMost}
use Rattle.filter_machine.specs.Number.{number_or_0}

-- condition = text, ( "=" | "!=" | ">" | ">=" | "<" | "<=" ), text
--           | text, text, "TO", text
--           | text, [ "NOT" ], "IN", "[", [ text, { ",", text } ], "]"
--           | text, [ "NOT" ], "EXISTS"
--           | text, "IS", [ "NOT" ], ( "NULL" | "EMPTY" )
-- The attribute comes first; a truth value says whether NOT stands there.
pub data Condition : Type 0 where
  compared : List ℕ → Comparison → List ℕ → Condition
  between : List ℕ → List ℕ → List ℕ → Condition
  among : List ℕ → Bool → List (List ℕ) → Condition
  existing : List ℕ → Bool → Condition
  nullish : List ℕ → Bool → Condition
  emptyish : List ℕ → Bool → Condition

mutual
  -- filter = and, { "OR", and }
  pub data Ors : Type 0 where
    one_and : Ands → Ors
    or : Ors → Ands → Ors

  -- and = not, { "AND", not }
  pub data Ands : Type 0 where
    one_not : Nots → Ands
    and : Ands → Nots → Ands

  -- not = "NOT", not | "(", filter, ")" | condition
  pub data Nots : Type 0 where
    negated : Nots → Nots
    group : Ors → Nots
    plain : Condition → Nots

-- ---- its tokens

abbrev pub not_if : Bool → List Token
not_if true = Not ∷ []
not_if false = []

-- the rest of a list behind a text
abbrev pub further : List (List ℕ) → List Token
further [] = ListClose ∷ []
further (v ∷ vs) = Comma ∷ Text v ∷ further vs

-- a list behind its bracket
abbrev pub listed : List (List ℕ) → List Token
listed [] = ListClose ∷ []
listed (v ∷ vs) = Text v ∷ further vs

abbrev pub condition_tokens : Condition → List Token
condition_tokens (compared a c v) = Text a ∷ Compare c ∷ Text v ∷ []
condition_tokens (between a low high) = Text a ∷ Text low ∷ To ∷ Text high ∷ []
condition_tokens (among a n vs) = Text a ∷ not_if n ++ In ∷ ListOpen ∷ listed vs
condition_tokens (existing a n) = Text a ∷ not_if n ++ Exists ∷ []
condition_tokens (nullish a n) = Text a ∷ Is ∷ not_if n ++ Null ∷ []
condition_tokens (emptyish a n) = Text a ∷ Is ∷ not_if n ++ Empty ∷ []

abbrev mutual
  pub ors_tokens : Ors → List Token
  ors_tokens (one_and a) = ands_tokens a
  ors_tokens (or os a) = ors_tokens os ++ Or ∷ ands_tokens a

  pub ands_tokens : Ands → List Token
  ands_tokens (one_not n) = nots_tokens n
  ands_tokens (and ns n) = ands_tokens ns ++ And ∷ nots_tokens n

  pub nots_tokens : Nots → List Token
  nots_tokens (negated n) = Not ∷ nots_tokens n
  nots_tokens (group f) = Open ∷ ors_tokens f ++ Close ∷ []
  nots_tokens (plain c) = condition_tokens c

-- ---- the depth at each token: how many NOTs and brackets stand over it, or open there

abbrev pub level : ℕ → List Token → List ℕ
level d ts = map (λ _. d) ts

abbrev mutual
  pub ors_depths : ℕ → Ors → List ℕ
  ors_depths d (one_and a) = ands_depths d a
  ors_depths d (or os a) = ors_depths d os ++ d ∷ ands_depths d a

  pub ands_depths : ℕ → Ands → List ℕ
  ands_depths d (one_not n) = nots_depths d n
  ands_depths d (and ns n) = ands_depths d ns ++ d ∷ nots_depths d n

  pub nots_depths : ℕ → Nots → List ℕ
  nots_depths d (negated n) = suc d ∷ nots_depths (suc d) n
  nots_depths d (group f) = suc d ∷ ors_depths (suc d) f ++ suc d ∷ []
  nots_depths d (plain c) = level d (condition_tokens c)

-- ---- its tree

abbrev pub not_at : Bool → Tree → Tree
not_at true t = negation t
not_at false t = t

-- A value that is compared by order must write a number; 0 stands where it does not, and the text is then refused.
abbrev pub comparison_tree : List ℕ → Comparison → List ℕ → Tree
comparison_tree a Equal v = test a (equal v)
comparison_tree a Unequal v = negation (test a (equal v))
comparison_tree a Above v = test a (above (number_or_0 v))
comparison_tree a AtLeast v = test a (at_least (number_or_0 v))
comparison_tree a Below v = test a (below (number_or_0 v))
comparison_tree a AtMost v = test a (at_most (number_or_0 v))

abbrev pub condition_tree : Condition → Tree
condition_tree (compared a c v) = comparison_tree a c v
condition_tree (between a low high) = test a (between_both (number_or_0 low) (number_or_0 high))
condition_tree (among a n vs) = not_at n (test a (one_of vs))
condition_tree (existing a n) = not_at n (test a exists)
condition_tree (nullish a n) = not_at n (test a is_null)
condition_tree (emptyish a n) = not_at n (test a is_empty)

abbrev mutual
  -- the members of OR
  pub ors_members : Ors → List Tree
  ors_members (one_and a) = and_of (ands_members a) ∷ []
  ors_members (or os a) = ors_members os ++ and_of (ands_members a) ∷ []

  -- the members of AND
  pub ands_members : Ands → List Tree
  ands_members (one_not n) = nots_tree n ∷ []
  ands_members (and ns n) = ands_members ns ++ nots_tree n ∷ []

  pub nots_tree : Nots → Tree
  nots_tree (negated n) = negation (nots_tree n)
  nots_tree (group f) = or_of (ors_members f)
  nots_tree (plain c) = condition_tree c

abbrev pub ors_tree : Ors → Tree
ors_tree os = or_of (ors_members os)

-- ---- the values that must be numbers, in order

abbrev pub comparison_values : Comparison → List ℕ → List (List ℕ)
comparison_values Equal v = []
comparison_values Unequal v = []
comparison_values Above v = v ∷ []
comparison_values AtLeast v = v ∷ []
comparison_values Below v = v ∷ []
comparison_values AtMost v = v ∷ []

abbrev pub condition_values : Condition → List (List ℕ)
condition_values (compared a c v) = comparison_values c v
condition_values (between a low high) = low ∷ high ∷ []
condition_values (among a n vs) = []
condition_values (existing a n) = []
condition_values (nullish a n) = []
condition_values (emptyish a n) = []

abbrev mutual
  pub ors_values : Ors → List (List ℕ)
  ors_values (one_and a) = ands_values a
  ors_values (or os a) = ors_values os ++ ands_values a

  pub ands_values : Ands → List (List ℕ)
  ands_values (one_not n) = nots_values n
  ands_values (and ns n) = ands_values ns ++ nots_values n

  pub nots_values : Nots → List (List ℕ)
  nots_values (negated n) = nots_values n
  nots_values (group f) = ors_values f
  nots_values (plain c) = condition_values c
