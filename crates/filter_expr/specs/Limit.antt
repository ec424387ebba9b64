-- The same machine with places and the limit on how deep a filter nests: the parser's answer for one text. `answers_are_the_grammars` ties it to the grammar.
use Rattle.std.specs.Prelude.{ℕ, suc, ◌-◌, List, [], ◌∷◌, ◌++◌, length, Bool, if◌then◌else◌, nat_eq, nat_lt, Option, Some, None, Result, Ok, Err}
use Rattle.filter_machine.specs.Text.{Class, space, letter, quote, bang, greater, less, single, strange, class_of, is_letter, word_token, is_special}
use Rattle.filter_machine.specs.Machine.{State, start, Machine, opened, step, new_machine, Reading, accept}
use Rattle.filter_machine.specs.Scan.{Lex, gap, in_word, in_quote, after_slash, after, Scan, with, takes, fits, alone_step}
use Rattle.filter_expr.specs.Faults.{most_depth}
use Rattle.filter_machine.specs.declared.token.Token.{Token}
use Rattle.filter_machine.specs.declared.token.Token.TheVariants.{Text, Compare, Not, Open}
use Rattle.filter_machine.specs.declared.token.Comparison.TheVariants.{Equal, Unequal, Above, AtLeast, Below, AtMost}

pub data TextFault : Type 0 where
  syntax_at : ℕ → TextFault
  too_deep_at : ℕ → TextFault

-- a token that ends at one place and began at another
abbrev pub stepped : ℕ → ℕ → Option Machine → Result Machine TextFault
stepped at began None = Err (syntax_at at)
stepped at began (Some m) = if nat_lt most_depth (opened m) then Err (too_deep_at began) else Ok m

abbrev pub spaced_at : Result Machine TextFault → Result Scan TextFault
spaced_at (Ok m) = Ok (with gap m)
spaced_at (Err f) = Err f

abbrev pub so_at : ℕ → Bool → Lex → Machine → Result Scan TextFault
so_at at b lex m = if b then Ok (with lex m) else Err (syntax_at at)

abbrev pub begin_by_at : Class → ℕ → ℕ → Machine → Result Scan TextFault
begin_by_at space at b m = Ok (with gap m)
begin_by_at letter at b m = so_at at (fits m.state (b ∷ [])) (in_word (b ∷ [])) m
begin_by_at quote at b m = so_at at (takes m.state (Text [])) (in_quote b []) m
begin_by_at bang at b m = so_at at (takes m.state (Compare Equal)) (after Unequal None) m
begin_by_at greater at b m = so_at at (takes m.state (Compare Equal)) (after AtLeast (Some Above)) m
begin_by_at less at b m = so_at at (takes m.state (Compare Equal)) (after AtMost (Some Below)) m
begin_by_at (single t) at b m = spaced_at (stepped at at (step m t))
begin_by_at strange at b m = Err (syntax_at at)

abbrev pub begin_after_at : ℕ → ℕ → Result Machine TextFault → Result Scan TextFault
begin_after_at at b (Err f) = Err f
begin_after_at at b (Ok m) = begin_by_at (class_of b) at b m

-- the byte at a place
abbrev pub feed_by_at : Lex → ℕ → ℕ → Machine → Result Scan TextFault
feed_by_at gap at b m = begin_by_at (class_of b) at b m
feed_by_at (in_word w) at b m =
    if is_letter b then so_at at (fits m.state (w ++ b ∷ [])) (in_word (w ++ b ∷ [])) m else begin_after_at at b (stepped at (at - length w) (step m (word_token w)))
feed_by_at (in_quote q w) at b m =
    if nat_eq b q then spaced_at (stepped at at (step m (Text w))) else if nat_eq b 92 then Ok (with (after_slash q w) m) else Ok (with (in_quote q (w ++ b ∷ [])) m)
feed_by_at (after_slash q w) at b m = if is_special q b then Ok (with (in_quote q (w ++ b ∷ [])) m) else Ok (with (in_quote q (w ++ 92 ∷ b ∷ [])) m)
feed_by_at (after c d) at b m = if nat_eq b 61 then spaced_at (stepped at at (step m (Compare c))) else begin_after_at at b (stepped at at (alone_step d m))

abbrev pub end_at : Lex → ℕ → Machine → Result Machine TextFault
end_at gap at m = Ok m
end_at (in_word w) at m = stepped at (at - length w) (step m (word_token w))
end_at (in_quote q w) at m = Err (syntax_at at)
end_at (after_slash q w) at m = Err (syntax_at at)
end_at (after c d) at m = stepped at at (alone_step d m)

abbrev pub goes_at : (Scan → Result Machine TextFault) → Result Scan TextFault → Result Machine TextFault
goes_at f (Ok s) = f s
goes_at f (Err e) = Err e

abbrev pub outcome_at : List ℕ → ℕ → Scan → Result Machine TextFault
outcome_at [] at s = end_at s.lex at s.machine
outcome_at (b ∷ bs) at s = goes_at (outcome_at bs (suc at)) (feed_by_at s.lex at b s.machine)

abbrev pub accepted_at : ℕ → Option Reading → Result Reading TextFault
accepted_at at None = Err (syntax_at at)
accepted_at at (Some r) = Ok r

abbrev pub ended_at : ℕ → Result Machine TextFault → Result Reading TextFault
ended_at at (Err f) = Err f
ended_at at (Ok m) = accepted_at at (accept m)

-- what a text reads as, or its fault
unfoldable pub reading_of : List ℕ → Result Reading TextFault
reading_of text = ended_at (length text) (outcome_at text 0 (with gap new_machine))

-- the depth at a token that the machine reads
abbrev pub deeper : State → Token → ℕ → ℕ
deeper start Not d = suc d
deeper start Open d = suc d
deeper _ _ d = d

abbrev pub depth_at : Machine → Token → ℕ
depth_at m t = deeper m.state t (opened m)

abbrev pub depths_after : (Machine → List ℕ) → Option Machine → List ℕ
depths_after f None = []
depths_after f (Some m) = f m

abbrev pub depths : List Token → Machine → List ℕ
depths [] m = []
depths (t ∷ ts) m = depth_at m t ∷ depths_after (depths ts) (step m t)
