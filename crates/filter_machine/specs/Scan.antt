-- The parser as a machine over bytes, without a limit on depth. It refuses a byte exactly where no filter begins with the text up to it. The law `answers_are_the_grammars` of `filter_expr` ties it to the grammar.
use Rattle.std.specs.Prelude.{ℕ, List, [], ◌∷◌, ◌++◌, Bool, true, false, ◌&&◌, ◌||◌, if◌then◌else◌, nat_eq, Option, Some, None, is_some}
use Rattle.filter_machine.specs.Text.{Class, space, letter, quote, bang, greater, less, single, strange, class_of, is_letter, keywords, word_token, is_special}
use Rattle.filter_machine.specs.Machine.{State, Machine, level_of, bracket, move, step}
use Rattle.filter_machine.specs.declared.token.Token.{Token}
use Rattle.filter_machine.specs.declared.token.Token.TheVariants.{Text, Compare}
use Rattle.filter_machine.specs.declared.token.Comparison.{Comparison}
use Rattle.filter_machine.specs.declared.token.Comparison.TheVariants.{Equal, Unequal, Above, AtLeast, Below, AtMost}

-- what of the next token has come
pub data Lex : Type 0 where
  gap : Lex
  in_word : List ℕ → Lex
  in_quote : ℕ → List ℕ → Lex
  after_slash : ℕ → List ℕ → Lex
  after : Comparison → Option Comparison → Lex  -- what it is with `=` behind it, and what it is alone

pub record Scan : Type 0 where
  pub lex : Lex
  pub machine : Machine

abbrev pub with : Lex → Machine → Scan
with lex m = record { lex = lex; machine = m }

-- whether a state takes a token that is no bracket
abbrev pub takes : State → Token → Bool
takes s t = is_some (move s t (level_of [] [] None) (bracket [] [] ∷ []))

abbrev pub starts_with : List ℕ → List ℕ → Bool
starts_with [] k = true
starts_with (x ∷ w) [] = false
starts_with (x ∷ w) (y ∷ k) = nat_eq x y && starts_with w k

abbrev pub fits_keyword : State → List ℕ → List (List ℕ × Token) → Bool
fits_keyword s w [] = false
fits_keyword s w (k ∷ ks) = (takes s k.1 && starts_with w k.0) || fits_keyword s w ks

-- whether a word that begins so may come
abbrev pub fits : State → List ℕ → Bool
fits s w = takes s (Text []) || fits_keyword s w keywords

abbrev pub if_so : Bool → Lex → Machine → Option Scan
if_so b lex m = if b then Some (with lex m) else None

abbrev pub spaced : Option Machine → Option Scan
spaced None = None
spaced (Some m) = Some (with gap m)

abbrev pub begin_by : Class → ℕ → Machine → Option Scan
begin_by space b m = Some (with gap m)
begin_by letter b m = if_so (fits m.state (b ∷ [])) (in_word (b ∷ [])) m
begin_by quote b m = if_so (takes m.state (Text [])) (in_quote b []) m
begin_by bang b m = if_so (takes m.state (Compare Equal)) (after Unequal None) m
begin_by greater b m = if_so (takes m.state (Compare Equal)) (after AtLeast (Some Above)) m
begin_by less b m = if_so (takes m.state (Compare Equal)) (after AtMost (Some Below)) m
begin_by (single t) b m = spaced (step m t)
begin_by strange b m = None

abbrev pub begin : ℕ → Machine → Option Scan
begin b m = begin_by (class_of b) b m

abbrev pub begin_after : ℕ → Option Machine → Option Scan
begin_after b None = None
begin_after b (Some m) = begin b m

abbrev pub alone_step : Option Comparison → Machine → Option Machine
alone_step None m = None
alone_step (Some c) m = step m (Compare c)

abbrev pub feed_by : Lex → ℕ → Machine → Option Scan
feed_by gap b m = begin b m
feed_by (in_word w) b m = if is_letter b then if_so (fits m.state (w ++ b ∷ [])) (in_word (w ++ b ∷ [])) m else begin_after b (step m (word_token w))
feed_by (in_quote q w) b m =
    if nat_eq b q then spaced (step m (Text w)) else if nat_eq b 92 then Some (with (after_slash q w) m) else Some (with (in_quote q (w ++ b ∷ [])) m)
feed_by (after_slash q w) b m = if is_special q b then Some (with (in_quote q (w ++ b ∷ [])) m) else Some (with (in_quote q (w ++ 92 ∷ b ∷ [])) m)
feed_by (after c d) b m = if nat_eq b 61 then spaced (step m (Compare c)) else begin_after b (alone_step d m)

abbrev pub feed : ℕ → Scan → Option Scan
feed b s = feed_by s.lex b s.machine

abbrev pub end_by : Lex → Machine → Option Machine
end_by gap m = Some m
end_by (in_word w) m = step m (word_token w)
end_by (in_quote q w) m = None
end_by (after_slash q w) m = None
end_by (after c d) m = alone_step d m

abbrev pub goes : (Scan → Option Machine) → Option Scan → Option Machine
goes f None = None
goes f (Some s) = f s

-- the machine at the end of a text, each token done
abbrev pub outcome : List ℕ → Scan → Option Machine
outcome [] s = end_by s.lex s.machine
outcome (b ∷ bs) s = goes (outcome bs) (feed b s)

abbrev pub proceeds : (Scan → Option Scan) → Option Scan → Option Scan
proceeds f None = None
proceeds f (Some s) = f s

-- the machine within a text
abbrev pub scan : List ℕ → Scan → Option Scan
scan [] s = Some s
scan (b ∷ bs) s = proceeds (scan bs) (feed b s)
