-- What each fault of a text says.
use Rattle.std.specs.Prelude.{◌≡◌, ℕ, ◌+◌, ◌≤◌, List, [], ◌∷◌, ◌++◌, ◌⊎◌, length, take, get_or}
use Rattle.std.specs.List.{AllByRecursion}
use Rattle.filter_machine.specs.declared.token.Token.{Token}
use Rattle.filter_machine.specs.declared.token.Token.TheVariants.{Not, Open}
use Rattle.filter_machine.specs.Grammar.{Ors, ors_tokens, ors_depths}
use Rattle.filter_machine.specs.Text.{IsFilter, Begins, Piece, token_in, spell, tokens, AreCut}

-- how many NOTs and brackets may be open at once
abbrev pub most_depth : ℕ
most_depth = 200

-- The text is no filter, and up to the place, and no further, it is the beginning of one.
pub record IsSyntaxFault (text : List ℕ) (place : ℕ) : Type 0 where
  pub front : List ℕ
  pub back : List ℕ
  pub text_is : text ≡ front ++ back
  pub place_is : place ≡ length front
  pub begins : Begins front
  pub stops : (b : ℕ) (more : List ℕ) → back ≡ b ∷ more → Begins (front ++ b ∷ []) → ⊥
  pub no_filter : (f : Ors) → IsFilter text f → ⊥

-- no place of the filter is deeper
abbrev pub IsWithin : Ors → Type 0
IsWithin f = AllByRecursion (λ d. d ≤ most_depth) (ors_depths 0 f)

-- At the place a NOT or a bracket opens, deeper than the limit and the first to be so, and the tokens up to it, itself included, are the first of a filter's.
pub record IsTooDeep (text : List ℕ) (place : ℕ) : Type 0 where
  pub before : List Piece
  pub opening : Piece
  pub rest : List ℕ
  pub text_is : text ≡ spell (before ++ opening ∷ []) ++ rest
  pub cut : AreCut (before ++ opening ∷ []) rest
  pub place_is : place ≡ length (spell before)
  pub opens : (token_in opening ≡ Not ∷ []) ⊎ (token_in opening ≡ Open ∷ [])
  pub filter : Ors
  pub later : List Token
  pub tokens_are : ors_tokens filter ≡ tokens (before ++ opening ∷ []) ++ later
  pub shallow : AllByRecursion (λ d. d ≤ most_depth) (take (length (tokens before)) (ors_depths 0 filter))
  pub deep : get_or (ors_depths 0 filter) (length (tokens before)) 0 ≡ most_depth + 1
