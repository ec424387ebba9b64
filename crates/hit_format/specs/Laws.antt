-- What else is known of windows and formats.
use Rattle.std.specs.Prelude.{◌≡◌, ℕ, ◌<◌, ◌≤◌, List, [], slice_range}
use Rattle.search_base.specs.TermView.{TermView}
use Rattle.hit_format.specs.declared.asked.Format.{Format}
use Rattle.hit_format.specs.Formats.{window, format}
use Rattle.hit_format.specs.Matched.{matched}

-- a number from 0 to n has the greatest score, and no smaller one has it
pub record IsFirstBest (points : ℕ → ℕ) (n best : ℕ) : Type 0 where
  pub within : best ≤ n
  pub most : (k : ℕ) → k ≤ n → points k ≤ points best
  pub first : (k : ℕ) → k < best → points k < points best

-- the same without markers and tags
abbrev pub bare : Format → Format
bare how = record how { pre = []; post = []; marker = [] }

-- a format without its markers and tags is a slice of the text: the bytes of its window
abbrev pub IsSlice : List ℕ → List TermView → Format → Type 0
IsSlice text terms how = format text terms (bare how) ≡ slice_range text (window text terms how).from (window text terms how).to

-- a text has the same matches and the same format by both
abbrev pub ShowsAlike : List ℕ → Format → List TermView → List TermView → Type 0
ShowsAlike text how terms other = (matched text terms ≡ matched text other) × (format text terms how ≡ format text other how)
