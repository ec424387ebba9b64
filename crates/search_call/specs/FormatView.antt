-- What contracts see of how a search shows the texts of its hits.
use Rattle.std.specs.Prelude.{ℕ, Bool, true, false, ◌||◌, List, [], ◌∷◌, Option, None, Some}
use Rattle.search_call.specs.declared.CropRow.{CropRow}

-- the members whose texts are marked, those whose texts are cropped, and to how many words, the text that stands for what
-- is left out, those before and after a matched word, and whether hits say where matched words stand
pub record FormatView : Type 0 where
  pub highlight : Option (List (List ℕ))
  pub crop : Option (List CropRow)
  pub marker : List ℕ
  pub pre : List ℕ
  pub post : List ℕ
  pub positions : Bool

-- all texts as they are stored
abbrev pub no_formats : FormatView
no_formats = record { highlight = None; crop = None; marker = []; pre = []; post = []; positions = false }

-- a list that is given and not empty
abbrev pub is_given : {A : Type 0} → Option (List A) → Bool
is_given None = false
is_given (Some []) = false
is_given (Some (x ∷ xs)) = true

-- whether hits show texts otherwise than they are stored
abbrev pub formats_texts : FormatView → Bool
formats_texts formats = is_given formats.highlight || is_given formats.crop

-- whether hits show which words are matched
abbrev pub shows_matches : FormatView → Bool
shows_matches formats = formats_texts formats || formats.positions
