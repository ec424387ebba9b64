-- By what the code marks the texts of hits.
use Rattle.std.specs.Prelude.{◌≡◌, ℕ, List, [], Option, if◌then◌else◌}
use Rattle.std.specs.BTreeMap.{get_by_text}
use Rattle.std.specs.Option.{option_or}
use Rattle.search_base.specs.TermView.{TermView}
use Rattle.search_call.specs.FormatView.{FormatView, shows_matches}
use Rattle.search_replies.specs.declared.crops.CropSet.{CropSet}
use Rattle.search_replies.specs.declared.names.NameSet.{NameSet}
use Rattle.search_replies.specs.Formatted.{is_named, crop_for}
use Rattle.search_replies.specs.Names.{set_shows}

-- what a search asks of the texts, and the terms that it matched them by
pub record MarksView : Type 0 where
  pub formats : FormatView
  pub terms : List TermView

-- the length that a set has for a member
abbrev pub set_crop : CropSet → List ℕ → Option ℕ
set_crop set name = option_or (get_by_text set.lengths name) set.all

-- the sets say of each member what the search asks
pub record AreSets (formats : FormatView) (highlight : NameSet) (crops : CropSet) : Type 0 where
  pub names : (name : List ℕ) → set_shows highlight name ≡ is_named formats.highlight name
  pub lengths : (name : List ℕ) → set_crop crops name ≡ crop_for formats.crop name

-- no terms where no text is looked at
abbrev pub terms_if : FormatView → List TermView → List TermView
terms_if formats terms = if shows_matches formats then terms else []
