-- Which documents are looked at for the hits of a search.
use Rattle.std.specs.Prelude.{ℕ, List, Option, None, Some}
use Rattle.distinct_hits.specs.Distinct.{reach}
use Rattle.search_call.specs.SearchView.{SearchView}
use Rattle.search_call.specs.Windows.{offset_of}
use Rattle.search_settings.specs.declared.refusal.SearchRefusal.{SearchRefusal}
use Rattle.index_changes.specs.Index.{Index}
use Rattle.index_core.specs.Distinct.{distinct_attribute_in}
use Rattle.index_core.specs.Found.{in_order, most_hits, texts_of, window_end, window_size}
use Rattle.index_core.specs.Matching.{matching}

-- those from a place on in the order of all that match, up to another place
pub record LookedAt : Type 0 where
  pub start : ℕ
  pub end : ℕ

-- The hits alone; or, where no two of them may have a value of an attribute in common, all that match from the best on,
-- until as many are kept as the window's end says.
abbrev pub looked_under : Option (List ℕ) → Index → SearchView → LookedAt
looked_under None index call = record { start = offset_of call.window; end = window_end (most_hits index) call }
looked_under (Some attribute) index call = record {
  start = 0;
  end = reach (texts_of attribute) (in_order (matching index call)) (offset_of call.window)
      (window_size (most_hits index) call);
}

abbrev pub looked_at : Index → SearchView → LookedAt
looked_at index call = looked_under (distinct_attribute_in index call) index call

-- the one, and the other where the settings refuse a search
abbrev pub unless_refused : {A : Type 0} → Option SearchRefusal → A → A → A
unless_refused None a none = a
unless_refused (Some refusal) a none = none
