-- Inside: what the counts of documents hold while documents are added. Callers use `AreCountsOf` as a whole.
use Rattle.std.specs.Prelude.{◌≡◌, ◌≤◌, ◌+◌, ◌==◌, ℕ, ℤ, Bool, true, false, not, List, [], ⊤, length, map, take, Option, Some, None, if◌then◌else◌}
use Rattle.std.specs.BTreeMap.{keys, get, is_at}
use Rattle.std.specs.BTreeSet.{insert_key}
use Rattle.std.specs.Cmp.Lexicographic.{slice_cmp}
use Rattle.std.specs.List.{AllZip, list_any}
use Rattle.std.specs.Map.{keys_of, lookup}
use Rattle.std.specs.Option.{is_some, option_map}
use Rattle.std.specs.Ordering.{nat_cmp}
use Rattle.search_base.specs.declared.document.Leaf.{Leaf}
use Rattle.search_base.specs.declared.document.PathId.{PathId}
use Rattle.search_base.specs.declared.value.FacetValue.{FacetValue}
use Rattle.search_base.specs.declared.value.FacetValue.TheVariants as facet
use Rattle.search_base.specs.RowsView.{RowsView}
use Rattle.search_base.specs.SortKeys.{numbers, sooner, first_by, is_less, is_greater}
use Rattle.facet_counts.specs.declared.counter.Counted.{Counted}
use Rattle.facet_counts.specs.declared.counter.Counter.{Counter}
use Rattle.facet_counts.specs.declared.counter.Tally.{Tally}
use Rattle.facet_counts.specs.declared.rows.CountRow.{CountRow}
use Rattle.facet_counts.specs.declared.rows.FacetPath.{FacetPath}
use Rattle.facet_counts.specs.Counts.{text_of, is_of, leaves_at, values_at, count_of, shown_of, both_of}
use Rattle.facet_counts.specs.FacetView.{FacetView}

-- ---- what is seen

-- the values of a path in order, with what is known of each, and the least and the greatest number
pub record TallyView : Type 0 where
  pub path : PathId
  pub entries : List (List ℕ × Counted)
  pub least : Option ℤ
  pub greatest : Option ℤ
  pub documents : ℕ

-- an attribute, with its tally where it has a path
pub record CounterView : Type 0 where
  pub attribute : List ℕ
  pub tally : Option TallyView

abbrev pub tally_view : Tally → TallyView
tally_view tally = record {
  path = tally.path;
  entries = tally.values.entries;
  least = tally.least;
  greatest = tally.greatest;
  documents = tally.documents;
}

abbrev pub counter_view : Counter → CounterView
counter_view counter = record { attribute = counter.attribute; tally = option_map tally_view counter.tally }

abbrev pub has_no_path : Counter → Bool
has_no_path counter = not (is_some counter.tally)

-- ---- over documents

-- of a value that is known, its spelling and its count; the last document that has it is one of these
pub record IsCounted (path : ℕ) (documents : List RowsView) (value : List ℕ) (counted : Counted) : Type 0 where
  pub some : list_any (is_of value) (leaves_at path documents) ≡ true
  pub shown : counted.shown ≡ shown_of path documents value
  pub count : counted.count ≡ count_of path documents value
  pub last : counted.last ≤ length documents

-- a value that is not known has no leaf
abbrev pub IsKnown : ℕ → List RowsView → List ℕ → Option Counted → Type 0
IsKnown path documents value None = list_any (is_of value) (leaves_at path documents) ≡ false
IsKnown path documents value (Some counted) = IsCounted path documents value counted

-- the tally is that of the path over these documents
pub record IsTallyOf (tally : TallyView) (at : PathId) (those : List RowsView) : Type 0 where
  pub path : tally.path ≡ at
  pub values : keys_of tally.entries ≡ values_at at.0 those
  pub each : (value : List ℕ) → IsKnown at.0 those value (lookup (is_at (slice_cmp nat_cmp value)) tally.entries)
  pub least : tally.least ≡ first_by is_less (numbers (leaves_at at.0 those))
  pub greatest : tally.greatest ≡ first_by is_greater (numbers (leaves_at at.0 those))
  pub documents : tally.documents ≡ length those

-- a tally where there is a path, and none where there is none
abbrev pub IsTallyAt : Option TallyView → Option PathId → List RowsView → Type 0
IsTallyAt None None documents = ⊤
IsTallyAt (Some tally) (Some path) documents = IsTallyOf tally path documents
IsTallyAt None (Some path) documents = ⊥
IsTallyAt (Some tally) None documents = ⊥

pub record IsCounterOf (counter : CounterView) (asked : FacetPath) (documents : List RowsView) : Type 0 where
  pub attribute : counter.attribute ≡ asked.attribute
  pub tally : IsTallyAt counter.tally asked.path documents

-- the counters are those of the attributes asked for, over these documents
abbrev pub AreCountsOf : List CounterView → List FacetPath → List RowsView → Type 0
AreCountsOf counters asked documents = AllZip (λ counter facet. IsCounterOf counter facet documents) counters asked

-- ---- a leaf

-- what is known of a value after it was seen in the document of this number
abbrev pub seen : List ℕ → ℕ → Option Counted → Counted
seen shown document None = record { shown = shown; count = 1; last = document }
seen shown document (Some known) =
    if known.last == document then known else record { shown = known.shown; count = known.count + 1; last = document }

-- the value, spelled so, was seen in the last document
pub record HasSeen (value shown : List ℕ) (old new : Tally) : Type 0 where
  pub path : new.path ≡ old.path
  pub documents : new.documents ≡ old.documents
  pub values : keys new.values ≡ insert_key (slice_cmp nat_cmp) (keys old.values) value
  pub each : (other : List ℕ) → get (slice_cmp nat_cmp) new.values other
      ≡ (if is_at (slice_cmp nat_cmp value) other
      then Some (seen shown old.documents (get (slice_cmp nat_cmp) old.values value))
      else get (slice_cmp nat_cmp) old.values other)

-- a least or greatest number, with that of a value that is one
abbrev pub joined : (ℤ → ℤ → Bool) → FacetValue → Option ℤ → Option ℤ
joined before (facet.Number n) known = Some (sooner before n known)
joined before (facet.Text form) known = known

-- the last document has the leaf too
pub record HasLeaf (leaf : Leaf) (old new : Tally) : Type 0 where
  pub seen : HasSeen (text_of leaf.value) leaf.shown old new
  pub least : new.least ≡ joined is_less leaf.value old.least
  pub greatest : new.greatest ≡ joined is_greater leaf.value old.greatest

-- ---- a reply

abbrev pub entry_row : List ℕ × Counted → CountRow
entry_row entry = record { value = entry.0; shown = entry.1.shown; count = entry.1.count }

abbrev pub rows_in : ℕ → Option TallyView → List CountRow
rows_in most None = []
rows_in most (Some tally) = map entry_row (take most tally.entries)

abbrev pub stats_in : Option TallyView → Option (ℤ × ℤ)
stats_in None = None
stats_in (Some tally) = both_of tally.least tally.greatest

abbrev pub reply_of : ℕ → CounterView → FacetView
reply_of most counter = record {
  attribute = counter.attribute;
  rows = rows_in most counter.tally;
  stats = stats_in counter.tally;
}
