-- What is put by name among the members of an object: none is a float, and a map has its entries by these names.
use Rattle.std.proofs.Common.{◌≡◌, ℕ, ℤ, List, [], ◌∷◌, Bool, true, false, ◌||◌, Ordering, Less, Equal, Greater, nat_cmp, refl, ◌∙◌}
use Rattle.std.specs.List.{fold}
use Rattle.std.specs.Cmp.Lexicographic.{slice_cmp}
use Rattle.std.specs.Ordering.{match_ordering}
use Rattle.std.specs.BTreeMap.{insert_entry}
use Rattle.serde_json.specs.Data.{Data, Members, no_members, member, put}
use Rattle.serde_json.specs.Written.{has_float, members_have_float}
use Rattle.facet_counts.specs.declared.rows.CountRow.{CountRow}
use Rattle.facet_counts.specs.FacetView.{FacetView}
use Rattle.request_replies.specs.Facets.{with_row, counts_data, with_counts, distribution_data, ends_data, ends_members}

-- ---- no floats

put_whole_at : (o : Ordering) (k l : List ℕ) (d e : Data) (ms : Members) → has_float d ≡ false → members_have_float (member l e ms) ≡ false
    → members_have_float (put k d ms) ≡ false
    → members_have_float (match_ordering o (member k d (member l e ms)) (member l d ms) (member l e (put k d ms))) ≡ false
put_whole_at Less k l d e ms here all later = rw (here, all) refl
put_whole_at Equal k l d e ms here all later = by (has_float e) all
  where
    by : (b : Bool) → (b || members_have_float ms) ≡ false → (has_float d || members_have_float ms) ≡ false
    by true none = absurd (cc)
    by false none = rw (here, none) refl
put_whole_at Greater k l d e ms here all later = by (has_float e) all
  where
    by : (b : Bool) → (b || members_have_float ms) ≡ false → (b || members_have_float (put k d ms)) ≡ false
    by true none = none
    by false none = later

put_whole : (k : List ℕ) (d : Data) (ms : Members) → has_float d ≡ false → members_have_float ms ≡ false → members_have_float (put k d ms) ≡ false
put_whole k d no_members here all = rw here refl
put_whole k d (member l e ms) here all = put_whole_at (slice_cmp nat_cmp k l) k l d e ms here all (put_whole k d ms here (by (has_float e) all))
  where
    by : (b : Bool) → (b || members_have_float ms) ≡ false → members_have_float ms ≡ false
    by true none = absurd (cc)
    by false none = none

rows_whole : (rows : List CountRow) (ms : Members) → members_have_float ms ≡ false → members_have_float (fold with_row ms rows) ≡ false
rows_whole [] ms all = all
rows_whole (row ∷ rows) ms all = rows_whole rows (with_row ms row) (put_whole row.shown _ ms refl all)

facets_whole : (facets : List FacetView) (ms : Members) → members_have_float ms ≡ false → members_have_float (fold with_counts ms facets) ≡ false
facets_whole [] ms all = all
facets_whole (facet ∷ facets) ms all =
    facets_whole facets (with_counts ms facet) (put_whole facet.attribute (counts_data facet.rows) ms (rows_whole facet.rows no_members refl) all)

pub distribution_whole : (facets : List FacetView) → has_float (distribution_data facets) ≡ false
distribution_whole facets = facets_whole facets no_members refl

-- ---- a map

abbrev Entry : Type 0
Entry = List ℕ × (ℤ × ℤ)

chosen : (o : Ordering) (a b c : List Entry) → ends_members (match_ordering o a b c) ≡ match_ordering o (ends_members a) (ends_members b) (ends_members c)
chosen Less a b c = refl
chosen Equal a b c = refl
chosen Greater a b c = refl

pub ends_put : (entries : List Entry) (name : List ℕ) (ends : ℤ × ℤ)
    → ends_members (insert_entry (slice_cmp nat_cmp) entries name ends) ≡ put name (ends_data ends) (ends_members entries)
ends_put [] name ends = refl
ends_put (entry ∷ entries) name ends = chosen (slice_cmp nat_cmp name entry.0) _ _ _ ∙ rw (ends_put entries name ends) refl
