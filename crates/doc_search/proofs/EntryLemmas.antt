-- The entries of documents, while the documents are gone over.
use Rattle.std.proofs.Common.{◌≡◌, ℕ, Bool, true, false, ◌||◌, ◌==◌, List, [], ◌∷◌, ◌++◌, Option, None, Some, map, refl, sym, ap, subst, ◌∙◌}
use Rattle.std.specs.List.{list_any, AllByRecursion}
use Rattle.std.specs.Option.{option_map}
use Rattle.std.proofs.lemmas.Bool.{eqb-true, eq-eqb}
use Rattle.std.proofs.lemmas.List.Folds.{list_any-append}
use Rattle.doc_sets.specs.Sets.{has}
use Rattle.search_base.specs.declared.cost_key.CostKey.{CostKey}
use Rattle.search_base.specs.declared.document.Leaf.{Leaf}
use Rattle.search_base.specs.declared.value.FacetValue.{FacetValue}
use Rattle.search_base.specs.declared.value.FacetValue.TheVariants as facet
use Rattle.search_base.specs.contracts.value.FacetValueClone.TheImpl as cloned
use Rattle.sort_rule.specs.declared.entries.Entry.{Entry}
use Rattle.sort_rule.specs.Entries.{AreEntriesOf}
use Rattle.search_base.specs.SortKeys.{leaves_under, first_by}
use Rattle.facet_index.specs.Ends.{value_before, first_value}
use Rattle.facet_index.specs.Sorts.{sort_entry}
use Rattle.facet_index.specs.Starts.{entry_of}
use Rattle.facet_index.proofs.SortLemmas.{entry_is}
use Rattle.leaf_table.proofs.TableLemmas.{under_twice}

-- the entries of the documents that were gone over, where some of the universe are left
pub record AreEntriesYet (key : ℕ → Option CostKey) (universe left : List ℕ) (entries : List Entry) : Type 0 where
  pub among : (d : ℕ) → has left d ≡ true → has universe d ≡ true
  pub theirs : AllByRecursion (λ entry. key entry.id.0 ≡ Some entry.key) entries
  pub inside : AllByRecursion (λ entry. has universe entry.id.0 ≡ true) entries
  pub left_or_there : (d : ℕ) (k : CostKey) → has universe d ≡ true → key d ≡ Some k
      → (has left d || list_any (λ entry. entry.id.0 == d) entries) ≡ true

-- ---- values and their entries

-- the entry of a document is that of its first value
entry_found : (up : Bool) (path : ℕ) (leaves : List Leaf) (first : Option FacetValue) → first ≡ first_value up path leaves
    → sort_entry up path leaves ≡ option_map (entry_of up) first
entry_found up path leaves first is = entry_is up path leaves ∙ ap (option_map (entry_of up)) (sym is)

-- the first of the values under a path is that of the leaves there
pub first_under : (up : Bool) (path : ℕ) (leaves : List Leaf) → first_value up path (leaves_under path leaves) ≡ first_value up path leaves
first_under up path leaves = ap (λ list. first_by (value_before up) (map (λ (leaf : Leaf). leaf.value) list)) (under_twice path leaves)

pub clone_is : (v copy : FacetValue) → cloned.ghosts.is_clone v copy → copy ≡ v
clone_is (facet.Number m) (facet.Number n) h = ap facet.Number h
clone_is (facet.Number m) (facet.Text w) h = absurd h
clone_is (facet.Text v) (facet.Number n) h = absurd h
clone_is (facet.Text v) (facet.Text w) h = ap facet.Text h

-- ---- one document more

or_before : (a b c : Bool) → (a || b) ≡ true → (a || (b || c)) ≡ true
or_before true b c h = refl
or_before false b c h = ap (λ x. x || c) h

or_last : (a b : Bool) → (a || (b || true)) ≡ true
or_last true b = refl
or_last false true = refl
or_last false false = refl

or_after : (a b : Bool) → b ≡ true → (a || b) ≡ true
or_after true b h = refl
or_after false b h = h

all_push : {X : Type 0} (P : X → Type 0) (xs : List X) (y : X) → AllByRecursion P xs → P y → AllByRecursion P (xs ++ y ∷ [])
all_push P [] y all last = (last, tt)
all_push P (x ∷ xs) y all last = (all.0, all_push P xs y all.1 last)

module _ (key : ℕ → Option CostKey) (universe : List ℕ) where
  pub entries_start : AreEntriesYet key universe universe []
  entries_start = record {
    among = λ d h. h;
    theirs = tt;
    inside = tt;
    left_or_there = λ d k h is. ap (λ b. b || false) h;
  }

  pub entries_end : (entries : List Entry) → AreEntriesYet key universe [] entries → AreEntriesOf key universe entries
  entries_end entries yet = record {
    theirs = yet.theirs;
    inside = yet.inside;
    all_of_them = yet.left_or_there;
  }

  module _ (d : ℕ) (left : List ℕ) (entries : List Entry) (yet : AreEntriesYet key universe (d ∷ left) entries) where
    still : (e : ℕ) → has left e ≡ true → has universe e ≡ true
    still e h = yet.among e (or_after (d == e) (has left e) h)

    -- a document without an entry
    passed : key d ≡ None → AreEntriesYet key universe left entries
    passed none = record {
      among = still;
      theirs = yet.theirs;
      inside = yet.inside;
      left_or_there = λ e k h is. tests e k is (d == e) refl (yet.left_or_there e k h is);
    }
      where
        tests : (e : ℕ) (k : CostKey) → key e ≡ Some k → (b : Bool) → b ≡ (d == e)
            → ((b || has left e) || list_any (λ entry. entry.id.0 == e) entries) ≡ true
            → (has left e || list_any (λ entry. entry.id.0 == e) entries) ≡ true
        tests e k is true same h = absurd (let here : None ≡ Some k = sym none ∙ ap key (eqb-true d e (sym same)) ∙ is in cc)
        tests e k is false same h = h

    -- one with an entry, which comes last
    added : (entry : Entry) → entry.id.0 ≡ d → key d ≡ Some entry.key → AreEntriesYet key universe left (entries ++ entry ∷ [])
    added entry its some = record {
      among = still;
      theirs = all_push _ entries entry yet.theirs (ap key its ∙ some);
      inside = all_push _ entries entry yet.inside (ap (has universe) its ∙ yet.among d (ap (λ b. b || has left d) (eq-eqb d d refl)));
      left_or_there = λ e k h is. ap (λ b. has left e || b) (list_any-append (λ entry. entry.id.0 == e) entries (entry ∷ []))
          ∙ tests e (d == e) refl (yet.left_or_there e k h is);
    }
      where
        tests : (e : ℕ) (b : Bool) → b ≡ (d == e)
            → ((b || has left e) || list_any (λ entry. entry.id.0 == e) entries) ≡ true
            → (has left e || (list_any (λ entry. entry.id.0 == e) entries || ((entry.id.0 == e) || false))) ≡ true
        tests e true same h =
            let here : (entry.id.0 == e) ≡ true = ap (λ n. n == e) its ∙ sym same in
            ap (λ b. has left e || (list_any (λ entry. entry.id.0 == e) entries || (b || false))) here
            ∙ or_last (has left e) (list_any (λ entry. entry.id.0 == e) entries)
        tests e false same h = or_before (has left e) (list_any (λ entry. entry.id.0 == e) entries) ((entry.id.0 == e) || false) h

module _ (up : Bool) (path : ℕ) (kept : ℕ → List Leaf) (universe whole left : List ℕ) (d : ℕ) (entries : List Entry) (next : whole ≡ d ∷ left)
    (yet : AreEntriesYet (λ e. sort_entry up path (kept e)) universe whole entries) where
  before_it : AreEntriesYet (λ e. sort_entry up path (kept e)) universe (d ∷ left) entries
  before_it = subst (λ (ids : List ℕ). AreEntriesYet (λ e. sort_entry up path (kept e)) universe ids entries) next yet

  pub entry_passed : None ≡ first_value up path (kept d) → AreEntriesYet (λ e. sort_entry up path (kept e)) universe left entries
  entry_passed none = passed (λ e. sort_entry up path (kept e)) universe d left entries before_it (entry_found up path (kept d) None none)

  pub entry_added : (first copy : FacetValue) (entry : Entry) (more : List Entry) → Some first ≡ first_value up path (kept d)
      → cloned.ghosts.is_clone first copy → entry.key ≡ entry_of up copy → entry.id.0 ≡ d → more ≡ entries ++ entry ∷ []
      → AreEntriesYet (λ e. sort_entry up path (kept e)) universe left more
  entry_added first copy entry more some copied keyed its pushed =
      subst (λ (es : List Entry). AreEntriesYet (λ e. sort_entry up path (kept e)) universe left es) (sym pushed)
      (added (λ e. sort_entry up path (kept e)) universe d left entries before_it entry its
      (entry_found up path (kept d) (Some first) some ∙ ap Some (sym (keyed ∙ ap (entry_of up) (clone_is first copy copied)))))
