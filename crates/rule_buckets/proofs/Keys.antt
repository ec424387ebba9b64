-- Entries that are known by key.
use Rattle.std.proofs.Common.{◌≡◌, ℕ, ◌==◌, nat_lt, Bool, true, false, not, List, [], ◌∷◌, cond, refl, sym, ap, ap₂, ◌∙◌, arith, Some, None, unwrap_or}
use Rattle.std.specs.List.{list_any}
use Rattle.search_base.specs.declared.cost_key.CostKey.{CostKey}
use Rattle.search_base.specs.declared.cost_key.CostKey.TheVariants.{Number, Up as UpKey, Down as DownKey}
use Rattle.search_base.specs.declared.cost_key.SortKey.{SortKey}
use Rattle.search_base.specs.declared.cost_key.SortKey.TheVariants.{Number as NumberKey, Text, Missing}
use Rattle.search_base.specs.declared.document.Place.{Place}
use Rattle.search_base.specs.declared.rule.Rule.{Rule}
use Rattle.search_base.specs.declared.rule.Rule.TheVariants.{Words, Proximity, Field, Position, Whole, Inexact, Up, Down}
use Rattle.search_base.specs.CostOrder.{before}
use Rattle.search_base.specs.GraphView.{GraphView, LevelView}
use Rattle.search_base.specs.RowsView.{RowsView}
use Rattle.search_base.specs.SortKeys.{least_key, greatest_key, leaves_under}
use Rattle.search_base.specs.Tuple.{whole_of}
use Rattle.search_base.specs.Whole.{whole_cost, is_whole, begins_so}
use Rattle.bucket_sort.specs.Buckets.{IsBucket}
use Rattle.bucket_sort.specs.Classes.{same}
use Rattle.path_costs.proofs.SetLemmas.{filter-agree}
use Rattle.sort_rule.specs.Rows.{AreRows, is_under}
use Rattle.rule_buckets.specs.declared.keyed.KeyKind.{KeyKind}
use Rattle.rule_buckets.specs.declared.keyed.KeyKind.TheVariants.{Whole as ByWhole, Nothing}
use Rattle.rule_buckets.specs.Entries.{entry_of, sort_entry, missing_entry, if_there}
use Rattle.rule_buckets.specs.Keyed.{key_kind, known_cost, keys_of, key_by, whole_key, whole_keys, missing_of}
use Rattle.rule_buckets.specs.Rules.{is_keyed}

-- documents are asked for by an entry that is known
pub under-known : (at : CostKey) (n c : ℕ) → known_cost at ≡ Some n → is_under at (whole_key c) ≡ (c == n)
under-known (Number m) n c e = by (nat_lt m 2) refl (nat_lt c 2) refl
  where
    by : (a : Bool) → nat_lt m 2 ≡ a → (b : Bool) → nat_lt c 2 ≡ b → is_under (Number m) (cond (nat_lt c 2) (Some (Number c)) None) ≡ (c == n)
    by true f b g = let k : Some m ≡ Some n = sym (ap (λ x. cond x (Some m) None) f) ∙ e in let same : m ≡ n = cc in two same b g
      where
        two : m ≡ n → (b : Bool) → nat_lt c 2 ≡ b → is_under (Number m) (cond (nat_lt c 2) (Some (Number c)) None) ≡ (c == n)
        two s true g = rw g (grind (arith, s))
        two s false g = rw g (grind (arith, s, f))
    by false f b g = absurd (let k : None ≡ Some n = sym (ap (λ x. cond x (Some m) None) f) ∙ e in cc)
under-known (UpKey k) n c e = absurd (cc)
under-known (DownKey k) n c e = absurd (cc)

pub under-unknown : (at : CostKey) (c : ℕ) → known_cost at ≡ None → is_under at (whole_key c) ≡ false
under-unknown (Number m) c e = by (nat_lt m 2) refl (nat_lt c 2) refl
  where
    by : (a : Bool) → nat_lt m 2 ≡ a → (b : Bool) → nat_lt c 2 ≡ b → is_under (Number m) (cond (nat_lt c 2) (Some (Number c)) None) ≡ false
    by true f b g = absurd (let k : Some m ≡ None = sym (ap (λ x. cond x (Some m) None) f) ∙ e in cc)
    by false f true g = rw g (grind (arith, f))
    by false f false g = rw g refl
under-unknown (UpKey k) c e = by (nat_lt c 2) refl
  where
    by : (b : Bool) → nat_lt c 2 ≡ b → is_under (UpKey k) (cond (nat_lt c 2) (Some (Number c)) None) ≡ false
    by true g = rw g refl
    by false g = rw g refl
under-unknown (DownKey k) c e = by (nat_lt c 2) refl
  where
    by : (b : Bool) → nat_lt c 2 ≡ b → is_under (DownKey k) (cond (nat_lt c 2) (Some (Number c)) None) ≡ false
    by true g = rw g refl
    by false g = rw g refl

-- a whole attribute costs 2 where it does not cost less
whole-two : (places : List Place) (words : List (List ℕ)) → nat_lt (whole_cost places words) 2 ≡ false → whole_cost places words ≡ 2
unfolding whole_cost
whole-two places words h =
    by (list_any (λ place. is_whole places words place.path.0) places) refl (list_any (λ place. begins_so places words place.path.0) places) refl
  where
    by : (a : Bool) → list_any (λ place. is_whole places words place.path.0) places ≡ a → (b : Bool) → list_any (λ place. begins_so places words place.path.0) places ≡ b
        → ◌≡◌ {A = ℕ} (cond (list_any (λ place. is_whole places words place.path.0) places) 0 (cond (list_any (λ place. begins_so places words place.path.0) places) 1 2)) 2
    by true e b f = absurd (let g : nat_lt 0 2 ≡ false = sym (ap (λ x. nat_lt (cond x 0 (cond (list_any (λ place. begins_so places words place.path.0) places) 1 2)) 2) e) ∙ h in cc)
    by false e true f = absurd (let g : nat_lt 1 2 ≡ false = sym (ap₂ (λ x y. nat_lt (cond x 0 (cond y 1 2)) 2) e f) ∙ h in cc)
    by false e false f = rw (e, f) refl

there-or : (wrap : SortKey → CostKey) (k : SortKey) → unwrap_or (if_there wrap k) (wrap Missing) ≡ wrap k
there-or wrap (NumberKey n) = refl
there-or wrap (Text t) = refl
there-or wrap Missing = refl

-- the key of a document, or that of documents without one, is its entry
pub keyed-entry : (rows : RowsView) (graph : GraphView) (rule : Rule) → is_keyed graph.levels rule ≡ true
    → unwrap_or (key_by rows graph.whole (key_kind rule)) (missing_of rule) ≡ entry_of rows graph rule
keyed-entry rows graph (Up None) h = refl
keyed-entry rows graph (Up (Some p)) h = there-or UpKey (least_key (leaves_under p.0 rows.leaves))
keyed-entry rows graph (Down None) h = refl
keyed-entry rows graph (Down (Some p)) h = there-or DownKey (greatest_key (leaves_under p.0 rows.leaves))
keyed-entry rows graph Whole h = whole graph.levels h
  where
    whole : (lvs : List LevelView) → is_keyed lvs Whole ≡ true → unwrap_or (whole_key (whole_cost rows.places graph.whole)) (Number 2) ≡ Number (whole_of rows.places lvs graph.whole)
    whole [] e = absurd (cc)
    whole (l ∷ ls) e = by (nat_lt (whole_cost rows.places graph.whole) 2) refl
      where
        by : (b : Bool) → nat_lt (whole_cost rows.places graph.whole) 2 ≡ b → unwrap_or (cond (nat_lt (whole_cost rows.places graph.whole) 2) (Some (Number (whole_cost rows.places graph.whole))) None) (Number 2) ≡ Number (whole_cost rows.places graph.whole)
        by true f = rw f refl
        by false f = rw f (ap (λ n. Number n) (sym (whole-two rows.places graph.whole f)))
keyed-entry rows graph Words h = absurd (none graph.levels h)
  where
    none : (lvs : List LevelView) → is_keyed lvs Words ≡ true → ⊥
    none [] e = cc
    none (l ∷ ls) e = cc
keyed-entry rows graph Proximity h = absurd (none graph.levels h)
  where
    none : (lvs : List LevelView) → is_keyed lvs Proximity ≡ true → ⊥
    none [] e = cc
    none (l ∷ ls) e = cc
keyed-entry rows graph Field h = absurd (none graph.levels h)
  where
    none : (lvs : List LevelView) → is_keyed lvs Field ≡ true → ⊥
    none [] e = cc
    none (l ∷ ls) e = cc
keyed-entry rows graph Position h = absurd (none graph.levels h)
  where
    none : (lvs : List LevelView) → is_keyed lvs Position ≡ true → ⊥
    none [] e = cc
    none (l ∷ ls) e = cc
keyed-entry rows graph Inexact h = absurd (none graph.levels h)
  where
    none : (lvs : List LevelView) → is_keyed lvs Inexact ≡ true → ⊥
    none [] e = cc
    none (l ∷ ls) e = cc

-- a bucket stays one where documents have the same keys
pub bucket-same : (key other : ℕ → CostKey) (old new docs : List ℕ) (k : CostKey) → ((d : ℕ) → key d ≡ other d)
    → IsBucket before key old new k docs → IsBucket before other old new k docs
bucket-same key other old new docs k e is = record {
  some = is.some;
  docs_are = is.docs_are ∙ filter-agree (λ d. same before (key d) k) (λ d. same before (other d) k) old (λ d h. ap (λ x. same before x k) (e d));
  others_stay = is.others_stay ∙ filter-agree (λ d. not (same before (key d) k)) (λ d. not (same before (other d) k)) old (λ d h. ap (λ x. not (same before x k)) (e d));
  is_least = λ d h. ap (λ x. before x k) (sym (e d)) ∙ is.is_least d h;
}

whole-rows : (cost : ℕ → ℕ) → AreRows whole_keys (λ d. whole_key (cost d)) (Number 2)
whole-rows cost = record {
  known = λ d k e. by (cost d) (nat_lt (cost d) 2) refl k e;
  sooner = λ k h. sooner k h;
}
  where
    by : (c : ℕ) (b : Bool) → nat_lt c 2 ≡ b → (k : CostKey) → cond (nat_lt c 2) (Some (Number c)) None ≡ Some k → list_any (same before k) whole_keys ≡ true
    by c true f k e =
        let g : Some (Number c) ≡ Some k = sym (ap (λ x. cond x (Some (Number c)) None) f) ∙ e in
        let s : Number c ≡ k = cc in rw (← s) (grind (arith, f))
    by c false f k e = absurd (let g : None ≡ Some k = sym (ap (λ x. cond x (Some (Number c)) None) f) ∙ e in cc)

    sooner : (k : CostKey) → list_any (same before k) whole_keys ≡ true → before k (Number 2) ≡ true
    sooner (Number n) h = grind (arith, h)
    sooner (UpKey k) h = absurd (cc)
    sooner (DownKey k) h = absurd (cc)

no-rows : (missing : CostKey) → AreRows [] (λ (d : ℕ). None) missing
no-rows missing = record { known = λ d k e. absurd (cc); sooner = λ k h. absurd (cc) }

-- the entries of a rule stand in order before that of documents without one
pub keyed-rows : (rows : ℕ → RowsView) (graph : GraphView) (keys : Bool → ℕ → List CostKey) (rule : Rule) → is_keyed graph.levels rule ≡ true
    → ((up : Bool) (path : ℕ) → AreRows (keys up path) (λ d. sort_entry up path (rows d).leaves) (missing_entry up))
    → AreRows (keys_of keys rule) (λ d. key_by (rows d) graph.whole (key_kind rule)) (missing_of rule)
keyed-rows rows graph keys (Up (Some p)) h are = are true p.0
keyed-rows rows graph keys (Down (Some p)) h are = are false p.0
keyed-rows rows graph keys Whole h are = whole-rows (λ d. whole_cost (rows d).places graph.whole)
keyed-rows rows graph keys (Up None) h are = no-rows (UpKey Missing)
keyed-rows rows graph keys (Down None) h are = no-rows (DownKey Missing)
keyed-rows rows graph keys Words h are = no-rows (Number 2)
keyed-rows rows graph keys Proximity h are = no-rows (Number 2)
keyed-rows rows graph keys Field h are = no-rows (Number 2)
keyed-rows rows graph keys Position h are = no-rows (Number 2)
keyed-rows rows graph keys Inexact h are = no-rows (Number 2)

-- the documents that stand under an entry, by what documents are known by
pub under-whole : (rows : RowsView) (whole : List (List ℕ)) (kind : KeyKind) (at : CostKey) (n : ℕ) → kind ≡ ByWhole → known_cost at ≡ Some n
    → (whole_cost rows.places whole == n) ≡ is_under at (key_by rows whole kind)
under-whole rows whole kind at n e f = sym (ap (λ k. is_under at (key_by rows whole k)) e ∙ under-known at n (whole_cost rows.places whole) f)

pub under-other : (rows : RowsView) (whole : List (List ℕ)) (kind : KeyKind) (at : CostKey) → kind ≡ ByWhole → known_cost at ≡ None
    → is_under at (key_by rows whole kind) ≡ false
under-other rows whole kind at e f = ap (λ k. is_under at (key_by rows whole k)) e ∙ under-unknown at (whole_cost rows.places whole) f

pub under-nothing : (rows : RowsView) (whole : List (List ℕ)) (kind : KeyKind) (at : CostKey) → kind ≡ Nothing → is_under at (key_by rows whole kind) ≡ false
under-nothing rows whole kind at e = ap (λ k. is_under at (key_by rows whole k)) e
