-- Entries and the keys of their values are in one order.
use Rattle.std.proofs.Common.{◌≡◌, ℕ, ℤ, pos, negsuc, ◌^◌, ◌<◌, Bool, true, false, not, ◌&&◌, cond, int_lt, List, [], ◌∷◌, Option, None, Some, map, refl, sym, ap, ap₂, ◌∙◌, ◌⊎◌, inl, inr, arith}
use Rattle.std.specs.declared.cmp.Ordering.{Ordering}
use Rattle.std.specs.declared.cmp.Ordering.TheVariants.{Less, Equal, Greater}
use Rattle.std.specs.Ordering.{int_cmp, is_lt, is_le, is_eq, ordering_then, ordering_reverse}
use Rattle.std.specs.Cmp.Lexicographic.{nat_list_cmp_total}
use Rattle.std.specs.Option.{option_map}
use Rattle.std.specs.Str.{bytes_eq}
use Rattle.std.proofs.lemmas.Bool.Decides.{nat_tests}
use Rattle.std.proofs.lemmas.Cmp.{nat_cmp_total, tied_itself}
use Rattle.std.proofs.lemmas.Map.Text.{is_eq-slice_cmp}
use Rattle.search_base.specs.declared.cost_key.CostKey.{CostKey}
use Rattle.search_base.specs.declared.cost_key.CostKey.TheVariants as cost
use Rattle.search_base.specs.declared.cost_key.SortKey.{SortKey}
use Rattle.search_base.specs.declared.cost_key.SortKey.TheVariants as sort
use Rattle.search_base.specs.declared.document.Leaf.{Leaf}
use Rattle.search_base.specs.declared.value.FacetValue.{FacetValue}
use Rattle.search_base.specs.declared.value.FacetValue.TheVariants as facet
use Rattle.search_base.specs.CostOrder.{before, IsStrictOrder}
use Rattle.search_base.specs.SortKeys.{leaves_under, with_number, with_text, numbers, texts, sooner, first_by, is_less, is_greater, is_text_less, is_text_greater, key_of}
use Rattle.postings.specs.Dictionary.{word_cmp}
use Rattle.facet_keys.specs.Keys.{Facet, key_bytes, facet_bytes, IsNarrowFacet, IsNarrow}
use Rattle.facet_keys.specs.Laws.{AreInOrder}
use Rattle.facet_index.specs.declared.sorts.Start.{Start}
use Rattle.facet_index.specs.Documents.{is_same}
use Rattle.facet_index.specs.Ends.{value_before, first_value, end_facet}
use Rattle.facet_index.specs.Sorts.{if_there, sort_entry, same, is_after}
use Rattle.facet_index.specs.Starts.{value_key, entry_of, entry_value, first_start, behind_key, start_of, word_order, is_from}

-- ---- the value that comes first is what a document is sorted by

-- a number, else a text, else nothing
abbrev first_of : Option ℤ → Option (List ℕ) → Option FacetValue
first_of (Some n) text = Some (facet.Number n)
first_of None (Some text) = Some (facet.Text text)
first_of None None = None

abbrev values : List Leaf → List FacetValue
values leaves = map (λ x. x.value) leaves

number_first : (up : Bool) (less : ℤ → ℤ → Bool) → ((m n : ℤ) → value_before up (facet.Number m) (facet.Number n) ≡ less m n)
    → (n : ℤ) (known : Option ℤ) (text : Option (List ℕ))
    → Some (sooner (value_before up) (facet.Number n) (first_of known text)) ≡ first_of (Some (sooner less n known)) text
number_first true less is n None None = refl
number_first true less is n None (Some t) = refl
number_first false less is n None None = refl
number_first false less is n None (Some t) = refl
number_first up less is n (Some m) text =
    ap (λ b. Some (cond b (facet.Number m) (facet.Number n))) (is m n) ∙ by (less m n)
  where
    by : (b : Bool) → Some (cond b (facet.Number m) (facet.Number n)) ≡ Some (facet.Number (cond b m n))
    by true = refl
    by false = refl

text_first : (up : Bool) (less : List ℕ → List ℕ → Bool) → ((v w : List ℕ) → value_before up (facet.Text v) (facet.Text w) ≡ less v w)
    → (t : List ℕ) (known : Option ℤ) (text : Option (List ℕ))
    → Some (sooner (value_before up) (facet.Text t) (first_of known text)) ≡ first_of known (Some (sooner less t text))
text_first true less is t (Some m) text = refl
text_first false less is t (Some m) text = refl
text_first up less is t None None = refl
text_first up less is t None (Some v) =
    ap (λ b. Some (cond b (facet.Text v) (facet.Text t))) (is v t) ∙ by (less v t)
  where
    by : (b : Bool) → Some (cond b (facet.Text v) (facet.Text t)) ≡ Some (facet.Text (cond b v t))
    by true = refl
    by false = refl

first_is : (up : Bool) (less : ℤ → ℤ → Bool) (less_text : List ℕ → List ℕ → Bool)
    → ((m n : ℤ) → value_before up (facet.Number m) (facet.Number n) ≡ less m n)
    → ((v w : List ℕ) → value_before up (facet.Text v) (facet.Text w) ≡ less_text v w)
    → (leaves : List Leaf) → first_by (value_before up) (values leaves) ≡ first_of (first_by less (numbers leaves)) (first_by less_text (texts leaves))
first_is up less less_text is is_text [] = refl
first_is up less less_text is is_text (x ∷ xs) = by x.value (first_is up less less_text is is_text xs)
  where
    by : (v : FacetValue) → first_by (value_before up) (values xs) ≡ first_of (first_by less (numbers xs)) (first_by less_text (texts xs))
        → Some (sooner (value_before up) v (first_by (value_before up) (values xs)))
        ≡ first_of (first_by less (with_number v (numbers xs))) (first_by less_text (with_text v (texts xs)))
    by (facet.Number n) later = ap (λ o. Some (sooner (value_before up) (facet.Number n) o)) later
        ∙ number_first up less is n (first_by less (numbers xs)) (first_by less_text (texts xs))
    by (facet.Text t) later = ap (λ o. Some (sooner (value_before up) (facet.Text t) o)) later
        ∙ text_first up less_text is_text t (first_by less (numbers xs)) (first_by less_text (texts xs))

if_first : (up : Bool) (wrap : SortKey → CostKey) → ((v : FacetValue) → wrap (value_key v) ≡ entry_of up v) → (known : Option ℤ) (text : Option (List ℕ))
    → if_there wrap (key_of known text) ≡ option_map (entry_of up) (first_of known text)
if_first up wrap is (Some n) text = ap Some (is (facet.Number n))
if_first up wrap is None (Some t) = ap Some (is (facet.Text t))
if_first up wrap is None None = refl

-- the entry of leaves is that of their first value
pub entry_is : (up : Bool) (path : ℕ) (leaves : List Leaf) → sort_entry up path leaves ≡ option_map (entry_of up) (first_value up path leaves)
entry_is true path leaves =
    if_first true cost.Up (λ v. refl) (first_by is_less (numbers (leaves_under path leaves))) (first_by is_text_less (texts (leaves_under path leaves)))
    ∙ sym (ap (option_map (entry_of true)) (first_is true is_less is_text_less (λ m n. refl) (λ v w. refl) (leaves_under path leaves)))
entry_is false path leaves =
    if_first false cost.Down (λ v. refl) (first_by is_greater (numbers (leaves_under path leaves))) (first_by is_text_greater (texts (leaves_under path leaves)))
    ∙ sym (ap (option_map (entry_of false)) (first_is false is_greater is_text_greater (λ m n. refl) (λ v w. refl) (leaves_under path leaves)))

-- ---- the order of entries

-- entries come before each other as their values do
pub entries_before : (up : Bool) (v w : FacetValue) → before (entry_of up v) (entry_of up w) ≡ value_before up v w
entries_before true (facet.Number m) (facet.Number n) = refl
entries_before true (facet.Number m) (facet.Text w) = refl
entries_before true (facet.Text v) (facet.Number n) = refl
entries_before true (facet.Text v) (facet.Text w) = refl
entries_before false (facet.Number m) (facet.Number n) = refl
entries_before false (facet.Number m) (facet.Text w) = refl
entries_before false (facet.Text v) (facet.Number n) = refl
entries_before false (facet.Text v) (facet.Text w) = refl

pub and_turned : (a b : Bool) → (a && b) ≡ (b && a)
and_turned true true = refl
and_turned true false = refl
and_turned false true = refl
and_turned false false = refl

neither : (v w : List ℕ) → (not (is_lt (word_cmp v w)) && not (is_lt (word_cmp w v))) ≡ bytes_eq v w
neither v w =
    ap (λ o. not (is_lt (word_cmp v w)) && not (is_lt o)) (nat_list_cmp_total.antisymm w v)
    ∙ by (word_cmp v w) ∙ is_eq-slice_cmp v w
  where
    by : (o : Ordering) → (not (is_lt o) && not (is_lt (ordering_reverse o))) ≡ is_eq o
    by Less = refl
    by Equal = refl
    by Greater = refl

pub entries_same : (up : Bool) (v w : FacetValue) → same (entry_of up v) (entry_of up w) ≡ is_same v w
entries_same true (facet.Number m) (facet.Number n) = refl
entries_same true (facet.Number m) (facet.Text w) = refl
entries_same true (facet.Text v) (facet.Number n) = refl
entries_same true (facet.Text v) (facet.Text w) = neither v w
entries_same false (facet.Number m) (facet.Number n) = and_turned (not (int_lt n m)) (not (int_lt m n))
entries_same false (facet.Number m) (facet.Text w) = refl
entries_same false (facet.Text v) (facet.Number n) = refl
entries_same false (facet.Text v) (facet.Text w) = and_turned (not (is_lt (word_cmp w v))) (not (is_lt (word_cmp v w))) ∙ neither v w

-- entries neither of which is before the other are one
pub entry_same : IsStrictOrder before → (j k : CostKey) → same j k ≡ true → j ≡ k
entry_same order j k h = by (order.total j k)
  where
    by : (j ≡ k) ⊎ ((before j k ≡ true) ⊎ (before k j ≡ true)) → j ≡ k
    by (inl e) = e
    by (inr (inl e)) = absurd (first (before j k) (not (before k j)) e h)
      where
        first : (a b : Bool) → a ≡ true → (not a && b) ≡ true → ⊥
        first true b e h = cc
        first false b e h = cc
    by (inr (inr e)) = absurd (second (not (before j k)) (before k j) e h)
      where
        second : (a b : Bool) → b ≡ true → (a && not b) ≡ true → ⊥
        second true true e h = cc
        second false true e h = cc
        second a false e h = cc

pub value_of_entry : (up : Bool) (at : CostKey) (v : FacetValue) → Some v ≡ entry_value up at → at ≡ entry_of up v
value_of_entry up (cost.Number n) v h = absurd (cc)
value_of_entry true (cost.Up (sort.Number n)) v h = ap (entry_of true) (let e : facet.Number n ≡ v = cc in e)
value_of_entry true (cost.Up (sort.Text t)) v h = ap (entry_of true) (let e : facet.Text t ≡ v = cc in e)
value_of_entry true (cost.Up sort.Missing) v h = absurd (cc)
value_of_entry true (cost.Down key) v h = absurd (cc)
value_of_entry false (cost.Up key) v h = absurd (cc)
value_of_entry false (cost.Down (sort.Number n)) v h = ap (entry_of false) (let e : facet.Number n ≡ v = cc in e)
value_of_entry false (cost.Down (sort.Text t)) v h = ap (entry_of false) (let e : facet.Text t ≡ v = cc in e)
value_of_entry false (cost.Down sort.Missing) v h = absurd (cc)

pub no_value : (up : Bool) (at : CostKey) (w : FacetValue) → None ≡ entry_value up at → same at (entry_of up w) ≡ false
no_value true (cost.Number n) w h = refl
no_value false (cost.Number n) w h = refl
no_value true (cost.Up (sort.Number n)) w h = absurd (cc)
no_value true (cost.Up (sort.Text t)) w h = absurd (cc)
no_value true (cost.Up sort.Missing) (facet.Number m) h = refl
no_value true (cost.Up sort.Missing) (facet.Text t) h = refl
no_value true (cost.Down key) w h = refl
no_value false (cost.Up key) w h = refl
no_value false (cost.Down (sort.Number n)) w h = absurd (cc)
no_value false (cost.Down (sort.Text t)) w h = absurd (cc)
no_value false (cost.Down sort.Missing) (facet.Number m) h = refl
no_value false (cost.Down sort.Missing) (facet.Text t) h = refl

-- ---- the order of keys

path_step : AreInOrder → (path : ℕ) (a b : Facet) → IsNarrow path a → IsNarrow path b → word_cmp (key_bytes path a) (key_bytes path b) ≡ word_cmp (facet_bytes a) (facet_bytes b)
path_step order path a b p q =
    order.paths path path a b p q ∙ ap (λ o. ordering_then o (word_cmp (facet_bytes a) (facet_bytes b))) (tied_itself nat_cmp_total path)

lt_number : (m n : ℤ) → is_lt (int_cmp m n) ≡ int_lt m n
lt_number m n = by (int_lt m n) (int_lt n m)
  where
    by : (a b : Bool) → is_lt (cond a Less (cond b Greater Equal)) ≡ a
    by true b = refl
    by false true = refl
    by false false = refl

pub keys_before : AreInOrder → (up : Bool) (path : ℕ) (v w : FacetValue) → IsNarrow path (end_facet up v) → IsNarrow path (end_facet up w)
    → is_lt (word_order up (key_bytes path (end_facet up v)) (key_bytes path (end_facet up w))) ≡ value_before up v w
keys_before order true path (facet.Number m) (facet.Number n) p q =
    ap is_lt (path_step order path (end_facet true (facet.Number m)) (end_facet true (facet.Number n)) p q ∙ order.numbers m n p.1 q.1) ∙ lt_number m n
keys_before order true path (facet.Number m) (facet.Text w) p q =
    ap is_lt (path_step order path (end_facet true (facet.Number m)) (end_facet true (facet.Text w)) p q)
keys_before order true path (facet.Text v) (facet.Number n) p q =
    ap is_lt (path_step order path (end_facet true (facet.Text v)) (end_facet true (facet.Number n)) p q)
keys_before order true path (facet.Text v) (facet.Text w) p q =
    ap is_lt (path_step order path (end_facet true (facet.Text v)) (end_facet true (facet.Text w)) p q)
keys_before order false path (facet.Number m) (facet.Number n) p q =
    ap is_lt (path_step order path (end_facet false (facet.Number n)) (end_facet false (facet.Number m)) q p ∙ order.numbers n m q.1 p.1) ∙ lt_number n m
keys_before order false path (facet.Number m) (facet.Text w) p q =
    ap is_lt (path_step order path (end_facet false (facet.Text w)) (end_facet false (facet.Number m)) q p)
keys_before order false path (facet.Text v) (facet.Number n) p q =
    ap is_lt (path_step order path (end_facet false (facet.Number n)) (end_facet false (facet.Text v)) q p)
keys_before order false path (facet.Text v) (facet.Text w) p q =
    ap is_lt (path_step order path (end_facet false (facet.Text w)) (end_facet false (facet.Text v)) q p)

order_turned : (up : Bool) (v w : List ℕ) → word_order up v w ≡ ordering_reverse (word_order up w v)
order_turned true v w = nat_list_cmp_total.antisymm v w
order_turned false v w = nat_list_cmp_total.antisymm w v

le_turned : (o : Ordering) → is_le (ordering_reverse o) ≡ not (is_lt o)
le_turned Less = refl
le_turned Equal = refl
le_turned Greater = refl

pub keys_up_to : AreInOrder → (up : Bool) (path : ℕ) (v w : FacetValue) → IsNarrow path (end_facet up v) → IsNarrow path (end_facet up w)
    → is_le (word_order up (key_bytes path (end_facet up v)) (key_bytes path (end_facet up w))) ≡ not (value_before up w v)
keys_up_to order up path v w p q =
    ap is_le (order_turned up (key_bytes path (end_facet up v)) (key_bytes path (end_facet up w)))
    ∙ le_turned (word_order up (key_bytes path (end_facet up w)) (key_bytes path (end_facet up v)))
    ∙ ap not (keys_before order up path w v q p)

-- ---- where values begin

-- whether a value stands at the start or behind it
abbrev pub comes_from : Bool → Start → FacetValue → Bool
comes_from up start v = cond start.behind (value_before up start.value v) (not (value_before up v start.value))

abbrev pub if_from : Bool → Option Start → FacetValue → Bool
if_from up None v = false
if_from up (Some start) v = comes_from up start v

pub key_from : AreInOrder → (up : Bool) (path : ℕ) (start : Start) (v : FacetValue) → IsNarrow path (end_facet up start.value) → IsNarrow path (end_facet up v)
    → is_from up start.behind (key_bytes path (end_facet up start.value)) (key_bytes path (end_facet up v)) ≡ comes_from up start v
key_from order up path start v p q =
    ap₂ (cond start.behind) (keys_before order up path start.value v p q) (keys_up_to order up path start.value v p q)

all_from : (up : Bool) (v : FacetValue) → IsNarrowFacet (end_facet up v) → true ≡ comes_from up (first_start up) v
all_from true (facet.Number (pos n)) h = refl
all_from true (facet.Number (negsuc n)) h = let low : n < 2 ^ 127 = h.sfits in grind (arith, nat_tests)
all_from true (facet.Text t) h = refl
all_from false (facet.Number (pos n)) h = let low : n < 2 ^ 127 = h.sfits in grind (arith, nat_tests)
all_from false (facet.Number (negsuc n)) h = refl
all_from false (facet.Text t) h = refl

behind_is : (key : SortKey) (v : FacetValue) → (before (cost.Up key) (entry_of true v) ≡ if_from true (behind_key key) v)
    × (before (cost.Down key) (entry_of false v) ≡ if_from false (behind_key key) v)
behind_is (sort.Number m) (facet.Number n) = (refl, refl)
behind_is (sort.Number m) (facet.Text w) = (refl, refl)
behind_is (sort.Text v) (facet.Number n) = (refl, refl)
behind_is (sort.Text v) (facet.Text w) = (refl, refl)
behind_is sort.Missing v = (refl, refl)

pub after_is : (up : Bool) (last : Option CostKey) (v : FacetValue) → IsNarrowFacet (end_facet up v)
    → is_after last (entry_of up v) ≡ if_from up (start_of up last) v
after_is true None v h = all_from true v h
after_is false None v h = all_from false v h
after_is true (Some (cost.Number n)) v h = all_from true v h
after_is false (Some (cost.Number n)) v h = all_from false v h
after_is true (Some (cost.Up key)) v h = (behind_is key v).0
after_is true (Some (cost.Down key)) v h = refl
after_is false (Some (cost.Up key)) v h = all_from false v h
after_is false (Some (cost.Down key)) v h = (behind_is key v).1
