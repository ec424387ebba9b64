-- What the values of a search's members say.
use Rattle.std.specs.Prelude.{ℕ, List, [], ◌∷◌, nat_le, true, false, codes, Option, Some, None, option_map, option_and_then, if◌then◌else◌}
use Rattle.std.specs.Str.{bytes_eq}
use Rattle.serde_json.specs.Data.{Data, Items, no_items, item}
use Rattle.serde_json.specs.Events.{items_len}
use Rattle.serde_json.specs.Find.{get, as_number, as_str, as_array, as_u64}
use Rattle.search_base.specs.declared.query.Strategy.{Strategy}
use Rattle.search_base.specs.declared.query.Strategy.TheVariants as strategy
use Rattle.search_call.specs.declared.Criterion.{Criterion}
use Rattle.index_settings.specs.declared.rule.RankingRule.{RankingRule}
use Rattle.index_settings.specs.declared.rule.RankingRule.TheVariants.{Up, Down}
use Rattle.index_settings.specs.Rules.{rule_of}
use Rattle.request_refusals.specs.Members.{row_of}
use Rattle.request_refusals.specs.declared.member.SearchMember.{SearchMember}

-- ---- what a value says, where it has the shape

-- a whole number from 0 on
abbrev pub count_in : Data → Option ℕ
count_in d = option_and_then as_u64 (as_number d)

abbrev pub with_first : {A : Type 0} → Option A → Option (List A) → Option (List A)
with_first None more = None
with_first (Some x) more = option_map (λ xs. x ∷ xs) more

-- what each item of an array is, where each is something
abbrev pub each_of : {A : Type 0} → (Data → Option A) → Items → Option (List A)
each_of is no_items = Some []
each_of is (item d ds) = with_first (is d) (each_of is ds)

-- an array of texts
abbrev pub names_in : Data → Option (List (List ℕ))
names_in d = option_and_then (each_of as_str) (as_array d)

abbrev pub criterion_by : Option RankingRule → Option Criterion
criterion_by (Some (Up attribute)) = Some (record { attribute = attribute; up = true })
criterion_by (Some (Down attribute)) = Some (record { attribute = attribute; up = false })
criterion_by _ = None

-- an attribute with `:asc` or `:desc` behind it
abbrev pub criterion_in : Data → Option Criterion
criterion_in d = option_and_then (λ text. criterion_by (rule_of text)) (as_str d)

-- at most 16 criteria
abbrev pub criteria_in : Items → Option (List Criterion)
criteria_in ds = if nat_le (items_len ds) 16 then each_of criterion_in ds else None

-- an array of criteria
abbrev pub sort_in : Data → Option (List Criterion)
sort_in d = option_and_then criteria_in (as_array d)

-- `last` or `all`
abbrev pub strategy_by : List ℕ → Option Strategy
strategy_by text =
    if bytes_eq text (codes "last") then Some strategy.Last
    else if bytes_eq text (codes "all") then Some strategy.All
    else None

abbrev pub strategy_in : Data → Option Strategy
strategy_in d = option_and_then strategy_by (as_str d)

-- ---- what an object says

-- what a member of an object says; nothing where it is null, or not there
abbrev pub said : {A : Type 0} → (Data → Option A) → SearchMember → Data → Option A
said is m d = option_and_then is (get (row_of m).name d)
