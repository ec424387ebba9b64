-- Ranking rules and their texts.
use Rattle.std.specs.Prelude.{ℕ, ◌-◌, List, [], ◌∷◌, length, take, drop, Bool, false, ◌&&◌, nat_lt, is_some, if◌then◌else◌, codes, Option, Some, None}
use Rattle.std.specs.Str.{bytes_eq}
use Rattle.index_settings.specs.declared.rule.RankingRule.{RankingRule}
use Rattle.index_settings.specs.declared.rule.RankingRule.TheVariants.{Words, Typo, Proximity, Attribute, Sort, Exactness, Up, Down}
use Rattle.index_settings.specs.declared.fault.SettingsRefusal.{SettingsRefusal}
use Rattle.index_settings.specs.declared.fault.SettingsRefusal.TheVariants.{BadRankingRule}

-- what stands before this ending of a text, where something does
abbrev pub before_ending : List ℕ → List ℕ → Option (List ℕ)
before_ending ending text =
    if nat_lt (length ending) (length text) && bytes_eq (drop (length text - length ending) text) ending
    then Some (take (length text - length ending) text)
    else None

abbrev pub by_attribute : Option (List ℕ) → Option (List ℕ) → Option RankingRule
by_attribute (Some attribute) down = Some (Up attribute)
by_attribute None (Some attribute) = Some (Down attribute)
by_attribute None None = None

-- the rule that a text names: one of six words, or an attribute with `:asc` or `:desc` after its last colon
abbrev pub rule_of : List ℕ → Option RankingRule
rule_of text =
    if bytes_eq text (codes "words") then Some Words
    else if bytes_eq text (codes "typo") then Some Typo
    else if bytes_eq text (codes "proximity") then Some Proximity
    else if bytes_eq text (codes "attribute") then Some Attribute
    else if bytes_eq text (codes "sort") then Some Sort
    else if bytes_eq text (codes "exactness") then Some Exactness
    else by_attribute (before_ending (codes ":asc") text) (before_ending (codes ":desc") text)

-- the rule orders by exactly this path
abbrev pub orders_by : List ℕ → Option RankingRule → Bool
orders_by path None = false
orders_by path (Some Words) = false
orders_by path (Some Typo) = false
orders_by path (Some Proximity) = false
orders_by path (Some Attribute) = false
orders_by path (Some Sort) = false
orders_by path (Some Exactness) = false
orders_by path (Some (Up attribute)) = bytes_eq attribute path
orders_by path (Some (Down attribute)) = bytes_eq attribute path

-- the fault of the first text that names no rule
abbrev pub bad_rule : List (List ℕ) → Option SettingsRefusal
bad_rule [] = None
bad_rule (text ∷ texts) = if is_some (rule_of text) then bad_rule texts else Some (BadRankingRule text)
