-- The rules by which the documents of an index are ranked.
use Rattle.std.specs.Prelude.{ℕ, List, [], ◌∷◌, map, flat_map, position, Option, Some, None, bytes_eq, if◌then◌else◌}
use Rattle.std.specs.Option.{option_map}
use Rattle.search_base.specs.declared.document.PathId.{PathId}
use Rattle.search_base.specs.declared.rule.Rule.{Rule}
use Rattle.search_base.specs.declared.rule.Rule.TheVariants.{Words, Proximity, Field, Position, Whole, Inexact, Up, Down}
use Rattle.search_call.specs.declared.Criterion.{Criterion}
use Rattle.index_settings.specs.declared.rule.RankingRule.{RankingRule}
use Rattle.index_settings.specs.declared.rule.RankingRule.TheVariants as named
use Rattle.index_settings.specs.Rules.{rule_of}
use Rattle.index_settings.specs.View.{SettingsView}

-- a path by its number
abbrev pub path_id : ℕ → PathId
path_id number = record { 0 = number }

-- the path of this name in a registry, where it has one
abbrev pub path_named : List (List ℕ) → List ℕ → Option PathId
path_named paths name = option_map path_id (position (λ path. bytes_eq path name) paths)

-- the entry of costs that a criterion gives by which a search sorts
abbrev pub criterion_entry : List (List ℕ) → Criterion → Rule
criterion_entry paths criterion =
    if criterion.up then Up (path_named paths criterion.attribute)
    else Down (path_named paths criterion.attribute)

-- The entries of costs that a ranking rule gives, in a search that sorts by these criteria. Typos are not tolerated, so
-- that they give none.
abbrev pub entries_of : List (List ℕ) → List Criterion → RankingRule → List Rule
entries_of paths sort named.Words = Words ∷ []
entries_of paths sort named.Typo = []
entries_of paths sort named.Proximity = Proximity ∷ []
entries_of paths sort named.Attribute = Field ∷ Position ∷ []
entries_of paths sort named.Sort = map (criterion_entry paths) sort
entries_of paths sort named.Exactness = Whole ∷ Inexact ∷ []
entries_of paths sort (named.Up name) = Up (path_named paths name) ∷ []
entries_of paths sort (named.Down name) = Down (path_named paths name) ∷ []

-- the entries that a text gives which names a ranking rule
abbrev pub entries_named : List (List ℕ) → List Criterion → Option RankingRule → List Rule
entries_named paths sort None = []
entries_named paths sort (Some rule) = entries_of paths sort rule

-- the rules that the settings name, in their order and as often as they are named, in an index with these paths
abbrev pub rules_with : SettingsView → List (List ℕ) → List Criterion → List Rule
rules_with settings paths sort = flat_map (λ text. entries_named paths sort (rule_of text)) settings.ranking_rules
