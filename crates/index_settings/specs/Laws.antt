-- What holds of every patch and of every ranking rule.
use Rattle.std.specs.Prelude.{◌≡◌, ◌↔◌, ◌<◌, ℕ, List, ◌++◌, length, codes, Some, Ok, ⊤}
use Rattle.serde_json.specs.Data.{Data}
use Rattle.index_settings.specs.declared.rule.RankingRule.{RankingRule}
use Rattle.index_settings.specs.declared.rule.RankingRule.TheVariants.{Words, Typo, Proximity, Attribute, Sort, Exactness, Up, Down}
use Rattle.index_settings.specs.View.{SettingsView}
use Rattle.index_settings.specs.Rules.{rule_of}
use Rattle.index_settings.specs.Patch.{patch_of}
use Rattle.index_settings.specs.Json.{settings_data}
use Rattle.index_settings.specs.Limits.{IsSettings}

-- what is printed of settings, taken as a patch of any others, gives them back
abbrev pub PrintedGivesBack : Type 0
PrintedGivesBack = (old s : SettingsView) → IsSettings s → patch_of old (settings_data s) ≡ Ok s

-- a patch that is given again changes nothing
abbrev pub PatchIsDoneOnce : Type 0
PatchIsDoneOnce = (old new : SettingsView) (d : Data) → patch_of old d ≡ Ok new → patch_of new d ≡ Ok new

abbrev pub rule_text : RankingRule → List ℕ
rule_text Words = codes "words"
rule_text Typo = codes "typo"
rule_text Proximity = codes "proximity"
rule_text Attribute = codes "attribute"
rule_text Sort = codes "sort"
rule_text Exactness = codes "exactness"
rule_text (Up attribute) = attribute ++ codes ":asc"
rule_text (Down attribute) = attribute ++ codes ":desc"

abbrev pub HasAttribute : RankingRule → Type 0
HasAttribute Words = ⊤
HasAttribute Typo = ⊤
HasAttribute Proximity = ⊤
HasAttribute Attribute = ⊤
HasAttribute Sort = ⊤
HasAttribute Exactness = ⊤
HasAttribute (Up attribute) = 0 < length attribute
HasAttribute (Down attribute) = 0 < length attribute

-- a text names a rule exactly where it is that rule's text, and the rule's attribute is not empty
abbrev pub TextsNameRules : Type 0
TextsNameRules = (text : List ℕ) (rule : RankingRule)
    → (rule_of text ≡ Some rule) ↔ ((text ≡ rule_text rule) × HasAttribute rule)
