-- How the parser goes through the texts of a value, one after another. `answers_are_the_grammars` ties it to the grammar.
use Rattle.std.specs.Prelude.{ℕ, ◌+◌, List, [], ◌∷◌, ◌++◌, if◌then◌else◌, Option, Some, None, Result, Ok, Err}
use Rattle.serde_json.specs.Data.{Data, null, string, array, Items, no_items, item}
use Rattle.filter_tree.specs.Tree.{Tree, or_of}
use Rattle.filter_machine.specs.Machine.{Reading, or_first}
use Rattle.filter_expr.specs.Limit.{TextFault, syntax_at, too_deep_at, reading_of}
use Rattle.filter_expr.specs.Parsed.{is_blank, conditions}
use Rattle.filter_expr.specs.declared.fault.FilterRefusal.{FilterRefusal}
use Rattle.filter_expr.specs.declared.fault.FilterRefusal.TheVariants.{Syntax, TooDeep, NotANumber, NotText}

-- How many texts are read, the first value of them that should be a number and is none, the trees of the groups, and those in the group that is read.
pub record Progress : Type 0 where
  pub count : ℕ
  pub bad : Option (List ℕ)
  pub groups : List Tree
  pub members : List Tree

abbrev pub progress : ℕ → Option (List ℕ) → List Tree → List Tree → Progress
progress n bad gs ms = record { count = n; bad = bad; groups = gs; members = ms }

abbrev pub new_progress : Progress
new_progress = progress 0 None [] []

abbrev pub with_reading : ℕ → Progress → Result Reading TextFault → Result Progress FilterRefusal
with_reading n p (Ok r) = Ok (progress n (or_first p.bad r.bad) p.groups (p.members ++ r.tree ∷ []))
with_reading n p (Err (syntax_at q)) = Err (Syntax n q)
with_reading n p (Err (too_deep_at q)) = Err (TooDeep n q)

abbrev pub text_read : List ℕ → Progress → Result Progress FilterRefusal
text_read text p = if is_blank text then Ok (progress (p.count + 1) p.bad p.groups p.members) else with_reading (p.count + 1) p (reading_of text)

abbrev pub and_then : Result Progress FilterRefusal → (Progress → Result Progress FilterRefusal) → Result Progress FilterRefusal
and_then (Ok p) f = f p
and_then (Err e) f = Err e

abbrev pub texts_read : Items → Progress → Result Progress FilterRefusal
texts_read no_items p = Ok p
texts_read (item (string s) ds) p = and_then (text_read s p) (texts_read ds)
texts_read (item _ ds) p = Err NotText

abbrev pub with_group : List Tree → List Tree → List Tree
with_group gs [] = gs
with_group gs (m ∷ ms) = gs ++ or_of (m ∷ ms) ∷ []

abbrev pub group_end : Progress → Progress
group_end p = progress p.count p.bad (with_group p.groups p.members) []

abbrev pub group_read : Data → Progress → Result Progress FilterRefusal
group_read (string s) p = text_read s p
group_read (array ds) p = texts_read ds p
group_read _ p = Err NotText

abbrev pub groups_read : Items → Progress → Result Progress FilterRefusal
groups_read no_items p = Ok p
groups_read (item d ds) p = and_then (group_read d p) (λ q. groups_read ds (group_end q))

abbrev pub value_read : Data → Progress → Result Progress FilterRefusal
value_read null p = Ok p
value_read (string s) p = and_then (text_read s p) (λ q. Ok (group_end q))
value_read (array ds) p = groups_read ds p
value_read _ p = Err NotText

abbrev pub concluded_by : Option (List ℕ) → List Tree → Result Tree FilterRefusal
concluded_by (Some w) gs = Err (NotANumber w)
concluded_by None gs = Ok (conditions gs)

abbrev pub concluded : Progress → Result Tree FilterRefusal
concluded p = concluded_by p.bad p.groups
