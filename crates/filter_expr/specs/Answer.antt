-- What `parse` answers: the tree of a value, or why it is no filter. `answers_are_the_grammars` ties it to the grammar.
use Rattle.std.specs.Prelude.{if◌then◌else◌, is_some, Result, Ok, Err}
use Rattle.serde_json.specs.Data.{Data}
use Rattle.filter_tree.specs.Tree.{Tree}
use Rattle.filter_expr.specs.Texts.{groups_of}
use Rattle.filter_expr.specs.Reader.{Progress, new_progress, value_read, concluded}
use Rattle.filter_expr.specs.declared.fault.FilterRefusal.{FilterRefusal}
use Rattle.filter_expr.specs.declared.fault.FilterRefusal.TheVariants.{NotText}

-- the first text that is refused decides, and else what all texts come to
abbrev pub concluded_of : Result Progress FilterRefusal → Result Tree FilterRefusal
concluded_of (Ok p) = concluded p
concluded_of (Err why) = Err why

-- a value of another shape is refused before any of its texts is
unfoldable pub parsed : Data → Result Tree FilterRefusal
parsed d = if is_some (groups_of d) then concluded_of (value_read d new_progress) else Err NotText
