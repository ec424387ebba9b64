-- Laws on the answers: one text has one tree, one value has one answer, and it is the one that `parse` gives.
use Rattle.std.specs.Prelude.{◌≡◌, ℕ, List, Result}
use Rattle.serde_json.specs.Data.{Data}
use Rattle.filter_tree.specs.Tree.{Tree}
use Rattle.filter_machine.specs.Grammar.{Ors, ors_tree}
use Rattle.filter_machine.specs.Text.{IsFilter}
use Rattle.filter_expr.specs.Parsed.{IsParsed}
use Rattle.filter_expr.specs.Answer.{parsed}
use Rattle.filter_expr.specs.declared.fault.FilterRefusal.{FilterRefusal}

-- however a text is derived, it has one tree
abbrev pub HasOneTree : Type 0
HasOneTree = (text : List ℕ) (f g : Ors) → IsFilter text f → IsFilter text g → ors_tree f ≡ ors_tree g

-- the grammar allows one answer for a value
abbrev pub HasOneAnswer : Type 0
HasOneAnswer = (d : Data) (r s : Result Tree FilterRefusal) → IsParsed d r → IsParsed d s → r ≡ s

-- the answer for a value is one that the grammar allows
abbrev pub AnswersAreTheGrammars : Type 0
AnswersAreTheGrammars = (d : Data) → IsParsed d (parsed d)
