-- The texts of a path: what the leaves of a document say there.
use Rattle.std.specs.Prelude.{ℕ, Bool, true, false, List, Option, Some, None, codes}
use Rattle.std.specs.Fmt.{signed_decimal}
use Rattle.doc_values.specs.declared.rows.Flat.{Flat}
use Rattle.doc_values.specs.declared.rows.Flat.TheVariants.{Text, Number, Bool as Truth, Mark}

abbrev pub truth_text : Bool → List ℕ
truth_text true = codes "true"
truth_text false = codes "false"

-- the text of a leaf: its own, a number's decimal text, or a truth value's name. A mark is no leaf
abbrev pub leaf_text : Flat → Option (List ℕ)
leaf_text (Text text) = Some text
leaf_text (Number z) = Some (signed_decimal z)
leaf_text (Truth b) = Some (truth_text b)
leaf_text (Mark kind) = None
