-- The two forms that a word's text is kept in.
use Rattle.std.specs.Prelude.{ℕ, List}
use Rattle.std.specs.Rc.{rc_str_bytes}
use Rattle.search_base.specs.declared.word.Text.{Text}
use Rattle.search_base.specs.declared.word.Text.TheVariants.{Short, Long}

-- the bytes of a text, in place or shared
abbrev pub text_bytes : Text → List ℕ
text_bytes (Short s) = s
text_bytes (Long t) = rc_str_bytes t
