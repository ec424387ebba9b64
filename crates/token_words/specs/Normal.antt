-- The normal form of a text.
use Rattle.std.specs.Prelude.{ℕ, Bool, true, false, not, List, filter, encode_utf8_all}
use Rattle.std.specs.Str.{chars}
use Rattle.ucd_category.specs.GeneralCategory.{general_category}
use Rattle.ucd_category.specs.declared.GeneralCategory.{GeneralCategory}
use Rattle.ucd_category.specs.declared.GeneralCategory.TheVariants.{NonspacingMark}
use Rattle.caseless.specs.Caseless.{default_case_fold}
use Rattle.unicode_normalization.specs.Forms.{nfkd}

-- the general category Mn
abbrev pub is_nonspacing_mark : GeneralCategory → Bool
is_nonspacing_mark NonspacingMark = true
is_nonspacing_mark _ = false

-- a normal form keeps the character
abbrev pub is_kept : ℕ → Bool
is_kept c = not (is_nonspacing_mark (general_category c))

-- the normal form of a text, as its bytes: decomposed, without nonspacing marks, case folded
unfoldable pub normal : List ℕ → List ℕ
normal text = encode_utf8_all (default_case_fold (filter is_kept (nfkd (chars text))))
