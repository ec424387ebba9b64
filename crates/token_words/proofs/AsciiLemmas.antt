-- The normal form of a text that is ASCII is its lower case.
use Rattle.std.proofs.Common.{◌≡◌, ℕ, zero, suc, ◌<◌, true, not, List, [], ◌∷◌, map, filter, All, IsAscii, refl, ap, ◌∙◌, arith, encode_utf8_all, suc-le-suc, zero-le}
use Rattle.std.proofs.lemmas.Bool.Decides.{nat_tests}
use Rattle.std.proofs.lemmas.Str.{chars-IsAscii, encodes-IsAscii}
use Rattle.std.specs.Char.{to_ascii_lowercase}
use Rattle.std.specs.Str.{chars}
use Rattle.ucd_table.proofs.Facts.{Stepped-below}
use Rattle.ucd_category.specs.GeneralCategory.{general_category}
use Rattle.ucd_category.proofs.Computing.{ucd_category}
use Rattle.ucd_category.proofs.GeneralCategoryLemmas.{general_category_stepped}
use Rattle.caseless.specs.Caseless.{default_case_fold}
use Rattle.caseless.proofs.CaselessLemmas.{default_case_fold-ascii, All-chars}
use Rattle.unicode_normalization.specs.Forms.{Nfkd}
use Rattle.unicode_normalization.proofs.FormsLemmas.{normalize-ascii}
use Rattle.token_words.specs.Normal.{normal, is_kept, is_nonspacing_mark}

-- no ASCII character is a nonspacing mark
is_kept-ascii : (c : ℕ) → c < 128 → is_kept c ≡ true
unfolding ucd_category
is_kept-ascii c below =
    Stepped-below general_category general_category_stepped (λ x category. not (is_nonspacing_mark category)) 128 refl c below

filter-ascii : (cs : List ℕ) → All (λ c. c < 128) cs → filter is_kept cs ≡ cs
filter-ascii [] all = refl
filter-ascii (c ∷ cs) all =
    rw (is_kept-ascii c (all zero 0 (suc-le-suc zero-le))) (ap (λ ds. c ∷ ds) (filter-ascii cs (λ k d lt. all (suc k) d (suc-le-suc lt))))

lower_ascii : (b : ℕ) → b < 128 → to_ascii_lowercase b < 128
lower_ascii b h = grind (arith, nat_tests)

pub IsAscii-lower : (bs : List ℕ) → IsAscii bs → IsAscii (map to_ascii_lowercase bs)
IsAscii-lower [] ascii i = ascii i
IsAscii-lower (b ∷ bs) ascii zero = lower_ascii b (ascii zero)
IsAscii-lower (b ∷ bs) ascii (suc i) = IsAscii-lower bs (λ j. ascii (suc j)) i

pub normal-ascii : (text : List ℕ) → IsAscii text → normal text ≡ map to_ascii_lowercase text
unfolding normal
normal-ascii text ascii =
    let itself : chars text ≡ text = chars-IsAscii text ascii in
    let all : All (λ c. c < 128) (chars text) = All-chars text ascii in
    ap (λ cs. encode_utf8_all (default_case_fold (filter is_kept cs))) (normalize-ascii Nfkd (chars text) all)
    ∙ ap (λ cs. encode_utf8_all (default_case_fold cs)) (filter-ascii (chars text) all)
    ∙ ap encode_utf8_all (default_case_fold-ascii (chars text) all)
    ∙ ap (λ cs. encode_utf8_all (map to_ascii_lowercase cs)) itself
    ∙ encodes-IsAscii (map to_ascii_lowercase text) (IsAscii-lower text ascii)
