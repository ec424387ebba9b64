-- Terms by the words that they begin with.
use Rattle.std.specs.Prelude.{◌≡◌, ℕ, ◌+◌, Bool, false, not, ◌&&◌, List, [], ◌∷◌, Vec, map, get_or, if◌then◌else◌}
use Rattle.std.specs.BTreeMap.{BTreeMap, get_by}
use Rattle.std.specs.Cmp.Lexicographic.{slice_cmp}
use Rattle.std.specs.Option.{option_map_or}
use Rattle.std.specs.Ordering.{nat_cmp}
use Rattle.std.specs.Str.{bytes_eq}
use Rattle.search_base.specs.TermView.{TermView}
use Rattle.search_base.specs.declared.token.Token.{Token}
use Rattle.hit_format.specs.Runs.{longest}

-- the first of some words is this one
abbrev pub is_first : List ℕ → List (List ℕ) → Bool
is_first word [] = false
is_first word (first ∷ words) = bytes_eq first word

abbrev pub is_prefix : TermView → Bool
is_prefix term = term.prefix

-- the term begins with the word, and is no prefix term
abbrev pub begins_with : List ℕ → TermView → Bool
begins_with word term = not (is_prefix term) && is_first word term.words

-- the numbers of those terms that are picked, where the first of the terms has this number
abbrev pub numbers_of : (TermView → Bool) → ℕ → List TermView → List ℕ
numbers_of picks n [] = []
numbers_of picks n (term ∷ terms) = if picks term then n ∷ numbers_of picks (n + 1) terms else numbers_of picks (n + 1) terms

-- the numbers that a map has for a word: none where it does not have the word
abbrev pub numbers_at : {A : Type 0} → BTreeMap (List ℕ) (Vec ℕ A) → List ℕ → List ℕ
numbers_at numbers word = option_map_or (λ list. list.items) (get_by (slice_cmp nat_cmp word) numbers) []

-- a map has the numbers of the terms that begin with a word, and a list those of the prefix terms
pub record IsKept {A : Type 0} (terms : List TermView) (by_first : BTreeMap (List ℕ) (Vec ℕ A)) (prefixes : List ℕ) : Type 0 where
  pub first : (word : List ℕ) → numbers_at by_first word ≡ numbers_of (begins_with word) 0 terms
  pub prefixes_are : prefixes ≡ numbers_of is_prefix 0 terms

-- the term with a number
abbrev pub term_at : List TermView → ℕ → TermView
term_at terms number = get_or terms number (record { words = []; prefix = false })

-- how many tokens, from the first one on, are a run of one of the terms with these numbers: the most that one has
abbrev pub longest_at : List Token → List TermView → List ℕ → ℕ
longest_at tokens terms numbers = longest tokens (map (term_at terms) numbers)
