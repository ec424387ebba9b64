-- Lists of few words.
use Rattle.std.proofs.Common.{◌≡◌, ◌∙◌, ℕ, ◌<◌, ◌≤◌, true, false, Bool, Decides, List, [], ◌∷◌, length, get_or, bytes_eq, codes, refl, arith, None, String, string_bytes}
use Rattle.std.proofs.lemmas.Slice.Eq.{bytes_eq-Decides}
use Rattle.std.specs.declared.alloc.Global.{Global}
use Rattle.search_server.specs.Words.{command_of}

is_false : (b : Bool) → (b ≡ true → ⊥) → b ≡ false
is_false true never = absurd (never refl)
is_false false other = refl

-- one word that is not the one of one word
pub one_other : (words : List (String Global)) (word : String Global) (text : List ℕ) → 1 ≤ length words → length words < 2
    → word ≡ get_or words 0 word → text ≡ string_bytes word → (text ≡ codes "pipe" → ⊥) → None ≡ command_of words
one_other [] word text least most e f other = absurd (omega arith)
one_other (first ∷ []) word text least most e f other =
    let d : Decides (bytes_eq (string_bytes first) (codes "pipe")) (string_bytes first ≡ codes "pipe") = bytes_eq-Decides (string_bytes first) (codes "pipe") in
    let same : text ≡ string_bytes first = rw e at f in
    rw (is_false (bytes_eq (string_bytes first) (codes "pipe")) (λ t. other (same ∙ d.0 t))) refl
one_other (first ∷ second ∷ more) word text least most e f other = absurd (omega arith)

pub two_words : (words : List (String Global)) → 2 ≤ length words → length words < 3 → None ≡ command_of words
two_words [] least most = absurd (omega arith)
two_words (a ∷ []) least most = absurd (omega arith)
two_words (a ∷ b ∷ []) least most = refl
two_words (a ∷ b ∷ c ∷ more) least most = absurd (omega arith)
