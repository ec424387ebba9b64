-- One step of the walk over the segments.
use Rattle.std.proofs.Common.{◌≡◌, ℕ, ◌+◌, ◌≤◌, Bool, true, false, ◌||◌, cond, List, [], ◌∷◌, ◌++◌, length, take, Option, Some, None, refl, sym, ap, ◌∙◌, unwrap_or, arith, nat_eq, length-append}
use Rattle.std.specs.List.{concat}
use Rattle.token_words.specs.Normal.{normal}
use Rattle.token_words.specs.Segments.{is_word, is_hard, is_empty}
use Rattle.std.proofs.lemmas.List.{take_all}
use Rattle.token_words.specs.Tokens.{next_position, tokens_from}

-- what a choice between a word and nothing says where it is a word
pub some_if : (b : Bool) (w n : List ℕ) → Some w ≡ cond b (Some n) None → (b ≡ true) × (w ≡ n)
some_if true w n e = (refl, cc)
some_if false w n e = cc

-- and where it is nothing
pub none_if : (b : Bool) (n : List ℕ) → None ≡ cond b (Some n) None → b ≡ false
none_if true n e = cc
none_if false n e = refl

pub tokens-word : (last : Option ℕ) (hard : Bool) (at : ℕ) (segment : List ℕ) (segments : List (List ℕ)) → is_word segment ≡ true
    → tokens_from last hard at (segment ∷ segments)
    ≡ record { position = next_position last hard; word = normal segment; start = at; end = at + length segment }
    ∷ tokens_from (Some (next_position last hard)) false (at + length segment) segments
unfolding tokens_from
tokens-word last hard at segment segments e = rw e refl

pub tokens-separator : (last : Option ℕ) (hard : Bool) (at : ℕ) (segment : List ℕ) (segments : List (List ℕ)) → is_word segment ≡ false
    → tokens_from last hard at (segment ∷ segments) ≡ tokens_from last (hard || is_hard segment) (at + length segment) segments
unfolding tokens_from
tokens-separator last hard at segment segments e = rw e refl

-- the bytes of what is left, after one more segment
pub room-step : (at n : ℕ) (segment : List ℕ) (rest left : List (List ℕ)) → left ≡ segment ∷ rest → at + length (concat left) ≡ n
    → (at + length segment) + length (concat rest) ≡ n
room-step at n segment rest left e h =
    let h' : at + length (segment ++ concat rest) ≡ n = rw e at h in
    omega (arith, h', length-append segment (concat rest))

pub next_position-le : (last : Option ℕ) (hard : Bool) (n : ℕ) → unwrap_or last 0 ≤ n → next_position last hard ≤ n + 8
next_position-le None hard n h = omega arith
next_position-le (Some p) true n h = omega arith
next_position-le (Some p) false n h = omega arith

-- whether bytes are empty
pub is_empty-length : (xs : List ℕ) → nat_eq (length xs) 0 ≡ is_empty xs
is_empty-length [] = refl
is_empty-length (x ∷ xs) = grind arith

-- ---- the first tokens

-- fewer are all
pub all_are : {X : Type 0} (most : ℕ) (xs all : List X) → xs ≡ all → length xs ≤ most → xs ≡ take most all
all_are most xs all told few = sym (ap (take most) (sym told) ∙ take_all most xs few)
