-- The tokens of a text are its words, with the separators between them.
use Rattle.std.proofs.Common.{◌≡◌, ℕ, ◌+◌, ◌-◌, ◌<◌, ◌≤◌, Bool, true, false, not, ◌&&◌, ◌||◌, List, [], ◌∷◌, ◌++◌, length, take, drop, Option, Some, None, refl, sym, ap, ap₂, ◌∙◌, subst, arith, append_assoc, append-nil, length-append}
use Rattle.std.specs.List.{list_any, list_all, concat, slice_range}
use Rattle.std.proofs.Math.Seq.{drop-append_seam, take-append_seam}
use Rattle.std.proofs.lemmas.List.Folds.{concat-append, list_any-append, list_all-append}
use Rattle.std.proofs.lemmas.Str.{chars-nil}
use Rattle.search_base.specs.declared.token.Token.{Token}
use Rattle.token_words.specs.Normal.{normal}
use Rattle.token_words.specs.Segments.{is_word, is_separator, is_hard, is_empty}
use Rattle.token_words.specs.Tokens.{step, next_position, tokens_from, tokens}
use Rattle.token_words.specs.Words.{IsSegment, Follows, FollowOn, AreTheWords}
use Rattle.token_words.proofs.Steps.{tokens-word, tokens-separator}
use Rattle.unicode_segmentation.specs.Segments.{has_alphanumeric, is_alphanumeric}
use Rattle.unicode_segmentation.specs.Word.{word_bounds}

-- no bytes are no word
pub is_word-nil : is_word [] ≡ false
unfolding is_word has_alphanumeric
is_word-nil = ap (λ cs. list_any is_alphanumeric cs && not (is_empty (normal []))) chars-nil

pub word_has_bytes : (segment : List ℕ) → is_word segment ≡ true → 0 < length segment
word_has_bytes [] h = absurd (let never = is_word-nil in cc)
word_has_bytes (b ∷ bs) h = omega arith

-- a text has no more tokens than bytes
pub few_tokens : (last : Option ℕ) (hard : Bool) (at : ℕ) (segments : List (List ℕ)) → length (tokens_from last hard at segments) ≤ length (concat segments)
unfolding tokens_from
few_tokens last hard at [] = omega arith
few_tokens last hard at (segment ∷ segments) =
    by (few_tokens (Some (next_position last hard)) false (at + length segment) segments) (few_tokens last (hard || is_hard segment) (at + length segment) segments)
    (is_word segment) refl
  where
    by : length (tokens_from (Some (next_position last hard)) false (at + length segment) segments) ≤ length (concat segments)
        → length (tokens_from last (hard || is_hard segment) (at + length segment) segments) ≤ length (concat segments)
        → (b : Bool) → is_word segment ≡ b → length (tokens_from last hard at (segment ∷ segments)) ≤ length (segment ++ concat segments)
    by word separator true is =
        omega (arith, ap length (tokens-word last hard at segment segments is), word_has_bytes segment is, word, length-append segment (concat segments))
    by word separator false is =
        omega (arith, ap length (tokens-separator last hard at segment segments is), separator, length-append segment (concat segments))

-- the bytes of a list that is cut in three
middle : (a b c text : List ℕ) → text ≡ a ++ (b ++ c) → slice_range text (length a) (length a + length b) ≡ b
middle a b c text e =
    ap (λ t. take (length a + length b - length a) (drop (length a) t)) e
    ∙ ap₂ (λ n t. take n t) (omega arith) (drop-append_seam a (b ++ c)) ∙ take-append_seam b c

-- the token that is made of a segment
abbrev made : ℕ → List (List ℕ) → List ℕ → Token
made position front segment = record { position = position; word = normal segment; start = length (concat front); end = length (concat front) + length segment }

made_is : (text : List ℕ) (position : ℕ) (front : List (List ℕ)) (segment : List ℕ) (back : List (List ℕ))
    → concat (word_bounds text) ≡ text → word_bounds text ≡ front ++ (segment ∷ back) → is_word segment ≡ true
    → IsSegment text front segment (made position front segment)
made_is text position front segment back joined whole is = record {
  is_a_word = is;
  word = refl;
  start = refl;
  end = refl;
  some = let bytes = word_has_bytes segment is in omega arith;
  cut = middle (concat front) segment (concat back) text (sym joined ∙ ap concat whole ∙ concat-append front (segment ∷ back));
}

-- one more segment at the end
longer : (front : List (List ℕ)) (segment : List ℕ) → length (concat front) + length segment ≡ length (concat (front ++ (segment ∷ [])))
longer front segment =
    sym (length-append (concat front) segment) ∙ ap length (ap (λ bs. concat front ++ bs) (sym (append-nil segment)) ∙ sym (concat-append front (segment ∷ [])))

all_more : (front : List (List ℕ)) (segment : List ℕ) → list_all is_separator front ≡ true → is_word segment ≡ false → list_all is_separator (front ++ (segment ∷ [])) ≡ true
all_more front segment all is = list_all-append is_separator front (segment ∷ []) ∙ ap₂ (λ b c. b && (not c && true)) all is

or-false : (b : Bool) → (b || false) ≡ b
or-false true = refl
or-false false = refl

hard_more : (front : List (List ℕ)) (segment : List ℕ) → list_any is_hard (front ++ (segment ∷ [])) ≡ (list_any is_hard front || is_hard segment)
hard_more front segment = list_any-append is_hard front (segment ∷ []) ∙ ap (λ b. list_any is_hard front || b) (or-false (is_hard segment))

more_between : (front : List (List ℕ)) (segment : List ℕ) (between : List (List ℕ)) (last : List ℕ)
    → (front ++ (segment ∷ between)) ++ (last ∷ []) ≡ front ++ (segment ∷ (between ++ (last ∷ [])))
more_between front segment between last = append_assoc front (segment ∷ between) (last ∷ [])

next_in : (front : List (List ℕ)) (segment : List ℕ) (rest : List (List ℕ)) → front ++ (segment ∷ rest) ≡ (front ++ (segment ∷ [])) ++ rest
next_in front segment rest = sym (append_assoc front (segment ∷ []) rest)

module _ (text : List ℕ) (joined : concat (word_bounds text) ≡ text) where
  -- the word after a token and some separators
  next_follows : (token : Token) (front : List (List ℕ)) (segment : List ℕ) (between : List (List ℕ)) (next : List ℕ) (rest : List (List ℕ))
      → word_bounds text ≡ (front ++ (segment ∷ between)) ++ (next ∷ rest) → IsSegment text front segment token → list_all is_separator between ≡ true → is_word next ≡ true
      → Follows text token (made (token.position + step (list_any is_hard between)) (front ++ (segment ∷ between)) next)
  next_follows token front segment between next rest whole is separators word = record {
    front = front;
    segment = segment;
    between = between;
    next_segment = next;
    back = rest;
    whole = whole;
    token_is = is;
    next_is = made_is text (token.position + step (list_any is_hard between)) (front ++ (segment ∷ between)) next rest joined whole word;
    separators = separators;
    apart = (let bytes : length (concat (front ++ (segment ∷ between))) ≡ length (concat front) + (length segment + length (concat between)) =
        ap length (concat-append front (segment ∷ between)) ∙ length-append (concat front) (segment ++ concat between) ∙ ap (λ n. length (concat front) + n) (length-append segment (concat between)) in
        omega (arith, is.start, is.end, bytes));
    position = refl;
  }

  -- the tokens of the rest, after a token and the separators since then
  follow_on : (rest : List (List ℕ)) (token : Token) (front : List (List ℕ)) (segment : List ℕ) (between : List (List ℕ))
      → word_bounds text ≡ (front ++ (segment ∷ between)) ++ rest → IsSegment text front segment token → list_all is_separator between ≡ true
      → FollowOn text token (tokens_from (Some token.position) (list_any is_hard between) (length (concat (front ++ (segment ∷ between)))) rest)
  unfolding tokens_from
  follow_on [] token front segment between whole is separators = record {
    front = front;
    segment = segment;
    back = between;
    whole = whole ∙ append-nil (front ++ (segment ∷ between));
    token_is = is;
    separators = separators;
  }
  follow_on (next ∷ rest) token front segment between whole is separators =
      let before : List (List ℕ) = front ++ (segment ∷ between) in
      let hard : Bool = list_any is_hard between in
      let at : ℕ = length (concat before) in
      let Goal : List Token → Type 0 = FollowOn text token in
      elim (is_word next) as (λ b. is_word next ≡ b → Goal (tokens_from (Some token.position) hard at (next ∷ rest))) [
        | true ↦ λ word.
            let there : Token = made (token.position + step hard) before next in
            let After : ℕ → Type 0 = λ n. FollowOn text there (tokens_from (Some there.position) false n rest) in
            subst Goal (sym (tokens-word (Some token.position) hard at next rest word)) (
              next_follows token front segment between next rest whole is separators word,
              subst After (sym (longer before next)) (follow_on rest there before next [] (whole ∙ next_in before next rest) (made_is text there.position before next rest joined whole word) refl),
            )
        | false ↦ λ other.
            let more : List (List ℕ) = between ++ (next ∷ []) in
            let After : Bool → ℕ → Type 0 = λ h n. Goal (tokens_from (Some token.position) h n rest) in
            let along = follow_on rest token front segment more (whole ∙ next_in before next rest ∙ ap (λ f. f ++ rest) (more_between front segment between next)) is (all_more between next separators other) in
            let bytes : length (concat (front ++ (segment ∷ more))) ≡ at + length next = sym (longer before next ∙ ap (λ f. length (concat f)) (more_between front segment between next)) in
            subst Goal (sym (tokens-separator (Some token.position) hard at next rest other))
            (subst (λ n. After (hard || is_hard next) n) bytes (subst (λ h. After h (length (concat (front ++ (segment ∷ more))))) (hard_more between next) along))
      ] refl

  -- the tokens of the rest, after separators alone
  begins : (rest front : List (List ℕ)) → word_bounds text ≡ front ++ rest → list_all is_separator front ≡ true
      → AreTheWords text (tokens_from None (list_any is_hard front) (length (concat front)) rest)
  unfolding tokens_from
  begins [] front whole separators = ap (list_all is_separator) (whole ∙ append-nil front) ∙ separators
  begins (next ∷ rest) front whole separators =
      let hard : Bool = list_any is_hard front in
      let at : ℕ = length (concat front) in
      elim (is_word next) as (λ b. is_word next ≡ b → AreTheWords text (tokens_from None hard at (next ∷ rest))) [
        | true ↦ λ word.
            let there : Token = made 0 front next in
            let is = made_is text 0 front next rest joined whole word in
            let After : ℕ → Type 0 = λ n. FollowOn text there (tokens_from (Some 0) false n rest) in
            subst (AreTheWords text) (sym (tokens-word None hard at next rest word)) (
              record { front = front; segment = next; back = rest; whole = whole; token_is = is; separators = separators; position = refl },
              subst After (sym (longer front next)) (follow_on rest there front next [] (whole ∙ next_in front next rest) is refl),
            )
        | false ↦ λ other.
            let After : Bool → ℕ → Type 0 = λ h n. AreTheWords text (tokens_from None h n rest) in
            let along = begins rest (front ++ (next ∷ [])) (whole ∙ next_in front next rest) (all_more front next separators other) in
            subst (AreTheWords text) (sym (tokens-separator None hard at next rest other))
            (subst (λ n. After (hard || is_hard next) n) (sym (longer front next)) (subst (λ h. After h (length (concat (front ++ (next ∷ []))))) (hard_more front next) along))
      ] refl

pub tokens-are_words : (text : List ℕ) → concat (word_bounds text) ≡ text → AreTheWords text (tokens text)
tokens-are_words text joined = begins text joined (word_bounds text) [] refl refl
