-- What the tokens of a text are: its words, with the separators between them.
use Rattle.std.specs.Prelude.{◌≡◌, ℕ, ◌+◌, ◌<◌, ◌≤◌, true, List, [], ◌∷◌, ◌++◌, length}
use Rattle.std.specs.List.{list_any, list_all, concat, slice_range}
use Rattle.search_base.specs.declared.token.Token.{Token}
use Rattle.token_words.specs.Normal.{normal}
use Rattle.token_words.specs.Segments.{is_word, is_separator, is_hard}
use Rattle.token_words.specs.Tokens.{step}
use Rattle.unicode_segmentation.specs.Word.{word_bounds}

-- the token is this segment of the text, before which stand the segments in front
pub record IsSegment (text : List ℕ) (front : List (List ℕ)) (segment : List ℕ) (token : Token) : Type 0 where
  pub is_a_word : is_word segment ≡ true
  pub word : token.word ≡ normal segment
  pub start : token.start ≡ length (concat front)
  pub end : token.end ≡ token.start + length segment
  pub some : token.start < token.end
  pub cut : slice_range text token.start token.end ≡ segment

-- the token is the first word of the text
pub record Begins (text : List ℕ) (token : Token) : Type 0 where
  pub front : List (List ℕ)
  pub segment : List ℕ
  pub back : List (List ℕ)
  pub whole : word_bounds text ≡ front ++ (segment ∷ back)
  pub token_is : IsSegment text front segment token
  pub separators : list_all is_separator front ≡ true
  pub position : token.position ≡ 0

-- the next token is the word after the token: exactly some separators stand between the two
pub record Follows (text : List ℕ) (token next : Token) : Type 0 where
  pub front : List (List ℕ)
  pub segment : List ℕ
  pub between : List (List ℕ)
  pub next_segment : List ℕ
  pub back : List (List ℕ)
  pub whole : word_bounds text ≡ (front ++ (segment ∷ between)) ++ (next_segment ∷ back)
  pub token_is : IsSegment text front segment token
  pub next_is : IsSegment text (front ++ (segment ∷ between)) next_segment next
  pub separators : list_all is_separator between ≡ true
  pub apart : token.end ≤ next.start
  pub position : next.position ≡ token.position + step (list_any is_hard between)

-- the token is the last word of the text
pub record Ends (text : List ℕ) (token : Token) : Type 0 where
  pub front : List (List ℕ)
  pub segment : List ℕ
  pub back : List (List ℕ)
  pub whole : word_bounds text ≡ front ++ (segment ∷ back)
  pub token_is : IsSegment text front segment token
  pub separators : list_all is_separator back ≡ true

-- the tokens follow one another after this one, to the last word of the text
abbrev pub FollowOn : List ℕ → Token → List Token → Type 0
FollowOn text token [] = Ends text token
FollowOn text token (next ∷ list) = Follows text token next × FollowOn text next list

-- the tokens are the words of the text, from the first to the last
abbrev pub AreTheWords : List ℕ → List Token → Type 0
AreTheWords text [] = list_all is_separator (word_bounds text) ≡ true
AreTheWords text (token ∷ list) = Begins text token × FollowOn text token list
