-- How a filter is written: pieces of text, each of which is one token or a blank.
use Rattle.std.specs.Prelude.{◌≡◌, ℕ, List, [], ◌∷◌, ◌++◌, Bool, true, false, ◌⊎◌, ◌&&◌, ◌||◌, not, if◌then◌else◌, nat_eq, nat_le, codes}
use Rattle.std.specs.Char.{is_ascii_alphanumeric}
use Rattle.std.specs.Str.{bytes_eq}
use Rattle.filter_machine.specs.Grammar.{Ors, ors_tokens}
use Rattle.filter_machine.specs.declared.token.Token.{Token}
use Rattle.filter_machine.specs.declared.token.Token.TheVariants.{Text, And, Or, Not, In, To, Exists, Is, Null, Empty, Compare, Open, Close, ListOpen, ListClose, Comma}
use Rattle.filter_machine.specs.declared.token.Comparison.{Comparison}
use Rattle.filter_machine.specs.declared.token.Comparison.TheVariants.{Equal, Unequal, Above, AtLeast, Below, AtMost}

-- What a byte is where a piece may begin. A byte of a character that is not ASCII is a letter.
pub data Class : Type 0 where
  space : Class
  letter : Class
  quote : Class
  bang : Class
  greater : Class
  less : Class
  single : Token → Class
  strange : Class

-- space, tab, CR, LF
abbrev pub is_space : ℕ → Bool
is_space b = nat_eq b 32 || nat_eq b 9 || nat_eq b 13 || nat_eq b 10

-- an ASCII letter or digit, `_`, `-`, `/`, `.`, or a byte of a character that is not ASCII
abbrev pub is_word_byte : ℕ → Bool
is_word_byte b = nat_le 128 b || is_ascii_alphanumeric b || nat_eq b 95 || nat_eq b 45 || nat_eq b 47 || nat_eq b 46

unfoldable pub class_of : ℕ → Class
class_of b =
    if is_space b then space
    else if is_word_byte b then letter
    else if nat_eq b 39 then quote
    else if nat_eq b 34 then quote
    else if nat_eq b 33 then bang
    else if nat_eq b 62 then greater
    else if nat_eq b 60 then less
    else if nat_eq b 61 then single (Compare Equal)
    else if nat_eq b 40 then single Open
    else if nat_eq b 41 then single Close
    else if nat_eq b 91 then single ListOpen
    else if nat_eq b 93 then single ListClose
    else if nat_eq b 44 then single Comma
    else strange

-- ---- keywords

abbrev pub keywords : List (List ℕ × Token)
keywords = (codes "AND", And) ∷ (codes "OR", Or) ∷ (codes "NOT", Not) ∷ (codes "IN", In) ∷ (codes "TO", To) ∷ (codes "EXISTS", Exists)
    ∷ (codes "IS", Is) ∷ (codes "NULL", Null) ∷ (codes "EMPTY", Empty) ∷ []

abbrev pub found : List ℕ → List (List ℕ × Token) → Token
found w [] = Text w
found w (k ∷ ks) = if bytes_eq w k.0 then k.1 else found w ks

-- the token of a word: a keyword's own, or the text
abbrev pub word_token : List ℕ → Token
word_token w = found w keywords

-- ---- quoted texts

-- What stands between quotes: a byte, a backslash with the quote or a backslash, or one with another byte.
pub data Item : Type 0 where
  byte : ℕ → Item
  escaped : ℕ → Item
  kept : ℕ → Item

-- how it is written
abbrev pub item_text : Item → List ℕ
item_text (byte b) = b ∷ []
item_text (escaped b) = 92 ∷ b ∷ []
item_text (kept b) = 92 ∷ b ∷ []

-- what it stands for
abbrev pub item_value : Item → List ℕ
item_value (byte b) = b ∷ []
item_value (escaped b) = b ∷ []
item_value (kept b) = 92 ∷ b ∷ []

-- the quote and the backslash
abbrev pub is_special : ℕ → ℕ → Bool
is_special q b = nat_eq b q || nat_eq b 92

abbrev pub is_item : ℕ → Item → Bool
is_item q (byte b) = not (is_special q b)
is_item q (escaped b) = is_special q b
is_item q (kept b) = not (is_special q b)

abbrev pub texts : List Item → List ℕ
texts [] = []
texts (i ∷ is) = item_text i ++ texts is

abbrev pub values : List Item → List ℕ
values [] = []
values (i ∷ is) = item_value i ++ values is

abbrev pub are_items : ℕ → List Item → Bool
are_items q [] = true
are_items q (i ∷ is) = is_item q i && are_items q is

-- ---- pieces

-- a blank, a word, a quoted text with its quote, a symbol of one byte, one with `=` behind, and `>` or `<` alone
pub data Piece : Type 0 where
  blank : ℕ → Piece
  word : List ℕ → Piece
  quoted : ℕ → List Item → Piece
  sign : ℕ → Token → Piece
  pair : ℕ → Comparison → Piece  -- `!=`, `>=`, `<=`
  alone : ℕ → Comparison → Piece  -- `>`, `<`

-- how a piece is written
abbrev pub spelled : Piece → List ℕ
spelled (blank b) = b ∷ []
spelled (word w) = w
spelled (quoted q is) = q ∷ (texts is ++ q ∷ [])
spelled (sign b t) = b ∷ []
spelled (pair b c) = b ∷ 61 ∷ []
spelled (alone b c) = b ∷ []

-- the token of a piece, if it has one
abbrev pub token_in : Piece → List Token
token_in (blank b) = []
token_in (word w) = word_token w ∷ []
token_in (quoted q is) = Text (values is) ∷ []
token_in (sign b t) = t ∷ []
token_in (pair b c) = Compare c ∷ []
token_in (alone b c) = Compare c ∷ []

abbrev pub spell : List Piece → List ℕ
spell [] = []
spell (p ∷ ps) = spelled p ++ spell ps

abbrev pub tokens : List Piece → List Token
tokens [] = []
tokens (p ∷ ps) = token_in p ++ tokens ps

abbrev pub is_letter : ℕ → Bool
is_letter b = letter_class (class_of b)
  where
    letter_class : Class → Bool
    letter_class letter = true
    letter_class _ = false

abbrev pub are_letters : List ℕ → Bool
are_letters [] = true
are_letters (b ∷ bs) = is_letter b && are_letters bs

abbrev pub is_word : List ℕ → Bool
is_word [] = false
is_word (b ∷ bs) = is_letter b && are_letters bs

-- a piece is what its kind says
abbrev pub IsPiece : Piece → Type 0
IsPiece (blank b) = class_of b ≡ space
IsPiece (word w) = is_word w ≡ true
IsPiece (quoted q is) = (class_of q ≡ quote) × (are_items q is ≡ true)
IsPiece (sign b t) = class_of b ≡ single t
IsPiece (pair b c) = ((class_of b ≡ bang) × (c ≡ Unequal)) ⊎ (((class_of b ≡ greater) × (c ≡ AtLeast)) ⊎ ((class_of b ≡ less) × (c ≡ AtMost)))
IsPiece (alone b c) = ((class_of b ≡ greater) × (c ≡ Above)) ⊎ ((class_of b ≡ less) × (c ≡ Below))

-- the text does not begin with such a byte
abbrev pub starts_no : (ℕ → Bool) → List ℕ → Type 0
starts_no p [] = Unit {0}
starts_no p (b ∷ bs) = p b ≡ false

-- a word and a symbol are the longest
abbrev pub Stops : Piece → List ℕ → Type 0
Stops (word w) text = starts_no is_letter text
Stops (alone b c) text = starts_no (λ b. nat_eq b 61) text
Stops _ text = Unit {0}

-- the text is these pieces, before a rest
abbrev pub AreCut : List Piece → List ℕ → Type 0
AreCut [] rest = Unit {0}
AreCut (p ∷ ps) rest = IsPiece p × Stops p (spell ps ++ rest) × AreCut ps rest

-- the text is this filter
pub record IsFilter (text : List ℕ) (f : Ors) : Type 0 where
  pub pieces : List Piece
  pub cut : AreCut pieces []
  pub text_is : text ≡ spell pieces
  pub tokens_are : tokens pieces ≡ ors_tokens f

-- the text is the beginning of some filter
pub record Begins (text : List ℕ) : Type 0 where
  pub more : List ℕ
  pub filter : Ors
  pub whole : IsFilter (text ++ more) filter
