-- What the head of a request says.
use Rattle.std.specs.Prelude.{◌≡◌, ◌⊎◌, ℕ, ◌-◌, ◌^◌, ◌<◌, ◌≤◌, Bool, ◌&&◌, ◌||◌, not, ◌==◌, nat_lt, min, List, [], ◌∷◌, length, map, count_by, codes, bytes_eq, if◌then◌else◌}
use Rattle.std.specs.List.{list_any, list_all, flat_map, slice_split}
use Rattle.std.specs.Char.{is_ascii_digit}
use Rattle.std.specs.Str.Parse.{digits_value}
use Rattle.std.specs.Str.{str_eq_ignore_ascii_case}
use Rattle.httparse.specs.Grammar.{RequestHead, ReadsRequest, trim_ows}
use Rattle.httparse.specs.Spans.{name_and_value}
use Rattle.http_wire.specs.declared.HeadKind.{HeadKind}
use Rattle.http_wire.specs.declared.HeadKind.TheVariants.{TooManyHeaders, Malformed, Coded, NoLength, BodyTooLarge}

-- the most header fields of a head
abbrev pub most_fields : ℕ
most_fields = 64

-- the most line feeds of a head: those of the first line, of each field and of the empty line
abbrev pub most_line_feeds : ℕ
most_line_feeds = 66

-- the most bytes of a body
abbrev pub most_body : ℕ
most_body = 16777216

-- a request's parts before its body
pub record Parts : Type 0 where
  pub method : List ℕ
  pub target : List ℕ
  pub closes : Bool

-- what a head says: it is refused for this cause and with this number, or a body of so many bytes follows
pub data Verdict : Type 0 where
  refused : HeadKind → ℕ → Verdict
  accepted : Parts → ℕ → Verdict

-- a field's name and value
abbrev pub Pair : Type 0
Pair = List ℕ × List ℕ

-- the field says that the body is coded: a `Content-Encoding` of `identity` does not
unfoldable pub is_coding : Pair → Bool
is_coding pair =
    str_eq_ignore_ascii_case pair.0 (codes "transfer-encoding")
    || (str_eq_ignore_ascii_case pair.0 (codes "content-encoding") && not (str_eq_ignore_ascii_case pair.1 (codes "identity")))

-- the field is a length
unfoldable pub is_length : Pair → Bool
is_length pair = str_eq_ignore_ascii_case pair.0 (codes "content-length")

-- the word `close`, whatever its case
abbrev pub is_close_word : List ℕ → Bool
is_close_word text = str_eq_ignore_ascii_case text (codes "close")

-- the field lists, between commas and without the blanks around it, `close` of the connection
unfoldable pub is_close : Pair → Bool
is_close pair =
    str_eq_ignore_ascii_case pair.0 (codes "connection")
    && list_any (λ member. is_close_word (trim_ows member)) (slice_split (λ b. b == 44) pair.1)

-- the methods whose requests need a length
unfoldable pub needs_length : List ℕ → Bool
needs_length method = bytes_eq method (codes "POST") || bytes_eq method (codes "PUT") || bytes_eq method (codes "PATCH")

-- one or more decimal digits
abbrev pub is_digits : List ℕ → Bool
is_digits text = nat_lt 0 (length text) && list_all is_ascii_digit text

-- by the length of the body; the number of one that is too long is a 64-bit one
abbrev pub with_length : Parts → ℕ → Verdict
with_length parts n = if nat_lt most_body n then refused BodyTooLarge (min n (2 ^ 64 - 1)) else accepted parts n

-- By the values of the length fields, in a head of n bytes: a request has one at most, and it is a number. Without
-- one there is no body.
abbrev pub by_lengths : Parts → ℕ → List (List ℕ) → Verdict
by_lengths parts n [] = if needs_length parts.method then refused NoLength n else accepted parts 0
by_lengths parts n (text ∷ []) = if is_digits text then with_length parts (digits_value 10 text) else refused Malformed n
by_lengths parts n (text ∷ other ∷ more) = refused Malformed n

-- the value of a field, if it is a length
abbrev pub length_value : Pair → List (List ℕ)
length_value pair = if is_length pair then pair.1 ∷ [] else []

-- the values of the length fields
abbrev pub lengths : List Pair → List (List ℕ)
lengths pairs = flat_map length_value pairs

-- By the parts of a head of HTTP/1.minor and n bytes, and its fields. A request of version 1.0 asks to close.
abbrev pub by_fields : List ℕ → List ℕ → ℕ → List Pair → ℕ → Verdict
by_fields method target minor pairs n =
    if list_any is_coding pairs then refused Coded n
    else by_lengths (record { method = method; target = target; closes = minor == 0 || list_any is_close pairs }) n (lengths pairs)

-- the head that is found in these bytes
pub record Finds (bytes : List ℕ) (head : RequestHead) : Type 0 where
  pub rest : List ℕ
  pub reads : ReadsRequest bytes head rest
  pub fits : length head.fields ≤ most_fields

-- no head is found in these bytes, with that room
abbrev pub FindsNone : List ℕ → Type 0
FindsNone bytes = (head : RequestHead) (rest : List ℕ) → ReadsRequest bytes head rest → most_fields < length head.fields

-- what the bytes of a head say, if there are not too many lines
abbrev pub Says : List ℕ → Verdict → Type 0
Says bytes verdict =
    ((head : RequestHead) × Finds bytes head
    × (verdict ≡ by_fields head.method head.target head.minor (map name_and_value head.fields) (length bytes)))
    ⊎ (FindsNone bytes × (verdict ≡ refused Malformed (length bytes)))

-- how many lines have ended
abbrev pub line_feeds : List ℕ → ℕ
line_feeds bytes = count_by (λ b. b == 10) bytes

-- What the bytes of a head say. A head with too many lines is looked at no further.
abbrev pub Judged : List ℕ → Verdict → Type 0
Judged bytes verdict =
    ((most_line_feeds < line_feeds bytes) × (verdict ≡ refused TooManyHeaders (line_feeds bytes)))
    ⊎ ((line_feeds bytes ≤ most_line_feeds) × Says bytes verdict)
