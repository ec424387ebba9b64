-- The requests in the bytes of a link.
use Rattle.std.specs.Prelude.{◌≡◌, ◌⊎◌, ℕ, ◌+◌, ◌-◌, ◌<◌, ◌≤◌, Bool, true, false, List, [], ◌∷◌, ◌++◌, length, drop}
use Rattle.http_wire.specs.Head.{IsHeadAt, IsTooLong, IsBlank, IsInHead, head_bytes}
use Rattle.http_wire.specs.Judge.{Parts, Judged, accepted, refused}
use Rattle.http_wire.specs.declared.HeadKind.{HeadKind}
use Rattle.http_wire.specs.declared.HeadKind.TheVariants.{HeadTooLong}

-- a whole request
pub record Request : Type 0 where
  pub method : List ℕ
  pub target : List ℕ
  pub body : List ℕ
  pub closes : Bool

abbrev pub parts_of : Request → Parts
parts_of q = record { method = q.method; target = q.target; closes = q.closes }

-- these bytes are the request, with the line ends before it
pub record IsRequest (bytes : List ℕ) (q : Request) : Type 0 where
  pub start : ℕ
  pub len : ℕ
  pub head : IsHeadAt bytes start len
  pub within : start + len ≤ length bytes
  pub says : Judged (head_bytes bytes start len) (accepted (parts_of q) (length q.body))
  pub body : q.body ≡ drop (start + len) bytes

-- the target and the body are no longer than they may be
pub record IsWithinLimits (q : Request) : Type 0 where
  pub target : length q.target ≤ 16384
  pub body : length q.body ≤ 16777216

-- the bytes are the request and then the rest
abbrev pub Takes : List ℕ → Request → List ℕ → Type 0
Takes bytes q rest = (front : List ℕ) × (bytes ≡ front ++ rest) × IsRequest front q

-- a whole head that is refused
pub record IsRefused (bytes : List ℕ) (kind : HeadKind) (number : ℕ) : Type 0 where
  pub start : ℕ
  pub len : ℕ
  pub head : IsHeadAt bytes start len
  pub within : start + len ≤ length bytes
  pub says : Judged (head_bytes bytes start len) (refused kind number)

-- what follows is refused, whatever comes after it
abbrev pub IsBad : List ℕ → HeadKind → ℕ → Type 0
IsBad bytes kind number =
    (IsTooLong bytes × (kind ≡ HeadTooLong) × (number ≡ 16384)) ⊎ IsRefused bytes kind number

-- a whole head, and less than its body
pub record IsInBody (bytes : List ℕ) : Type 0 where
  pub start : ℕ
  pub len : ℕ
  pub parts : Parts
  pub size : ℕ
  pub head : IsHeadAt bytes start len
  pub within : start + len ≤ length bytes
  pub says : Judged (head_bytes bytes start len) (accepted parts size)
  pub short : length bytes < start + len + size

-- a request has begun and is not whole
abbrev pub IsPart : List ℕ → Type 0
IsPart bytes = IsInHead bytes ⊎ IsInBody bytes

-- no whole request, and none that is refused
abbrev pub IsOpen : List ℕ → Type 0
IsOpen bytes = IsBlank bytes ⊎ IsPart bytes

-- where a link stands: how many requests it may still bring, whether the last asked to close, and the bytes to come
pub record Stream : Type 0 where
  pub left : ℕ
  pub closed : Bool
  pub bytes : List ℕ

-- the most requests of a link
abbrev pub most_requests : ℕ
most_requests = 1000000

-- a link that begins
abbrev pub fresh : List ℕ → Stream
fresh bytes = record { left = most_requests; closed = false; bytes = bytes }

-- after a request
abbrev pub after_request : Stream → Request → List ℕ → Stream
after_request s q rest = record { left = s.left - 1; closed = q.closes; bytes = rest }

-- one more request may come
abbrev pub IsAwake : Stream → Type 0
IsAwake s = (s.closed ≡ false) × (0 < s.left)

-- the first requests, and where the link stands after them
abbrev pub Follows : Stream → List Request → Stream → Type 0
Follows s [] t = t ≡ s
Follows s (q ∷ qs) t = (rest : List ℕ) × IsAwake s × Takes s.bytes q rest × Follows (after_request s q rest) qs t

-- How the requests end: at most line ends are left; the last asked to close; as many came as may; so many bytes after
-- the last whole request are a part of the next; a head is refused.
pub data End : Type 0 where
  between closed spent : End
  rest : ℕ → End
  bad : HeadKind → ℕ → End

-- a link that stands here brings no request more, and for this cause
abbrev pub Ends : Stream → End → Type 0
Ends s closed = s.closed ≡ true
Ends s spent = (s.closed ≡ false) × (s.left ≡ 0)
Ends s between = IsAwake s × IsBlank s.bytes
Ends s (rest n) = IsAwake s × IsPart s.bytes × (n ≡ length s.bytes)
Ends s (bad kind number) = IsAwake s × IsBad s.bytes kind number

-- the whole requests in the bytes of a link, in order, and how they end
abbrev pub Requests : List ℕ → List Request → End → Type 0
Requests bytes qs end = (t : Stream) × Follows (fresh bytes) qs t × Ends t end
