-- Why no request was read, by the bytes so far.
use Rattle.std.specs.Prelude.{◌≡◌, ◌⊎◌, ℕ, ◌<◌, List, length, Option, IfSome}
use Rattle.std.specs.Io.KnownBytes.{prepend_known}
use Rattle.http_wire.specs.Judge.{Judged, refused}
use Rattle.http_wire.specs.Stream.{Request, IsRequest, IsBad, IsPart, IsOpen}
use Rattle.outside_io.specs.Bytes.{IsSpent}
use Rattle.outside_io.specs.Faults.{Rose}
use Rattle.http_wire.specs.Head.{IsTooLong, IsBlank, IsInHead}
use Rattle.http_wire.specs.declared.HeadKind.TheVariants.{HeadTooLong}
use Rattle.http_wire.specs.declared.reading.WireEnd.{WireEnd}
use Rattle.http_wire.specs.declared.reading.WireEnd.TheVariants.{End, CutShort, Bad, ReadFault, NoMemory}

-- no head in these bytes, for a reader that looks no further than the head
abbrev pub HeadStops : List ℕ → Option (List ℕ) → ℕ → ℕ → WireEnd → Type 0
HeadStops kept left before now End = IsBlank kept × IsSpent left
HeadStops kept left before now (CutShort rest) = IsInHead kept × (rest ≡ length kept) × IsSpent left
HeadStops kept left before now (Bad kind number) = IsTooLong kept × (kind ≡ HeadTooLong) × (number ≡ 16384)
HeadStops kept left before now ReadFault = (IsBlank kept ⊎ IsInHead kept) × Rose before now
HeadStops kept left before now NoMemory = Unit {0}

-- no more bytes were read
abbrev pub FillStops : ℕ → ℕ → WireEnd → Type 0
FillStops before now ReadFault = Rose before now
FillStops before now NoMemory = Unit {0}
FillStops before now End = ⊥
FillStops before now (CutShort rest) = ⊥
FillStops before now (Bad kind number) = ⊥

-- a request is taken from the front of the bytes, where they are told
abbrev pub TakesFront : Option (List ℕ) → Request → Option (List ℕ) → Type 0
TakesFront before q after = (front : List ℕ) × (before ≡ prepend_known front after) × IsRequest front q

-- why no request was read: by the bytes that were there, by those kept, and by the faults before and now
abbrev pub Stops : Option (List ℕ) → List ℕ → ℕ → ℕ → WireEnd → Type 0
Stops bytes kept before now End = IfSome bytes IsBlank
Stops bytes kept before now (CutShort rest) = (0 < rest) × IfSome bytes (λ xs. IsPart xs × (rest ≡ length xs))
Stops bytes kept before now (Bad kind number) = IfSome bytes (λ xs. IsBad xs kind number)
Stops bytes kept before now ReadFault = IsOpen kept × Rose before now
Stops bytes kept before now NoMemory = Unit {0}

-- less than the body came
abbrev pub BodyStops : List ℕ → ℕ → Option (List ℕ) → ℕ → ℕ → WireEnd → Type 0
BodyStops kept end left before now (CutShort rest) = (length kept < end) × (rest ≡ length kept) × IsSpent left
BodyStops kept end left before now ReadFault = (length kept < end) × Rose before now
BodyStops kept end left before now NoMemory = Unit {0}
BodyStops kept end left before now End = ⊥
BodyStops kept end left before now (Bad kind number) = ⊥

-- a head is refused, or there was no memory
abbrev pub HeadRefused : List ℕ → WireEnd → Type 0
HeadRefused head (Bad kind number) = Judged head (refused kind number)
HeadRefused head NoMemory = Unit {0}
HeadRefused head End = ⊥
HeadRefused head ReadFault = ⊥
HeadRefused head (CutShort rest) = ⊥
