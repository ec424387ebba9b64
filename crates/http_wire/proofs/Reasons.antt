-- Why no request was read, from what is kept to all the bytes of a link.
use Rattle.std.proofs.Common.{◌≡◌, ℕ, ◌+◌, ◌<◌, ◌≤◌, List, ◌++◌, length, take, drop, Option, Some, None, IfSome, refl, ap, sym, ◌∙◌, inl, inr, subst, append-nil, arith}
use Rattle.std.specs.Io.{StartsWith}
use Rattle.std.specs.Io.KnownBytes.{prepend_known}
use Rattle.std.proofs.lemmas.List.{take-append-drop, append_assoc, length-drop, length-take-le}
use Rattle.outside_io.specs.Bytes.{IsSpent}
use Rattle.outside_io.specs.Faults.{Rose}
use Rattle.http_wire.specs.Head.{IsHeadAt, IsBlank, head_bytes}
use Rattle.http_wire.specs.Judge.{Parts, Judged, accepted}
use Rattle.http_wire.specs.Stream.{Request, parts_of, IsBad, IsPart, IsInBody}
use Rattle.http_wire.specs.Stops.{Stops, HeadStops, HeadRefused, BodyStops, TakesFront}
use Rattle.http_wire.specs.declared.reading.WireEnd.{WireEnd}
use Rattle.http_wire.specs.declared.reading.WireEnd.TheVariants.{End, CutShort, Bad, ReadFault, NoMemory}
use Rattle.http_wire.proofs.Places.{closes-least}
use Rattle.http_wire.proofs.Requests.{whole_request, refused-append, bad-append, in_body, prefix-length}

earlier : (first before now : ℕ) → first ≤ before → Rose before now → Rose first now
earlier first before now le h = omega arith

-- what is kept is all there is
spent_known : (kept : List ℕ) (left : Option (List ℕ)) (P : List ℕ → Type 0) → IsSpent left → P kept → IfSome (prepend_known kept left) P
spent_known kept None P s p = tt
spent_known kept (Some xs) P s p = subst P (sym (ap (λ v. kept ++ v) s ∙ append-nil kept)) p

-- a fact that stays as more comes
known_append : (kept : List ℕ) (left : Option (List ℕ)) (P : List ℕ → Type 0) → ((more : List ℕ) → P (kept ++ more)) → IfSome (prepend_known kept left) P
known_append kept None P p = tt
known_append kept (Some xs) P p = p xs

pub head_stops : (kept : List ℕ) (left : Option (List ℕ)) (before now : ℕ) (why : WireEnd)
    → HeadStops kept left before now why → Stops (prepend_known kept left) kept before now why
head_stops kept left before now End h = spent_known kept left IsBlank h.1 h.0
head_stops kept left before now (CutShort n) h =
    let some : 0 < n = omega (arith, h.0.some, h.1) in
    (some, spent_known kept left (λ xs. IsPart xs × (n ≡ length xs)) h.2 (inl h.0, h.1))
head_stops kept left before now (Bad kind number) h = known_append kept left (λ xs. IsBad xs kind number) (λ more. bad-append kept more kind number (inl h))
head_stops kept left before now ReadFault (inl b, r) = (inl b, r)
head_stops kept left before now ReadFault (inr b, r) = (inr (inl b), r)
head_stops kept left before now NoMemory h = tt

pub refused_stops : (kept : List ℕ) (left : Option (List ℕ)) (before now start len : ℕ) (why : WireEnd)
    → IsHeadAt kept start len → start + len ≤ length kept → HeadRefused (head_bytes kept start len) why
    → Stops (prepend_known kept left) kept before now why
refused_stops kept left before now start len End head within h = absurd h
refused_stops kept left before now start len (CutShort n) head within h = absurd h
refused_stops kept left before now start len (Bad kind number) head within h =
    known_append kept left (λ xs. IsBad xs kind number)
    (λ more. inr (refused-append kept more kind number (record { start = start; len = len; head = head; within = within; says = h })))
refused_stops kept left before now start len ReadFault head within h = absurd h
refused_stops kept left before now start len NoMemory head within h = tt

pub body_stops : (was kept : List ℕ) (left : Option (List ℕ)) (before now start len : ℕ) (parts : Parts) (size : ℕ) (why : WireEnd)
    → IsHeadAt was start len → start + len ≤ length was → StartsWith kept was → Judged (head_bytes was start len) (accepted parts size)
    → BodyStops kept (start + len + size) left before now why → Stops (prepend_known kept left) kept before now why
body_stops was kept left before now start len parts size End head within front says h = absurd h
body_stops was kept left before now start len parts size (CutShort n) head within front says h =
    let body : IsInBody kept = in_body was kept start len parts size head within front says h.0 in
    let two : 2 ≤ len = closes-least (drop start was) len head.closes in
    let some : 0 < n = omega (arith, prefix-length was kept front, h.1) in
    (some, spent_known kept left (λ xs. IsPart xs × (n ≡ length xs)) h.2 (inr body, h.1))
body_stops was kept left before now start len parts size (Bad kind number) head within front says h = absurd h
body_stops was kept left before now start len parts size ReadFault head within front says h =
    (inr (inr (in_body was kept start len parts size head within front says h.0)), h.1)
body_stops was kept left before now start len parts size NoMemory head within front says h = tt

-- the front and the rest
prepend-split : (kept : List ℕ) (n : ℕ) (left : Option (List ℕ)) → prepend_known kept left ≡ prepend_known (take n kept) (prepend_known (drop n kept) left)
prepend-split kept n None = refl
prepend-split kept n (Some xs) = ap (λ (v : List ℕ). Some v) (ap (λ v. v ++ xs) (sym (take-append-drop n kept)) ∙ append_assoc (take n kept) (drop n kept) xs)

pub takes_front : (was kept : List ℕ) (left : Option (List ℕ)) (start len : ℕ) (q : Request)
    → IsHeadAt was start len → start + len ≤ length was → StartsWith kept was
    → Judged (head_bytes was start len) (accepted (parts_of q) (length q.body))
    → start + len + length q.body ≤ length kept
    → q.body ≡ take (length q.body) (drop (start + len) kept)
    → TakesFront (prepend_known kept left) q (prepend_known (drop (start + len + length q.body) kept) left)
takes_front was kept left start len q head within front says enough body = (
  take (start + len + length q.body) kept,
  prepend-split kept (start + len + length q.body) left,
  whole_request was kept start len q head within front says enough body,
)

-- the same with the body's size
pub takes_sized : (was kept : List ℕ) (left : Option (List ℕ)) (start len size : ℕ) (parts : Parts) (body rest : List ℕ)
    → IsHeadAt was start len → start + len ≤ length was → StartsWith kept was
    → Judged (head_bytes was start len) (accepted parts size)
    → start + len + size ≤ length kept
    → body ≡ take size (drop (start + len) kept)
    → rest ≡ drop (start + len + size) kept
    → TakesFront (prepend_known kept left) (record { method = parts.method; target = parts.target; body = body; closes = parts.closes }) (prepend_known rest left)
takes_sized was kept left start len size parts body rest head within front says enough b r =
    let fits : size ≤ length (drop (start + len) kept) = omega (arith, length-drop (start + len) kept) in
    let n : length body ≡ size = ap length b ∙ length-take-le size (drop (start + len) kept) fits in
    let q : Request = record { method = parts.method; target = parts.target; body = body; closes = parts.closes } in
    let J : ℕ → Type 0 = λ v. Judged (head_bytes was start len) (accepted parts v) in
    let B : ℕ → Type 0 = λ v. body ≡ take v (drop (start + len) kept) in
    let R : ℕ → Type 0 = λ v. rest ≡ drop (start + len + v) kept in
    let T : List ℕ → Type 0 = λ v. TakesFront (prepend_known kept left) q (prepend_known v left) in
    let enough' : start + len + length body ≤ length kept = omega arith in
    subst T (sym (subst R (sym n) r))
    (takes_front was kept left start len q head within front (subst J (sym n) says) enough' (subst B (sym n) b))

-- a count that rose since later rose since earlier
pub earlier_body : (kept : List ℕ) (end : ℕ) (left : Option (List ℕ)) (first before now : ℕ) (why : WireEnd)
    → first ≤ before → BodyStops kept end left before now why → BodyStops kept end left first now why
earlier_body kept end left first before now End le h = h
earlier_body kept end left first before now (CutShort n) le h = h
earlier_body kept end left first before now (Bad kind number) le h = h
earlier_body kept end left first before now ReadFault le h = (h.0, earlier first before now le h.1)
earlier_body kept end left first before now NoMemory le h = h
