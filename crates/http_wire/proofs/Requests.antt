-- From the bytes that are kept to the requests of a link.
use Rattle.std.proofs.Common.{◌≡◌, ℕ, ◌+◌, ◌<◌, ◌≤◌, List, ◌++◌, length, take, drop, ap, sym, ◌∙◌, arith, inl, inr}
use Rattle.std.specs.Io.{StartsWith}
use Rattle.std.proofs.lemmas.Grind.{common_steps}
use Rattle.std.proofs.lemmas.List.{drop-take, take-append-drop, take-append-le, length-take, length-take-le}
use Rattle.http_wire.specs.Head.{IsHeadAt, head_bytes}
use Rattle.http_wire.specs.Judge.{Parts, Judged, accepted}
use Rattle.http_wire.specs.Stream.{Request, parts_of, IsRequest, IsRefused, IsBad, IsInBody}
use Rattle.http_wire.specs.declared.HeadKind.{HeadKind}
use Rattle.http_wire.proofs.Places.{Agree, head-agree, agree-append, long-append}

-- a head's bytes are the same in any text that has the same bytes there
pub head_bytes-agree : (a b : List ℕ) (s n : ℕ) → s + n ≤ length a → s + n ≤ length b → take (s + n) a ≡ take (s + n) b
    → head_bytes a s n ≡ head_bytes b s n
head_bytes-agree a b s n ha hb e = sym (drop-take s n a) ∙ ap (λ v. drop s v) e ∙ drop-take s n b

pub agree-take : (a b : List ℕ) (n : ℕ) → n ≤ length a → n ≤ length b → take n a ≡ take n b → Agree a b n
agree-take a b n ha hb e = record { each = λ k lt. grind (arith, common_steps, e) }

-- the front of a front
pub take-of-take : (a : List ℕ) (m n : ℕ) → m ≤ n → n ≤ length a → take m (take n a) ≡ take m a
take-of-take a m n h le =
    let l : m ≤ length (take n a) = omega (arith, length-take-le n a le) in
    sym (take-append-le m (take n a) (drop n a) l) ∙ ap (λ v. take m v) (take-append-drop n a)

-- what is kept begins with what was kept
pub take-prefix : (a b : List ℕ) (n : ℕ) → StartsWith b a → n ≤ length a → take n a ≡ take n b
take-prefix a b n p h =
    let e : a ++ drop (length a) b ≡ b = rw p at (take-append-drop (length a) b) in
    sym (take-append-le n a (drop (length a) b) h) ∙ ap (λ v. take n v) e

-- what was kept and more are kept
pub prefix-length : (a b : List ℕ) → StartsWith b a → length a ≤ length b
prefix-length a b p =
    let e : length (take (length a) b) ≡ length a = ap length p in
    omega (arith, e, length-take (length a) b)

-- the first bytes that are kept are a whole request
pub whole_request : (was kept : List ℕ) (start len : ℕ) (q : Request)
    → IsHeadAt was start len → start + len ≤ length was → StartsWith kept was
    → Judged (head_bytes was start len) (accepted (parts_of q) (length q.body))
    → start + len + length q.body ≤ length kept
    → q.body ≡ take (length q.body) (drop (start + len) kept)
    → IsRequest (take (start + len + length q.body) kept) q
whole_request was kept start len q head within front says enough body =
    let size : ℕ = length q.body in
    let bytes : List ℕ = take (start + len + length q.body) kept in
    let n : length (take (start + len + length q.body) kept) ≡ start + len + length q.body = length-take-le (start + len + length q.body) kept enough in
    let w : start + len ≤ length (take (start + len + length q.body) kept) = omega arith in
    let le : start + len ≤ start + len + length q.body = omega arith in
    let e : take (start + len) was ≡ take (start + len) (take (start + len + length q.body) kept) =
    take-prefix was kept (start + len) front within ∙ sym (take-of-take kept (start + len) (start + len + length q.body) le enough) in
    record {
      start = start;
      len = len;
      head = head-agree was bytes start len (agree-take was (take (start + len + length q.body) kept) (start + len) within w e) head;
      within = w;
      says = rw (← head_bytes-agree was (take (start + len + length q.body) kept) start len within w e) says;
      body = body ∙ sym (drop-take (start + len) (length q.body) kept);
    }

-- no request can follow what is kept, and none can follow where more comes
pub refused-append : (kept more : List ℕ) (kind : HeadKind) (number : ℕ) → IsRefused kept kind number → IsRefused (kept ++ more) kind number
refused-append kept more kind number r =
    let w : r.start + r.len ≤ length (kept ++ more) = grind (arith, common_steps, r.within) in
    let e : take (r.start + r.len) kept ≡ take (r.start + r.len) (kept ++ more) = sym (take-append-le (r.start + r.len) kept more r.within) in
    record {
      start = r.start;
      len = r.len;
      head = head-agree kept (kept ++ more) r.start r.len (agree-append kept more (r.start + r.len) r.within) r.head;
      within = w;
      says = rw (← head_bytes-agree kept (kept ++ more) r.start r.len r.within w e) r.says;
    }

pub bad-append : (kept more : List ℕ) (kind : HeadKind) (number : ℕ) → IsBad kept kind number → IsBad (kept ++ more) kind number
bad-append kept more kind number (inl (long, k, n)) = inl (long-append kept more long, k, n)
bad-append kept more kind number (inr r) = inr (refused-append kept more kind number r)

-- a head that is there stays where it is as more comes
pub in_body : (was kept : List ℕ) (start len : ℕ) (parts : Parts) (size : ℕ)
    → IsHeadAt was start len → start + len ≤ length was → StartsWith kept was
    → Judged (head_bytes was start len) (accepted parts size) → length kept < start + len + size → IsInBody kept
in_body was kept start len parts size head within front says short =
    let le : length was ≤ length kept = prefix-length was kept front in
    let w : start + len ≤ length kept = omega arith in
    let e : take (start + len) was ≡ take (start + len) kept = take-prefix was kept (start + len) front within in
    record {
      start = start;
      len = len;
      parts = parts;
      size = size;
      head = head-agree was kept start len (agree-take was kept (start + len) within w e) head;
      within = w;
      says = rw (← head_bytes-agree was kept start len within w e) says;
      short = short;
    }
