-- A request that is taken is within the limits.
use Rattle.std.proofs.Common.{◌≡◌, ℕ, ◌≤◌, Bool, true, false, cond, nat_lt, List, [], ◌∷◌, ◌++◌, length, drop, map, Option, ◌==◌, ◌||◌, refl, ap, arith, inl, inr}
use Rattle.std.specs.List.{list_any}
use Rattle.std.proofs.lemmas.Bool.Decides.{nat_tests}
use Rattle.std.proofs.lemmas.Grind.{common_steps}
use Rattle.std.proofs.lemmas.List.{length-take-le, length-drop}
use Rattle.httparse.specs.Grammar.{RequestHead, print_request}
use Rattle.http_wire.specs.Judge.{Parts, Verdict, Pair, refused, accepted, with_length, by_lengths, most_body, needs_length, is_digits, is_coding, is_close, lengths, Judged, Says}
use Rattle.http_wire.specs.Head.{head_bytes}
use Rattle.http_wire.specs.Stream.{Request, IsRequest, parts_of, IsWithinLimits}
use Rattle.http_wire.specs.Stops.{TakesFront}
use Rattle.httparse.specs.Spans.{name_and_value}
use Rattle.http_wire.specs.declared.HeadKind.TheVariants.{Coded}
use Rattle.http_wire.specs.declared.HeadKind.{HeadKind}
use Rattle.std.specs.Str.Parse.{digits_value}

-- what an accepted head was accepted as
pub record WithinParts (p parts : Parts) (n : ℕ) : Type 0 where
  pub same : p ≡ parts
  pub fits : n ≤ most_body

not_above : (v : ℕ) → nat_lt most_body v ≡ false → v ≤ most_body
not_above v h = grind (arith, nat_tests)

by_test : (b : Bool) (kind : HeadKind) (k v n : ℕ) (p parts : Parts) → (b ≡ false → v ≤ most_body)
    → accepted p n ≡ cond b (refused kind k) (accepted parts v) → WithinParts p parts n
by_test true kind k v n p parts fits e = absurd (cc)
by_test false kind k v n p parts fits e =
    let same : n ≡ v = cc in
    let le : v ≤ most_body = fits refl in
    record { same = cc; fits = omega arith }

past_test : (b : Bool) (kind : HeadKind) (k n : ℕ) (p : Parts) (v : Verdict) → accepted p n ≡ cond b (refused kind k) v → accepted p n ≡ v
past_test true kind k n p v e = absurd (cc)
past_test false kind k n p v e = e

past_other : (b : Bool) (kind : HeadKind) (k n : ℕ) (p : Parts) (v : Verdict) → accepted p n ≡ cond b v (refused kind k) → accepted p n ≡ v
past_other true kind k n p v e = e
past_other false kind k n p v e = absurd (cc)

within_lengths : (p parts : Parts) (n k : ℕ) (values : List (List ℕ)) → accepted p n ≡ by_lengths parts k values → WithinParts p parts n
within_lengths p parts n k [] e = by_test (needs_length parts.method) _ k 0 n p parts (λ _. omega arith) e
within_lengths p parts n k (text ∷ []) e =
    by_test (nat_lt most_body (digits_value 10 text)) _ _ (digits_value 10 text) n p parts (not_above (digits_value 10 text))
    (past_other (is_digits text) _ k n p (with_length parts (digits_value 10 text)) e)
within_lengths p parts n k (text ∷ other ∷ more) e = absurd (cc)

target_fits : (bytes : List ℕ) (h : RequestHead) (rest : List ℕ) → bytes ≡ print_request h ++ rest → length h.target ≤ length bytes
unfolding print_request
target_fits bytes h rest e = let n = ap length e in grind (arith, common_steps, n)

says_limits : (bytes : List ℕ) (p : Parts) (n : ℕ) → Says bytes (accepted p n) → (length p.target ≤ length bytes) × (n ≤ most_body)
says_limits bytes p n (inl (h, f, e)) =
    let pairs : List Pair = map name_and_value h.fields in
    let parts : Parts = record { method = h.method; target = h.target; closes = (h.minor == 0) || list_any is_close (map name_and_value h.fields) } in
    let w : WithinParts p parts n = within_lengths p parts n (length bytes) (lengths (map name_and_value h.fields))
    (past_test (list_any is_coding (map name_and_value h.fields)) Coded (length bytes) n p (by_lengths parts (length bytes) (lengths (map name_and_value h.fields))) e) in
    let t : p.target ≡ h.target = ap (λ (v : Parts). v.target) w.same in
    let s : length p.target ≡ length h.target = ap length t in
    (omega (arith, s, target_fits bytes h f.rest f.reads.1), w.fits)
says_limits bytes p n (inr (none, e)) = absurd (cc)

judged_limits : (bytes : List ℕ) (p : Parts) (n : ℕ) → Judged bytes (accepted p n) → (length p.target ≤ length bytes) × (n ≤ most_body)
judged_limits bytes p n (inl (many, e)) = absurd (cc)
judged_limits bytes p n (inr (few, says)) = says_limits bytes p n says

pub request_limits : (front : List ℕ) (q : Request) → IsRequest front q → IsWithinLimits q
request_limits front q r =
    let here : r.len ≤ length (drop r.start front) = omega (arith, r.within, length-drop r.start front) in
    let size : length (head_bytes front r.start r.len) ≡ r.len = length-take-le r.len (drop r.start front) here in
    let p : (length q.target ≤ length (head_bytes front r.start r.len)) × (length q.body ≤ most_body) =
    judged_limits (head_bytes front r.start r.len) (parts_of q) (length q.body) r.says in
    record { target = omega (arith, size, p.0, r.head.fits); body = p.1 }

pub takes_limits : (before : Option (List ℕ)) (q : Request) (after : Option (List ℕ)) → TakesFront before q after → IsWithinLimits q
takes_limits before q after t = request_limits t.0 q t.2
