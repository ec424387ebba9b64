-- What a link tells after one piece and another.
use Rattle.std.proofs.Common.{◌≡◌, ℕ, ◌+◌, ◌≤◌, List, ◌++◌, length, take, drop, Option, Some, None, refl, ap, sym, ◌∙◌, arith}
use Rattle.std.specs.Io.KnownBytes.{append_known}
use Rattle.std.proofs.lemmas.List.{length-append, take-append-drop, drop-take, append_assoc}
use Rattle.std.proofs.Math.Seq.{take-append-add}
use Rattle.http_wire.specs.Reply.{WrotePart}
use Rattle.http_wire.proofs.Requests.{take-of-take}

pub take-add : (xs : List ℕ) (a n : ℕ) → a + n ≤ length xs → take (a + n) xs ≡ take a xs ++ take n (drop a xs)
take-add xs a n h =
    let le : a ≤ a + n = omega arith in
    sym (take-append-drop a (take (a + n) xs)) ∙ ap (λ v. v ++ drop a (take (a + n) xs)) (take-of-take xs a (a + n) le h)
    ∙ ap (λ v. take a xs ++ v) (drop-take a n xs)

pub append_known-append : (known : Option (List ℕ)) (a b : List ℕ) → append_known (append_known known a) b ≡ append_known known (a ++ b)
append_known-append None a b = refl
append_known-append (Some xs) a b = ap (λ (v : List ℕ). Some v) (append_assoc xs a b)

-- a piece is written further
pub known_more : (first before after : Option (List ℕ)) (piece : List ℕ) (a n : ℕ)
    → before ≡ append_known first (take a piece) → after ≡ append_known before (take n (drop a piece)) → a + n ≤ length piece
    → after ≡ append_known first (take (a + n) piece)
known_more first before after piece a n e f h =
    f ∙ ap (λ v. append_known v (take n (drop a piece))) e ∙ append_known-append first (take a piece) (take n (drop a piece))
    ∙ ap (λ v. append_known first v) (sym (take-add piece a n h))

-- the first piece was written whole, and a part of the second
pub part_after : (first before after : Option (List ℕ)) (front back : List ℕ)
    → before ≡ append_known first front → WrotePart before after back → WrotePart first after (front ++ back)
part_after first before after front back e (n, less, f) = (
  length front + n,
  omega (arith, length-append front back),
  f ∙ ap (λ v. append_known v (take n back)) e ∙ append_known-append first front (take n back)
      ∙ ap (λ v. append_known first v) (sym (take-append-add front back n)),
)
