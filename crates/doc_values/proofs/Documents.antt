-- Facts on documents.
use Rattle.std.proofs.Common.{◌≡◌, ℕ, ◌≤◌, List, Bool, true, false, Option, Some, None, Ok, Ordering, Less, Equal, Greater, cond, refl, sym, ap, ◌∙◌, arith}
use Rattle.std.proofs.lemmas.Bool.{or_parts}
use Rattle.std.proofs.lemmas.Slice.Eq.{bytes_eq-Decides}
use Rattle.std.proofs.lemmas.Str.{IsUtf8-from_is_utf8, is_utf8-from_IsUtf8}
use Rattle.std.specs.Ordering.{match_ordering}
use Rattle.std.specs.Str.{IsUtf8, is_utf8, bytes_eq}
use Rattle.serde_json.specs.Data.{Data, null, boolean, number, string, array, object, Members, no_members, member, put, depth, members_depth}
use Rattle.serde_json.specs.Read.{read}
use Rattle.serde_json.specs.Written.{has_float, members_have_float, compact_text}
use Rattle.doc_values.specs.Walk.{members_in, walk_of_members, first_broken, document_of}
use Rattle.search_base.specs.Trying.{◌>>◌}
use Rattle.doc_values.specs.declared.document.DocumentRefusal.{DocumentRefusal}
use Rattle.doc_values.proofs.Broken.{members_have_float-from_walk, walk_of_members_none}
use Rattle.doc_values.specs.Whole.{IsDocument}
use Rattle.doc_values.specs.Stored.{document_at, at_value, put_all, merge}

unbroken_at : (ms : Members) (o : Option DocumentRefusal) → (o >> Ok (object ms)) ≡ Ok (object ms) → o ≡ None
unbroken_at ms None h = refl
unbroken_at ms (Some refusal) h = cc

pub unbroken : (ms : Members) → document_of (object ms) ≡ Ok (object ms) → first_broken (walk_of_members None ms) ≡ None
unbroken ms h = unbroken_at ms _ h

pub no_float : (d : Data) → IsDocument d → has_float d ≡ false
no_float null h = refl
no_float (boolean b) h = refl
no_float (number n) h = absurd (let e = h.whole in cc)
no_float (string s) h = refl
no_float (array ds) h = absurd (let e = h.whole in cc)
no_float (object ms) h = members_have_float-from_walk None ms (unbroken ms h.whole)

-- ---- the text of a document

same_bytes : (a b : List ℕ) (c : Bool) → bytes_eq a b ≡ c → a ≡ b → c ≡ true
same_bytes a b true e same = refl
same_bytes a b false e same = sym e ∙ (bytes_eq-Decides a b).1 same

pub at_own_text : (d : Data) (text : List ℕ) → IsDocument d → text ≡ compact_text d → IsUtf8 text → read text ≡ Some d → document_at text ≡ Some d
at_own_text d text is own utf8 reads = rw (is_utf8-from_IsUtf8 text utf8, reads, is.whole, same_bytes (compact_text d) text _ refl (sym own))

pub at_no_json : (text : List ℕ) → (IsUtf8 text → read text ≡ None) → None ≡ document_at text
at_no_json text none =
    elim (is_utf8 text) as (λ b. is_utf8 text ≡ b → None ≡ cond b (at_value text (read text)) None) [
      | true ↦ λ e. ap (at_value text) (sym (none (IsUtf8-from_is_utf8 text e)))
      | false ↦ λ e. refl
    ] refl

other_bytes : (a b : List ℕ) (c : Bool) → bytes_eq a b ≡ c → (a ≡ b → ⊥) → c ≡ false
other_bytes a b true e other = absurd (other ((bytes_eq-Decides a b).0 e))
other_bytes a b false e other = refl

pub at_other_text : (d : Data) (text : List ℕ) → IsDocument d → (compact_text d ≡ text → ⊥) → IsUtf8 text → read text ≡ Some d → None ≡ document_at text
at_other_text d text is other utf8 reads = rw (is_utf8-from_IsUtf8 text utf8, reads, is.whole, other_bytes (compact_text d) text _ refl other)

-- ---- documents put together

-- whole numbers alone, and no deeper than n
record AreSmall (n : ℕ) (ms : Members) : Type 0 where
  whole : members_have_float ms ≡ false
  shallow : members_depth ms ≤ n

small-match_ordering : (n : ℕ) (o : Ordering) (a b c : Members) → AreSmall n a → AreSmall n b → AreSmall n c → AreSmall n (match_ordering o a b c)
small-match_ordering n Less a b c p q r = p
small-match_ordering n Equal a b c p q r = q
small-match_ordering n Greater a b c p q r = r

small-member : (n : ℕ) (k : List ℕ) (d : Data) (ms : Members) → has_float d ≡ false → depth d ≤ n → AreSmall n ms → AreSmall n (member k d ms)
small-member n k d ms h s r = record { whole = rw h r.whole; shallow = let t = r.shallow in omega arith }

small-put : (n : ℕ) (k : List ℕ) (d : Data) (ms : Members) → has_float d ≡ false → depth d ≤ n → AreSmall n ms → AreSmall n (put k d ms)
small-put n k d no_members h s r = small-member n k d no_members h s r
small-put n k d (member l e ms) h s r =
    let parts = or_parts (has_float e) _ r.whole in
    let t = r.shallow in
    let rest : AreSmall n ms = record { whole = parts.1; shallow = omega arith } in
    small-match_ordering n _ (member k d (member l e ms)) (member l d ms) (member l e (put k d ms))
    (small-member n k d (member l e ms) h s r) (small-member n l d ms h s rest) (small-member n l e (put k d ms) parts.0 (omega arith) (small-put n k d ms h s rest))

small-put_all : (n : ℕ) (ns ms : Members) → AreSmall n ns → AreSmall n ms → AreSmall n (put_all ns ms)
small-put_all n no_members ms p q = q
small-put_all n (member k d ns) ms p q =
    let parts = or_parts (has_float d) _ p.whole in
    let t = p.shallow in
    let rest : AreSmall n ns = record { whole = parts.1; shallow = omega arith } in
    small-put_all n ns (put k d ms) rest (small-put n k d ms parts.0 (omega arith) q)

small-document : (d : Data) → IsDocument d → AreSmall 126 (members_in d)
small-document null h = record { whole = refl; shallow = omega arith }
small-document (boolean b) h = record { whole = refl; shallow = omega arith }
small-document (number n) h = record { whole = refl; shallow = omega arith }
small-document (string s) h = record { whole = refl; shallow = omega arith }
small-document (array ds) h = record { whole = refl; shallow = omega arith }
small-document (object ms) h = record { whole = members_have_float-from_walk None ms (unbroken ms h.whole); shallow = let t = h.shallow in omega arith }

document-from_small : (ms : Members) → AreSmall 126 ms → IsDocument (object ms)
document-from_small ms h = record { whole = ap (λ o. o >> Ok (object ms)) (walk_of_members_none None ms h.whole); shallow = let t = h.shallow in omega arith }

pub merge_is_document : (old new : Data) → IsDocument old → IsDocument new → IsDocument (merge old new)
merge_is_document old new p q = document-from_small _ (small-put_all 126 (members_in new) (members_in old) (small-document new q) (small-document old p))
