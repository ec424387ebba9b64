-- A journal that begins with payloads.
use Rattle.std.proofs.Common.{rules, ◌≡◌, ℕ, suc, ◌+◌, ◌-◌, ◌<◌, ◌≤◌, ◌^◌, List, [], ◌∷◌, ◌++◌, length, drop, set, Ok, refl, sym, ◌∙◌, ap, subst, arith, append_assoc, length-append}
use Rattle.std.specs.Int.{w32, w64, to_le_bytes}
use Rattle.std.proofs.lemmas.List.{drop-drop, drop_at}
use Rattle.std.proofs.Math.Seq.{set-append_seam}
use Rattle.change_journal.specs.Format.{Field, Walk, shut, entry, walk_field, walk, payloads, end_of, entry_bytes}
use Rattle.change_journal.specs.First.{record_bytes, open_bytes, journal_bytes, AreShort, gate_or, first_in, IsFirst}
use Rattle.change_journal.proofs.Walks.{walk_step, walk_skip, walk_shut, behind, field_entry, drop_12, length-behind}

-- one record behind an open gate, and then the rest
walk_record : (g n k : ℕ) (bytes more : List ℕ) → n < 2 ^ 64 → length bytes < 2 ^ 32
    → walk 0 g n (suc k ∷ behind n bytes more) ≡ entry (g + 13) bytes (walk 0 (g + 13 + length bytes) (n + 1) more)
unfolding walk_field
walk_record g n k bytes more small short =
    let ys = behind n bytes more in
    let at : g + 1 + (12 + length bytes) ≡ g + 13 + length bytes = omega arith in
    let end : drop (12 + length bytes) ys ≡ more =
    sym (drop-drop (length bytes) 12 ys) ∙ ap (λ (l : List ℕ). drop (length bytes) l) (drop_12 n bytes more) ∙ drop_at bytes more (length bytes) refl in
    walk_step g n (suc k) ys (omega arith)
    ∙ ap (λ (f : Field). walk_field g f (λ size. walk (12 + size) (g + 1) (n + 1) ys)) (field_entry n bytes more small short)
    ∙ ap (λ (v : Walk). entry (g + 13) bytes v)
    (walk_skip (12 + length bytes) (g + 1) (n + 1) ys (omega (arith, length-behind n bytes more))
    ∙ ap (λ (l : List ℕ). walk 0 (g + 1 + (12 + length bytes)) (n + 1) l) end ∙ ap (λ (i : ℕ). walk 0 i (n + 1) more) at)

-- the walk of such a journal, and the length of its bytes but the last gate
abbrev pub walk_of : ℕ → List (List ℕ) → Walk
walk_of at [] = shut at
walk_of at (bytes ∷ more) = entry (at + 13) bytes (walk_of (at + 13 + length bytes) more)

abbrev pub room_of : List (List ℕ) → ℕ
room_of [] = 0
room_of (bytes ∷ more) = 13 + length bytes + room_of more

pub walk_is_of : (at n : ℕ) (all : List (List ℕ)) → AreShort all → n + length all ≤ 2 ^ 64 → walk 0 at n (journal_bytes n all) ≡ walk_of at all
walk_is_of at n [] short small = walk_shut at n []
walk_is_of at n (bytes ∷ more) short small =
    let flat : journal_bytes n (bytes ∷ more) ≡ 1 ∷ behind n bytes (journal_bytes (n + 1) more) = simp append_assoc in
    ap (λ (l : List ℕ). walk 0 at n l) flat ∙ walk_record at n 0 bytes (journal_bytes (n + 1) more) (omega (arith, small)) short.0
    ∙ ap (λ (w : Walk). entry (at + 13) bytes w) (walk_is_of (at + 13 + length bytes) (n + 1) more short.1 (omega (arith, small)))

pub end_is_of : (at : ℕ) (all : List (List ℕ)) → end_of (walk_of at all) ≡ Ok (at + room_of all)
end_is_of at [] = let e : at ≡ at + 0 = omega arith in ap Ok e
end_is_of at (bytes ∷ more) =
    let e : at + 13 + length bytes + room_of more ≡ at + (13 + length bytes + room_of more) = omega arith in
    end_is_of (at + 13 + length bytes) more ∙ ap Ok e

pub payloads_of : (at : ℕ) (all : List (List ℕ)) → payloads (walk_of at all) ≡ all
payloads_of at [] = refl
payloads_of at (bytes ∷ more) = ap (λ (l : List (List ℕ)). bytes ∷ l) (payloads_of (at + 13 + length bytes) more)

length-le_8 : (n : ℕ) → length (to_le_bytes w64 n) ≡ 8
length-le_8 n = search rules

length-le_4 : (n : ℕ) → length (to_le_bytes w32 n) ≡ 4
length-le_4 n = search rules

long_open : (n : ℕ) (all : List (List ℕ)) → length (open_bytes n all) ≡ room_of all
long_open n [] = refl
long_open n (bytes ∷ more) = omega (
  arith,
  length-append (record_bytes n bytes) (open_bytes (n + 1) more),
  length-append (to_le_bytes w64 n) (to_le_bytes w32 (length bytes) ++ bytes),
  length-append (to_le_bytes w32 (length bytes)) bytes,
  length-le_8 n,
  length-le_4 (length bytes),
  long_open (n + 1) more,
)

pub long_journal : (n : ℕ) (all : List (List ℕ)) → length (journal_bytes n all) ≡ room_of all + 1
long_journal n all = omega (arith, length-append (open_bytes n all) (0 ∷ []), long_open n all)

count_room : (all : List (List ℕ)) → length all ≤ room_of all
count_room [] = omega arith
count_room (bytes ∷ more) = omega (arith, count_room more)

-- one payload more

open_more : (n : ℕ) (all : List (List ℕ)) (bytes : List ℕ) → open_bytes n (all ++ bytes ∷ []) ≡ open_bytes n all ++ 1 ∷ (record_bytes (n + length all) bytes ++ [])
open_more n [] bytes = let e : n ≡ n + 0 = omega arith in ap (λ (i : ℕ). 1 ∷ (record_bytes i bytes ++ [])) e
open_more n (first ∷ all) bytes =
    let e : n + 1 + length all ≡ n + suc (length all) = omega arith in
    ap (λ (l : List ℕ). 1 ∷ (record_bytes n first ++ l)) (open_more (n + 1) all bytes ∙ ap (λ (i : ℕ). open_bytes (n + 1) all ++ 1 ∷ (record_bytes i bytes ++ [])) e)
    ∙ ap (λ (l : List ℕ). 1 ∷ l) (sym (append_assoc (record_bytes n first) (open_bytes (n + 1) all) (1 ∷ (record_bytes (n + length (first ∷ all)) bytes ++ []))))

pub journal_more : (n : ℕ) (all : List (List ℕ)) (bytes : List ℕ)
    → set (journal_bytes n all ++ entry_bytes (n + length all) bytes) (length (open_bytes n all)) 1 ≡ journal_bytes n (all ++ bytes ∷ [])
journal_more n all bytes =
    let front = open_bytes n all in
    let entry_ = entry_bytes (n + length all) bytes in
    let flat : entry_ ≡ (record_bytes (n + length all) bytes ++ []) ++ 0 ∷ [] = simp append_assoc in
    ap (λ (l : List ℕ). set l (length front) 1) (append_assoc front (0 ∷ []) entry_) ∙ set-append_seam front 0 entry_ 1
    ∙ ap (λ (l : List ℕ). front ++ 1 ∷ l) flat ∙ sym (append_assoc front (1 ∷ (record_bytes (n + length all) bytes ++ [])) (0 ∷ []))
    ∙ ap (λ (l : List ℕ). l ++ 0 ∷ []) (sym (open_more n all bytes))

short_more : (all : List (List ℕ)) (bytes : List ℕ) → AreShort all → length bytes < 2 ^ 32 → AreShort (all ++ bytes ∷ [])
short_more [] bytes are short = (short, tt)
short_more (first ∷ all) bytes are short = (are.0, short_more all bytes are.1 short)

-- a journal has a gate
gate_of : (n : ℕ) (all : List (List ℕ)) → gate_or (journal_bytes n all) ≡ journal_bytes n all
gate_of n [] = refl
gate_of n (bytes ∷ more) = refl

pub gate_stands : (bytes : List ℕ) → 0 < length bytes → gate_or bytes ≡ bytes
gate_stands [] some = absurd (omega (arith, some))
gate_stands (gate ∷ bytes) some = refl

-- bytes that are kept of a list of payloads stand for it
pub stands_for : (n : ℕ) (all : List (List ℕ)) (bytes : List ℕ) (count : ℕ) → gate_or bytes ≡ journal_bytes n all → AreShort all → count ≡ length all → n + count ≤ 2 ^ 64
    → (first_in n bytes ≡ record { number = n; payloads = all }) × IsFirst n bytes count
stands_for n all bytes count is short counted small =
    let same : payloads (walk 0 0 n (gate_or bytes)) ≡ all = ap (λ (l : List ℕ). payloads (walk 0 0 n l)) is ∙ ap payloads (walk_is_of 0 n all short (omega (arith, counted, small))) ∙ payloads_of 0 all in (
      ap (λ (l : List (List ℕ)). record { number = n; payloads = l }) same,
      record {
        is = is ∙ ap (λ (l : List (List ℕ)). journal_bytes n l) (sym same);
        short = subst AreShort (sym same) short;
        counted = counted ∙ ap length (sym same);
        small = small;
      },
    )

-- what an addition leaves
pub added_first : (n : ℕ) (bytes more : List ℕ) (count : ℕ) (new : List ℕ) → IsFirst n bytes count → length more < 2 ^ 32 → n + count < 2 ^ 64
    → new ≡ set (gate_or bytes ++ entry_bytes (n + count) more) (length (gate_or bytes) - 1) 1
    → (first_in n new ≡ record { number = n; payloads = (first_in n bytes).payloads ++ more ∷ [] }) × IsFirst n new (count + 1)
added_first n bytes more count new f short small is =
    let all = (first_in n bytes).payloads in
    let at : length (gate_or bytes) - 1 ≡ length (open_bytes n all) = omega (arith, ap length f.is, length-append (open_bytes n all) (0 ∷ [])) in
    let same : new ≡ journal_bytes n (all ++ more ∷ []) =
    is ∙ ap (λ (i : ℕ). set (gate_or bytes ++ entry_bytes (n + count) more) i 1) at
    ∙ ap (λ (l : List ℕ). set (l ++ entry_bytes (n + count) more) (length (open_bytes n all)) 1) f.is
    ∙ ap (λ (i : ℕ). set (journal_bytes n all ++ entry_bytes (n + i) more) (length (open_bytes n all)) 1) f.counted ∙ journal_more n all more in
    stands_for n (all ++ more ∷ []) new (count + 1) (ap gate_or same ∙ gate_of n (all ++ more ∷ [])) (short_more all more f.short short)
    (omega (arith, f.counted, length-append all (more ∷ []))) (omega (arith, small))

pub first_long : (n : ℕ) (bytes : List ℕ) (count : ℕ) → IsFirst n bytes count → count + 1 ≤ length (gate_or bytes)
first_long n bytes count f = let all = (first_in n bytes).payloads in omega (arith, f.counted, ap length f.is, long_journal n all, count_room all)
