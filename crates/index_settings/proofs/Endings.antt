-- Texts with an ending.
use Rattle.std.proofs.Common.{◌≡◌, ◌≢◌, ℕ, ◌+◌, ◌-◌, ◌<◌, List, ◌++◌, length, take, drop, Bool, true, false, ◌&&◌, Some, None, sym, ap, ◌∙◌, arith, length-append}
use Rattle.std.proofs.lemmas.Bool.{and_parts, and_from, cond-true, cond-false, false_from_ne_true, lt-ltb}
use Rattle.std.proofs.lemmas.List.{take-append-drop}
use Rattle.std.proofs.lemmas.Slice.Eq.{bytes_eq-Decides}
use Rattle.std.proofs.Math.Seq.{drop-append_seam, take-append_seam}
use Rattle.std.specs.Prelude.{nat_lt}
use Rattle.std.specs.Str.{bytes_eq}
use Rattle.index_settings.specs.Rules.{before_ending}

-- the text ends so, and something stands before
abbrev ends_behind : List ℕ → List ℕ → Bool
ends_behind ending text = nat_lt (length ending) (length text) && bytes_eq (drop (length text - length ending) text) ending

abbrev start_of : List ℕ → List ℕ → List ℕ
start_of ending text = take (length text - length ending) text

pub before_none : (ending text : List ℕ) → ((front : List ℕ) → text ≢ front ++ ending) → before_ending ending text ≡ None
before_none ending text lacks =
    let n = length text - length ending in
    let ends : bytes_eq (drop n text) ending ≡ true → ⊥ =
    λ (e : bytes_eq (drop n text) ending ≡ true). lacks (take n text) (sym (take-append-drop n text) ∙ ap (λ end. take n text ++ end) ((bytes_eq-Decides (drop n text) ending).0 e)) in
    let not_so : ends_behind ending text ≡ false =
    false_from_ne_true (ends_behind ending text) (λ e. ends (and_parts (nat_lt (length ending) (length text)) (bytes_eq (drop n text) ending) e).1) in
    cond-false (ends_behind ending text) (Some (start_of ending text)) None not_so

pub before_some : (ending text front : List ℕ) → text ≡ front ++ ending → 0 < length front → before_ending ending text ≡ Some front
before_some ending text front is some =
    let total : length text ≡ length front + length ending = ap length is ∙ length-append front ending in
    let n : length text - length ending ≡ length front = omega arith in
    let end : drop (length text - length ending) text ≡ ending = rw (n, is) (drop-append_seam front ending) in
    let start : take (length text - length ending) text ≡ front = rw (n, is) (take-append_seam front ending) in
    let longer : length ending < length text = omega arith in
    let so : ends_behind ending text ≡ true =
    and_from (nat_lt (length ending) (length text)) (bytes_eq (drop (length text - length ending) text) ending) (lt-ltb (length ending) (length text) longer) ((bytes_eq-Decides (drop (length text - length ending) text) ending).1 end) in
    cond-true (ends_behind ending text) (Some (start_of ending text)) None so ∙ ap (λ s. Some s) start
