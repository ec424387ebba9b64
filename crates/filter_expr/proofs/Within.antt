-- The scan within the limit reads the pieces of each text, up to the end or up to the one that is too deep.
use Rattle.std.proofs.Common.{◌≡◌, inl, inr, ℕ, suc, ◌+◌, ◌-◌, List, [], ◌∷◌, ◌++◌, length, Bool, true, false, Option, Some, None, Ok, Err, refl, sym, ap, subst, ◌∙◌, append_assoc, append-nil, cond, arith}
use Rattle.std.specs.Prelude.{is_some, nat_eq, nat_lt}
use Rattle.std.proofs.lemmas.Bool.{eq-eqb, and_parts}
use Rattle.filter_machine.specs.Machine.{done, Machine, at as machine_at, step, run, new_machine, opened}
use Rattle.filter_expr.specs.Limit.{too_deep_at, stepped, outcome_at, depths, accepted_at, ended_at, reading_of}
use Rattle.filter_expr.specs.Faults.{most_depth}
use Rattle.filter_machine.specs.Text.{is_letter, are_letters, word_token, Item, byte, escaped, kept, is_item, texts, values, are_items, Piece, blank, word, quoted, sign, pair, alone, spelled, token_in, spell, tokens, IsPiece, starts_no, Stops, AreCut, IsFilter}
use Rattle.filter_machine.specs.Scan.{gap, in_word, in_quote, after, Scan, with, takes}
use Rattle.filter_machine.specs.Grammar.{Ors}
use Rattle.filter_expr.specs.Faults.{IsWithin}
use Rattle.filter_machine.specs.declared.token.Token.{Token}
use Rattle.filter_machine.specs.declared.token.Token.TheVariants.{Text, Compare}
use Rattle.filter_machine.specs.declared.token.Comparison.{Comparison}
use Rattle.filter_machine.specs.declared.token.Comparison.TheVariants.{Equal, Above, AtLeast, Below, AtMost}
use Rattle.filter_machine.proofs.Taking.{takes_text, takes_compare, fits_word}
use Rattle.filter_machine.proofs.Complete.{filter_level, filter_run, filter_accepted}
use Rattle.filter_expr.proofs.Traces.{filter_trace}
use Rattle.filter_machine.proofs.PieceRuns.{some_same, one_step, letter_is, special_parts, slash_apart, run_parts}
use Rattle.filter_expr.proofs.Depths.{Fits, AreShallow, next_fits}
use Rattle.filter_machine.proofs.Readings.{filter_reading}

-- From a place in a text, the scan comes to the rest and the machine `n`.
pub record Goes (text : List ℕ) (at : ℕ) (s : Scan) (rest : List ℕ) (n : Machine) : Type 0 where
  pub next : ℕ
  pub far : next + length rest ≡ at + length text
  pub same : outcome_at text at s ≡ outcome_at rest next (with gap n)

stepped_ok : (at began : ℕ) (o : Option Machine) (n : Machine) → o ≡ Some n → Fits n → stepped at began o ≡ Ok n
stepped_ok at began None n e now = absurd (let wrong = e in cc)
stepped_ok at began (Some m) n e now = by_limit (nat_lt most_depth (opened m)) refl
  where
    by_limit : (c : Bool) → nat_lt most_depth (opened m) ≡ c → cond c (Err (too_deep_at began)) (Ok m) ≡ Ok n
    by_limit false is = let same : m ≡ n = cc in ap Ok same
    by_limit true is = absurd (let same : n ≡ m = cc in let low : Fits m = subst Fits same now in grind (arith, is, low))

quote_goes : (q : ℕ) (is : List Item) (w rest : List ℕ) (at : ℕ) (m n : Machine) → nat_eq 92 q ≡ false → are_items q is ≡ true → step m (Text (w ++ values is)) ≡ Some n → Fits n
    → Goes (texts is ++ q ∷ rest) at (with (in_quote q w) m) rest n
quote_goes q [] w rest at m n apart good e now = record {
  next = suc at;
  far = omega arith;
  same = rw (eq-eqb q q refl, stepped_ok at at (step m (Text w)) n (ap (λ u. step m (Text u)) (sym (append-nil w)) ∙ e) now) refl;
}
quote_goes q (byte b ∷ is) w rest at m n apart good e now =
    let both = and_parts (is_item q (byte b)) (are_items q is) good in
    let other = special_parts q b both.0 in
    let h = quote_goes q is (w ++ b ∷ []) rest (suc at) m n apart both.1 (ap (λ u. step m (Text u)) (append_assoc w (b ∷ []) (values is)) ∙ e) now in
    let goes_so : outcome_at (texts (byte b ∷ is) ++ q ∷ rest) at (with (in_quote q w) m) ≡ outcome_at (texts is ++ q ∷ rest) (suc at) (with (in_quote q (w ++ b ∷ [])) m) = rw (other.0, other.1) refl in
    record { next = h.next; far = let e = h.far in omega arith; same = goes_so ∙ h.same }
quote_goes q (escaped b ∷ is) w rest at m n apart good e now =
    let both = and_parts (is_item q (escaped b)) (are_items q is) good in
    let h = quote_goes q is (w ++ b ∷ []) rest (suc (suc at)) m n apart both.1 (ap (λ u. step m (Text u)) (append_assoc w (b ∷ []) (values is)) ∙ e) now in
    let goes_so : outcome_at (texts (escaped b ∷ is) ++ q ∷ rest) at (with (in_quote q w) m) ≡ outcome_at (texts is ++ q ∷ rest) (suc (suc at)) (with (in_quote q (w ++ b ∷ [])) m) = rw (apart, both.0) refl in
    record { next = h.next; far = let e = h.far in omega arith; same = goes_so ∙ h.same }
quote_goes q (kept b ∷ is) w rest at m n apart good e now =
    let both = and_parts (is_item q (kept b)) (are_items q is) good in
    let other = special_parts q b both.0 in
    let h = quote_goes q is (w ++ 92 ∷ b ∷ []) rest (suc (suc at)) m n apart both.1 (ap (λ u. step m (Text u)) (append_assoc w (92 ∷ b ∷ []) (values is)) ∙ e) now in
    let goes_so : outcome_at (texts (kept b ∷ is) ++ q ∷ rest) at (with (in_quote q w) m) ≡ outcome_at (texts is ++ q ∷ rest) (suc (suc at)) (with (in_quote q (w ++ 92 ∷ b ∷ [])) m) = rw (apart, other.0, other.1) refl in
    record { next = h.next; far = let e = h.far in omega arith; same = goes_so ∙ h.same }

word_end : (u rest : List ℕ) (at : ℕ) (m n : Machine) → starts_no is_letter rest → step m (word_token u) ≡ Some n → Fits n → Goes rest at (with (in_word u) m) rest n
word_end u [] at m n stops e now = record { next = at; far = refl; same = stepped_ok at (at - length u) (step m (word_token u)) n e now }
word_end u (b ∷ rest) at m n stops e now = record { next = at; far = refl; same = rw (stops, stepped_ok at (at - length u) (step m (word_token u)) n e now) refl }

word_goes : (v u rest : List ℕ) (at : ℕ) (m n : Machine) → are_letters v ≡ true → starts_no is_letter rest → step m (word_token (u ++ v)) ≡ Some n → Fits n
    → Goes (v ++ rest) at (with (in_word u) m) rest n
word_goes [] u rest at m n good stops e now = word_end u rest at m n stops (ap (λ w. step m (word_token w)) (sym (append-nil u)) ∙ e) now
word_goes (b ∷ v) u rest at m n good stops e now =
    let both = and_parts (is_letter b) (are_letters v) good in
    let e' : step m (word_token ((u ++ b ∷ []) ++ v)) ≡ Some n = ap (λ w. step m (word_token w)) (append_assoc u (b ∷ []) v) ∙ e in
    let h = word_goes v (u ++ b ∷ []) rest (suc at) m n both.1 stops e' now in
    let goes_so : outcome_at ((b ∷ v) ++ rest) at (with (in_word u) m) ≡ outcome_at (v ++ rest) (suc at) (with (in_word (u ++ b ∷ [])) m) = rw (both.0, fits_word m.state m.level m.outer (u ++ b ∷ []) v (ap is_some e')) refl in
    record { next = h.next; far = let e = h.far in omega arith; same = goes_so ∙ h.same }

alone_goes : (c : Comparison) (rest : List ℕ) (at : ℕ) (m n : Machine) (k : Comparison) → starts_no (λ x. nat_eq x 61) rest → step m (Compare c) ≡ Some n → Fits n
    → Goes rest at (with (after k (Some c)) m) rest n
alone_goes c [] at m n k stops e now = record { next = at; far = refl; same = stepped_ok at at (step m (Compare c)) n e now }
alone_goes c (x ∷ rest) at m n k stops e now = record { next = at; far = refl; same = rw (stops, stepped_ok at at (step m (Compare c)) n e now) refl }

piece_goes : (p : Piece) (rest : List ℕ) (at : ℕ) (m n : Machine) → IsPiece p → Stops p rest → run (token_in p) m ≡ Some n → Fits n → Goes (spelled p ++ rest) at (with gap m) rest n
piece_goes (blank b) rest at m n piece stops e now = record { next = suc at; far = omega arith; same = rw (piece, some_same m n e) refl }
piece_goes (sign b t) rest at m n piece stops e now = record { next = suc at; far = omega arith; same = rw (piece, stepped_ok at at (step m t) n (one_step (step m t) n e) now) refl }
piece_goes (word []) rest at m n piece stops e now = absurd (let wrong = piece in cc)
piece_goes (word (b ∷ w)) rest at m n piece stops e now =
    let both = and_parts (is_letter b) (are_letters w) piece in
    let e' : step m (word_token (b ∷ w)) ≡ Some n = one_step (step m (word_token (b ∷ w))) n e in
    let h = word_goes w (b ∷ []) rest (suc at) m n both.1 stops e' now in
    let goes_so : outcome_at ((b ∷ w) ++ rest) at (with gap m) ≡ outcome_at (w ++ rest) (suc at) (with (in_word (b ∷ [])) m) =
    rw (letter_is b both.0, fits_word m.state m.level m.outer (b ∷ []) w (ap is_some e')) refl in
    record { next = h.next; far = let e = h.far in omega arith; same = goes_so ∙ h.same }
piece_goes (quoted q is) rest at m n piece stops e now =
    let e' : step m (Text (values is)) ≡ Some n = one_step (step m (Text (values is))) n e in
    let h = quote_goes q is [] rest (suc at) m n (slash_apart q piece.0) piece.1 e' now in
    let goes_so : outcome_at (spelled (quoted q is) ++ rest) at (with gap m) ≡ outcome_at ((texts is ++ q ∷ []) ++ rest) (suc at) (with (in_quote q []) m) =
    rw (piece.0, sym (takes_text m.state (values is) m.level m.outer) ∙ ap is_some e') refl in
    record {
      next = h.next;
      far = let e = h.far in let joined = ap length (append_assoc (texts is) (q ∷ []) rest) in omega arith;
      same = goes_so ∙ ap (λ us. outcome_at us (suc at) (with (in_quote q []) m)) (append_assoc (texts is) (q ∷ []) rest) ∙ h.same;
    }
piece_goes (pair b c) rest at m n piece stops e now = by_kind piece
  where
    e' : stepped (suc at) (suc at) (step m (Compare c)) ≡ Ok n
    e' = stepped_ok (suc at) (suc at) (step m (Compare c)) n (one_step (step m (Compare c)) n e) now

    taken : takes m.state (Compare Equal) ≡ true
    taken = sym (takes_compare m.state c m.level m.outer) ∙ ap is_some (one_step (step m (Compare c)) n e)

    by_kind : IsPiece (pair b c) → Goes (b ∷ 61 ∷ rest) at (with gap m) rest n
    by_kind (inl (k, same)) = record { next = suc (suc at); far = omega arith; same = rw (k, taken, ap (λ d. stepped (suc at) (suc at) (step m (Compare d))) (sym same) ∙ e') refl }
    by_kind (inr (inl (k, same))) = record { next = suc (suc at); far = omega arith; same = rw (k, taken, ap (λ d. stepped (suc at) (suc at) (step m (Compare d))) (sym same) ∙ e') refl }
    by_kind (inr (inr (k, same))) = record { next = suc (suc at); far = omega arith; same = rw (k, taken, ap (λ d. stepped (suc at) (suc at) (step m (Compare d))) (sym same) ∙ e') refl }
piece_goes (alone b c) rest at m n piece stops e now = by_kind piece
  where
    one : step m (Compare c) ≡ Some n
    one = one_step (step m (Compare c)) n e

    taken : takes m.state (Compare Equal) ≡ true
    taken = sym (takes_compare m.state c m.level m.outer) ∙ ap is_some one

    by_kind : IsPiece (alone b c) → Goes (b ∷ rest) at (with gap m) rest n
    by_kind (inl (k, same)) =
        let h = alone_goes Above rest (suc at) m n AtLeast stops (ap (λ d. step m (Compare d)) (sym same) ∙ one) now in
        let goes_so : outcome_at (b ∷ rest) at (with gap m) ≡ outcome_at rest (suc at) (with (after AtLeast (Some Above)) m) = rw (k, taken) refl in
        record { next = h.next; far = let e = h.far in omega arith; same = goes_so ∙ h.same }
    by_kind (inr (k, same)) =
        let h = alone_goes Below rest (suc at) m n AtMost stops (ap (λ d. step m (Compare d)) (sym same) ∙ one) now in
        let goes_so : outcome_at (b ∷ rest) at (with gap m) ≡ outcome_at rest (suc at) (with (after AtMost (Some Below)) m) = rw (k, taken) refl in
        record { next = h.next; far = let e = h.far in omega arith; same = goes_so ∙ h.same }

part_fits : (p : Piece) (us : List Token) (m k : Machine) → run (token_in p) m ≡ Some k → Fits m → AreShallow (depths (token_in p ++ us) m) → Fits k × AreShallow (depths us k)
part_fits (blank b) us m k e was h = let same : m ≡ k = cc in (subst Fits same was, subst (λ x. AreShallow (depths us x)) same h)
part_fits (word w) us m k e was h = next_fits (word_token w) us m k (one_step (step m (word_token w)) k e) was h
part_fits (quoted q is) us m k e was h = next_fits (Text (values is)) us m k (one_step (step m (Text (values is))) k e) was h
part_fits (sign b t) us m k e was h = next_fits t us m k (one_step (step m t) k e) was h
part_fits (pair b c) us m k e was h = next_fits (Compare c) us m k (one_step (step m (Compare c)) k e) was h
part_fits (alone b c) us m k e was h = next_fits (Compare c) us m k (one_step (step m (Compare c)) k e) was h

pub pieces_go : (ps : List Piece) (rest : List ℕ) (at : ℕ) (m n : Machine) → AreCut ps rest → run (tokens ps) m ≡ Some n → Fits m → AreShallow (depths (tokens ps) m)
    → Goes (spell ps ++ rest) at (with gap m) rest n
pieces_go [] rest at m n cut e was h = record { next = at; far = refl; same = ap (λ k. outcome_at rest at (with gap k)) (some_same m n e) }
pieces_go (p ∷ ps) rest at m n (piece, stops, cut) e was h =
    let (k, one, later) = run_parts (token_in p) (tokens ps) m n e in
    let (now, shallow) = part_fits p (tokens ps) m k one was h in
    let first_part = piece_goes p (spell ps ++ rest) at m k piece stops one now in
    let rest_part = pieces_go ps rest first_part.next k n cut later now shallow in
    record {
      next = rest_part.next;
      far = let a = first_part.far in let b = rest_part.far in let joined = ap length (append_assoc (spelled p) (spell ps) rest) in omega arith;
      same = ap (λ us. outcome_at us at (with gap m)) (append_assoc (spelled p) (spell ps) rest) ∙ first_part.same ∙ rest_part.same;
    }

-- a filter within the limit is read
pub within_read : (text : List ℕ) (f : Ors) → IsFilter text f → IsWithin f → reading_of text ≡ Ok (filter_reading f)
unfolding reading_of
within_read text f h within =
    let last = machine_at done (filter_level None f) [] in
    let all : run (tokens h.pieces) new_machine ≡ Some last = ap (λ ts. run ts new_machine) h.tokens_are ∙ filter_run f in
    let trace = ap (λ ts. depths ts new_machine) h.tokens_are ∙ filter_trace f in
    let g = pieces_go h.pieces [] 0 new_machine last h.cut all (omega arith) (subst AreShallow (sym trace) within) in
    ap (ended_at (length text)) (ap (λ us. outcome_at us 0 (with gap new_machine)) (h.text_is ∙ sym (append-nil (spell h.pieces))) ∙ g.same)
    ∙ ap (accepted_at (length text)) (filter_accepted f)
