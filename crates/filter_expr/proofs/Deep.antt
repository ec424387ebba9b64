-- Where the scan finds a text too deep, and that it finds it there.
use Rattle.std.proofs.Common.{◌≡◌, ◌⊎◌, inl, inr, ℕ, suc, ◌+◌, ◌-◌, ◌≤◌, ◌<◌, List, [], ◌∷◌, ◌++◌, length, take, get_or, Bool, true, false, Option, Some, None, Ok, Err, refl, sym, ap, subst, ◌∙◌, append_assoc, append-nil, cond, arith, length-append}
use Rattle.std.specs.Prelude.{is_some, nat_lt}
use Rattle.std.proofs.Math.Seq.{take-append_seam, get_or-append_seam}
use Rattle.std.proofs.lemmas.Bool.{and_parts}
use Rattle.filter_machine.specs.Machine.{Machine, step, run, then, new_machine, opened}
use Rattle.filter_expr.specs.Limit.{too_deep_at, stepped, outcome_at, depth_at, depths, ended_at, reading_of}
use Rattle.filter_expr.specs.Faults.{most_depth}
use Rattle.filter_machine.specs.Text.{is_letter, are_letters, word_token, Piece, blank, word, quoted, sign, pair, alone, spelled, token_in, spell, tokens, IsPiece, starts_no, Stops, AreCut}
use Rattle.filter_machine.specs.Scan.{gap, in_word, with}
use Rattle.filter_machine.specs.Grammar.{Ors, ors_tokens, ors_depths}
use Rattle.filter_expr.specs.Faults.{IsTooDeep}
use Rattle.filter_machine.specs.declared.token.Token.{Token}
use Rattle.filter_machine.specs.declared.token.Token.TheVariants.{Not, Open}
use Rattle.filter_machine.proofs.Sound.{tokens_of}
use Rattle.filter_machine.proofs.Complete.{filter_run}
use Rattle.filter_expr.proofs.Traces.{filter_trace}
use Rattle.filter_machine.proofs.Explains.{run_join}
use Rattle.filter_machine.proofs.PieceRuns.{letter_is, run_parts}
use Rattle.filter_machine.proofs.Taking.{fits_word}
use Rattle.filter_machine.proofs.Viable.{completion, completion_run, next_settled}
use Rattle.filter_expr.proofs.Depths.{Fits, AreShallow, IsFlat, opens_or_flat, flat_fits, token_depth, deep_depth, not_below, by_step, next_fits, depths-append, length-depths}
use Rattle.filter_expr.proofs.Limited.{Overdeep}
use Rattle.filter_expr.proofs.Within.{pieces_go}

tokens-append : (ps qs : List Piece) → tokens (ps ++ qs) ≡ tokens ps ++ tokens qs
tokens-append [] qs = refl
tokens-append (p ∷ ps) qs = ap (λ ts. token_in p ++ ts) (tokens-append ps qs) ∙ sym (append_assoc (token_in p) (tokens ps) (tokens qs))

spell-append : (ps qs : List Piece) → spell (ps ++ qs) ≡ spell ps ++ spell qs
spell-append [] qs = refl
spell-append (p ∷ ps) qs = ap (λ us. spelled p ++ us) (spell-append ps qs) ∙ sym (append_assoc (spelled p) (spell ps) (spell qs))

tokens-last : (ps : List Piece) (p : Piece) (t : Token) → token_in p ≡ t ∷ [] → tokens (ps ++ p ∷ []) ≡ tokens ps ++ t ∷ []
tokens-last ps p t e = tokens-append ps (p ∷ []) ∙ ap (λ ts. tokens ps ++ ts) (append-nil (token_in p) ∙ e)

spell-last : (ps : List Piece) (p : Piece) (rest : List ℕ) → spell (ps ++ p ∷ []) ++ rest ≡ spell ps ++ (spelled p ++ rest)
spell-last ps p rest =
    ap (λ us. us ++ rest) (spell-append ps (p ∷ []) ∙ ap (λ us. spell ps ++ us) (append-nil (spelled p))) ∙ append_assoc (spell ps) (spelled p) rest

cut_front : (ps : List Piece) (p : Piece) (rest : List ℕ) → AreCut (ps ++ p ∷ []) rest → AreCut ps (spelled p ++ rest) × IsPiece p × Stops p rest
cut_front [] p rest (piece, stops, done) = (tt, piece, stops)
cut_front (q ∷ ps) p rest (piece, stops, cut) =
    let (front, last, end) = cut_front ps p rest cut in
    ((piece, subst (Stops q) (spell-last ps p rest) stops, front), last, end)

-- ---- the depths before and at a token

pub record DepthsAre (ts : List Token) (t : Token) (us : List Token) (k : Machine) (ds : List ℕ) : Type 0 where
  pub before : take (length ts) ds ≡ depths ts new_machine
  pub here : get_or ds (length ts) 0 ≡ depth_at k t

depths_are : (ts : List Token) (t : Token) (us : List Token) (k : Machine) (f : Ors) → run ts new_machine ≡ Some k → ors_tokens f ≡ ts ++ t ∷ us → DepthsAre ts t us k (ors_depths 0 f)
depths_are ts t us k f e are =
    let front = depths ts new_machine in
    let later = depths us in
    let all : ors_depths 0 f ≡ front ++ depths (t ∷ us) k = sym (filter_trace f) ∙ ap (λ xs. depths xs new_machine) are ∙ depths-append ts (t ∷ us) new_machine k e in
    let long : length front ≡ length ts = length-depths ts new_machine k e in
    record {
      before = ap (λ ds. take (length ts) ds) all ∙ ap (λ n. take n (front ++ depths (t ∷ us) k)) (sym long) ∙ take-append_seam front (depths (t ∷ us) k);
      here = ap (λ ds. get_or ds (length ts) 0) all ∙ ap (λ n. get_or (front ++ depths (t ∷ us) k) n 0) (sym long) ∙ get_or-append_seam front (depth_at k t) _ 0;
    }

-- ---- where it is found

opens_of : (p : Piece) (t : Token) → token_in p ≡ t ∷ [] → (t ≡ Not) ⊎ (t ≡ Open) → (token_in p ≡ Not ∷ []) ⊎ (token_in p ≡ Open ∷ [])
opens_of p t e (inl is) = inl (e ∙ ap (λ x. x ∷ []) is)
opens_of p t e (inr is) = inr (e ∙ ap (λ x. x ∷ []) is)

pub too_deep_is : (text : List ℕ) (p : ℕ) → Overdeep text 0 p new_machine → IsTooDeep text p
too_deep_is text p h =
    let end = completion_run h.next (next_settled h.last h.next h.token h.step_is) in
    let us = tokens (completion h.next) in
    let all : run (tokens h.before ++ h.token ∷ us) new_machine ≡ Some end.last =
    run_join (tokens h.before) (h.token ∷ us) new_machine h.last end.last h.run_is (ap (then (run us)) h.step_is ∙ end.run_is) in
    let (f, are) = tokens_of (tokens h.before ++ h.token ∷ us) end.last end.result all end.accept_is in
    let ds = depths_are (tokens h.before) h.token us h.last f h.run_is (sym are) in
    record {
      before = h.before;
      opening = h.opening;
      rest = h.rest;
      text_is = h.text_is;
      cut = h.cut;
      place_is = let e = h.place_is in omega arith;
      opens = by_token (opens_or_flat h.token);
      filter = f;
      later = us;
      tokens_are = sym are ∙ sym (ap (λ ts. ts ++ us) (tokens-last h.before h.opening h.token h.token_is) ∙ append_assoc (tokens h.before) (h.token ∷ []) us);
      shallow = subst AreShallow (sym ds.before) h.shallow;
      deep = ds.here ∙ deep_depth h.token h.last h.next h.step_is h.was h.deep;
    }
  where
    by_token : ((h.token ≡ Not) ⊎ (h.token ≡ Open)) ⊎ IsFlat h.token → (token_in h.opening ≡ Not ∷ []) ⊎ (token_in h.opening ≡ Open ∷ [])
    by_token (inl opens) = opens_of h.opening h.token h.token_is opens
    by_token (inr flat) = absurd (let low : opened h.next ≤ most_depth = flat_fits h.token h.last h.next flat h.step_is h.was in let high = h.deep in omega arith)

-- ---- and that it is found there

run_fits : (ts : List Token) (m k : Machine) → run ts m ≡ Some k → Fits m → AreShallow (depths ts m) → Fits k
run_fits [] m k e was shallow = let same : m ≡ k = cc in subst Fits same was
run_fits (t ∷ ts) m k e was shallow =
    let (j, one, later) = by_step t ts m k e in
    let (now, rest) = next_fits t ts m j one was shallow in
    run_fits ts j k later now rest

stepped_deep : (at began : ℕ) (o : Option Machine) (n : Machine) → o ≡ Some n → most_depth < opened n → stepped at began o ≡ Err (too_deep_at began)
stepped_deep at began None n e deep = absurd (let wrong = e in cc)
stepped_deep at began (Some m) n e deep = by_limit (nat_lt most_depth (opened m)) refl
  where
    by_limit : (c : Bool) → nat_lt most_depth (opened m) ≡ c → cond c (Err (too_deep_at began)) (Ok m) ≡ Err (too_deep_at began)
    by_limit true is = refl
    by_limit false is = absurd (let same : n ≡ m = cc in let high : most_depth < opened m = subst (λ x. most_depth < opened x) same deep in grind (arith, is, high))

word_end_deep : (u rest : List ℕ) (from at : ℕ) (m n : Machine) → at ≡ from + length u → starts_no is_letter rest → step m (word_token u) ≡ Some n → most_depth < opened n
    → outcome_at rest at (with (in_word u) m) ≡ Err (too_deep_at from)
word_end_deep u [] from at m n far stops e deep =
    let here : at - length u ≡ from = omega arith in
    stepped_deep at (at - length u) (step m (word_token u)) n e deep ∙ ap (λ p. Err (too_deep_at p)) here
word_end_deep u (b ∷ rest) from at m n far stops e deep =
    let here : at - length u ≡ from = omega arith in
    rw (stops, stepped_deep at (at - length u) (step m (word_token u)) n e deep) (ap (λ p. Err (too_deep_at p)) here)

word_deep : (v u rest : List ℕ) (from at : ℕ) (m n : Machine) → at ≡ from + length u → are_letters v ≡ true → starts_no is_letter rest → step m (word_token (u ++ v)) ≡ Some n → most_depth < opened n
    → outcome_at (v ++ rest) at (with (in_word u) m) ≡ Err (too_deep_at from)
word_deep [] u rest from at m n far good stops e deep = word_end_deep u rest from at m n far stops (ap (λ w. step m (word_token w)) (sym (append-nil u)) ∙ e) deep
word_deep (b ∷ v) u rest from at m n far good stops e deep =
    let both = and_parts (is_letter b) (are_letters v) good in
    let e' : step m (word_token ((u ++ b ∷ []) ++ v)) ≡ Some n = ap (λ w. step m (word_token w)) (append_assoc u (b ∷ []) v) ∙ e in
    let longer = length-append u (b ∷ []) in
    let h = word_deep v (u ++ b ∷ []) rest from (suc at) m n (omega arith) both.1 stops e' deep in
    let goes_so : outcome_at ((b ∷ v) ++ rest) at (with (in_word u) m) ≡ outcome_at (v ++ rest) (suc at) (with (in_word (u ++ b ∷ [])) m) =
    rw (both.0, fits_word m.state m.level m.outer (u ++ b ∷ []) v (ap is_some e')) refl in
    goes_so ∙ h

-- a piece that opens, and goes too deep
opening_deep : (p : Piece) (t : Token) (rest : List ℕ) (at : ℕ) (m n : Machine) → (t ≡ Not) ⊎ (t ≡ Open) → token_in p ≡ t ∷ [] → IsPiece p → Stops p rest → step m t ≡ Some n → most_depth < opened n
    → outcome_at (spelled p ++ rest) at (with gap m) ≡ Err (too_deep_at at)
opening_deep (blank b) t rest at m n opens is piece stops e deep = absurd (let wrong = is in cc)
opening_deep (quoted q items) t rest at m n (inl opens) is piece stops e deep = absurd (let wrong = is in cc)
opening_deep (quoted q items) t rest at m n (inr opens) is piece stops e deep = absurd (let wrong = is in cc)
opening_deep (pair b c) t rest at m n (inl opens) is piece stops e deep = absurd (let wrong = is in cc)
opening_deep (pair b c) t rest at m n (inr opens) is piece stops e deep = absurd (let wrong = is in cc)
opening_deep (alone b c) t rest at m n (inl opens) is piece stops e deep = absurd (let wrong = is in cc)
opening_deep (alone b c) t rest at m n (inr opens) is piece stops e deep = absurd (let wrong = is in cc)
opening_deep (sign b x) t rest at m n opens is piece stops e deep =
    let same : x ≡ t = cc in
    rw (piece, stepped_deep at at (step m x) n (ap (step m) same ∙ e) deep) refl
opening_deep (word []) t rest at m n opens is piece stops e deep = absurd (let wrong = piece in cc)
opening_deep (word (b ∷ w)) t rest at m n opens is piece stops e deep =
    let both = and_parts (is_letter b) (are_letters w) piece in
    let same : word_token (b ∷ w) ≡ t = cc in
    let e' : step m (word_token (b ∷ w)) ≡ Some n = ap (step m) same ∙ e in
    let h = word_deep w (b ∷ []) rest at (suc at) m n (omega arith) both.1 stops e' deep in
    let goes_so : outcome_at ((b ∷ w) ++ rest) at (with gap m) ≡ outcome_at (w ++ rest) (suc at) (with (in_word (b ∷ [])) m) =
    rw (letter_is b both.0, fits_word m.state m.level m.outer (b ∷ []) w (ap is_some e')) refl in
    goes_so ∙ h

found_there : (text : List ℕ) (p : ℕ) (h : IsTooDeep text p) (t : Token) → (t ≡ Not) ⊎ (t ≡ Open) → token_in h.opening ≡ t ∷ [] → reading_of text ≡ Err (too_deep_at p)
unfolding reading_of
found_there text p h t opens is =
    let ts = tokens h.before in
    let are : ors_tokens h.filter ≡ ts ++ t ∷ h.later = h.tokens_are ∙ ap (λ us. us ++ h.later) (tokens-last h.before h.opening t is) ∙ append_assoc ts (t ∷ []) h.later in
    let (k, reach, onward) = run_parts ts (t ∷ h.later) new_machine _ (ap (λ us. run us new_machine) (sym are) ∙ filter_run h.filter) in
    let (j, one, end) = by_step t h.later k _ onward in
    let ds = depths_are ts t h.later k h.filter reach are in
    let shallow : AreShallow (depths ts new_machine) = subst AreShallow ds.before h.shallow in
    let was : Fits k = run_fits ts new_machine k reach (omega arith) shallow in
    let at_limit : depth_at k t ≡ most_depth + 1 = sym ds.here ∙ h.deep in
    let deep : most_depth < opened j = not_below (opened j) most_depth (λ now. over_limit (depth_at k t) at_limit (token_depth k.state t k.level k.outer j one was now)) in
    let (cut, piece, stops) = cut_front h.before h.opening h.rest h.cut in
    let g = pieces_go h.before (spelled h.opening ++ h.rest) 0 new_machine k cut reach (omega arith) shallow in
    let sum = length-append (spell h.before) (spelled h.opening ++ h.rest) in
    let place : g.next ≡ p = let a = g.far in let b = h.place_is in omega arith in
    ap (ended_at (length text))
    (ap (λ us. outcome_at us 0 (with gap new_machine)) (h.text_is ∙ spell-last h.before h.opening h.rest)
    ∙ g.same
    ∙ opening_deep h.opening t h.rest g.next k j opens is piece stops one deep
    ∙ ap (λ n. Err (too_deep_at n)) place)
  where
    over_limit : (d : ℕ) → d ≡ most_depth + 1 → d ≤ most_depth → ⊥
    over_limit d e h = omega arith

pub too_deep_read : (text : List ℕ) (p : ℕ) → IsTooDeep text p → reading_of text ≡ Err (too_deep_at p)
too_deep_read text p h = by_kind h.opens
  where
    by_kind : (token_in h.opening ≡ Not ∷ []) ⊎ (token_in h.opening ≡ Open ∷ []) → reading_of text ≡ Err (too_deep_at p)
    by_kind (inl is) = found_there text p h Not (inl refl) is
    by_kind (inr is) = found_there text p h Open (inr refl) is
