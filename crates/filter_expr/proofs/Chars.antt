-- Characters and bytes.
use Rattle.std.proofs.Common.{◌≡◌, ℕ, suc, ◌+◌, ◌<◌, ◌≤◌, List, [], ◌∷◌, ◌++◌, length, true, false, Option, Some, None, Result, Ok, Err, refl, sym, ap, subst, ◌∙◌, add-one, arith}
use Rattle.std.proofs.Math.Utf8.{encode}
use Rattle.std.proofs.lemmas.Str.{encode_ascii}
use Rattle.filter_machine.specs.Scan.{Scan, with, gap, in_word, in_quote, after_slash, after, takes, alone_step}
use Rattle.filter_machine.specs.Machine.{Machine, step}
use Rattle.filter_expr.specs.Limit.{TextFault, syntax_at, too_deep_at, stepped, outcome_at, feed_by_at, goes_at}
use Rattle.filter_machine.specs.declared.token.Token.TheVariants.{Text, Compare}
use Rattle.filter_machine.specs.declared.token.Comparison.{Comparison}
use Rattle.filter_expr.proofs.HighBytes.{encode_high, wide_of, word_high, word_high_refused, gap_high, quote_high, slash_high, after_high, after_high_refused}
use Rattle.filter_expr.specs.Gives.{GivesScan, GivesChar, FaultIs, scanner_view}
use Rattle.filter_expr.specs.declared.feed.ScanFault.{ScanFault}
use Rattle.filter_expr.specs.declared.feed.ScanFault.TheVariants.{Syntax, TooDeep, NoMemory}
use Rattle.filter_expr.specs.declared.feed.Scanner.{Scanner}
use Rattle.filter_machine.specs.declared.scan.Quote.{Quote}
use Rattle.filter_machine.specs.declared.scan.Quote.TheVariants.{Single, Double}
use Rattle.filter_machine.specs.Held.{quote_byte}

pub char_given : (c at : ℕ) (s : Scan) (r : Result Scanner ScanFault) → c < 128 → GivesScan (feed_by_at s.lex at c s.machine) r → GivesChar c at s r
char_given c at s (Ok t) low h = λ rest.
    ap (λ us. outcome_at (us ++ rest) at s) (encode_ascii c low) ∙ ap (goes_at (outcome_at rest (suc at))) h
    ∙ ap (λ n. outcome_at rest n (scanner_view t)) (sym (add-one at) ∙ ap (λ us. at + length us) (sym (encode_ascii c low)))
char_given c at s (Err (Syntax p)) low h = λ rest. ap (λ us. outcome_at (us ++ rest) at s) (encode_ascii c low) ∙ ap (goes_at (outcome_at rest (suc at))) h
char_given c at s (Err (TooDeep p)) low h = λ rest. ap (λ us. outcome_at (us ++ rest) at s) (encode_ascii c low) ∙ ap (goes_at (outcome_at rest (suc at))) h
char_given c at s (Err NoMemory) low h = λ rest. tt

pub same_fault : (r q : Result Machine TextFault) (f : ScanFault) → r ≡ q → FaultIs q f → FaultIs r f
same_fault r q f e h = subst (λ x. FaultIs x f) (sym e) h

pub gives_same : (c at : ℕ) (s s' : Scan) (r : Result Scanner ScanFault) → ((rest : List ℕ) → outcome_at (encode c ++ rest) at s ≡ outcome_at (encode c ++ rest) at s') → GivesChar c at s' r → GivesChar c at s r
gives_same c at s s' (Ok t) same h = λ rest. same rest ∙ h rest
gives_same c at s s' (Err f) same h = λ rest. same_fault (outcome_at (encode c ++ rest) at s) (outcome_at (encode c ++ rest) at s') f (same rest) (h rest)

-- ---- a character that is not ASCII

-- what holds of each text that begins with a high byte holds of the character's bytes
wide_same : (c at : ℕ) (s s' : Scan) → 128 ≤ c → ((b : ℕ) (us : List ℕ) → 128 ≤ b → outcome_at (b ∷ us) at s ≡ outcome_at (b ∷ us) at s')
    → (rest : List ℕ) → outcome_at (encode c ++ rest) at s ≡ outcome_at (encode c ++ rest) at s'
wide_same c at s s' high same rest =
    let w = wide_of c high in
    ap (λ bs. outcome_at (bs ++ rest) at s) w.bytes_are ∙ same w.first (w.others ++ rest) w.first_high ∙ sym (ap (λ bs. outcome_at (bs ++ rest) at s') w.bytes_are)

wide_refused : (c at : ℕ) (s : Scan) (f : TextFault) → 128 ≤ c → ((b : ℕ) (us : List ℕ) → 128 ≤ b → outcome_at (b ∷ us) at s ≡ Err f) → (rest : List ℕ) → outcome_at (encode c ++ rest) at s ≡ Err f
wide_refused c at s f high refused rest =
    let w = wide_of c high in
    ap (λ bs. outcome_at (bs ++ rest) at s) w.bytes_are ∙ refused w.first (w.others ++ rest) w.first_high

pub word_char : (c at : ℕ) (w v : List ℕ) (m : Machine) → 128 ≤ c → takes m.state (Text []) ≡ true → v ≡ w ++ encode c
    → (rest : List ℕ) → outcome_at (encode c ++ rest) at (with (in_word w) m) ≡ outcome_at rest (at + length (encode c)) (with (in_word v) m)
word_char c at w v m high taken e = λ rest. word_high (encode c) w rest at m (encode_high c high) taken ∙ ap (λ u. outcome_at rest (at + length (encode c)) (with (in_word u) m)) (sym e)

pub word_char_refused : (c at : ℕ) (w : List ℕ) (m : Machine) → 128 ≤ c → takes m.state (Text []) ≡ false → GivesChar c at (with (in_word w) m) (Err (Syntax at))
word_char_refused c at w m high refused = wide_refused c at (with (in_word w) m) (syntax_at at) high (λ b us first. word_high_refused b us w at m first refused)

pub gap_char : (c at : ℕ) (w : List ℕ) (m : Machine) (r : Result Scanner ScanFault) → 128 ≤ c → w ≡ [] → GivesChar c at (with (in_word w) m) r → GivesChar c at (with gap m) r
gap_char c at w m r high none h =
    gives_same c at (with gap m) (with (in_word []) m) r (wide_same c at (with gap m) (with (in_word []) m) high (λ b us first. gap_high b us at m first))
    (subst (λ u. GivesChar c at (with (in_word u) m) r) none h)

pub quote_char : (c at q : ℕ) (w v : List ℕ) (m : Machine) → 128 ≤ c → q < 128 → v ≡ w ++ encode c
    → (rest : List ℕ) → outcome_at (encode c ++ rest) at (with (in_quote q w) m) ≡ outcome_at rest (at + length (encode c)) (with (in_quote q v) m)
quote_char c at q w v m high low e = λ rest. quote_high (encode c) w rest q at m (encode_high c high) low ∙ ap (λ u. outcome_at rest (at + length (encode c)) (with (in_quote q u) m)) (sym e)

pub slash_char : (c at q : ℕ) (w v : List ℕ) (m : Machine) (r : Result Scanner ScanFault) → 128 ≤ c → q < 128 → v ≡ w ++ 92 ∷ [] → GivesChar c at (with (in_quote q v) m) r → GivesChar c at (with (after_slash q w) m) r
slash_char c at q w v m r high low e h =
    gives_same c at (with (after_slash q w) m) (with (in_quote q (w ++ 92 ∷ [])) m) r
    (wide_same c at (with (after_slash q w) m) (with (in_quote q (w ++ 92 ∷ [])) m) high (λ b us first. slash_high b us w q at m first low))
    (subst (λ u. GivesChar c at (with (in_quote q u) m) r) e h)

pub after_char : (c at : ℕ) (k : Comparison) (d : Option Comparison) (m n : Machine) (r : Result Scanner ScanFault) → 128 ≤ c → stepped at at (alone_step d m) ≡ Ok n → GivesChar c at (with gap n) r → GivesChar c at (with (after k d) m) r
after_char c at k d m n r high e h =
    gives_same c at (with (after k d) m) (with gap n) r (wide_same c at (with (after k d) m) (with gap n) high (λ b us first. after_high b us k d at m n first e)) h

pub after_char_refused : (c at : ℕ) (k : Comparison) (d : Option Comparison) (m : Machine) (f : ScanFault) → 128 ≤ c → FaultIs (stepped at at (alone_step d m)) f → GivesChar c at (with (after k d) m) (Err f)
after_char_refused c at k d m (Syntax p) high e = wide_refused c at (with (after k d) m) (syntax_at p) high (λ b us first. after_high_refused b us k d at m (syntax_at p) first e)
after_char_refused c at k d m (TooDeep p) high e = wide_refused c at (with (after k d) m) (too_deep_at p) high (λ b us first. after_high_refused b us k d at m (too_deep_at p) first e)
after_char_refused c at k d m NoMemory high e = λ rest. tt

pub after_none : (c at : ℕ) (k : Comparison) (d : Option Comparison) (m : Machine) → 128 ≤ c → d ≡ None → GivesChar c at (with (after k d) m) (Err (Syntax at))
after_none c at k None m high e = after_char_refused c at k None m (Syntax at) high refl
after_none c at k (Some x) m high e = absurd (let wrong = e in cc)

pub after_some : (c at : ℕ) (k : Comparison) (d : Option Comparison) (x : Comparison) (m n : Machine) (r : Result Scanner ScanFault) → 128 ≤ c → d ≡ Some x → stepped at at (step m (Compare x)) ≡ Ok n
    → GivesChar c at (with gap n) r → GivesChar c at (with (after k d) m) r
after_some c at k d x m n r high e one h = after_char c at k d m n r high (ap (λ o. stepped at at (alone_step o m)) e ∙ one) h

pub after_some_refused : (c at : ℕ) (k : Comparison) (d : Option Comparison) (x : Comparison) (m : Machine) (f : ScanFault) → 128 ≤ c → d ≡ Some x → FaultIs (stepped at at (step m (Compare x))) f
    → GivesChar c at (with (after k d) m) (Err f)
after_some_refused c at k d x m f high e h = after_char_refused c at k d m f high (subst (λ o. FaultIs (stepped at at (alone_step o m)) f) (sym e) h)

pub quote_low : (q : Quote) → quote_byte q < 128
quote_low Single = omega arith
quote_low Double = omega arith
