-- The scan and the grammar agree.
use Rattle.std.proofs.Common.{◌≡◌, ℕ, List, [], ◌∷◌, ◌++◌, Option, Some, None, refl, sym, ap, ◌∙◌, append-nil}
use Rattle.filter_machine.specs.Grammar.{Ors, ors_tokens, ors_tree, ors_values}
use Rattle.filter_machine.specs.Machine.{Machine, at, done, bad_after, run, new_machine, Reading, reading, accept}
use Rattle.filter_machine.specs.Text.{spell, tokens, IsFilter, Begins}
use Rattle.filter_machine.specs.Scan.{gap, Scan, with, feed, goes, outcome, scan, proceeds}
use Rattle.filter_machine.specs.declared.token.Token.{Token}
use Rattle.filter_machine.proofs.Complete.{filter_level, filter_run, filter_accepted}
use Rattle.filter_machine.proofs.Sound.{some_if, tokens_of}
use Rattle.filter_machine.proofs.PieceRuns.{pieces_run}
use Rattle.filter_machine.proofs.Explains.{explains}
use Rattle.filter_machine.proofs.Viable.{scan_good, completes, IsGood}

abbrev pub new_scan : Scan
new_scan = with gap new_machine

-- the reading of a filter
abbrev pub filter_reading : Ors → Reading
filter_reading f = reading (ors_tree f) (bad_after None (ors_values f))

-- a filter is read, and gives its tree and its first bad value
pub filter_read : (text : List ℕ) (f : Ors) → IsFilter text f → (n : Machine) × (outcome text new_scan ≡ Some n) × (accept n ≡ Some (filter_reading f))
filter_read text f h =
    let last = at done (filter_level None f) [] in
    let all : run (tokens h.pieces) new_machine ≡ Some last = ap (λ ts. run ts new_machine) h.tokens_are ∙ filter_run f in (
      last,
      ap (λ us. outcome us new_scan) (h.text_is ∙ sym (append-nil (spell h.pieces))) ∙ pieces_run h.pieces [] new_machine last h.cut all,
      filter_accepted f,
    )

-- what tokens lead to, where they are a filter's
pub reading_is : (ts : List Token) (f : Ors) (n : Machine) (r : Reading) → ts ≡ ors_tokens f → run ts new_machine ≡ Some n → accept n ≡ Some r → r ≡ filter_reading f
reading_is ts f n r are e a =
    let same : Some n ≡ Some (at done (filter_level None f) []) = sym e ∙ ap (λ us. run us new_machine) are ∙ filter_run f in
    let ends : n ≡ at done (filter_level None f) [] = cc in
    let both : Some r ≡ Some (filter_reading f) = sym a ∙ ap accept ends ∙ filter_accepted f in
    cc

-- what is read is a filter, with the tree
pub read_filter : (text : List ℕ) (n : Machine) (r : Reading) → outcome text new_scan ≡ Some n → accept n ≡ Some r → (f : Ors) × IsFilter text f × (r ≡ filter_reading f)
read_filter text n r e a =
    let h = explains text gap new_machine n e in
    let (f, tokens_are) = tokens_of (tokens h.pieces) n r h.run_is a in
    (f, record { pieces = h.pieces; cut = h.cut; text_is = h.text_is; tokens_are = tokens_are }, reading_is (tokens h.pieces) f n r tokens_are h.run_is a)

-- one text has one reading
pub one_reading : (text : List ℕ) (f g : Ors) → IsFilter text f → IsFilter text g → filter_reading f ≡ filter_reading g
one_reading text f g h k =
    let (n, read, accepted) = filter_read text f h in
    let (m, read', accepted') = filter_read text g k in
    let same : n ≡ m = let e = sym read ∙ read' in cc in
    let readings : Some (filter_reading f) ≡ Some (filter_reading g) = sym accepted ∙ ap accept same ∙ accepted' in
    cc

pub one_tree : (text : List ℕ) (f g : Ors) → IsFilter text f → IsFilter text g → ors_tree f ≡ ors_tree g
one_tree text f g h k = ap (λ r. r.tree) (one_reading text f g h k)

pub outcome_scan : (a b : List ℕ) (s : Scan) → outcome (a ++ b) s ≡ goes (outcome b) (scan a s)
outcome_scan [] b s = refl
outcome_scan (x ∷ a) b s = by_next (feed x s) (λ t. outcome_scan a b t)
  where
    by_next : (o : Option Scan) → ((t : Scan) → outcome (a ++ b) t ≡ goes (outcome b) (scan a t)) → goes (outcome (a ++ b)) o ≡ goes (outcome b) (proceeds (scan a) o)
    by_next None later = refl
    by_next (Some t) later = later t

-- where the scan refuses, no filter begins so
pub refused_text : (text : List ℕ) → scan text new_scan ≡ None → Begins text → ⊥
refused_text text e h =
    let (n, read, accepted) = filter_read (text ++ h.more) h.filter h.whole in
    let wrong : None ≡ Some n = ap (goes (outcome h.more)) (sym e) ∙ sym (outcome_scan text h.more new_scan) ∙ read in
    cc

-- where it does not, some filter does
pub begins_text : (text : List ℕ) (s : Scan) → scan text new_scan ≡ Some s → Begins text
begins_text text s e =
    let good : IsGood s = some_if IsGood (scan text new_scan) s e (scan_good text new_scan (tt, tt)) in
    let h = completes s.lex s.machine good.0 good.1 in
    let read : outcome (text ++ h.more) new_scan ≡ Some h.last = outcome_scan text h.more new_scan ∙ ap (goes (outcome h.more)) e ∙ h.outcome_is in
    let (f, is, same) = read_filter (text ++ h.more) h.last h.result read h.accept_is in
    record { more = h.more; filter = f; whole = is }
