-- What the scan's functions answer, beside the pure answer. No public contract cites it.
use Rattle.std.proofs.Math.Utf8.{encode}
use Rattle.std.specs.Prelude.{◌≡◌, ℕ, ◌+◌, List, ◌++◌, length, Result, Ok, Err, string_bytes}
use Rattle.filter_machine.specs.Machine.{Machine as MachineData, Reading as ReadingData}
use Rattle.filter_machine.specs.Scan.{Lex, gap, in_word, in_quote, after_slash, after, Scan, with}
use Rattle.filter_expr.specs.Limit.{TextFault, syntax_at, too_deep_at, outcome_at}
use Rattle.filter_machine.specs.Held.{machine_view, reading_view, quote_byte}
use Rattle.filter_machine.specs.declared.machine.Machine.{Machine}
use Rattle.filter_machine.specs.declared.machine.Reading.{Reading}
use Rattle.filter_expr.specs.declared.feed.ScanFault.{ScanFault}
use Rattle.filter_expr.specs.declared.feed.ScanFault.TheVariants.{Syntax, TooDeep, NoMemory}
use Rattle.filter_expr.specs.declared.feed.Pending.{Pending}
use Rattle.filter_expr.specs.declared.feed.Pending.TheVariants.{Gap, Word, Quoted, Slash, After}
use Rattle.filter_expr.specs.declared.feed.Scanner.{Scanner}

abbrev pub pending_view : Pending → Lex
pending_view Gap = gap
pending_view (Word w) = in_word (string_bytes w)
pending_view (Quoted q w) = in_quote (quote_byte q) (string_bytes w)
pending_view (Slash q w) = after_slash (quote_byte q) (string_bytes w)
pending_view (After c d) = after c d

abbrev pub scanner_view : Scanner → Scan
scanner_view s = with (pending_view s.pending) (machine_view s.machine)

abbrev pub FaultIs : {X : Type 0} → Result X TextFault → ScanFault → Type 0
FaultIs r (Syntax p) = r ≡ Err (syntax_at p)
FaultIs r (TooDeep p) = r ≡ Err (too_deep_at p)
FaultIs r NoMemory = Unit {0}

abbrev pub GivesMachine : Result MachineData TextFault → Result Machine ScanFault → Type 0
GivesMachine r (Ok m) = r ≡ Ok (machine_view m)
GivesMachine r (Err f) = FaultIs r f

abbrev pub GivesReading : Result ReadingData TextFault → Result Reading ScanFault → Type 0
GivesReading r (Ok t) = r ≡ Ok (reading_view t)
GivesReading r (Err f) = FaultIs r f

abbrev pub GivesScan : Result Scan TextFault → Result Scanner ScanFault → Type 0
GivesScan r (Ok s) = r ≡ Ok (scanner_view s)
GivesScan r (Err f) = FaultIs r f

-- after one character, whatever follows it
abbrev pub GivesChar : ℕ → ℕ → Scan → Result Scanner ScanFault → Type 0
GivesChar c at s (Ok t) = (rest : List ℕ) → outcome_at (encode c ++ rest) at s ≡ outcome_at rest (at + length (encode c)) (scanner_view t)
GivesChar c at s (Err f) = (rest : List ℕ) → FaultIs (outcome_at (encode c ++ rest) at s) f
