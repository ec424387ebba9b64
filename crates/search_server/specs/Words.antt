-- The words of the command line.
use Rattle.std.specs.Prelude.{ℕ, List, [], ◌∷◌, map, codes, decimal, bytes_eq, nat_le, ◌&&◌, Option, Some, None, String, string_bytes, if◌then◌else◌}
use Rattle.std.specs.declared.alloc.Global.{Global}
use Rattle.request_routes.specs.Query.{number_of}
use Rattle.search_server.specs.declared.words.Command.{Command}
use Rattle.search_server.specs.declared.words.Command.TheVariants.{Pipe, Serve, Demo}

-- a number that this text is without a leading zero, where it lies in these bounds
abbrev pub kept_within : ℕ → ℕ → List ℕ → Option ℕ → Option ℕ
kept_within least greatest text None = None
kept_within least greatest text (Some n) =
    if bytes_eq text (decimal n) && (nat_le least n && nat_le n greatest) then Some n else None

-- the number that the text is, in decimal digits without a leading zero, where it lies in these bounds
abbrev pub number_within : ℕ → ℕ → List ℕ → Option ℕ
number_within least greatest text = kept_within least greatest text (number_of text)

-- a command with two numbers, where both are there
abbrev pub with_both : (ℕ → ℕ → Command) → Option ℕ → Option ℕ → Option Command
with_both command None second = None
with_both command (Some first) None = None
with_both command (Some first) (Some second) = Some (command first second)

-- a port, and a number of connections
abbrev pub serve_of : List ℕ → List ℕ → Option Command
serve_of port connections = with_both Serve (number_within 1 65535 port) (number_within 1 1000000 connections)

-- a number of documents, and a seed
abbrev pub demo_of : List ℕ → List ℕ → Option Command
demo_of count seed = with_both Demo (number_within 0 100000 count) (number_within 1 2147483646 seed)

abbrev pub command_of_three : List ℕ → List ℕ → List ℕ → Option Command
command_of_three word first second =
    if bytes_eq word (codes "serve") then serve_of first second
    else if bytes_eq word (codes "demo") then demo_of first second
    else None

-- what the words ask for, where they are one of the three forms: `pipe`, `serve PORT CONNECTIONS` and `demo COUNT SEED`
abbrev pub command_in : List (List ℕ) → Option Command
command_in (word ∷ []) = if bytes_eq word (codes "pipe") then Some Pipe else None
command_in (word ∷ first ∷ second ∷ []) = command_of_three word first second
command_in words = None

abbrev pub command_of : List (String Global) → Option Command
command_of words = command_in (map string_bytes words)

-- a machine of the two disks is asked for
abbrev pub UsesDisks : Option Command → Type 0
UsesDisks None = ⊥
UsesDisks (Some Pipe) = Unit {0}
UsesDisks (Some (Serve port connections)) = Unit {0}
UsesDisks (Some (Demo count seed)) = ⊥
