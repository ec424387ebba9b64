-- What is told of a link that was served.
use Rattle.std.specs.Prelude.{ℕ, Bool, true, false, List, ◌++◌, codes, decimal}
use Rattle.search_server.specs.Statuses.{number_of}
use Rattle.search_server.specs.declared.status.LinkEnd.{LinkEnd}

-- how a line ends, by whether a batch was put off
abbrev pub line_end : Bool → List ℕ
line_end true = codes " put off\n"
line_end false = codes "\n"

-- a line with its number, that of the status with which it ended, how many whole requests were read, and whether the
-- batch behind the last reply was put off
abbrev pub link_line : ℕ → LinkEnd → List ℕ
link_line number end =
    codes "link " ++ (decimal number ++ (codes " status " ++ (decimal (number_of end.status)
    ++ (codes " requests " ++ (decimal end.requests ++ line_end end.put_off)))))
