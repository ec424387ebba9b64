-- Which of the hits a search asks for.
use Rattle.std.specs.Prelude.{ℕ, zero, suc, ◌*◌}
use Rattle.search_call.specs.declared.Window.{Window}
use Rattle.search_call.specs.declared.Window.TheVariants.{Slice, Page}

-- page p of 1 or more begins behind the pages before it
abbrev pub page_start : ℕ → ℕ → ℕ
page_start zero per = 0
page_start (suc before) per = before * per

-- page 0 has no hits
abbrev pub page_size : ℕ → ℕ → ℕ
page_size zero per = 0
page_size (suc before) per = per

-- the place of the first hit that is asked for
abbrev pub offset_of : Window → ℕ
offset_of (Slice offset limit) = offset
offset_of (Page page per) = page_start page per

-- how many hits are asked for at most
abbrev pub limit_of : Window → ℕ
limit_of (Slice offset limit) = limit
limit_of (Page page per) = page_size page per
