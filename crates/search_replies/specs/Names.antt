-- Which names the code's sets of names show.
use Rattle.std.specs.Prelude.{ℕ, List, Bool, ◌&&◌, ◌||◌}
use Rattle.std.specs.BTreeSet.{contains_text}
use Rattle.search_replies.specs.declared.names.NameSet.{NameSet}
use Rattle.search_replies.specs.declared.names.Names.{Names}

abbrev pub set_shows : NameSet → List ℕ → Bool
set_shows set name = set.all || contains_text set.names name

-- both lists show it
abbrev pub shows : Names → List ℕ → Bool
shows names name = set_shows names.displayed name && set_shows names.asked name
