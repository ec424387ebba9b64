-- Whether a link or a disk tells what it holds never changes.
use Rattle.std.specs.Prelude.{◌≡◌, Option, is_some}
use Rattle.search_server.specs.LinkState.{LinkState}

-- it is told after a call exactly where it was told before
abbrev pub GoesOnTelling : {A : Type 0} → Option A → Option A → Type 0
GoesOnTelling before after = is_some after ≡ is_some before

-- the same of a link: of the bytes that it has left, and of those that were written
abbrev pub LinkGoesOnTelling : LinkState → LinkState → Type 0
LinkGoesOnTelling old new = GoesOnTelling old.pending new.pending × GoesOnTelling old.told new.told
