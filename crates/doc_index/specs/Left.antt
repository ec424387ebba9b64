-- The documents that are left where some are taken out. Their internal ids are never given again, and no path goes.
use Rattle.std.specs.Prelude.{ℕ, List, [], not}
use Rattle.std.specs.List.{filter}
use Rattle.doc_store.specs.Store.{Store}
use Rattle.doc_index.specs.Named.{is_named}

-- the documents that none of these external ids names
abbrev pub without_named : List (List ℕ) → Store → Store
without_named externals s =
    record { paths = s.paths; next_id = s.next_id; rows = filter (λ r. not (is_named externals r)) s.rows }

abbrev pub without_all : Store → Store
without_all s = record { paths = s.paths; next_id = s.next_id; rows = [] }
