-- An index is made, or goes.
use Rattle.std.proofs.Common.{◌≡◌, ◌<◌, ℕ, List, length, Bool, false, Option, is_some, Ok, sym, ap, ap₂, ◌∙◌}
use Rattle.std.proofs.lemmas.Bool.{lt-leb}
use Rattle.search_base.specs.Trying.{◌>>◌, refuse_if}
use Rattle.index_changes.specs.Index.{Index, empty_index}
use Rattle.named_indexes.specs.Indexes.{Indexes, index_at, with_index}
use Rattle.named_indexes.specs.Changes.{created}

abbrev pub new_with : Option (List ℕ) → Index
new_with key = record { key = key; store = empty_index.store; settings = empty_index.settings }

pub created_new : (es : Indexes) (uid : List ℕ) (key : Option (List ℕ)) (i : Index) → is_some (index_at uid es) ≡ false → length es < 1000 → i ≡ new_with key
    → created es uid key ≡ Ok (with_index uid i es)
created_new es uid key i none room is =
    ap₂ (λ (there full : Bool). refuse_if there 24 >> (refuse_if full 32 >> Ok (with_index uid (new_with key) es))) none (lt-leb 1000 (length es) room)
    ∙ ap (λ (j : Index). Ok (with_index uid j es)) (sym is)
