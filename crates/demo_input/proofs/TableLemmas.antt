-- A read of a table of texts.
use Rattle.std.proofs.Common.{◌≡◌, Bor, ℕ, ◌<◌, List, [], length, map, get_or, sym}
use Rattle.std.proofs.lemmas.List.{get_or-map}

pub table_read : (refs : List (Bor (List ℕ))) (i : ℕ) (d : Bor (List ℕ)) → i < length refs
    → (get_or refs i d).now ≡ get_or (map (λ (r : Bor (List ℕ)). r.now) refs) i []
table_read refs i d within = sym (get_or-map (λ (r : Bor (List ℕ)). r.now) refs i d [] within)
