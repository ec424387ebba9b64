-- Lists.
use Rattle.std.proofs.Common.{◌≡◌, ℕ, ◌+◌, ◌<◌, List, ◌++◌, length, take, drop, get_or, ap, sym, ◌∙◌, append-nil}
use Rattle.std.specs.List.{flat_map}
use Rattle.std.proofs.lemmas.List.{take_more, drop-take, drop-drop}
use Rattle.std.proofs.lemmas.List.Concat.{flat_map-append}

-- one more piece
pub flat_map_more : {X Y : Type 0} (f : X → List Y) (xs : List X) (i : ℕ) (d : X) → i < length xs
    → flat_map f (take (i + 1) xs) ≡ flat_map f (take i xs) ++ f (get_or xs i d)
flat_map_more f xs i d h = rw (take_more xs i d h, flat_map-append) (ap (λ (v : List _). flat_map f (take i xs) ++ v) (append-nil (f (get_or xs i d))))

-- the bytes of a body in a buffer whose front is used up
pub body_of_front : (buffer : List ℕ) (at start size : ℕ) → drop (at + start) (take (at + start + size) buffer) ≡ take size (drop start (drop at buffer))
body_of_front buffer at start size = drop-take (at + start) size buffer ∙ ap (λ v. take size v) (sym (drop-drop start at buffer))
