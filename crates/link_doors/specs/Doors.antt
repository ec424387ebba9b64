-- What `next` does to the links that come, where a door tells them.
use Rattle.std.specs.Prelude.{◌≡◌, List, [], ◌∷◌, Option, Some, None, IfSome}
use Rattle.std.specs.Option.{option_map}

-- the link that is given was the first of those that came; where none is given, none comes any more
abbrev pub Comes : {Link : Type 0} → Option (List Link) → Option (List Link) → Option Link → Type 0
Comes before after None = (after ≡ before) × IfSome before (λ links. links ≡ [])
Comes before after (Some link) = before ≡ option_map (λ links. link ∷ links) after
