-- The entries in a universe of several lists.
use Rattle.std.proofs.Common.{◌≡◌, ℕ, ◌/◌, ◌^◌, Bool, true, false, ◌&&◌, ◌||◌, List, [], ◌∷◌, flat_map, refl, ap₂, ◌∙◌}
use Rattle.std.specs.List.{list_any}
use Rattle.doc_sets.specs.Sets.{has as has_id}
use Rattle.sorted_pages.specs.Entries.{has}
use Rattle.sorted_pages.proofs.SetLemmas.{has-filter}
use Rattle.sorted_pages.proofs.SplitLemmas.{has-append}
use Rattle.near_words.specs.Inside.{inside}

pub spread : (a b u : Bool) → ((a && u) || (b && u)) ≡ ((a || b) && u)
spread true b true = refl
spread true true false = refl
spread true false false = refl
spread false b u = refl

pub has_inside : (universe row : List ℕ) (entry : ℕ) → has (inside universe row) entry ≡ (has row entry && has_id universe (entry / 2 ^ 32))
has_inside universe row entry = has-filter (λ e. has_id universe (e / 2 ^ 32)) row entry

pub has_all_inside : {X : Type 0} (of : X → List ℕ) (universe : List ℕ) (lists : List X) (entry : ℕ)
    → has (flat_map (λ list. inside universe (of list)) lists) entry ≡ (list_any (λ list. has (of list) entry) lists && has_id universe (entry / 2 ^ 32))
has_all_inside of universe [] entry = refl
has_all_inside of universe (list ∷ lists) entry =
    has-append (inside universe (of list)) (flat_map (λ list. inside universe (of list)) lists) entry
    ∙ ap₂ ◌||◌ (has_inside universe (of list) entry) (has_all_inside of universe lists entry)
    ∙ spread (has (of list) entry) (list_any (λ list. has (of list) entry) lists) (has_id universe (entry / 2 ^ 32))
