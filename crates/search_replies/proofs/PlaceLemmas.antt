-- The places in some texts and in others behind them, and the text of a place.
use Rattle.std.proofs.Common.{◌≡◌, ℕ, List, [], ◌∷◌, ◌++◌, ◌+◌, map, length, codes, decimal, append_assoc, sym, ap, ◌∙◌, arith}
use Rattle.serde_json.specs.Written.{compact_text}
use Rattle.serde_json.proofs.OnLiterals.{serde_json_on_literals}
use Rattle.search_base.specs.TermView.{TermView}
use Rattle.hit_format.specs.Matched.{matched}
use Rattle.search_replies.specs.declared.positions.Place.{Place}
use Rattle.search_replies.specs.Positions.{place_data, place_of, places_from}

-- the second texts are numbered behind the first
behind : (n : ℕ) (xs ys : List (List ℕ)) → n + length (xs ++ ys) ≡ (n + length xs) + length ys
behind n [] ys = omega arith
behind n (x ∷ xs) ys = (let later : (n + 1) + length (xs ++ ys) ≡ ((n + 1) + length xs) + length ys = behind (n + 1) xs ys in omega arith)

module _ (terms : List TermView) where
  places_behind : (n : ℕ) (xs ys : List (List ℕ)) → places_from terms n (xs ++ ys) ≡ places_from terms n xs ++ places_from terms (n + length xs) ys
  places_behind n [] ys = ap (λ k. places_from terms k ys) (omega arith)
  places_behind n (x ∷ xs) ys =
      let next : (n + 1) + length xs ≡ n + length (x ∷ xs) = omega arith in
      ap (λ v. map (place_of n) (matched x terms) ++ v) (places_behind (n + 1) xs ys ∙ ap (λ k. places_from terms (n + 1) xs ++ places_from terms k ys) next)
      ∙ sym (append_assoc (map (place_of n) (matched x terms)) (places_from terms (n + 1) xs) (places_from terms (n + length (x ∷ xs)) ys))

  -- the places in all texts, where those in the first texts are found
  pub places_step : (all old new : List Place) (n m : ℕ) (xs ys : List (List ℕ))
      → new ≡ old ++ places_from terms n xs → m ≡ n + length xs → all ≡ old ++ places_from terms n (xs ++ ys)
      → all ≡ new ++ places_from terms m ys
  places_step all old new n m xs ys found counted is =
      is ∙ ap (λ v. old ++ v) (places_behind n xs ys ∙ ap (λ k. places_from terms n xs ++ places_from terms k ys) (sym counted))
      ∙ sym (append_assoc old (places_from terms n xs) (places_from terms m ys))
      ∙ ap (λ v. v ++ places_from terms m ys) (sym found)

pub texts_step : (all n m : ℕ) (xs ys : List (List ℕ)) → m ≡ n + length xs → all ≡ n + length (xs ++ ys) → all ≡ m + length ys
texts_step all n m xs ys counted is = is ∙ behind n xs ys ∙ ap (λ k. k + length ys) (sym counted)

pub place_printed : (place : Place) (piece old new : List ℕ)
    → piece ≡ codes "{\"length\":" ++ (decimal place.length ++ (codes ",\"start\":" ++ (decimal place.start ++ (codes ",\"text\":" ++ (decimal place.text ++ codes "}")))))
    → new ≡ old ++ piece
    → new ≡ old ++ compact_text (place_data place)
unfolding serde_json_on_literals
place_printed place piece old new is_piece is_new = is_new ∙ ap (λ v. old ++ v) is_piece
