-- The words of one more text stand behind those of the others.
use Rattle.std.proofs.Common.{◌≡◌, ◌∙◌, ℕ, List, [], ◌∷◌, ◌++◌, map, refl, sym, ap, append-nil, append_assoc}
use Rattle.search_base.specs.declared.document.Place.{Place}
use Rattle.search_base.specs.declared.token.Token.{Token}
use Rattle.token_words.specs.Tokens.{tokens}
use Rattle.doc_rows.specs.Rows.{place_of, next_start, all_places, start_behind}

-- behind a word it does not count where the words started
start-any : (a b : ℕ) (place : Place) (places : List Place) → start_behind a (place ∷ places) ≡ start_behind b (place ∷ places)
start-any a b place [] = refl
start-any a b place (next ∷ places) = start-any a b next places

-- the words of a text lead to where the next text starts
start-next : (number rank start : ℕ) (words : List Token) (rest : List Place) → start_behind start (map (place_of number rank start) words ++ rest) ≡ start_behind (next_start start words) rest
start-next number rank start [] rest = refl
start-next number rank start (word ∷ []) [] = refl
start-next number rank start (word ∷ []) (place ∷ rest) = start-any start (next_start start (word ∷ [])) place rest
start-next number rank start (word ∷ next ∷ words) rest = start-next number rank start (next ∷ words) rest

pub apart-from : (number rank start : ℕ) (texts : List (List ℕ)) (text : List ℕ) → all_places number rank start (texts ++ text ∷ [])
    ≡ all_places number rank start texts ++ map (place_of number rank (start_behind start (all_places number rank start texts))) (tokens text)
apart-from number rank start [] text = append-nil (map (place_of number rank start) (tokens text))
apart-from number rank start (first ∷ texts) text =
    let words = map (place_of number rank start) (tokens first) in
    let next = next_start start (tokens first) in
    let later = all_places number rank next texts in
    ap (λ v. words ++ v) (apart-from number rank next texts text) ∙ sym (append_assoc words later (map (place_of number rank (start_behind next later)) (tokens text)))
    ∙ ap (λ s. (words ++ later) ++ map (place_of number rank s) (tokens text)) (sym (start-next number rank start (tokens first) later))
