-- Where the texts of a path start, and which of their words are searched.
use Rattle.std.proofs.Common.{◌≡◌, ◌∙◌, ℕ, zero, suc, ◌+◌, ◌-◌, ◌<◌, ◌≤◌, Bool, true, false, cond, List, [], ◌∷◌, ◌++◌, length, get_or, drop, map, filter, min, refl, sym, ap, ◌⊎◌, inl, inr, arith, nat_lt, append_assoc}
use Rattle.std.proofs.lemmas.List.{drop_more}
use Rattle.search_base.specs.declared.document.Place.{Place}
use Rattle.search_base.specs.declared.token.Token.{Token}
use Rattle.token_words.specs.Tokens.{tokens}
use Rattle.doc_rows.specs.Rows.{last_searched, text_step, place_of, next_start, all_places, is_searched}

filter-append : {X : Type 0} (p : X → Bool) (xs ys : List X) → filter p (xs ++ ys) ≡ filter p xs ++ filter p ys
filter-append p [] ys = refl
filter-append {X = X} p (x ∷ xs) ys =
    let rest = filter-append p xs ys in
    elim (p x) as (λ b. cond b (x ∷ filter p (xs ++ ys)) (filter p (xs ++ ys)) ≡ cond b (x ∷ filter p xs) (filter p xs) ++ filter p ys) [
      | true ↦ ap (λ (zs : List X). x ∷ zs) rest
      | false ↦ rest
    ]

-- a text's next start is no smaller than its own
next_start-ge : (start : ℕ) (words : List Token) → start ≤ next_start start words
next_start-ge start [] = omega arith
next_start-ge start (last ∷ []) = omega arith
next_start-ge start (token ∷ next ∷ later) = next_start-ge start (next ∷ later)

-- the last word decides
next_start-last : (start : ℕ) (words : List Token) (i : ℕ) (d : Token) → length words ≡ suc i → next_start start words ≡ start + (get_or words i d).position + text_step
next_start-last start [] i d h = absurd (omega arith)
next_start-last start (last ∷ []) zero d h = refl
next_start-last start (last ∷ []) (suc i) d h = absurd (omega arith)
next_start-last start (token ∷ next ∷ later) zero d h = absurd (omega arith)
next_start-last start (token ∷ next ∷ later) (suc i) d h = next_start-last start (next ∷ later) i d (omega arith)

far_word : (number rank start : ℕ) (word : Token) → last_searched < start → is_searched (place_of number rank start word) ≡ false
far_word number rank start word h = grind arith

far_text : (number rank start : ℕ) (words : List Token) → last_searched < start → filter is_searched (map (place_of number rank start) words) ≡ []
far_text number rank start [] h = refl
far_text number rank start (word ∷ words) h = rw (far_word number rank start word h) (far_text number rank start words h)

-- texts that start behind the last position have no word that is searched
far : (number rank start : ℕ) (texts : List (List ℕ)) → last_searched < start → filter is_searched (all_places number rank start texts) ≡ []
far number rank start [] h = refl
far number rank start (text ∷ texts) h =
    let later : last_searched < next_start start (tokens text) = omega (arith, next_start-ge start (tokens text)) in
    filter-append is_searched (map (place_of number rank start) (tokens text)) (all_places number rank (next_start start (tokens text)) texts)
    ∙ rw (far_text number rank start (tokens text) h) (far number rank (next_start start (tokens text)) texts later)

near_or_far : (start : ℕ) → start ≤ 65536 ⊎ last_searched < start
near_or_far start = grind arith

-- so all these starts are one
one_start : (number rank start : ℕ) (texts : List (List ℕ)) → filter is_searched (all_places number rank (min start 65536) texts) ≡ filter is_searched (all_places number rank start texts)
one_start number rank start texts = go (near_or_far start)
  where
    go : start ≤ 65536 ⊎ last_searched < start → filter is_searched (all_places number rank (min start 65536) texts) ≡ filter is_searched (all_places number rank start texts)
    go (inl h) = let same : min start 65536 ≡ start = omega arith in rw same refl
    go (inr h) = let behind : last_searched < min start 65536 = omega arith in far number rank (min start 65536) texts behind ∙ sym (far number rank start texts h)

-- one more text
pub texts_more : (number rank start next : ℕ) (text : List ℕ) (texts : List (List ℕ)) (places whole : List Place) (words : List Token) → words ≡ tokens text
    → next ≡ min (next_start start words) 65536
    → places ++ filter is_searched (all_places number rank start (text ∷ texts)) ≡ whole
    → (places ++ filter is_searched (map (place_of number rank start) words)) ++ filter is_searched (all_places number rank next texts) ≡ whole
texts_more number rank start next text texts places whole words same start_is told =
    let toks = tokens text in
    let split : filter is_searched (all_places number rank start (text ∷ texts)) ≡ filter is_searched (map (place_of number rank start) toks) ++ filter is_searched (all_places number rank (next_start start toks) texts) =
    filter-append is_searched (map (place_of number rank start) toks) (all_places number rank (next_start start toks) texts) in
    let next_is : next ≡ min (next_start start toks) 65536 = start_is ∙ ap (λ (ts : List Token). min (next_start start ts) 65536) same in
    rw (same, next_is, one_start number rank (next_start start toks) texts, append_assoc) (rw split at told)

some_words : (n : ℕ) → true ≡ nat_lt 0 n → 0 < n
some_words zero e = cc
some_words (suc n) e = omega arith

-- the next start, as the last word gives it
pub next_from_last : (start position n : ℕ) (words : List Token) (last : Token) → start ≤ 65536 → true ≡ nat_lt 0 (length words) → last ≡ get_or words (length words - 1) last
    → position ≡ min last.position 65536 → n ≡ min (start + position + text_step) 65536 → n ≡ min (next_start start words) 65536
next_from_last start position n words last near some is cut e =
    let has : 0 < length words = some_words (length words) some in
    let same : (get_or words (length words - 1) last).position ≡ last.position = ap (λ (t : Token). t.position) (sym is) in
    let whole = next_start-last start words (length words - 1) last (omega arith) in
    omega (arith, same, whole)

-- one more text of the list
pub texts_step : (number rank start next i : ℕ) (text : List ℕ) (texts : List (List ℕ)) (places more whole : List Place) (words : List Token)
    → i < length texts → text ≡ get_or texts i text → words ≡ tokens text → next ≡ min (next_start start words) 65536
    → more ≡ places ++ filter is_searched (map (place_of number rank start) words)
    → places ++ filter is_searched (all_places number rank start (drop i texts)) ≡ whole
    → more ++ filter is_searched (all_places number rank next (drop (i + 1) texts)) ≡ whole
texts_step number rank start next i text texts places more whole words h is same start_is more_is told =
    let split : drop i texts ≡ text ∷ drop (i + 1) texts = drop_more texts i text h ∙ ap (λ (t : List ℕ). t ∷ drop (i + 1) texts) (sym is) in
    ap (λ (ps : List Place). ps ++ filter is_searched (all_places number rank next (drop (i + 1) texts))) more_is
    ∙ texts_more number rank start next text (drop (i + 1) texts) places whole words same start_is
    (ap (λ (ts : List (List ℕ)). places ++ filter is_searched (all_places number rank start ts)) (sym split) ∙ told)
