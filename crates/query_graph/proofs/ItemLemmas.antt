-- The items of a query: at most ten, each of some words, and the prefix word the last.
use Rattle.std.proofs.Common.{◌≡◌, ◌∙◌, ℕ, zero, suc, ◌+◌, ◌<◌, ◌≤◌, ◌==◌, Bool, true, false, not, ◌&&◌, cond, List, [], ◌∷◌, ◌++◌, length, take, map, filter, Result, Ok, Err, OnOk, refl, sym, ap, subst, arith, length-take, append-nil, append_assoc}
use Rattle.std.specs.List.{list_all, slice_split, AllByRecursion}
use Rattle.std.specs.List.{before_first, after_first, position_or_len, onto_first}
use Rattle.std.proofs.lemmas.List.{take-append-le}
use Rattle.std.proofs.lemmas.List.Splits.{slice_split_first}
use Rattle.search_base.specs.declared.token.Token.{Token}
use Rattle.token_words.specs.Tokens.{tokens}
use Rattle.query_graph.specs.ItemView.{ItemView}
use Rattle.query_graph.specs.Items.{most_items, parts, word_item, word_items, phrase_items, part_items, items_in, first_items, is_left_out, without_stop_words, items_of, IsItem, EndsWithPrefix, AreItems}

-- ---- the parts of a text

-- a quote ends the first part
pub items_cut : (quoted : Bool) (rest : List ℕ) → position_or_len (λ byte. byte == 34) rest < length rest
    → part_items quoted false (before_first (λ byte. byte == 34) rest) ++ items_in (not quoted) (parts (after_first (λ byte. byte == 34) rest)) ≡ items_in quoted (parts rest)
items_cut quoted rest h =
    sym (ap (items_in quoted) (slice_split_first (λ byte. byte == 34) rest 0 h)
    ∙ ap (λ last. part_items quoted last (before_first (λ byte. byte == 34) rest) ++ items_in (not quoted) (parts (after_first (λ byte. byte == 34) rest)))
    (some_parts (after_first (λ byte. byte == 34) rest)))
  where
    not_none : {X : Type 0} (first : X) (later : List X) → (length (first ∷ later) == 0) ≡ false
    not_none first later = grind arith

    some_parts : (bs : List ℕ) → (length (slice_split (λ byte. byte == 34) bs) == 0) ≡ false
    some_parts [] = refl
    some_parts (b ∷ bs) = go (b == 34) (slice_split (λ byte. byte == 34) bs)
      where
        go : (c : Bool) (more : List (List ℕ)) → (length (cond c ([] ∷ more) (onto_first b more)) == 0) ≡ false
        go true more = not_none [] more
        go false [] = refl
        go false (part ∷ more) = not_none (b ∷ part) more

whole_part : {X : Type 0} (test : X → Bool) (xs : List X) → position_or_len test xs ≡ length xs → slice_split test xs ≡ xs ∷ []
whole_part test [] none = refl
whole_part test (x ∷ xs) none = by (whole_part test xs) (test x) none
  where
    by : (position_or_len test xs ≡ length xs → slice_split test xs ≡ xs ∷ []) → (b : Bool) → cond (not b) (1 + position_or_len test xs) 0 ≡ suc (length xs)
        → cond b ([] ∷ slice_split test xs) (onto_first x (slice_split test xs)) ≡ (x ∷ xs) ∷ []
    by rest true h = absurd (omega arith)
    by rest false h = ap (onto_first x) (rest (omega arith))

-- no quote ends the last part
pub items_last : (quoted : Bool) (rest : List ℕ) → position_or_len (λ byte. byte == 34) rest ≡ length rest → part_items quoted true rest ≡ items_in quoted (parts rest)
items_last quoted rest none = sym (ap (items_in quoted) (whole_part (λ byte. byte == 34) rest none) ∙ append-nil (part_items quoted true rest))

-- ---- the words of a part

-- the last word, behind the others
pub words_last : (last : Bool) (end : ℕ) (front : List Token) (token : Token)
    → word_items last end (front ++ token ∷ []) ≡ map (λ t. word_item false t.word) front ++ word_item (last && (token.end == end)) token.word ∷ []
words_last last end [] token = refl
words_last last end (t ∷ []) token = refl
words_last last end (t ∷ u ∷ front) token = ap (λ (items : List ItemView). word_item false t.word ∷ items) (words_last last end (u ∷ front) token)

pub words_added : (last : Bool) (end : ℕ) (old : List ItemView) (front : List Token) (token : Token) (words : List Token) → words ≡ front ++ token ∷ []
    → (old ++ map (λ t. word_item false t.word) front) ++ word_item (last && (token.end == end)) token.word ∷ [] ≡ old ++ word_items last end words
words_added last end old front token words e =
    append_assoc old (map (λ t. word_item false t.word) front) _ ∙ ap (λ (items : List ItemView). old ++ items) (sym (ap (word_items last end) e ∙ words_last last end front token))

-- ---- the first items

take_less : {X : Type 0} (n m : ℕ) (xs : List X) → n ≤ m → take n (take m xs) ≡ take n xs
take_less zero m xs h = refl
take_less (suc n) zero xs h = absurd (omega arith)
take_less (suc n) (suc m) [] h = refl
take_less (suc n) (suc m) (x ∷ xs) h = ap (λ rest. x ∷ rest) (take_less n m xs (omega arith))

-- what stands behind the first of a list is not among the first of all
pub take_first : {X : Type 0} (n : ℕ) (xs ys : List X) → take n (take n xs ++ ys) ≡ take n (xs ++ ys)
take_first zero xs ys = refl
take_first (suc n) [] ys = refl
take_first (suc n) (x ∷ xs) ys = ap (λ rest. x ∷ rest) (take_first n xs ys)

pub take_second : {X : Type 0} (n m : ℕ) (xs ys : List X) → n ≤ m → take n (xs ++ take m ys) ≡ take n (xs ++ ys)
take_second zero m xs ys h = refl
take_second (suc n) m [] ys h = take_less (suc n) m ys h
take_second (suc n) m (x ∷ xs) ys h = ap (λ rest. x ∷ rest) (take_second n m xs ys (omega arith))

-- of words no more are read than one behind the first
words_read : (n : ℕ) (last : Bool) (end : ℕ) (ts : List Token) → take n (word_items last end (take (suc n) ts)) ≡ take n (word_items last end ts)
words_read zero last end ts = refl
words_read (suc n) last end [] = refl
words_read (suc n) last end (t ∷ []) = refl
words_read (suc n) last end (t ∷ u ∷ ts) = ap (λ (rest : List ItemView). word_item false t.word ∷ rest) (words_read n last end (u ∷ ts))

first_words : (last : Bool) (end : ℕ) (old new : List ItemView) (words ts : List Token) → words ≡ take (suc most_items) ts
    → new ≡ old ++ word_items last end words → take most_items new ≡ take most_items (old ++ word_items last end ts)
first_words last end old new words ts read added =
    ap (take most_items) (added ∙ ap (λ w. old ++ word_items last end w) read)
    ∙ sym (take_second most_items most_items old (word_items last end (take (suc most_items) ts)) (omega arith))
    ∙ ap (λ (items : List ItemView). take most_items (old ++ items)) (words_read most_items last end ts)
    ∙ take_second most_items most_items old (word_items last end ts) (omega arith)

pub first_words_added : {X E : Type 0} (r : Result X E) (quoted last : Bool) (old new : List ItemView) (words : List Token) (part : List ℕ) → quoted ≡ false
    → words ≡ take (suc most_items) (tokens part) → OnOk r (new ≡ old ++ word_items last (length part) words)
    → OnOk r (take most_items new ≡ take most_items (old ++ part_items quoted last part))
first_words_added (Ok x) quoted last old new words part beside read added =
    first_words last (length part) old new words (tokens part) read added ∙ ap (λ (b : Bool). take most_items (old ++ part_items b last part)) (sym beside)
first_words_added (Err e) quoted last old new words part beside read added = tt

-- ---- the first items so far, and those of the rest of the text

pub cut_more : (quoted : Bool) (list more whole : List ItemView) (rest part behind : List ℕ)
    → (position_or_len (λ byte. byte == 34) rest < length rest) × (part ≡ before_first (λ byte. byte == 34) rest) × (behind ≡ after_first (λ byte. byte == 34) rest)
    → take most_items more ≡ take most_items (list ++ part_items quoted false part) → take most_items (list ++ items_in quoted (parts rest)) ≡ whole
    → take most_items (more ++ items_in (not quoted) (parts behind)) ≡ whole
cut_more quoted list more whole rest part behind cut added told =
    sym (take_first most_items more (items_in (not quoted) (parts behind)))
    ∙ ap (λ (items : List ItemView). take most_items (items ++ items_in (not quoted) (parts behind))) added
    ∙ take_first most_items (list ++ part_items quoted false part) (items_in (not quoted) (parts behind))
    ∙ ap (take most_items) (append_assoc list (part_items quoted false part) (items_in (not quoted) (parts behind)))
    ∙ ap (λ (items : List ItemView). take most_items (list ++ items))
    (ap (λ p. part_items quoted false p ++ items_in (not quoted) (parts behind)) cut.1 ∙ ap (λ p. part_items quoted false (before_first (λ byte. byte == 34) rest) ++ items_in (not quoted) (parts p)) cut.2
    ∙ items_cut quoted rest cut.0)
    ∙ told

-- ten items are enough
pub no_more : (list more whole : List ItemView) → most_items ≤ length list → take most_items (list ++ more) ≡ whole → take most_items list ≡ whole
no_more list more whole full told = sym (take-append-le most_items list more full) ∙ told

-- ---- what holds of all items

pub All-append : {X : Type 0} (P : X → Type 0) (xs ys : List X) → AllByRecursion P xs → AllByRecursion P ys → AllByRecursion P (xs ++ ys)
All-append P [] ys hs gs = gs
All-append P (x ∷ xs) ys hs gs = (hs.0, All-append P xs ys hs.1 gs)

pub All-take : {X : Type 0} (P : X → Type 0) (n : ℕ) (xs : List X) → AllByRecursion P xs → AllByRecursion P (take n xs)
All-take P zero xs h = tt
All-take P (suc n) [] h = tt
All-take P (suc n) (x ∷ xs) h = (h.0, All-take P n xs h.1)

All-filter : {X : Type 0} (P : X → Type 0) (test : X → Bool) (xs : List X) → AllByRecursion P xs → AllByRecursion P (filter test xs)
All-filter P test [] h = tt
All-filter P test (x ∷ xs) h =
    elim (test x) as (λ b. AllByRecursion P (cond b (x ∷ filter test xs) (filter test xs))) [ true ↦ (h.0, All-filter P test xs h.1) | false ↦ All-filter P test xs h.1 ]

length-filter-le : {X : Type 0} (test : X → Bool) (xs : List X) → length (filter test xs) ≤ length xs
length-filter-le test [] = omega arith
length-filter-le test (x ∷ xs) =
    let h = length-filter-le test xs in
    elim (test x) as (λ b. length (cond b (x ∷ filter test xs) (filter test xs)) ≤ suc (length xs)) [ true ↦ omega (arith, h) | false ↦ omega (arith, h) ]

word : (prefix : Bool) (w : List ℕ) → IsItem (word_item prefix w)
word prefix w = record { some = omega arith; one_word = λ _. refl; unquoted = λ _. refl }

words : (last : Bool) (end : ℕ) (ts : List Token) → AllByRecursion IsItem (word_items last end ts)
words last end [] = tt
words last end (t ∷ []) = (word _ _, tt)
words last end (t ∷ u ∷ ts) = (word _ _, words last end (u ∷ ts))

phrases : (ts : List Token) → AllByRecursion IsItem (phrase_items ts)
phrases [] = tt
phrases (t ∷ ts) = (record { some = omega arith; one_word = λ e. absurd (cc); unquoted = λ e. absurd (cc) }, tt)

part_each : (quoted last : Bool) (part : List ℕ) → AllByRecursion IsItem (part_items quoted last part)
part_each true last part = phrases (tokens part)
part_each false last part = words last (length part) (tokens part)

items_each : (quoted : Bool) (ps : List (List ℕ)) → AllByRecursion IsItem (items_in quoted ps)
items_each quoted [] = tt
items_each quoted (part ∷ ps) =
    All-append IsItem (part_items quoted (length ps == 0) part) (items_in (not quoted) ps) (part_each quoted (length ps == 0) part) (items_each (not quoted) ps)

-- ---- the prefix word is the last item

full_then : (xs ys : List ItemView) → AllByRecursion (λ item. item.prefix ≡ false) xs → EndsWithPrefix ys → EndsWithPrefix (xs ++ ys)
full_then [] ys full ends = ends
full_then (x ∷ xs) ys full ends = ((λ e. absurd (let no : x.prefix ≡ false = full.0 in cc)), full_then xs ys full.1 ends)

words_end : (last : Bool) (end : ℕ) (ts : List Token) → EndsWithPrefix (word_items last end ts)
words_end last end [] = tt
words_end last end (t ∷ []) = ((λ _. refl), tt)
words_end last end (t ∷ u ∷ ts) = ((λ e. absurd (cc)), words_end last end (u ∷ ts))

words_full : (end : ℕ) (ts : List Token) → AllByRecursion (λ item. item.prefix ≡ false) (word_items false end ts)
words_full end [] = tt
words_full end (t ∷ []) = (refl, tt)
words_full end (t ∷ u ∷ ts) = (refl, words_full end (u ∷ ts))

phrases_full : (ts : List Token) → AllByRecursion (λ item. item.prefix ≡ false) (phrase_items ts)
phrases_full [] = tt
phrases_full (t ∷ ts) = (refl, tt)

part_full : (quoted : Bool) (part : List ℕ) → AllByRecursion (λ item. item.prefix ≡ false) (part_items quoted false part)
part_full true part = phrases_full (tokens part)
part_full false part = words_full (length part) (tokens part)

part_ends : (quoted last : Bool) (part : List ℕ) → EndsWithPrefix (part_items quoted last part)
part_ends true last part = subst EndsWithPrefix (append-nil _) (full_then (phrase_items (tokens part)) [] (phrases_full (tokens part)) tt)
part_ends false last part = words_end last (length part) (tokens part)

items_end : (quoted : Bool) (ps : List (List ℕ)) → EndsWithPrefix (items_in quoted ps)
items_end quoted [] = tt
items_end quoted (part ∷ []) = subst EndsWithPrefix (sym (append-nil _)) (part_ends quoted true part)
items_end quoted (part ∷ next ∷ ps) =
    let more : (length (next ∷ ps) == 0) ≡ false = grind arith in
    subst (λ (last : Bool). EndsWithPrefix (part_items quoted last part ++ items_in (not quoted) (next ∷ ps))) (sym more)
    (full_then (part_items quoted false part) (items_in (not quoted) (next ∷ ps)) (part_full quoted part) (items_end (not quoted) (next ∷ ps)))

ends-take : (n : ℕ) (items : List ItemView) → EndsWithPrefix items → EndsWithPrefix (take n items)
ends-take zero items h = tt
ends-take (suc n) [] h = tt
ends-take (suc n) (item ∷ items) h = ((λ e. ap (take n) (h.0 e) ∙ none n), ends-take n items h.1)
  where
    none : (m : ℕ) → take {A = ItemView} m [] ≡ []
    none zero = refl
    none (suc m) = refl

ends-filter : (test : ItemView → Bool) (items : List ItemView) → EndsWithPrefix items → EndsWithPrefix (filter test items)
ends-filter test [] h = tt
ends-filter test (item ∷ items) h =
    let later = ends-filter test items h.1 in
    elim (test item) as (λ b. EndsWithPrefix (cond b (item ∷ filter test items) (filter test items)))
    [ true ↦ ((λ e. ap (filter test) (h.0 e)), later) | false ↦ later ]

firsts : (q : List ℕ) → AreItems (first_items q)
firsts q = record {
  few = omega (arith, length-take most_items (items_in false (parts q)));
  each = All-take IsItem most_items (items_in false (parts q)) (items_each false (parts q));
  prefix = ends-take most_items (items_in false (parts q)) (items_end false (parts q));
}

stays : (stop_words : List (List ℕ)) (items : List ItemView) → AreItems items → AreItems (without_stop_words stop_words items)
stays stop_words items h =
    let test : ItemView → Bool = λ item. not (is_left_out stop_words item) in
    elim (list_all (is_left_out stop_words) items) as (λ b. AreItems (cond b items (filter test items))) [
      | true ↦ h
      | false ↦ record { few = omega (arith, h.few, length-filter-le test items); each = All-filter IsItem test items h.each; prefix = ends-filter test items h.prefix }
    ]

-- what a query asks for
pub are_items : (q : List ℕ) (stop_words : List (List ℕ)) → AreItems (items_of q stop_words)
are_items q stop_words = stays stop_words (first_items q) (firsts q)
