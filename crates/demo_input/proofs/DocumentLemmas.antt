-- The texts of documents, one after the other.
use Rattle.std.proofs.Common.{◌≡◌, ℕ, suc, ◌+◌, ◌-◌, ◌%◌, ◌<◌, ◌≤◌, List, [], ◌∷◌, ◌++◌, Bool, true, false, codes, decimal, refl, sym, ap, ◌∙◌, append_assoc, append-nil, add_assoc, arith}
use Rattle.std.specs.List.{join_with_byte}
use Rattle.serde_json.specs.Written.{comma_if}
use Rattle.demo_input.specs.Draws.{next_draw, draw}
use Rattle.demo_input.specs.Documents.{word_of, tag_of, title, document, documents, list_text}

-- ---- one document

pub title_printed : (a b c d : ℕ) (first second third fourth old new : List ℕ)
    → first ≡ word_of a → second ≡ word_of b → third ≡ word_of c → fourth ≡ word_of d
    → new ≡ old ++ (first ++ (codes " " ++ (second ++ (codes " " ++ (third ++ (codes " " ++ fourth))))))
    → new ≡ old ++ title a b c d
unfolding title
title_printed a b c d first second third fourth old new is_first is_second is_third is_fourth is_new =
    rw (is_new, is_first, is_second, is_third, is_fourth) refl

three_parts : (old a n b t c words d y e : List ℕ)
    → ((old ++ (a ++ (n ++ (b ++ (t ++ c))))) ++ words) ++ (d ++ (y ++ e))
    ≡ old ++ (a ++ (n ++ (b ++ (t ++ (c ++ (words ++ (d ++ (y ++ e))))))))
three_parts old a n b t c words d y e = simp append_assoc

-- what is printed of a document by its draws
pub document_printed : (number x a b c d e f : ℕ) (tag old front titled new : List ℕ)
    → a ≡ next_draw x → b ≡ next_draw a → c ≡ next_draw b → d ≡ next_draw c → e ≡ next_draw d → f ≡ next_draw e
    → tag ≡ tag_of e
    → front ≡ old ++ (codes "{\"id\":" ++ (decimal number ++ (codes ",\"tags\":[\"" ++ (tag ++ codes "\"],\"title\":\""))))
    → titled ≡ front ++ title a b c d
    → new ≡ titled ++ (codes "\",\"year\":" ++ (decimal (1990 + f % 30) ++ codes "}"))
    → new ≡ old ++ document number x
unfolding document draw
document_printed number x a b c d e f tag old front titled new ia ib ic id ie if is_tag is_front is_titled is_new =
    let words = title a b c d in
    let year = decimal (1990 + f % 30) in
    let parts = three_parts old (codes "{\"id\":") (decimal number) (codes ",\"tags\":[\"") tag (codes "\"],\"title\":\"") words (codes "\",\"year\":") year (codes "}") in
    let joined = is_new ∙ ap (λ v. v ++ (codes "\",\"year\":" ++ (year ++ codes "}"))) (is_titled ∙ ap (λ v. v ++ words) is_front) in
    joined ∙ parts ∙ rw (is_tag, if, ie, id, ic, ib, ia) refl

-- the last of its draws
pub six_draws : (x a b c d e f : ℕ) → a ≡ next_draw x → b ≡ next_draw a → c ≡ next_draw b → d ≡ next_draw c → e ≡ next_draw d → f ≡ next_draw e → f ≡ draw 6 x
unfolding draw
six_draws x a b c d e f ia ib ic id ie if = rw (if, ie, id, ic, ib, ia) refl

-- ---- a list of them

-- the rest of a joined list, where something stands before or nothing does
abbrev pub rest_text : Bool → List (List ℕ) → List ℕ
rest_text false texts = join_with_byte 44 texts
rest_text true [] = []
rest_text true (t ∷ ts) = 44 ∷ join_with_byte 44 (t ∷ ts)

rest_more : (t : List ℕ) (ts : List (List ℕ)) → join_with_byte 44 (t ∷ ts) ≡ t ++ rest_text true ts
rest_more t [] = sym (append-nil t)
rest_more t (u ∷ us) = refl

rest_step : (later : Bool) (t : List ℕ) (ts : List (List ℕ)) → rest_text later (t ∷ ts) ≡ comma_if later ++ (t ++ rest_text true ts)
rest_step false t ts = rest_more t ts
rest_step true t ts = ap (λ v. 44 ∷ v) (rest_more t ts)

rest_none : (later : Bool) → rest_text later [] ≡ []
rest_none false = refl
rest_none true = refl

documents_step : (count place made x : ℕ) → place < count
    → documents (count - place) (made + place) x ≡ document (made + place + 1) x ∷ documents (count - (place + 1)) (made + (place + 1)) (draw 6 x)
documents_step count place made x h =
    let some : count - place ≡ suc (count - (place + 1)) = omega arith in
    ap (λ n. documents n (made + place) x) some
    ∙ ap (λ k. document (made + place + 1) x ∷ documents (count - (place + 1)) k (draw 6 x)) (add_assoc made place 1)

-- what stands there with the documents that are left, after one more of them
pub one_more : (count place made x : ℕ) (later : Bool) (old comma new : List ℕ) → place < count
    → comma ≡ old ++ comma_if later
    → new ≡ comma ++ document (made + place + 1) x
    → new ++ rest_text true (documents (count - (place + 1)) (made + (place + 1)) (draw 6 x))
    ≡ old ++ rest_text later (documents (count - place) (made + place) x)
one_more count place made x later old comma new h is_comma is_new =
    let doc = document (made + place + 1) x in
    let left = documents (count - (place + 1)) (made + (place + 1)) (draw 6 x) in
    let joined : new ≡ (old ++ comma_if later) ++ doc = is_new ∙ ap (λ v. v ++ doc) is_comma in
    ap (λ v. v ++ rest_text true left) joined
    ∙ append_assoc (old ++ comma_if later) doc (rest_text true left)
    ∙ append_assoc old (comma_if later) (doc ++ rest_text true left)
    ∙ ap (λ v. old ++ v) (sym (rest_step later doc left))
    ∙ ap (λ ts. old ++ rest_text later ts) (sym (documents_step count place made x h))

-- all of them stand there
pub none_left : (count place made x : ℕ) (later : Bool) (text start : List ℕ) → count ≤ place
    → text ++ rest_text later (documents (count - place) (made + place) x) ≡ start
    → text ≡ start
none_left count place made x later text start all whole =
    let zero_left : count - place ≡ 0 = omega arith in
    sym (append-nil text)
    ∙ ap (λ v. text ++ v) (sym (rest_none later) ∙ ap (λ n. rest_text later (documents n (made + place) x)) (sym zero_left))
    ∙ whole

pub list_closed : (texts : List (List ℕ)) (start text whole : List ℕ)
    → start ≡ codes "[" → text ≡ start ++ rest_text false texts → whole ≡ text ++ codes "]" → whole ≡ list_text texts
unfolding list_text
list_closed texts start text whole is_start is_text is_whole =
    is_whole ∙ ap (λ v. v ++ codes "]") (is_text ∙ ap (λ v. v ++ rest_text false texts) is_start)
    ∙ append_assoc (codes "[") (join_with_byte 44 texts) (codes "]")

-- none of them stands there yet
pub from_the_start : (count made x : ℕ) → rest_text false (documents (count - 0) (made + 0) x) ≡ rest_text false (documents count made x)
from_the_start count made x =
    let whole : count - 0 ≡ count = omega arith in
    let start : made + 0 ≡ made = omega arith in
    ap (λ n. rest_text false (documents n (made + 0) x)) whole ∙ ap (λ m. rest_text false (documents count m x)) start
