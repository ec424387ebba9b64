-- The pieces of a text between separators, from the first piece on.
use Rattle.std.proofs.Common.{◌≡◌, ◌≢◌, ℕ, suc, ◌<◌, List, [], ◌∷◌, ◌++◌, append_assoc, length, map, Bor, sym, refl, ap, ◌∙◌, subst, ⊎_elim, arith}
use Rattle.std.proofs.lemmas.List.{map-append}
use Rattle.std.specs.Prelude.{◌==◌}
use Rattle.std.specs.List.{position_or_len, before_first, after_first}
use Rattle.std.proofs.lemmas.Bool.{cond-true, cond-false, cases_eq, eq-eqb, ne_eqb}
use Rattle.form_urlencoded.specs.Form.{split, onto_first}
use Rattle.form_urlencoded.proofs.FormLemmas.{split_once_before_same, split_once_after_same, split_once_before_other, split_once_after_other}

pub split_same : (s : ℕ) (bs : List ℕ) → split s (s ∷ bs) ≡ [] ∷ split s bs
unfolding split
split_same s bs = cond-true _ _ _ (eq-eqb s s refl)

pub split_other : (s b : ℕ) (bs : List ℕ) → b ≢ s → split s (b ∷ bs) ≡ onto_first b (split s bs)
unfolding split
split_other s b bs other = cond-false _ _ _ (ne_eqb b s other)

abbrev place : ℕ → List ℕ → ℕ
place s bs = position_or_len (λ b. b == s) bs

place_other : (s b : ℕ) (bs : List ℕ) → b ≢ s → place s (b ∷ bs) ≡ suc (place s bs)
place_other s b bs other = rw (ne_eqb b s other) (omega arith)

place_same : (s : ℕ) (bs : List ℕ) → place s (s ∷ bs) ≡ 0
place_same s bs = rw (eq-eqb s s refl)

abbrev Front : ℕ → List ℕ → Type 0
Front s bs = place s bs < length bs → split s bs ≡ before_first (λ b. b == s) bs ∷ split s (after_first (λ b. b == s) bs)

-- the first piece stands before the first separator
pub split_front : (s : ℕ) (bs : List ℕ) → Front s bs
split_front s [] below = absurd (omega arith)
split_front s (b ∷ bs) below =
    ⊎_elim
    (λ same. subst (λ x. split s (x ∷ bs) ≡ before_first (λ b. b == s) (x ∷ bs) ∷ split s (after_first (λ b. b == s) (x ∷ bs))) (sym same)
    (rw (split_once_before_same s bs, split_once_after_same s bs) (split_same s bs)))
    (λ other.
    let shifted : place s (b ∷ bs) ≡ suc (place s bs) = place_other s b bs other in
    let within : place s bs < length bs = omega (arith, shifted, below) in
    rw (split_once_before_other s b bs other, split_once_after_other s b bs other)
    (split_other s b bs other ∙ ap (onto_first b) (split_front s bs within)))
    (cases_eq b s)

-- with no separator there is one piece
pub split_whole : (s : ℕ) (bs : List ℕ) → place s bs ≡ length bs → split s bs ≡ bs ∷ []
unfolding split
split_whole s [] none = refl
split_whole s (b ∷ bs) none =
    ⊎_elim
    (λ same. absurd (let zero : place s (b ∷ bs) ≡ 0 = subst (λ x. place s (x ∷ bs) ≡ 0) (sym same) (place_same s bs) in omega (arith, zero, none)))
    (λ other.
    let shifted : place s (b ∷ bs) ≡ suc (place s bs) = place_other s b bs other in
    let whole : place s bs ≡ length bs = omega (arith, shifted, none) in
    split_other s b bs other ∙ ap (onto_first b) (split_whole s bs whole))
    (cases_eq b s)

-- one piece more
pub grown : (parts : List (Bor (List ℕ))) (part : Bor (List ℕ)) (more left all : List (List ℕ))
    → left ≡ part.now ∷ more → map (λ part. part.now) parts ++ left ≡ all → map (λ part. part.now) (parts ++ part ∷ []) ++ more ≡ all
grown parts part more left all is whole =
    ap (λ v. v ++ more) (map-append (λ part. part.now) parts (part ∷ [])) ∙ append_assoc (map (λ part. part.now) parts) (part.now ∷ []) more
    ∙ ap (λ v. map (λ part. part.now) parts ++ v) (sym is) ∙ whole
