-- What an edit of a map does to the names that are its entries.
use Rattle.std.proofs.Common.{◌≡◌, ℕ, Bool, true, false, cond, List, [], ◌∷◌, Option, None, Some, refl, sym, ap, ◌∙◌, rules}
use Rattle.std.specs.Prelude.{bytes_eq}
use Rattle.std.specs.Option.{is_some, option_flatten}
use Rattle.std.specs.Map.{lookup}
use Rattle.std.specs.BTreeMap.{BTreeMap, is_at, UpdatesBy}
use Rattle.std.specs.Ordering.{nat_cmp, is_eq}
use Rattle.std.specs.Cmp.Lexicographic.{slice_cmp}
use Rattle.std.proofs.lemmas.Bool.{cond-true, cond-false, cond_both}
use Rattle.std.proofs.lemmas.Slice.Eq.{bytes_eq-Decides}
use Rattle.std.proofs.lemmas.Map.Text.{is_eq-slice_cmp}
use Rattle.path_registry.specs.Names.{Names, number_at, is_kept}

-- a name is looked up by its bytes as it is by their order
pub lookup-names : (q : List ℕ) (names : Names) → lookup (bytes_eq q) names ≡ lookup (is_at (slice_cmp nat_cmp q)) names
lookup-names q [] = refl
lookup-names q (e ∷ es) =
    ap (λ b. cond b (Some e.1) (lookup (bytes_eq q) es)) (sym (is_eq-slice_cmp q e.0)) ∙ ap (λ v. cond (is_eq (slice_cmp nat_cmp q e.0)) (Some e.1) v) (lookup-names q es)

-- a change at a name
pub lookup-updated : (name : List ℕ) (m n : BTreeMap (List ℕ) (Option ℕ)) (w : Option (Option ℕ)) → UpdatesBy (slice_cmp nat_cmp) (slice_cmp nat_cmp name) m n w
    → (q : List ℕ) → lookup (bytes_eq q) n.entries ≡ cond (bytes_eq name q) w (lookup (bytes_eq q) m.entries)
lookup-updated name m n w h q =
    lookup-names q n.entries ∙ h.0 q ∙ ap (λ b. cond b w (lookup (is_at (slice_cmp nat_cmp q)) m.entries)) (is_eq-slice_cmp name q) ∙ ap (cond (bytes_eq name q) w) (sym (lookup-names q m.entries))

pub none_is_some : false ≡ true → ⊥
none_is_some h = cc

pub bytes_same : (xs ys : List ℕ) → xs ≡ ys → bytes_eq xs ys ≡ true
bytes_same xs ys h = search (rules, bytes_eq-Decides)

pub same_bytes : (xs ys : List ℕ) → bytes_eq xs ys ≡ true → xs ≡ ys
same_bytes xs ys h = search (rules, bytes_eq-Decides)

pub bytes_eq-turned : (xs ys : List ℕ) → bytes_eq xs ys ≡ bytes_eq ys xs
bytes_eq-turned xs ys = by (bytes_eq xs ys) (bytes_eq ys xs) refl refl
  where
    by : (a b : Bool) → a ≡ bytes_eq xs ys → b ≡ bytes_eq ys xs → bytes_eq xs ys ≡ bytes_eq ys xs
    by true b p q = sym p ∙ sym (bytes_same ys xs (sym (same_bytes xs ys (sym p))))
    by false true p q = bytes_same xs ys (sym (same_bytes ys xs (sym q))) ∙ sym (bytes_same ys xs (same_bytes ys xs (sym q)))
    by false false p q = sym p ∙ q

-- of two texts, one of which is a third, the other is not the third
pub apart : (a b c : List ℕ) → bytes_eq a b ≡ true → bytes_eq a c ≡ false → bytes_eq c b ≡ false
apart a b c h k = ap (λ v. bytes_eq c v) (sym (same_bytes a b h)) ∙ bytes_eq-turned c a ∙ k

pub apart' : (a b c : List ℕ) → bytes_eq a b ≡ false → bytes_eq a c ≡ true → bytes_eq c b ≡ false
apart' a b c h k = ap (λ v. bytes_eq v b) (sym (same_bytes a c k)) ∙ h

-- a name that is put in without a number changes no number
pub number-reserved : (name q : List ℕ) (old new : Names) → lookup (bytes_eq name) old ≡ None → lookup (bytes_eq q) new ≡ cond (bytes_eq name q) (Some None) (lookup (bytes_eq q) old) → number_at q new ≡ number_at q old
number-reserved name q old new absent h = by (bytes_eq name q) refl
  where
    by : (b : Bool) → b ≡ bytes_eq name q → number_at q new ≡ number_at q old
    by true s = ap option_flatten (h ∙ cond-true _ _ _ (sym s)) ∙ sym (ap option_flatten (ap (λ r. lookup (bytes_eq r) old) (sym (same_bytes name q (sym s))) ∙ absent))
    by false s = ap option_flatten (h ∙ cond-false _ _ _ (sym s))

-- a name that gets a number
pub number-given : (name q : List ℕ) (w : Option ℕ) (old new : Names) → lookup (bytes_eq q) new ≡ cond (bytes_eq name q) (Some w) (lookup (bytes_eq q) old) → number_at q new ≡ cond (bytes_eq name q) w (number_at q old)
number-given name q w old new h = ap option_flatten h ∙ cond_both (bytes_eq name q) (Some w) (lookup (bytes_eq q) old) (λ v. option_flatten v ≡ cond (bytes_eq name q) w (number_at q old))
    (λ s. sym (cond-true _ _ _ s)) (λ s. sym (cond-false _ _ _ s))

-- a name that is taken out
pub number-out : (name q : List ℕ) (old new : Names) → lookup (bytes_eq q) new ≡ cond (bytes_eq name q) None (lookup (bytes_eq q) old) → number_at q new ≡ cond (bytes_eq name q) None (number_at q old)
number-out name q old new h = ap option_flatten h ∙ cond_both (bytes_eq name q) None (lookup (bytes_eq q) old) (λ v. option_flatten v ≡ cond (bytes_eq name q) None (number_at q old))
    (λ s. sym (cond-true _ _ _ s)) (λ s. sym (cond-false _ _ _ s))

-- what is there after a name is taken out was there before
pub kept-out : (name q : List ℕ) (old new : Names) → lookup (bytes_eq q) new ≡ cond (bytes_eq name q) None (lookup (bytes_eq q) old) → is_kept q new ≡ true → is_kept q old ≡ true
kept-out name q old new h k = by (bytes_eq name q) refl
  where
    by : (b : Bool) → b ≡ bytes_eq name q → is_kept q old ≡ true
    by true s = absurd (none_is_some (sym (ap is_some (h ∙ cond-true _ _ _ (sym s))) ∙ k))
    by false s = sym (ap is_some (h ∙ cond-false _ _ _ (sym s))) ∙ k

-- a change at a name keeps the other names
pub kept-other : (name q : List ℕ) (w : Option (Option ℕ)) (old new : Names) → lookup (bytes_eq q) new ≡ cond (bytes_eq name q) w (lookup (bytes_eq q) old) → bytes_eq name q ≡ false → is_kept q new ≡ is_kept q old
kept-other name q w old new h other = ap is_some (h ∙ cond-false _ _ _ other)

-- a value at a name keeps the other names, and this one
pub kept-given : (name q : List ℕ) (w : Option ℕ) (old new : Names) → lookup (bytes_eq q) new ≡ cond (bytes_eq name q) (Some w) (lookup (bytes_eq q) old) → is_kept q old ≡ true → is_kept q new ≡ true
kept-given name q w old new h was = ap is_some h ∙ cond_both (bytes_eq name q) (Some w) (lookup (bytes_eq q) old) (λ v. is_some v ≡ true) (λ _. refl) (λ _. was)

-- a value at a name that is there keeps just the names that were there
pub kept-same : (name q : List ℕ) (w : Option ℕ) (old new : Names) → lookup (bytes_eq q) new ≡ cond (bytes_eq name q) (Some w) (lookup (bytes_eq q) old) → is_kept name old ≡ true → is_kept q new ≡ is_kept q old
kept-same name q w old new h was = ap is_some h ∙ cond_both (bytes_eq name q) (Some w) (lookup (bytes_eq q) old) (λ v. is_some v ≡ is_kept q old)
    (λ s. sym (ap (λ r. is_kept r old) (sym (same_bytes name q s)) ∙ was)) (λ _. refl)

pub kept-here : (name : List ℕ) (w : Option ℕ) (old new : Names) → lookup (bytes_eq name) new ≡ cond (bytes_eq name name) (Some w) (lookup (bytes_eq name) old) → is_kept name new ≡ true
kept-here name w old new h = ap is_some (h ∙ cond-true _ _ _ (bytes_same name name refl))

pub none_kept : {X : Type 0} (o : Option X) → is_some o ≡ false → o ≡ None
none_kept None h = refl
none_kept (Some x) h = absurd (cc)
