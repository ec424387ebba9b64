-- What two disks tell where nothing is pending on them, and what a crash leaves then.
use Rattle.std.proofs.Common.{◌≡◌, ℕ, List, [], sym, ◌∙◌, ap, subst, Option, Some, None}
use Rattle.outside_io.specs.Disks.{Contents, fresh, MayLeave}
use Rattle.change_journal.specs.Fits.{BothTold, IsSettled}
use Rattle.change_journal.specs.Shut.{is_told}
use Rattle.change_journal.proofs.Left.{only_fresh}

-- a disk that tells its contents
abbrev IsTold : Option Contents → Type 0
IsTold o = (xs : List ℕ) × (o ≡ Some (fresh xs))

-- what was told is still told
pub told_before : (o p : Option Contents) → is_told p ≡ is_told o → IsSettled o → (xs : List ℕ) → p ≡ Some (fresh xs) → IsTold o
told_before None None alike calm xs e = absurd (cc)
told_before None (Some t) alike calm xs e = absurd (cc (alike))
told_before (Some s) p alike calm xs e = (s.now, calm)

pub left_before : (o p : Option Contents) → is_told p ≡ is_told o → IsSettled o → (xs : List ℕ) → MayLeave p xs → IsTold o
left_before None None alike calm xs left = absurd left
left_before None (Some t) alike calm xs left = absurd (cc (alike))
left_before (Some s) p alike calm xs left = (s.now, calm)

-- where nothing is pending a crash leaves what is told
pub left_now : (o : Option Contents) → IsSettled o → (xs : List ℕ) → MayLeave o xs → o ≡ Some (fresh xs)
left_now None calm xs left = absurd left
left_now (Some s) calm xs left =
    let same : xs ≡ s.now = only_fresh s.now xs (subst (λ p. MayLeave p xs) calm left) in
    calm ∙ ap (λ (l : List ℕ). Some (fresh l)) (sym same)

abbrev now_in : Option Contents → List ℕ
now_in None = []
now_in (Some s) = s.now

pub same_told : (o : Option Contents) (xs ys : List ℕ) → o ≡ Some (fresh xs) → o ≡ Some (fresh ys) → xs ≡ ys
same_told o xs ys e f = ap now_in (sym e ∙ f)

-- both told, and what holds of what they tell
pub both_from : (a b : Option Contents) (P : List ℕ → List ℕ → Type 0) → IsSettled a → IsSettled b → ((xs ys : List ℕ) → a ≡ Some (fresh xs) → b ≡ Some (fresh ys) → P xs ys) → BothTold a b P
both_from None b P calm_a calm_b all = tt
both_from (Some s) None P calm_a calm_b all = tt
both_from (Some s) (Some t) P calm_a calm_b all = all s.now t.now calm_a calm_b

pub both_to : (a b : Option Contents) (P : List ℕ → List ℕ → Type 0) (xs ys : List ℕ) → BothTold a b P → a ≡ Some (fresh xs) → b ≡ Some (fresh ys) → P xs ys
both_to a b P xs ys both is_a is_b = subst (λ p. BothTold p (Some (fresh ys)) P) is_a (subst (λ q. BothTold a q P) is_b both)
