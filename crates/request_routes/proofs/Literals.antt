-- A router of literal patterns finds the row whose pattern is the path.
use Rattle.std.proofs.Common.{◌≡◌, ℕ, zero, suc, Bool, true, false, cond, List, [], ◌∷◌, length, Option, Some, None, refl, sym, ap, ◌∙◌, subst}
use Rattle.std.specs.Prelude.{◌&&◌, ◌==◌, ◌-◌, nat_lt}
use Rattle.std.specs.List.{list_all}
use Rattle.std.proofs.lemmas.Bool.{true≢false, eqb-true}
use Rattle.matchit.specs.Rows.{RowsOf}
use Rattle.matchit.specs.Seek.{seek, param_step, first, own, step, or_else, has_slash, same_text}
use Rattle.matchit.specs.Order.{lookup}

pub both : (a b : Bool) → (a && b) ≡ true → (a ≡ true) × (b ≡ true)
both true b h = (refl, h)
both false b h = absurd (true≢false (sym h))

-- each token is a byte
abbrev pub is_literal : List ℕ → Bool
is_literal tokens = list_all (λ token. nat_lt token 256) tokens

-- ---- no row goes on with a parameter

not_param : (token : ℕ) → nat_lt token 256 ≡ true → (token == 256) ≡ false
not_param token below = go (token == 256) refl
  where
    go : (w : Bool) → (token == 256) ≡ w → w ≡ false
    go true is = absurd (true≢false (sym (subst (λ n. nat_lt n 256 ≡ true) (eqb-true token 256 is) below)))
    go false is = refl

not_rest : (token : ℕ) → nat_lt token 256 ≡ true → (token == 257) ≡ false
not_rest token below = go (token == 257) refl
  where
    go : (w : Bool) → (token == 257) ≡ w → w ≡ false
    go true is = absurd (true≢false (sym (subst (λ n. nat_lt n 256 ≡ true) (eqb-true token 257 is) below)))
    go false is = refl

module _ {K : Type 0} where
  abbrev pub AreLiteral : RowsOf K → Type 0
  AreLiteral [] = Unit {0}
  AreLiteral ((tokens, key) ∷ rest) = (is_literal tokens ≡ true) × AreLiteral rest

  no_param : (rs : RowsOf K) → AreLiteral rs → step 256 rs ≡ []
  no_param [] all = refl
  no_param (([], key) ∷ rest) all = no_param rest all.1
  no_param ((token ∷ tokens, key) ∷ rest) all = rw (not_param token (both (nat_lt token 256) _ all.0).0) (no_param rest all.1)

  no_rest : (rs : RowsOf K) → AreLiteral rs → step 257 rs ≡ []
  no_rest [] all = refl
  no_rest (([], key) ∷ rest) all = no_rest rest all.1
  no_rest ((token ∷ tokens, key) ∷ rest) all = rw (not_rest token (both (nat_lt token 256) _ all.0).0) (no_rest rest all.1)

  still_literal : (b : ℕ) (rs : RowsOf K) → AreLiteral rs → AreLiteral (step b rs)
  still_literal b [] all = tt
  still_literal b (([], key) ∷ rest) all = still_literal b rest all.1
  still_literal b ((token ∷ tokens, key) ∷ rest) all = go (token == b) (still_literal b rest all.1)
    where
      go : (w : Bool) → AreLiteral (step b rest) → AreLiteral (cond w ((tokens, key) ∷ step b rest) (step b rest))
      go true later = ((both (nat_lt token 256) _ all.0).1, later)
      go false later = later

  -- ---- no rows find nothing

  nowhere : (path : List ℕ) → (param_step {K = K} [] path).1 ≡ []
  unfolding param_step
  nowhere path = go (has_slash path)
    where
      go : (w : Bool) → (cond {A = ℕ × RowsOf K} w (0, []) (length path, [])).1 ≡ []
      go true = refl
      go false = refl

  pub nothing : (skip : ℕ) (path : List ℕ) → seek {K = K} skip [] path ≡ None
  unfolding seek
  nothing skip [] = refl
  nothing (suc skip) (b ∷ path) = nothing skip path
  nothing zero (b ∷ path) =
      let after : seek ((param_step {K = K} [] (b ∷ path)).0 - 1) (param_step {K = K} [] (b ∷ path)).1 path ≡ None =
      subst (λ v. seek ((param_step {K = K} [] (b ∷ path)).0 - 1) v path ≡ None) (sym (nowhere (b ∷ path))) (nothing ((param_step {K = K} [] (b ∷ path)).0 - 1) path) in
      rw (nothing 0 path, after) refl

  -- ---- the row whose pattern is the path

  own_row : (rs : RowsOf K) → own rs ≡ lookup [] rs
  own_row [] = refl
  own_row (([], key) ∷ rest) = refl
  own_row ((token ∷ tokens, key) ∷ rest) = own_row rest

  next_row : (b : ℕ) (path : List ℕ) (rs : RowsOf K) → lookup path (step b rs) ≡ lookup (b ∷ path) rs
  next_row b path [] = refl
  next_row b path (([], key) ∷ rest) = next_row b path rest
  next_row b path ((token ∷ tokens, key) ∷ rest) = go (token == b) (next_row b path rest)
    where
      go : (w : Bool) → lookup path (step b rest) ≡ lookup (b ∷ path) rest
          → lookup path (cond w ((tokens, key) ∷ step b rest) (step b rest)) ≡ cond (w && same_text tokens path) (Some key) (lookup (b ∷ path) rest)
      go true later = ap (λ v. cond (same_text tokens path) (Some key) v) later
      go false later = later

  only : (found : Option K) → or_else found None ≡ found
  only None = refl
  only (Some key) = refl

  pub first_is_lookup : (path : List ℕ) (rs : RowsOf K) → AreLiteral rs → first rs path ≡ lookup path rs
  unfolding seek
  first_is_lookup [] rs all = own_row rs
  first_is_lookup (b ∷ path) rs all =
      rw (no_param rs all, no_rest rs all)
      (let after : seek ((param_step {K = K} [] (b ∷ path)).0 - 1) (param_step {K = K} [] (b ∷ path)).1 path ≡ None =
      subst (λ v. seek ((param_step {K = K} [] (b ∷ path)).0 - 1) v path ≡ None) (sym (nowhere (b ∷ path))) (nothing ((param_step {K = K} [] (b ∷ path)).0 - 1) path) in
      rw after (only (seek 0 (step b rs) path) ∙ first_is_lookup path (step b rs) (still_literal b rs all) ∙ next_row b path rs))
