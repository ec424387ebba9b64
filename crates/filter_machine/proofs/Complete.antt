-- The machine reads the tokens of each derivation, and has its tree and its first bad value.
use Rattle.std.proofs.Common.{◌≡◌, ℕ, List, [], ◌∷◌, ◌++◌, Bool, true, false, Option, Some, None, refl, sym, ap, ◌∙◌, append_assoc, append-nil}
use Rattle.filter_tree.specs.Tree.{Tree}
use Rattle.filter_machine.specs.Grammar.{Condition, compared, between, among, existing, nullish, emptyish, condition_tree, condition_tokens, condition_values, further, listed, Ors, one_and, or, Ands, one_not, and, Nots, negated, group, plain, ors_tokens, ands_tokens, nots_tokens, ors_members, ands_members, nots_tree, ors_tree, ors_values, ands_values, nots_values}
use Rattle.filter_machine.specs.Number.{bad_in}
use Rattle.filter_machine.specs.Machine.{start, item, first, done, Level, level_of, Frame, under_not, bracket, at, or_first, bad_after, noted, with_member, member_end, whole, next_or, run, new_machine, reading, accept}
use Rattle.filter_machine.specs.declared.token.Token.{Token}
use Rattle.filter_machine.specs.declared.token.Token.TheVariants.{And, Or, Close}

pub bad_after-append : (xs ys : List (List ℕ)) (b : Option (List ℕ)) → bad_after b (xs ++ ys) ≡ bad_after (bad_after b xs) ys
bad_after-append [] ys b = refl
bad_after-append (x ∷ xs) ys b = bad_after-append xs ys (or_first b (bad_in x))

-- no NOT is open just here
abbrev pub IsBase : List Frame → Type 0
IsBase [] = Unit {0}
IsBase (under_not ∷ o) = ⊥
IsBase (bracket os ns ∷ o) = Unit {0}

pub member_base : (o : List Frame) (t : Tree) (l : Level) → IsBase o → member_end t l o ≡ at done (with_member t l) o
member_base [] t l base = refl
member_base (under_not ∷ o) t l base = absurd base
member_base (bracket os ns ∷ o) t l base = refl

further_run : (a : List ℕ) (n : Bool) (us vs : List (List ℕ)) (l : Level) (o : List Frame) (rest : List Token)
    → run (further vs ++ rest) (at (item a n us) l o) ≡ run rest (member_end (condition_tree (among a n (us ++ vs))) l o)
further_run a n us [] l o rest = ap (λ ws. run rest (member_end (condition_tree (among a n ws)) l o)) (sym (append-nil us))
further_run a n us (v ∷ vs) l o rest = further_run a n (us ++ v ∷ []) vs l o rest
    ∙ ap (λ ws. run rest (member_end (condition_tree (among a n ws)) l o)) (append_assoc us (v ∷ []) vs)

listed_run : (a : List ℕ) (n : Bool) (vs : List (List ℕ)) (l : Level) (o : List Frame) (rest : List Token)
    → run (listed vs ++ rest) (at (first a n) l o) ≡ run rest (member_end (condition_tree (among a n vs)) l o)
listed_run a n [] l o rest = refl
listed_run a n (v ∷ vs) l o rest = further_run a n (v ∷ []) vs l o rest

condition_run : (c : Condition) (l : Level) (o : List Frame) (rest : List Token)
    → run (condition_tokens c ++ rest) (at start l o) ≡ run rest (member_end (condition_tree c) (noted (condition_values c) l) o)
condition_run (compared a c v) l o rest = refl
condition_run (between a b v) l o rest = refl
condition_run (among a true vs) l o rest = listed_run a true vs l o rest
condition_run (among a false vs) l o rest = listed_run a false vs l o rest
condition_run (existing a true) l o rest = refl
condition_run (existing a false) l o rest = refl
condition_run (nullish a true) l o rest = refl
condition_run (nullish a false) l o rest = refl
condition_run (emptyish a true) l o rest = refl
condition_run (emptyish a false) l o rest = refl

-- the level after all of a filter
abbrev pub filter_level : Option (List ℕ) → Ors → Level
filter_level b (one_and a) = level_of [] (ands_members a) (bad_after b (ands_values a))
filter_level b (or os a) = level_of (ors_members os) (ands_members a) (bad_after b (ors_values os ++ ands_values a))

pub whole-filter_level : (b : Option (List ℕ)) (f : Ors) → whole (filter_level b f) ≡ ors_tree f
whole-filter_level b (one_and a) = refl
whole-filter_level b (or os a) = refl

pub bad-filter_level : (b : Option (List ℕ)) (f : Ors) → (filter_level b f).bad ≡ bad_after b (ors_values f)
bad-filter_level b (one_and a) = refl
bad-filter_level b (or os a) = refl

pub next-filter_level : (b : Option (List ℕ)) (f : Ors) → next_or (filter_level b f) ≡ level_of (ors_members f) [] (bad_after b (ors_values f))
next-filter_level b (one_and a) = refl
next-filter_level b (or os a) = refl

mutual
  pub nots_run : (n : Nots) (l : Level) (o : List Frame) (rest : List Token)
      → run (nots_tokens n ++ rest) (at start l o) ≡ run rest (member_end (nots_tree n) (noted (nots_values n) l) o)
  nots_run (negated n) l o rest = nots_run n l (under_not ∷ o) rest
  nots_run (group f) l o rest =
      let inner = bracket l.ors l.ands ∷ o in
      ap (λ ts. run ts (at start (level_of [] [] l.bad) inner)) (append_assoc (ors_tokens f) (Close ∷ []) rest)
      ∙ ors_run f l.bad inner (Close ∷ rest) tt
      ∙ ap (λ t. run rest (member_end t (level_of l.ors l.ands (filter_level l.bad f).bad) o)) (whole-filter_level l.bad f)
      ∙ ap (λ b. run rest (member_end (ors_tree f) (level_of l.ors l.ands b) o)) (bad-filter_level l.bad f)
  nots_run (plain c) l o rest = condition_run c l o rest

  pub ands_run : (a : Ands) (os : List Tree) (b : Option (List ℕ)) (o : List Frame) (rest : List Token) → IsBase o
      → run (ands_tokens a ++ rest) (at start (level_of os [] b) o) ≡ run rest (at done (level_of os (ands_members a) (bad_after b (ands_values a))) o)
  ands_run (one_not n) os b o rest base = nots_run n (level_of os [] b) o rest ∙ ap (run rest) (member_base o (nots_tree n) (noted (nots_values n) (level_of os [] b)) base)
  ands_run (and ns n) os b o rest base =
      let l = level_of os (ands_members ns) (bad_after b (ands_values ns)) in
      ap (λ ts. run ts (at start (level_of os [] b) o)) (append_assoc (ands_tokens ns) (And ∷ nots_tokens n) rest)
      ∙ ands_run ns os b o (And ∷ nots_tokens n ++ rest) base
      ∙ nots_run n l o rest
      ∙ ap (run rest) (member_base o (nots_tree n) (noted (nots_values n) l) base)
      ∙ ap (λ w. run rest (at done (level_of os (ands_members (and ns n)) w) o)) (sym (bad_after-append (ands_values ns) (nots_values n) b))

  pub ors_run : (f : Ors) (b : Option (List ℕ)) (o : List Frame) (rest : List Token) → IsBase o
      → run (ors_tokens f ++ rest) (at start (level_of [] [] b) o) ≡ run rest (at done (filter_level b f) o)
  ors_run (one_and a) b o rest base = ands_run a [] b o rest base
  ors_run (or os a) b o rest base =
      ap (λ ts. run ts (at start (level_of [] [] b) o)) (append_assoc (ors_tokens os) (Or ∷ ands_tokens a) rest)
      ∙ ors_run os b o (Or ∷ ands_tokens a ++ rest) base
      ∙ ap (λ l. run (ands_tokens a ++ rest) (at start l o)) (next-filter_level b os)
      ∙ ands_run a (ors_members os) (bad_after b (ors_values os)) o rest base
      ∙ ap (λ w. run rest (at done (level_of (ors_members os) (ands_members a) w) o)) (sym (bad_after-append (ors_values os) (ands_values a) b))

-- all of a filter, from the start
pub filter_run : (f : Ors) → run (ors_tokens f) new_machine ≡ Some (at done (filter_level None f) [])
filter_run f = ap (λ ts. run ts new_machine) (sym (append-nil (ors_tokens f))) ∙ ors_run f None [] [] tt

pub filter_accepted : (f : Ors) → accept (at done (filter_level None f) []) ≡ Some (reading (ors_tree f) (bad_after None (ors_values f)))
filter_accepted (one_and a) = refl
filter_accepted (or os a) = refl
