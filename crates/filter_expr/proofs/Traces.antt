-- The depth of the machine is that of the derivation.
use Rattle.std.proofs.Common.{◌≡◌, ℕ, suc, List, [], ◌∷◌, ◌++◌, length, Bool, true, false, Option, None, refl, sym, ap, ◌∙◌, append_assoc, append-nil}
use Rattle.filter_tree.specs.Tree.{Tree}
use Rattle.filter_machine.specs.Grammar.{Condition, compared, between, among, existing, nullish, emptyish, condition_tree, condition_tokens, condition_values, further, listed, Ors, one_and, or, Ands, one_not, and, Nots, negated, group, plain, ors_tokens, ands_tokens, nots_tokens, ors_members, ands_members, nots_tree, ors_values, ands_values, nots_values, level, ors_depths, ands_depths, nots_depths}
use Rattle.filter_machine.specs.Machine.{start, item, first, done, Level, level_of, Frame, under_not, bracket, at, bad_after, noted, member_end, new_machine}
use Rattle.filter_expr.specs.Limit.{depths}
use Rattle.filter_machine.specs.declared.token.Token.{Token}
use Rattle.filter_machine.specs.declared.token.Token.TheVariants.{And, Or, Close}
use Rattle.filter_machine.proofs.Complete.{IsBase, member_base, bad_after-append, filter_level, whole-filter_level, bad-filter_level, next-filter_level}

further_trace : (a : List ℕ) (n : Bool) (us vs : List (List ℕ)) (l : Level) (o : List Frame) (rest : List Token)
    → depths (further vs ++ rest) (at (item a n us) l o)
    ≡ level (length o) (further vs) ++ depths rest (member_end (condition_tree (among a n (us ++ vs))) l o)
further_trace a n us [] l o rest =
    ap (λ ws. length o ∷ depths rest (member_end (condition_tree (among a n ws)) l o)) (sym (append-nil us))
further_trace a n us (v ∷ vs) l o rest = ap (λ ds. length o ∷ length o ∷ ds) (further_trace a n (us ++ v ∷ []) vs l o rest
    ∙ ap (λ ws. level (length o) (further vs) ++ depths rest (member_end (condition_tree (among a n ws)) l o)) (append_assoc us (v ∷ []) vs))

listed_trace : (a : List ℕ) (n : Bool) (vs : List (List ℕ)) (l : Level) (o : List Frame) (rest : List Token)
    → depths (listed vs ++ rest) (at (first a n) l o) ≡ level (length o) (listed vs) ++ depths rest (member_end (condition_tree (among a n vs)) l o)
listed_trace a n [] l o rest = refl
listed_trace a n (v ∷ vs) l o rest = ap (λ ds. length o ∷ ds) (further_trace a n (v ∷ []) vs l o rest)

condition_trace : (c : Condition) (l : Level) (o : List Frame) (rest : List Token)
    → depths (condition_tokens c ++ rest) (at start l o) ≡ level (length o) (condition_tokens c) ++ depths rest (member_end (condition_tree c) (noted (condition_values c) l) o)
condition_trace (compared a c v) l o rest = refl
condition_trace (between a b v) l o rest = refl
condition_trace (among a true vs) l o rest = let d = length o in ap (λ ds. d ∷ d ∷ d ∷ d ∷ ds) (listed_trace a true vs l o rest)
condition_trace (among a false vs) l o rest = let d = length o in ap (λ ds. d ∷ d ∷ d ∷ ds) (listed_trace a false vs l o rest)
condition_trace (existing a true) l o rest = refl
condition_trace (existing a false) l o rest = refl
condition_trace (nullish a true) l o rest = refl
condition_trace (nullish a false) l o rest = refl
condition_trace (emptyish a true) l o rest = refl
condition_trace (emptyish a false) l o rest = refl

mutual
  pub nots_trace : (n : Nots) (l : Level) (o : List Frame) (rest : List Token)
      → depths (nots_tokens n ++ rest) (at start l o) ≡ nots_depths (length o) n ++ depths rest (member_end (nots_tree n) (noted (nots_values n) l) o)
  nots_trace (negated n) l o rest = ap (λ ds. suc (length o) ∷ ds) (nots_trace n l (under_not ∷ o) rest)
  nots_trace (group f) l o rest =
      let d = suc (length o) in
      let inner = bracket l.ors l.ands ∷ o in
      let outside = member_end (nots_tree (group f)) (noted (nots_values (group f)) l) o in
      ap (λ ds. d ∷ ds)
      (ap (λ ts. depths ts (at start (level_of [] [] l.bad) inner)) (append_assoc (ors_tokens f) (Close ∷ []) rest)
      ∙ ors_trace f l.bad inner (Close ∷ rest) tt
      ∙ ap (λ t. ors_depths d f ++ d ∷ depths rest (member_end t (level_of l.ors l.ands (filter_level l.bad f).bad) o)) (whole-filter_level l.bad f)
      ∙ ap (λ b. ors_depths d f ++ d ∷ depths rest (member_end (nots_tree (group f)) (level_of l.ors l.ands b) o)) (bad-filter_level l.bad f)
      ∙ sym (append_assoc (ors_depths d f) (d ∷ []) (depths rest outside)))
  nots_trace (plain c) l o rest = condition_trace c l o rest

  pub ands_trace : (a : Ands) (os : List Tree) (b : Option (List ℕ)) (o : List Frame) (rest : List Token) → IsBase o
      → depths (ands_tokens a ++ rest) (at start (level_of os [] b) o)
      ≡ ands_depths (length o) a ++ depths rest (at done (level_of os (ands_members a) (bad_after b (ands_values a))) o)
  ands_trace (one_not n) os b o rest base =
      nots_trace n (level_of os [] b) o rest ∙ ap (λ m. nots_depths (length o) n ++ depths rest m) (member_base o (nots_tree n) (noted (nots_values n) (level_of os [] b)) base)
  ands_trace (and ns n) os b o rest base =
      let d = length o in
      let l = level_of os (ands_members ns) (bad_after b (ands_values ns)) in
      ap (λ ts. depths ts (at start (level_of os [] b) o)) (append_assoc (ands_tokens ns) (And ∷ nots_tokens n) rest)
      ∙ ands_trace ns os b o (And ∷ nots_tokens n ++ rest) base
      ∙ ap (λ ds. ands_depths d ns ++ d ∷ ds) (nots_trace n l o rest
      ∙ ap (λ m. nots_depths d n ++ depths rest m) (member_base o (nots_tree n) (noted (nots_values n) l) base)
      ∙ ap (λ w. nots_depths d n ++ depths rest (at done (level_of os (ands_members (and ns n)) w) o)) (sym (bad_after-append (ands_values ns) (nots_values n) b)))
      ∙ sym (append_assoc (ands_depths d ns) (d ∷ nots_depths d n) (depths rest (at done (level_of os (ands_members (and ns n)) (bad_after b (ands_values (and ns n)))) o)))

  pub ors_trace : (f : Ors) (b : Option (List ℕ)) (o : List Frame) (rest : List Token) → IsBase o
      → depths (ors_tokens f ++ rest) (at start (level_of [] [] b) o) ≡ ors_depths (length o) f ++ depths rest (at done (filter_level b f) o)
  ors_trace (one_and a) b o rest base = ands_trace a [] b o rest base
  ors_trace (or os a) b o rest base =
      let d = length o in
      ap (λ ts. depths ts (at start (level_of [] [] b) o)) (append_assoc (ors_tokens os) (Or ∷ ands_tokens a) rest)
      ∙ ors_trace os b o (Or ∷ ands_tokens a ++ rest) base
      ∙ ap (λ l. ors_depths d os ++ d ∷ depths (ands_tokens a ++ rest) (at start l o)) (next-filter_level b os)
      ∙ ap (λ ds. ors_depths d os ++ d ∷ ds) (ands_trace a (ors_members os) (bad_after b (ors_values os)) o rest base
      ∙ ap (λ w. ands_depths d a ++ depths rest (at done (level_of (ors_members os) (ands_members a) w) o)) (sym (bad_after-append (ors_values os) (ands_values a) b)))
      ∙ sym (append_assoc (ors_depths d os) (d ∷ ands_depths d a) (depths rest (at done (filter_level b (or os a)) o)))

-- the depths of a filter are those that the machine goes through
pub filter_trace : (f : Ors) → depths (ors_tokens f) new_machine ≡ ors_depths 0 f
filter_trace f = ap (λ ts. depths ts new_machine) (sym (append-nil (ors_tokens f))) ∙ ors_trace f None [] [] tt ∙ append-nil (ors_depths 0 f)
