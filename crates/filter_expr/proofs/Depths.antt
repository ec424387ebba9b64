-- How deep a step takes the machine.
use Rattle.std.proofs.Common.{◌≡◌, ◌⊎◌, inl, inr, ℕ, suc, ◌+◌, ◌≤◌, ◌<◌, List, [], ◌∷◌, ◌++◌, length, Option, Some, None, refl, sym, ap, subst, ◌∙◌, arith}
use Rattle.std.specs.Prelude.{IfSome}
use Rattle.std.specs.List.{AllByRecursion}
use Rattle.filter_tree.specs.Tree.{Tree, negation}
use Rattle.filter_machine.specs.Machine.{State, start, attribute, value, low, high, refused, in_list, first, item, after_comma, being, not_being, done, Level, level_of, Frame, under_not, bracket, Machine, at as machine_at, member_end, whole, closed, step, move, run, then, opened}
use Rattle.filter_expr.specs.Limit.{deeper, depth_at, depths, depths_after}
use Rattle.filter_expr.specs.Faults.{most_depth}
use Rattle.filter_machine.specs.declared.token.Token.{Token}
use Rattle.filter_machine.specs.declared.token.Token.TheVariants.{Text, And, Or, Not, In, To, Exists, Is, Null, Empty, Compare, Open, Close, ListOpen, ListClose, Comma}
use Rattle.filter_machine.proofs.Sound.{some_if}

abbrev pub Fits : Machine → Type 0
Fits m = opened m ≤ most_depth

abbrev pub AreShallow : List ℕ → Type 0
AreShallow ds = AllByRecursion (λ d. d ≤ most_depth) ds

-- a token that opens nothing
abbrev pub IsFlat : Token → Type 0
IsFlat Not = ⊥
IsFlat Open = ⊥
IsFlat _ = Unit {0}

pub opens_or_flat : (t : Token) → ((t ≡ Not) ⊎ (t ≡ Open)) ⊎ IsFlat t
opens_or_flat Not = inl (inl refl)
opens_or_flat Open = inl (inr refl)
opens_or_flat _ = inr tt

flat_deeper : (s : State) (t : Token) (d : ℕ) → IsFlat t → deeper s t d ≡ d
flat_deeper start Not d flat = absurd flat
flat_deeper start Open d flat = absurd flat
flat_deeper _ _ d flat = refl

member_fits : (o : List Frame) (t : Tree) (l : Level) → length o ≤ most_depth → Fits (member_end t l o)
member_fits [] t l h = h
member_fits (under_not ∷ o) t l h = member_fits o (negation t) l (omega arith)
member_fits (bracket os ns ∷ o) t l h = h

closed_fits : (l : Level) (o : List Frame) → length o ≤ most_depth → IfSome (closed l o) Fits
closed_fits l [] h = tt
closed_fits l (under_not ∷ o) h = tt
closed_fits l (bracket os ns ∷ o) h = member_fits o (whole l) (level_of os ns l.bad) (omega arith)

-- a step to a depth within the limit
pub step_fits : (s : State) (t : Token) (l : Level) (o : List Frame) → length o ≤ most_depth → deeper s t (length o) ≤ most_depth → IfSome (move s t l o) Fits
step_fits start Not l o was deep = deep
step_fits start Open l o was deep = deep
step_fits start (Text w) l o was deep = was
step_fits (attribute a) Exists l o was deep = member_fits o _ _ was
step_fits (attribute a) (Compare c) l o was deep = was
step_fits (attribute a) (Text b) l o was deep = was
step_fits (attribute a) Not l o was deep = was
step_fits (attribute a) In l o was deep = was
step_fits (attribute a) Is l o was deep = was
step_fits (value a c) (Text v) l o was deep = member_fits o _ _ was
step_fits (low a b) To l o was deep = was
step_fits (high a b) (Text v) l o was deep = member_fits o _ _ was
step_fits (refused a) In l o was deep = was
step_fits (refused a) Exists l o was deep = member_fits o _ _ was
step_fits (in_list a n) ListOpen l o was deep = was
step_fits (first a n) (Text v) l o was deep = was
step_fits (first a n) ListClose l o was deep = member_fits o _ _ was
step_fits (item a n vs) Comma l o was deep = was
step_fits (item a n vs) ListClose l o was deep = member_fits o _ _ was
step_fits (after_comma a n vs) (Text v) l o was deep = was
step_fits (being a) Not l o was deep = was
step_fits (being a) Null l o was deep = member_fits o _ _ was
step_fits (being a) Empty l o was deep = member_fits o _ _ was
step_fits (not_being a) Null l o was deep = member_fits o _ _ was
step_fits (not_being a) Empty l o was deep = member_fits o _ _ was
step_fits done And l o was deep = was
step_fits done Or l o was deep = was
step_fits done Close l o was deep = closed_fits l o was
step_fits _ _ l o was deep = tt

pub flat_fits : (t : Token) (m k : Machine) → IsFlat t → step m t ≡ Some k → Fits m → Fits k
flat_fits t m k flat e was =
    some_if Fits (step m t) k e (step_fits m.state t m.level m.outer was (subst (λ d. d ≤ most_depth) (sym (flat_deeper m.state t (length m.outer) flat)) was))

-- the depth at a token after which the machine is still within the limit
pub token_depth : (s : State) (t : Token) (l : Level) (o : List Frame) (k : Machine) → move s t l o ≡ Some k → length o ≤ most_depth → Fits k → deeper s t (length o) ≤ most_depth
token_depth start Not l o k e was now = let same : machine_at start l (under_not ∷ o) ≡ k = cc in subst Fits (sym same) now
token_depth start Open l o k e was now = let same : machine_at start (level_of [] [] l.bad) (bracket l.ors l.ands ∷ o) ≡ k = cc in subst Fits (sym same) now
token_depth _ _ l o k e was now = was

over_not : (k : Machine) (o : Option Machine) → o ≡ Some k → IfSome o Fits → most_depth < opened k → ⊥
over_not k o e h deep = let low : opened k ≤ most_depth = some_if Fits o k e h in omega arith

deeper_most : (s : State) (t : Token) (d : ℕ) → deeper s t d ≤ suc d
deeper_most start Not d = omega arith
deeper_most start Open d = omega arith
deeper_most _ _ d = omega arith

pub not_below : (a b : ℕ) → (a ≤ b → ⊥) → b < a
not_below a b h = omega arith

-- and at one after which it is not, the first
deep_token : (s : State) (t : Token) (l : Level) (o : List Frame) (k : Machine) → move s t l o ≡ Some k → length o ≤ most_depth → most_depth < opened k → deeper s t (length o) ≡ most_depth + 1
deep_token s t l o k e was deep =
    let above : most_depth < deeper s t (length o) = not_below (deeper s t (length o)) most_depth (λ h. over_not k (move s t l o) e (step_fits s t l o was h) deep) in
    let most = deeper_most s t (length o) in
    omega arith

pub deep_depth : (t : Token) (m k : Machine) → step m t ≡ Some k → Fits m → most_depth < opened k → depth_at m t ≡ most_depth + 1
deep_depth t m k e was deep = deep_token m.state t m.level m.outer k e was deep

pub one_shallow : (t : Token) (us : List Token) (m k : Machine) → step m t ≡ Some k → Fits m → Fits k → AreShallow (depths us k) → AreShallow (depths (t ∷ us) m)
one_shallow t us m k e was now later = (token_depth m.state t m.level m.outer k e was now, subst (λ o. AreShallow (depths_after (depths us) o)) (sym e) later)

pub next_fits : (t : Token) (us : List Token) (m k : Machine) → step m t ≡ Some k → Fits m → AreShallow (depths (t ∷ us) m) → Fits k × AreShallow (depths us k)
next_fits t us m k e was (here, later) =
    (some_if Fits (step m t) k e (step_fits m.state t m.level m.outer was here), subst (λ o. AreShallow (depths_after (depths us) o)) e later)

-- ---- the depths of tokens after others

pub by_step : (t : Token) (ts : List Token) (m k : Machine) → run (t ∷ ts) m ≡ Some k → (j : Machine) × (step m t ≡ Some j) × (run ts j ≡ Some k)
by_step t ts m k e = of_option (step m t) e
  where
    of_option : (o : Option Machine) → then (run ts) o ≡ Some k → (j : Machine) × (o ≡ Some j) × (run ts j ≡ Some k)
    of_option None e = absurd (let wrong = e in cc)
    of_option (Some j) e = (j, refl, e)

pub depths-append : (ts us : List Token) (m k : Machine) → run ts m ≡ Some k → depths (ts ++ us) m ≡ depths ts m ++ depths us k
depths-append [] us m k e = let same : m ≡ k = cc in ap (depths us) same
depths-append (t ∷ ts) us m k e =
    let (j, one, later) = by_step t ts m k e in
    ap (λ ds. depth_at m t ∷ ds) (ap (depths_after (depths (ts ++ us))) one ∙ depths-append ts us j k later ∙ ap (λ o. depths_after (depths ts) o ++ depths us k) (sym one))

pub length-depths : (ts : List Token) (m k : Machine) → run ts m ≡ Some k → length (depths ts m) ≡ length ts
length-depths [] m k e = refl
length-depths (t ∷ ts) m k e =
    let (j, one, later) = by_step t ts m k e in
    ap suc (ap (λ o. length (depths_after (depths ts) o)) one ∙ length-depths ts j k later)
