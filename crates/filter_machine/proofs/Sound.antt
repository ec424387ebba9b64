-- What the machine has read is the beginning of a derivation.
use Rattle.std.proofs.Common.{◌≡◌, ◌⊎◌, inl, inr, ℕ, List, [], ◌∷◌, ◌++◌, Bool, true, false, Option, Some, None, refl, sym, ap, subst, ◌∙◌, append_assoc, append-nil}
use Rattle.std.specs.Prelude.{IfSome}
use Rattle.filter_tree.specs.Tree.{Tree, negation}
use Rattle.filter_machine.specs.Grammar.{Condition, compared, between, among, existing, nullish, emptyish, condition_tree, condition_tokens, condition_values, not_if, further, Ors, one_and, or, Ands, one_not, and, Nots, negated, group, plain, ors_tokens, ands_tokens, nots_tokens}
use Rattle.filter_machine.specs.Machine.{State, start, attribute, value, low, high, refused, in_list, first, item, after_comma, being, not_being, done, Level, level_of, Frame, under_not, bracket, Machine, at, noted, member_end, whole, closed, step, run, then, new_machine, Reading, accept, move}
use Rattle.filter_machine.specs.declared.token.Token.{Token}
use Rattle.filter_machine.specs.declared.token.Token.TheVariants.{Text, And, Or, Not, In, To, Exists, Is, Null, Empty, Compare, Open, Close, ListOpen, ListClose, Comma}

-- ---- what a state has read

abbrev pub commas : List (List ℕ) → List Token
commas [] = []
commas (v ∷ vs) = Comma ∷ Text v ∷ commas vs

abbrev pub items : List (List ℕ) → List Token
items [] = []
items (v ∷ vs) = Text v ∷ commas vs

abbrev pub partial : State → List Token
partial start = []
partial (attribute a) = Text a ∷ []
partial (value a c) = Text a ∷ Compare c ∷ []
partial (low a b) = Text a ∷ Text b ∷ []
partial (high a b) = Text a ∷ Text b ∷ To ∷ []
partial (refused a) = Text a ∷ Not ∷ []
partial (in_list a n) = Text a ∷ not_if n ++ In ∷ []
partial (first a n) = Text a ∷ not_if n ++ In ∷ ListOpen ∷ []
partial (item a n vs) = Text a ∷ not_if n ++ In ∷ ListOpen ∷ items vs
partial (after_comma a n vs) = Text a ∷ (not_if n ++ (In ∷ ListOpen ∷ (items vs ++ Comma ∷ [])))
partial (being a) = Text a ∷ Is ∷ []
partial (not_being a) = Text a ∷ Is ∷ Not ∷ []
partial done = []

-- a list that goes on is not empty
abbrev pub Fine : State → Type 0
Fine (item a n []) = ⊥
Fine (after_comma a n []) = ⊥
Fine _ = Unit {0}

commas_more : (vs : List (List ℕ)) (v : List ℕ) → commas (vs ++ v ∷ []) ≡ commas vs ++ Comma ∷ Text v ∷ []
commas_more [] v = refl
commas_more (u ∷ vs) v = ap (λ ts. Comma ∷ Text u ∷ ts) (commas_more vs v)

commas_end : (vs : List (List ℕ)) → commas vs ++ ListClose ∷ [] ≡ further vs
commas_end [] = refl
commas_end (u ∷ vs) = ap (λ ts. Comma ∷ Text u ∷ ts) (commas_end vs)

-- ---- what a bracket has read, before a member and after one

abbrev pub OrsAre : List Token → Type 0
OrsAre ts = (ts ≡ []) ⊎ ((os : Ors) × (ts ≡ ors_tokens os ++ Or ∷ []))

abbrev pub AndsAre : List Token → Type 0
AndsAre ts = (ts ≡ []) ⊎ ((a : Ands) × (ts ≡ ands_tokens a ++ And ∷ []))

pub record Opens (ts : List Token) : Type 0 where
  pub ors : List Token
  pub ands : List Token
  pub ors_are : OrsAre ors
  pub ands_are : AndsAre ands
  pub all : ts ≡ ors ++ ands

pub record Ends (ts : List Token) : Type 0 where
  pub ors : List Token
  pub last : Ands
  pub ors_are : OrsAre ors
  pub all : ts ≡ ors ++ ands_tokens last

-- ---- and with what is open around it

abbrev pub OpensIn : List Token → List Frame → Type 0
OpensIn ts [] = Opens ts
OpensIn ts (under_not ∷ o) = (a : List Token) × OpensIn a o × (ts ≡ a ++ Not ∷ [])
OpensIn ts (bracket os ns ∷ o) = (a : List Token) × (b : List Token) × OpensIn a o × Opens b × (ts ≡ a ++ Open ∷ b)

abbrev pub EndsIn : List Token → List Frame → Type 0
EndsIn ts [] = Ends ts
EndsIn ts (under_not ∷ o) = ⊥
EndsIn ts (bracket os ns ∷ o) = (a : List Token) × (b : List Token) × OpensIn a o × Ends b × (ts ≡ a ++ Open ∷ b)

abbrev pub HasRead : State → List Token → List Frame → Type 0
HasRead done ts o = EndsIn ts o
HasRead s ts o = (c : List Token) × OpensIn c o × (ts ≡ c ++ partial s)

pub record MachineIs (ts : List Token) (m : Machine) : Type 0 where
  pub has_read : HasRead m.state ts m.outer
  pub fine : Fine m.state

-- ---- a member ends

member_more : (ts : List Token) (n : Nots) → AndsAre ts → (a : Ands) × (ts ++ nots_tokens n ≡ ands_tokens a)
member_more ts n (inl none) = (one_not n, ap (λ us. us ++ nots_tokens n) none)
member_more ts n (inr (a, is)) = (and a n, ap (λ us. us ++ nots_tokens n) is ∙ append_assoc (ands_tokens a) (And ∷ []) (nots_tokens n))

ends_by : (c : List Token) (n : Nots) → Opens c → Ends (c ++ nots_tokens n)
ends_by c n h =
    let (a, is) = member_more h.ands n h.ands_are in
    record {
      ors = h.ors;
      last = a;
      ors_are = h.ors_are;
      all = ap (λ us. us ++ nots_tokens n) h.all ∙ append_assoc h.ors h.ands (nots_tokens n) ∙ ap (λ us. h.ors ++ us) is;
    }

filter_of : (b : List Token) → Ends b → (f : Ors) × (b ≡ ors_tokens f)
filter_of b h = by_ors h.ors_are
  where
    by_ors : OrsAre h.ors → (f : Ors) × (b ≡ ors_tokens f)
    by_ors (inl none) = (one_and h.last, h.all ∙ ap (λ us. us ++ ands_tokens h.last) none)
    by_ors (inr (os, is)) = (or os h.last, h.all ∙ ap (λ us. us ++ ands_tokens h.last) is ∙ append_assoc (ors_tokens os) (Or ∷ []) (ands_tokens h.last))

member_ends : (o : List Frame) (c : List Token) (n : Nots) (t : Tree) (l : Level) → OpensIn c o → MachineIs (c ++ nots_tokens n) (member_end t l o)
member_ends [] c n t l h = record { has_read = ends_by c n h; fine = tt }
member_ends (under_not ∷ o) c n t l (a, h, e) =
    subst (λ us. MachineIs us (member_end (negation t) l o)) (sym (ap (λ us. us ++ nots_tokens n) e ∙ append_assoc a (Not ∷ []) (nots_tokens n)))
    (member_ends o a (negated n) (negation t) l h)
member_ends (bracket os ns ∷ o) c n t l (a, b, h, opens, e) = record {
  has_read = (a, b ++ nots_tokens n, h, ends_by b n opens, ap (λ us. us ++ nots_tokens n) e ∙ append_assoc a (Open ∷ b) (nots_tokens n));
  fine = tt;
}

-- ---- one token more

grown : (b c p : List Token) (t : Token) → b ≡ c ++ p → b ++ t ∷ [] ≡ c ++ (p ++ t ∷ [])
grown b c p t e = ap (λ us. us ++ t ∷ []) e ∙ append_assoc c p (t ∷ [])

and_next : (b : List Token) → Ends b → Opens (b ++ And ∷ [])
and_next b h = record {
  ors = h.ors;
  ands = ands_tokens h.last ++ And ∷ [];
  ors_are = h.ors_are;
  ands_are = inr (h.last, refl);
  all = grown b h.ors (ands_tokens h.last) And h.all;
}

or_next : (b : List Token) → Ends b → Opens (b ++ Or ∷ [])
or_next b h =
    let (f, is) = filter_of b h in
    record {
      ors = b ++ Or ∷ [];
      ands = [];
      ors_are = inr (f, ap (λ us. us ++ Or ∷ []) is);
      ands_are = inl refl;
      all = sym (append-nil (b ++ Or ∷ []));
    }

-- AND or OR, which `more` takes from after a member to before one
joined : (o : List Frame) (ts : List Token) (t : Token) → ((b : List Token) → Ends b → Opens (b ++ t ∷ [])) → EndsIn ts o → OpensIn (ts ++ t ∷ []) o
joined [] ts t more h = more ts h
joined (under_not ∷ o) ts t more h = absurd h
joined (bracket os ns ∷ o) ts t more (a, b, h, ends, e) = (a, b ++ t ∷ [], h, more b ends, grown ts a (Open ∷ b) t e)

fresh_opens : Opens []
fresh_opens = record { ors = []; ands = []; ors_are = inl refl; ands_are = inl refl; all = refl }

ended_is : (c p ts : List Token) (t : Token) (l : Level) (o : List Frame) (k : Condition) → OpensIn c o → ts ≡ c ++ p → p ++ t ∷ [] ≡ condition_tokens k
    → MachineIs (ts ++ t ∷ []) (member_end (condition_tree k) (noted (condition_values k) l) o)
ended_is c p ts t l o k opens e all =
    subst (λ us. MachineIs us (member_end (condition_tree k) (noted (condition_values k) l) o)) (sym (grown ts c p t e ∙ ap (λ us. c ++ us) all))
    (member_ends o c (plain k) (condition_tree k) (noted (condition_values k) l) opens)

closes : (ts : List Token) (l : Level) (o : List Frame) → EndsIn ts o → IfSome (closed l o) (MachineIs (ts ++ Close ∷ []))
closes ts l [] h = tt
closes ts l (under_not ∷ o) h = tt
closes ts l (bracket os ns ∷ o) (a, b, h, ends, e) =
    let (f, is) = filter_of b ends in
    let all : ts ++ Close ∷ [] ≡ a ++ nots_tokens (group f) =
    ap (λ us. us ++ Close ∷ []) e ∙ append_assoc a (Open ∷ b) (Close ∷ []) ∙ ap (λ us. a ++ (Open ∷ us ++ Close ∷ [])) is in
    subst (λ us. MachineIs us (member_end (whole l) (level_of os ns l.bad) o)) (sym all) (member_ends o a (group f) (whole l) (level_of os ns l.bad) h)

-- in each state but done
stays : (s : State) (ts : List Token) (l : Level) (o : List Frame) → HasRead s ts o → Fine s → MachineIs ts (at s l o)
stays s ts l o has fine = record { has_read = has; fine = fine }

list_text : (a : List ℕ) (n : Bool) (us : List Token) (t : Token) → (Text a ∷ not_if n ++ In ∷ ListOpen ∷ us) ++ t ∷ [] ≡ Text a ∷ (not_if n ++ (In ∷ ListOpen ∷ (us ++ t ∷ [])))
list_text a true us t = refl
list_text a false us t = refl

in_text : (a : List ℕ) (n : Bool) (t : Token) → (Text a ∷ not_if n ++ In ∷ []) ++ t ∷ [] ≡ Text a ∷ (not_if n ++ (In ∷ t ∷ []))
in_text a true t = refl
in_text a false t = refl

pub step_is : (s : State) (t : Token) (l : Level) (o : List Frame) (ts : List Token) → HasRead s ts o → Fine s → IfSome (move s t l o) (MachineIs (ts ++ t ∷ []))
step_is start (Text w) l o ts (c, opens, e) fine = stays (attribute w) (ts ++ Text w ∷ []) l o (c, opens, grown ts c [] (Text w) e) tt
step_is start Not l o ts (c, opens, e) fine =
    stays start (ts ++ Not ∷ []) l (under_not ∷ o) (ts ++ Not ∷ [], (c, opens, grown ts c [] Not e), sym (append-nil (ts ++ Not ∷ []))) tt
step_is start Open l o ts (c, opens, e) fine =
    stays start (ts ++ Open ∷ []) (level_of [] [] l.bad) (bracket l.ors l.ands ∷ o) (ts ++ Open ∷ [], (c, [], opens, fresh_opens, grown ts c [] Open e), sym (append-nil (ts ++ Open ∷ []))) tt
step_is (attribute w) (Compare k) l o ts (c, opens, e) fine = stays (value w k) (ts ++ Compare k ∷ []) l o (c, opens, grown ts c (partial (attribute w)) (Compare k) e) tt
step_is (attribute w) (Text v) l o ts (c, opens, e) fine = stays (low w v) (ts ++ Text v ∷ []) l o (c, opens, grown ts c (partial (attribute w)) (Text v) e) tt
step_is (attribute w) Not l o ts (c, opens, e) fine = stays (refused w) (ts ++ Not ∷ []) l o (c, opens, grown ts c (partial (attribute w)) Not e) tt
step_is (attribute w) In l o ts (c, opens, e) fine = stays (in_list w false) (ts ++ In ∷ []) l o (c, opens, grown ts c (partial (attribute w)) In e) tt
step_is (attribute w) Exists l o ts (c, opens, e) fine = ended_is c (partial (attribute w)) ts Exists l o (existing w false) opens e refl
step_is (attribute w) Is l o ts (c, opens, e) fine = stays (being w) (ts ++ Is ∷ []) l o (c, opens, grown ts c (partial (attribute w)) Is e) tt
step_is (value w k) (Text v) l o ts (c, opens, e) fine = ended_is c (partial (value w k)) ts (Text v) l o (compared w k v) opens e refl
step_is (low w v) To l o ts (c, opens, e) fine = stays (high w v) (ts ++ To ∷ []) l o (c, opens, grown ts c (partial (low w v)) To e) tt
step_is (high w v) (Text u) l o ts (c, opens, e) fine = ended_is c (partial (high w v)) ts (Text u) l o (between w v u) opens e refl
step_is (refused w) In l o ts (c, opens, e) fine = stays (in_list w true) (ts ++ In ∷ []) l o (c, opens, grown ts c (partial (refused w)) In e) tt
step_is (refused w) Exists l o ts (c, opens, e) fine = ended_is c (partial (refused w)) ts Exists l o (existing w true) opens e refl
step_is (in_list w n) ListOpen l o ts (c, opens, e) fine =
    stays (first w n) (ts ++ ListOpen ∷ []) l o (c, opens, grown ts c (partial (in_list w n)) ListOpen e ∙ ap (λ us. c ++ us) (in_text w n ListOpen)) tt
step_is (first w n) (Text v) l o ts (c, opens, e) fine =
    stays (item w n (v ∷ [])) (ts ++ Text v ∷ []) l o (c, opens, grown ts c (partial (first w n)) (Text v) e ∙ ap (λ us. c ++ us) (list_text w n [] (Text v))) tt
step_is (first w n) ListClose l o ts (c, opens, e) fine =
    ended_is c (partial (first w n)) ts ListClose l o (among w n []) opens e (list_text w n [] ListClose)
step_is (item w n (v ∷ vs)) Comma l o ts (c, opens, e) fine =
    stays (after_comma w n (v ∷ vs)) (ts ++ Comma ∷ []) l o (c, opens, grown ts c (partial (item w n (v ∷ vs))) Comma e ∙ ap (λ us. c ++ us) (list_text w n (items (v ∷ vs)) Comma)) tt
step_is (item w n (v ∷ vs)) ListClose l o ts (c, opens, e) fine =
    ended_is c (partial (item w n (v ∷ vs))) ts ListClose l o (among w n (v ∷ vs)) opens e
    (list_text w n (items (v ∷ vs)) ListClose ∙ ap (λ us. Text w ∷ (not_if n ++ (In ∷ ListOpen ∷ Text v ∷ us))) (commas_end vs))
step_is (after_comma w n (v ∷ vs)) (Text u) l o ts (c, opens, e) fine =
    stays (item w n (v ∷ vs ++ u ∷ [])) (ts ++ Text u ∷ []) l o (
      c,
      opens,
      grown ts c (partial (after_comma w n (v ∷ vs))) (Text u) e ∙ ap (λ us. c ++ us) (list_text w n (items (v ∷ vs) ++ Comma ∷ []) (Text u)
          ∙ ap (λ us. Text w ∷ (not_if n ++ (In ∷ ListOpen ∷ Text v ∷ us))) (append_assoc (commas vs) (Comma ∷ []) (Text u ∷ []) ∙ sym (commas_more vs u))),
    ) tt
step_is (item w n []) t l o ts has fine = absurd fine
step_is (after_comma w n []) t l o ts has fine = absurd fine
step_is (being w) Not l o ts (c, opens, e) fine = stays (not_being w) (ts ++ Not ∷ []) l o (c, opens, grown ts c (partial (being w)) Not e) tt
step_is (being w) Null l o ts (c, opens, e) fine = ended_is c (partial (being w)) ts Null l o (nullish w false) opens e refl
step_is (being w) Empty l o ts (c, opens, e) fine = ended_is c (partial (being w)) ts Empty l o (emptyish w false) opens e refl
step_is (not_being w) Null l o ts (c, opens, e) fine = ended_is c (partial (not_being w)) ts Null l o (nullish w true) opens e refl
step_is (not_being w) Empty l o ts (c, opens, e) fine = ended_is c (partial (not_being w)) ts Empty l o (emptyish w true) opens e refl
step_is done And l o ts ends fine = stays start (ts ++ And ∷ []) l o (ts ++ And ∷ [], joined o ts And and_next ends, sym (append-nil (ts ++ And ∷ []))) tt
step_is done Or l o ts ends fine = record { has_read = (ts ++ Or ∷ [], joined o ts Or or_next ends, sym (append-nil (ts ++ Or ∷ []))); fine = tt }
step_is done Close l o ts ends fine = closes ts l o ends
step_is _ _ l o ts has fine = tt

-- ---- all tokens

pub new_is : MachineIs [] new_machine
new_is = record { has_read = ([], fresh_opens, refl); fine = tt }

goes_on : (next : Option Machine) (xs : List Token) (t : Token) (ts : List Token) → IfSome next (MachineIs (xs ++ t ∷ []))
    → ((m : Machine) → MachineIs (xs ++ t ∷ []) m → IfSome (run ts m) (MachineIs ((xs ++ t ∷ []) ++ ts))) → IfSome (then (run ts) next) (MachineIs (xs ++ t ∷ ts))
goes_on None xs t ts h later = tt
goes_on (Some next) xs t ts h later = subst (λ us. IfSome (run ts next) (MachineIs us)) (append_assoc xs (t ∷ []) ts) (later next h)

run_from : (ts xs : List Token) (m : Machine) → MachineIs xs m → IfSome (run ts m) (MachineIs (xs ++ ts))
run_from [] xs m h = subst (λ us. MachineIs us m) (sym (append-nil xs)) h
run_from (t ∷ ts) xs m h = goes_on (step m t) xs t ts (step_is m.state t m.level m.outer xs h.has_read h.fine) (λ next is. run_from ts (xs ++ t ∷ []) next is)

pub some_if : {A : Type 0} (P : A → Type 0) (o : Option A) (x : A) → o ≡ Some x → IfSome o P → P x
some_if P None x e h = absurd (let wrong = e in cc)
some_if P (Some y) x e h = let same : y ≡ x = cc in subst P same h

-- a machine that tokens lead to
pub run_is : (ts : List Token) (m : Machine) → run ts new_machine ≡ Some m → MachineIs ts m
run_is ts m e = some_if (MachineIs ts) (run ts new_machine) m e (run_from ts [] new_machine new_is)

pub accept_is : (ts : List Token) (m : Machine) → MachineIs ts m → IfSome (accept m) (λ r. (f : Ors) × (ts ≡ ors_tokens f))
accept_is ts m h = by_state m.state m.outer h.has_read
  where
    by_state : (s : State) (o : List Frame) → HasRead s ts o → IfSome (accept (at s m.level o)) (λ r. (f : Ors) × (ts ≡ ors_tokens f))
    by_state done [] ends = filter_of ts ends
    by_state _ _ has = tt

-- the tokens of a machine that accepts are a filter's
pub tokens_of : (ts : List Token) (m : Machine) (r : Reading) → run ts new_machine ≡ Some m → accept m ≡ Some r → (f : Ors) × (ts ≡ ors_tokens f)
tokens_of ts m r e a = some_if (λ q. (f : Ors) × (ts ≡ ors_tokens f)) (accept m) r a (accept_is ts m (run_is ts m e))
