-- Readers of one field after the other, and where they find damage.
use Rattle.std.proofs.Common.{◌≡◌, ℕ, ◌+◌, ◌-◌, ◌≤◌, Bool, true, false, cond, List, [], ◌∷◌, ◌++◌, length, Result, Ok, Err, refl, sym, ap, subst, ◌∙◌, append_assoc, arith}
use Rattle.std.proofs.lemmas.List.{length-append}
use Rattle.change_payloads.specs.Fields.{◌>>=◌}
use Rattle.damage_laws.specs.Agrees.{AgreesThrough}

-- ---- how much is left

-- what a reader leaves, or names as damaged, is no more than so many bytes
abbrev pub Within : {X : Type 0} → ℕ → Result (X × List ℕ) ℕ → Type 0
Within n (Ok x) = length x.1 ≤ n
Within n (Err left) = left ≤ n

abbrev pub LeftWithin : {B : Type 0} → ℕ → Result B ℕ → Type 0
LeftWithin n (Ok x) = Unit {0}
LeftWithin n (Err left) = left ≤ n

-- what names no more as damaged than it is given
abbrev pub IsBounded : {X B : Type 0} → (X × List ℕ → Result B ℕ) → Type 0
IsBounded {X} h = (x : X × List ℕ) → LeftWithin (length x.1) (h x)

-- the same of a reader, which also leaves no more
abbrev pub IsReader : {X Y : Type 0} → (X × List ℕ → Result (Y × List ℕ) ℕ) → Type 0
IsReader {X} g = (x : X × List ℕ) → Within (length x.1) (g x)

within_more : {X : Type 0} (m n : ℕ) (r : Result (X × List ℕ) ℕ) → m ≤ n → Within m r → Within n r
within_more m n (Ok x) more is = omega arith
within_more m n (Err left) more is = omega arith

left_more : {B : Type 0} (m n : ℕ) (r : Result B ℕ) → m ≤ n → LeftWithin m r → LeftWithin n r
left_more m n (Ok x) more is = tt
left_more m n (Err left) more is = omega arith

pub within_bind : {X Y : Type 0} (n : ℕ) (r : Result (X × List ℕ) ℕ) (g : X × List ℕ → Result (Y × List ℕ) ℕ) → Within n r → IsReader g → Within n (r >>= g)
within_bind n (Ok x) g is each = within_more (length x.1) n (g x) is (each x)
within_bind n (Err left) g is each = is

pub left_bind : {X B : Type 0} (n : ℕ) (r : Result (X × List ℕ) ℕ) (h : X × List ℕ → Result B ℕ) → Within n r → IsBounded h → LeftWithin n (r >>= h)
left_bind n (Ok x) h is each = left_more (length x.1) n (h x) is (each x)
left_bind n (Err left) h is each = is

pub within_either : {X : Type 0} (n : ℕ) (b : Bool) (r s : Result (X × List ℕ) ℕ) → Within n r → Within n s → Within n (cond b r s)
within_either n true r s here there = here
within_either n false r s here there = there

left_of : {B : Type 0} (n : ℕ) (r : Result B ℕ) (left : ℕ) → LeftWithin n r → r ≡ Err left → left ≤ n
left_of n (Ok x) left is e = absurd cc
left_of n (Err other) left is e = let same : other ≡ left = cc in subst (λ k. k ≤ n) same is

-- ---- what no spelling agrees with

-- where k finds damage, the bytes agree with these fields through no field that stands there
abbrev pub NoneSoFar : {B : Type 0} → (List ℕ → Result B ℕ) → List (List ℕ) → Type 0
NoneSoFar k fields = (bytes : List ℕ) (left : ℕ) → k bytes ≡ Err left → AgreesThrough (length bytes - left) fields bytes → ⊥

-- a reader that reads these fields as x, whatever comes after it
abbrev pub Tells : {X : Type 0} → (B : Type 0) → (List ℕ → Result (X × List ℕ) ℕ) → X → List (List ℕ) → Type 0
Tells {X} B r x own = (h : X × List ℕ → Result B ℕ) (fields : List (List ℕ)) → IsBounded h → NoneSoFar (λ rest. h (x, rest)) fields → NoneSoFar (λ bytes. r bytes >>= h) (own ++ fields)

bind_assoc : {X Y B : Type 0} (r : Result (X × List ℕ) ℕ) (g : X × List ℕ → Result (Y × List ℕ) ℕ) (h : Y × List ℕ → Result B ℕ) → ((r >>= g) >>= h) ≡ (r >>= λ x. g x >>= h)
bind_assoc (Ok x) g h = refl
bind_assoc (Err left) g h = refl

pub nothing_tells : {X : Type 0} (B : Type 0) (x : X) → Tells B (λ bytes. Ok (x, bytes)) x []
nothing_tells B x h fields bound none bytes left fails agrees = none bytes left fails agrees

pub plain_tells : {X : Type 0} (B : Type 0) (r : List ℕ → Result (X × List ℕ) ℕ) (x : X) → ((bytes : List ℕ) → r bytes ≡ Ok (x, bytes)) → Tells B r x []
plain_tells B r x reads h fields bound none bytes left fails agrees = none bytes left (sym (ap (λ v. v >>= h) (reads bytes)) ∙ fails) agrees

-- behind one field a reader goes on as another does
pub front_tells : {X : Type 0} (B : Type 0) (r s : List ℕ → Result (X × List ℕ) ℕ) (x : X) (field : List ℕ) (own : List (List ℕ)) → ((rest : List ℕ) → r (field ++ rest) ≡ s rest)
    → ((rest : List ℕ) → Within (length rest) (s rest)) → Tells B s x own → Tells B r x (field ∷ own)
front_tells B r s x field own reads within more h fields bound none bytes left fails agrees =
    let rest = agrees.0 in
    let later : (s rest >>= h) ≡ Err left = sym (ap (λ v. v >>= h) (ap r agrees.1 ∙ reads rest)) ∙ fails in
    let few : left ≤ length rest = left_of (length rest) (s rest >>= h) left (left_bind (length rest) (s rest) h (within rest) bound) later in
    let size : length bytes ≡ length field + length rest = ap length agrees.1 ∙ length-append field rest in
    let at : length bytes - left - length field ≡ length rest - left = omega (arith, size, few) in
    let past : length field ≤ length bytes - left = omega (arith, size, few) in
    more h fields bound none rest left later (subst (λ n. AgreesThrough n (own ++ fields) rest) at (agrees.2 past))

pub field_tells : {X : Type 0} (B : Type 0) (r : List ℕ → Result (X × List ℕ) ℕ) (x : X) (field : List ℕ) → ((rest : List ℕ) → r (field ++ rest) ≡ Ok (x, rest)) → Tells B r x (field ∷ [])
field_tells B r x field reads = front_tells B r (λ rest. Ok (x, rest)) x field [] reads (λ rest. omega arith) (nothing_tells B x)

-- one reader after another
pub then_tells : {X Y : Type 0} (B : Type 0) (r : List ℕ → Result (X × List ℕ) ℕ) (g : X × List ℕ → Result (Y × List ℕ) ℕ) (x : X) (y : Y) (first second : List (List ℕ))
    → Tells B r x first → IsReader g → Tells B (λ rest. g (x, rest)) y second → Tells B (λ bytes. r bytes >>= g) y (first ++ second)
then_tells B r g x y first second here reader there h fields bound none bytes left fails agrees =
    here (λ z. g z >>= h) (second ++ fields) (λ z. left_bind (length z.1) (g z) h (reader z) bound) (there h fields bound none) bytes left (sym (bind_assoc (r bytes) g h) ∙ fails)
    (subst (λ all. AgreesThrough (length bytes - left) all bytes) (append_assoc first second fields) agrees)

-- a reader whose value is made into another
pub map_tells : {X Y : Type 0} (B : Type 0) (r : List ℕ → Result (X × List ℕ) ℕ) (m : X → Y) (x : X) (own : List (List ℕ)) → Tells B r x own → Tells B (λ bytes. r bytes >>= λ z. Ok (m z.0, z.1)) (m x) own
map_tells B r m x own here h fields bound none bytes left fails agrees =
    here (λ z. h (m z.0, z.1)) fields (λ z. bound (m z.0, z.1)) none bytes left (sym (bind_assoc (r bytes) (λ z. Ok (m z.0, z.1)) h) ∙ fails) agrees
