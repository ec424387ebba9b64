-- Steps that may be refused: the first refusal is the answer of all of them.
use Rattle.std.specs.Prelude.{Bool, true, false, Option, Some, None, Result, Ok, Err}

infixl 10 ◌>>=◌
abbrev pub ◌>>=◌ : {R A B : Type 0} → Result A R → (A → Result B R) → Result B R
(Ok x) >>= f = f x
(Err e) >>= f = Err e

infixl 10 ◌>>◌
abbrev pub ◌>>◌ : {R A : Type 0} → Option R → Result A R → Result A R
None >> r = r
(Some e) >> r = Err e

-- the refusal where the condition holds
abbrev pub refuse_if : {R : Type 0} → Bool → R → Option R
refuse_if true e = Some e
refuse_if false e = None

-- the first of two
abbrev pub first_of : {R : Type 0} → Option R → Option R → Option R
first_of None later = later
first_of (Some e) later = Some e

-- the value, or this refusal where there is none
abbrev pub or_refuse : {R A : Type 0} → R → Option A → Result A R
or_refuse e None = Err e
or_refuse e (Some x) = Ok x

-- the same under the names that the refusals have to another layer
abbrev pub refused_as : {R S A : Type 0} → (R → S) → Result A R → Result A S
refused_as name (Ok x) = Ok x
refused_as name (Err e) = Err (name e)
