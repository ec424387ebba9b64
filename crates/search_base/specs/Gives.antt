-- What code answers, beside the definition of its answer: the same, or want of memory.
use Rattle.std.specs.Prelude.{◌≡◌, Option, Some, None, Result, Ok, Err, ⊤}
use Rattle.search_base.specs.declared.fault.Fault.{Fault}
use Rattle.search_base.specs.declared.fault.Fault.TheVariants.{Refused, NoMemory}

-- the refusal is that of the definition; of want of memory nothing is said
abbrev pub Fails : {R Y : Type 0} → Fault R → Result Y R → Type 0
Fails (Refused refusal) defined = defined ≡ Err refusal
Fails NoMemory defined = Unit {0}

-- the answer, seen by `view`, is that of the definition
abbrev pub Gives : {R X Y : Type 0} → (X → Y) → Result X (Fault R) → Result Y R → Type 0
Gives view (Ok x) defined = defined ≡ Ok (view x)
Gives view (Err fault) defined = Fails fault defined

-- the same where no memory is taken
abbrev pub Tells : {R X Y : Type 0} → (X → Y) → Result X R → Result Y R → Type 0
Tells view (Ok x) defined = defined ≡ Ok (view x)
Tells view (Err refusal) defined = defined ≡ Err refusal

-- it is this refusal, or want of memory
abbrev pub Turns : {R : Type 0} → R → Fault R → Type 0
Turns why (Refused refusal) = why ≡ refusal
Turns why NoMemory = Unit {0}

-- a check finds the refusal that the definition finds, if there is one
abbrev pub Checks : {R : Type 0} → Result ⊤ (Fault R) → Option R → Type 0
Checks (Ok u) found = found ≡ None
Checks (Err (Refused refusal)) found = found ≡ Some refusal
Checks (Err NoMemory) found = Unit {0}
