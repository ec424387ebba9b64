-- How a refusal of a part is one of the whole.
use Rattle.std.proofs.Common.{◌≡◌, List, Option, Some, None, Result, Err, refl}
use Rattle.std.specs.Prelude.{⊤}
use Rattle.json.specs.Token.{Token}
use Rattle.search_base.specs.declared.fault.Fault.{Fault}
use Rattle.search_base.specs.declared.fault.Fault.TheVariants.{Refused, NoMemory}
use Rattle.search_base.specs.Gives.{Fails, Gives, Checks}
use Rattle.document_stream.specs.Reads.{IsBroken, Reads}
use Rattle.document_stream.specs.declared.fault.BodyRefusal.{BodyRefusal}
use Rattle.document_stream.specs.declared.fault.BodyRefusal.TheVariants.{NotJson}

pub broken : {A B : Type 0} (seen : A → B) (result : Result A (Fault BodyRefusal)) (wanted : Option (B × List Token)) (left : List Token) → result ≡ Err (Refused NotJson) → wanted ≡ None → Reads seen result wanted left
broken seen result wanted left is none = rw is (refl, none)

broken_at : {B C : Type 0} (fault : Fault BodyRefusal) (wanted : Option B) (part : Option C) → IsBroken fault part → (part ≡ None → wanted ≡ None) → IsBroken fault wanted
broken_at (Refused why) wanted part read none = (read.0, none read.1)
broken_at NoMemory wanted part read none = tt

pub broken_part : {A B C : Type 0} (seen : A → B) (result : Result A (Fault BodyRefusal)) (wanted : Option (B × List Token)) (left : List Token) (fault : Fault BodyRefusal) (part : Option (C × List Token))
    → result ≡ Err fault → IsBroken fault part → (part ≡ None → wanted ≡ None) → Reads seen result wanted left
broken_part seen result wanted left fault part is read none = rw is (broken_at fault wanted part read none)

-- where a part is broken, no JSON is what is wanted
pub fails_broken : {B C : Type 0} (fault : Fault BodyRefusal) (wanted : Result B BodyRefusal) (part : Option C) → IsBroken fault part → (part ≡ None → wanted ≡ Err NotJson) → Fails fault wanted
fails_broken (Refused why) wanted part read gone = rw read.0 (gone read.1)
fails_broken NoMemory wanted part read gone = tt

pub gives_fault : {A B : Type 0} (seen : A → B) (result : Result A (Fault BodyRefusal)) (wanted : Result B BodyRefusal) (fault : Fault BodyRefusal) → result ≡ Err fault → Fails fault wanted → Gives seen result wanted
gives_fault seen result wanted fault is why = rw is why

-- the same of a check
pub finds_broken : {C : Type 0} (result : Result ⊤ (Fault BodyRefusal)) (found : Option BodyRefusal) (fault : Fault BodyRefusal) (part : Option C) → result ≡ Err fault → IsBroken fault part
    → (part ≡ None → found ≡ Some NotJson) → Checks result found
finds_broken result found (Refused why) part is read gone = rw is (rw read.0 (gone read.1))
finds_broken result found NoMemory part is read gone = rw is tt
