-- What readers answer.
use Rattle.std.specs.Prelude.{◌≡◌, ℕ, Result, Ok, Err}
use Rattle.change_payloads.specs.declared.fault.ReadFault.{ReadFault}
use Rattle.change_payloads.specs.declared.fault.ReadFault.TheVariants as read
use Rattle.change_payloads.specs.declared.fault.ImageFault.{ImageFault}
use Rattle.change_payloads.specs.declared.fault.ImageFault.TheVariants as image
use Rattle.change_payloads.specs.Change.{Spot}

-- A reader answers, seen by view, what reading gives, unless memory ran out.
abbrev pub Fails : {Y : Type 0} → ReadFault → Result Y ℕ → Type 0
Fails read.NoMemory given = Unit {0}
Fails (read.Left left) given = given ≡ Err left

abbrev pub Gives : {X Y : Type 0} → (X → Y) → Result X ReadFault → Result Y ℕ → Type 0
Gives view (Ok x) given = given ≡ Ok (view x)
Gives view (Err fault) given = Fails fault given

-- the same of a whole payload or image, where damage has a place
abbrev pub Decodes : {X Y : Type 0} → (X → Y) → Result X ImageFault → Result Y Spot → Type 0
Decodes view (Ok x) given = given ≡ Ok (view x)
Decodes view (Err image.NoMemory) given = Unit {0}
Decodes view (Err (image.Damaged place found)) given = given ≡ Err (record { place = place; found = found })
