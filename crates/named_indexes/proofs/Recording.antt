-- Changes, and the payloads that record them.
use Rattle.std.proofs.Common.{◌≡◌, ℕ, List, true, false, Ok, Err, refl, sym, ap, subst, ◌∙◌}
use Rattle.std.specs.List.{slice_get}
use Rattle.document_changes.specs.Changes.{ChangeData, change_view}
use Rattle.change_payloads.specs.declared.fault.ImageFault.{ImageFault}
use Rattle.change_payloads.specs.declared.fault.ImageFault.TheVariants.{Damaged, NoMemory}
use Rattle.change_payloads.specs.Answers.{Decodes}
use Rattle.change_payloads.specs.Change.{change_at}
use Rattle.named_indexes.specs.Payloads.{first_byte, is_good, recorded_in}

pub good_recorded : (bytes : List ℕ) (c : ChangeData) → change_at bytes ≡ Ok c → is_good c ≡ true → recorded_in bytes ≡ Ok c
unfolding recorded_in
good_recorded bytes c at good = rw (at, good) refl

pub bad_recorded : (bytes : List ℕ) (c : ChangeData) → change_at bytes ≡ Ok c → is_good c ≡ false → recorded_in bytes ≡ Err (first_byte bytes)
unfolding recorded_in
bad_recorded bytes c at bad = rw (at, bad) refl

pub none_recorded : {X : Type 0} (view : X → ChangeData) (bytes : List ℕ) (fault : ImageFault) → Decodes change_view (Err fault) (change_at bytes) → Decodes view (Err fault) (recorded_in bytes)
unfolding recorded_in
none_recorded view bytes NoMemory is = tt
none_recorded view bytes (Damaged place found) is = rw is refl

-- damage at the first byte
pub bad_decodes : {X : Type 0} (view : X → ChangeData) (bytes seen : List ℕ) (fault : ImageFault) → seen ≡ bytes → fault ≡ Damaged 0 (slice_get seen 0)
    → recorded_in bytes ≡ Err (first_byte bytes) → Decodes view (Err fault) (recorded_in bytes)
bad_decodes view bytes seen fault same is bad = subst (λ (f : ImageFault). Decodes view (Err f) (recorded_in bytes)) (sym is) (bad ∙ ap (λ (b : List ℕ). Err (first_byte b)) (sym same))
