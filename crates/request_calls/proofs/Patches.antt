-- From the refusal of a patch to that of the request.
use Rattle.std.proofs.Common.{◌≡◌, Some, Err, option_map, ap}
use Rattle.serde_json.specs.Data.{Data}
use Rattle.search_base.specs.Gives.{Checks, Turns}
use Rattle.search_base.specs.declared.fault.Fault.{Fault}
use Rattle.search_base.specs.declared.fault.Fault.TheVariants.{Refused, NoMemory}
use Rattle.index_settings.specs.declared.fault.SettingsRefusal.{SettingsRefusal}
use Rattle.index_settings.specs.Table.{patch_fault}
use Rattle.request_refusals.specs.declared.refusal.Refusal.{Refusal}
use Rattle.request_calls.specs.Bodies.{settings_refusal, patch_refusal}

-- the fault that is found is that of the request
pub turned : (d : Data) (f : SettingsRefusal) (given : Fault Refusal) → patch_fault d ≡ Some f → Turns (settings_refusal f) given → Checks (Err given) (patch_refusal d)
turned d f (Refused r) is turns = rw turns at (ap (option_map settings_refusal) is)
turned d f NoMemory is turns = tt
