-- What the refusals of keys, ids and stores are to an index.
use Rattle.std.specs.Prelude.{ℕ}
use Rattle.search_base.specs.declared.fault.Fault.{Fault}
use Rattle.search_base.specs.declared.fault.Fault.TheVariants as fault
use Rattle.doc_values.specs.declared.ids.IdRefusal.{IdRefusal}
use Rattle.doc_values.specs.declared.ids.IdRefusal.TheVariants as id
use Rattle.doc_values.specs.declared.keys.KeyRefusal.{KeyRefusal}
use Rattle.doc_values.specs.declared.keys.KeyRefusal.TheVariants as key
use Rattle.doc_store.specs.declared.rows.StoreRefusal.{StoreRefusal}
use Rattle.doc_store.specs.declared.rows.StoreRefusal.TheVariants as store
use Rattle.index_changes.specs.declared.refusal.CoreRefusal.{CoreRefusal}
use Rattle.index_changes.specs.declared.refusal.CoreRefusal.TheVariants.{NoCandidate, SeveralCandidates, MissingId, BadId, IdsSpent, PathsSpent}

-- no key is inferred
abbrev pub key_refusal : KeyRefusal → CoreRefusal
key_refusal key.NoCandidate = NoCandidate
key_refusal (key.SeveralCandidates count) = SeveralCandidates

-- the document at a place has no id
abbrev pub id_refusal : ℕ → IdRefusal → CoreRefusal
id_refusal place id.MissingId = MissingId place
id_refusal place id.BadId = BadId place

-- ids or paths are spent
abbrev pub store_refusal : StoreRefusal → CoreRefusal
store_refusal store.IdsSpent = IdsSpent
store_refusal store.PathsSpent = PathsSpent

-- the same of a store's fault, where memory may be wanting too
abbrev pub store_fault : Fault StoreRefusal → Fault CoreRefusal
store_fault (fault.Refused refusal) = fault.Refused (store_refusal refusal)
store_fault fault.NoMemory = fault.NoMemory
