-- What contracts see of a plan: the key after the change, and what is to be done.
use Rattle.std.specs.Prelude.{◌≡◌, ◌⊎◌, ℕ, List, Option, None, refl}
use Rattle.std.specs.Coded.{Coded, code_by, coded×, coded⊎, coded_ℕ, coded_list, coded_option}
use Rattle.std.proofs.Common.{inl, inr}
use base.Stored.{coded_unit}
use Rattle.doc_store.specs.declared.rows.StoreRow.{StoreRow}
use Rattle.doc_store.specs.Codes.{store_row_code}
use Rattle.doc_values.specs.DataCode.{data_code}
use Rattle.serde_json.specs.Data.{Data}
use Rattle.serde_json.specs.View.{view}
use Rattle.index_settings.specs.Table.{patch_fault}
use Rattle.index_changes.specs.declared.plan.Work.{Work as WorkParts}
use Rattle.index_changes.specs.declared.plan.Work.TheVariants as work

-- Documents to store whole, or over those of the same id, each with its external id; ids of documents to remove; all
-- documents to remove; the members of settings that change; or the settings of a new index.
pub data Work : Type 0 where
  replace : List StoreRow → Work
  update : List StoreRow → Work
  remove : List (List ℕ) → Work
  clear : Work
  patch : Data → Work
  reset : Work

pub record PlanView : Type 0 where
  pub key : Option (List ℕ)
  pub work : Work

abbrev pub work_view : WorkParts → Work
work_view (work.Replace rows) = replace rows.items
work_view (work.Update rows) = update rows.items
work_view (work.Remove ids) = remove ids.items
work_view work.Clear = clear
work_view (work.Patch members) = patch (view members)
work_view work.Reset = reset

-- a patch is one that is not refused
abbrev pub IsGood : Work → Type 0
IsGood (patch members) = patch_fault members ≡ None
IsGood other = Unit {0}

-- how the logic stores a plan
abbrev WorkCode : Type 0
WorkCode = List StoreRow ⊎ (List StoreRow ⊎ (List (List ℕ) ⊎ (Unit {0} ⊎ (Data ⊎ Unit {0}))))

abbrev work_parts : Work → WorkCode
work_parts (replace rows) = inl rows
work_parts (update rows) = inr (inl rows)
work_parts (remove ids) = inr (inr (inl ids))
work_parts clear = inr (inr (inr (inl tt)))
work_parts (patch members) = inr (inr (inr (inr (inl members))))
work_parts reset = inr (inr (inr (inr (inr tt))))

abbrev work_whole : WorkCode → Work
work_whole (inl rows) = replace rows
work_whole (inr (inl rows)) = update rows
work_whole (inr (inr (inl ids))) = remove ids
work_whole (inr (inr (inr (inl u)))) = clear
work_whole (inr (inr (inr (inr (inl members))))) = patch members
work_whole (inr (inr (inr (inr (inr u))))) = reset

pub work_whole-work_parts : (w : Work) → work_whole (work_parts w) ≡ w
work_whole-work_parts (replace rows) = refl
work_whole-work_parts (update rows) = refl
work_whole-work_parts (remove ids) = refl
work_whole-work_parts clear = refl
work_whole-work_parts (patch members) = refl
work_whole-work_parts reset = refl

abbrev pub work_code : Coded Work
work_code = code_by WorkCode (coded⊎ (coded_list store_row_code) (coded⊎ (coded_list store_row_code) (coded⊎
    (coded_list (coded_list coded_ℕ)) (coded⊎ coded_unit
    (coded⊎ data_code coded_unit))))) work_parts work_whole work_whole-work_parts

abbrev pub plan_code : Coded PlanView
plan_code = code_by (Option (List ℕ)
    × Work) (coded× (coded_option (coded_list coded_ℕ)) work_code) (λ p. (p.key, p.work))
    (λ p. record { key = p.0; work = p.1 }) (λ _. refl)
