use Rattle.std.proofs.Common.{◌≡◌, ℕ, List, length, Result, Ok, Err, ap, ◌∙◌}
use Rattle.std.specs.Prelude.{IfOk}
use Rattle.doc_rows.specs.declared.path_use.PathUse.{PathUse}
use Rattle.search_settings.proofs.UseLemmas.{uses-length}
use Rattle.search_settings.proofs.uses.uses_of.Goals as goal

as-many : {V E : Type 0} (items : V → List PathUse) (r : Result V E) (uses : List PathUse) (n : ℕ) → IfOk r (λ v. items v ≡ uses) → length uses ≡ n → IfOk r (λ v. length (items v) ≡ n)
as-many items (Ok v) uses n h many = ap length h ∙ many
as-many items (Err e) uses n h many = tt

pub returns-clause-len : goal.returns-clause-len
returns-clause-len c = as-many (λ v. v.items) c.uses_behind.result _ (length c.args.paths.now) c.uses_behind.ensures (uses-length c.args.settings.now 0 c.args.paths.now)
