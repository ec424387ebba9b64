use Rattle.std.proofs.Common.{◌≡◌, Result, Ok, Err, sym, ap, subst, ◌∙◌}
use Rattle.std.specs.Prelude.{IfOk, OnOk}
use Rattle.doc_store.specs.Store.{all_stored, externals}
use Rattle.doc_store.specs.StoreView.{AdmissionView, IsAdmitted}
use Rattle.index_changes.specs.Gathering.{stored_by}
use Rattle.index_changes.proofs.AsTheyCame.{updates-admitted}
use Rattle.index_changes.proofs.Replaced.{updated-ids, updated-stored}
use Rattle.index_changes.proofs.change.rows_of.Goals as goal

-- what holds of rows that are updated and read back
told : {A E : Type 0} (r : Result A E) (P Q : A → Type 0) (B : Type 0) → IfOk r P → OnOk r B → ((x : A) → P x → B → Q x) → IfOk r Q
told (Ok x) P Q B p b f = f x p b
told (Err e) P Q B p b f = tt

pub returns-in-Update : goal.returns-in-Update
returns-in-Update c =
    let s = c.args.store.now.content in
    let came = c.args.rows.items in
    let r = c.update_rows.result in
    record {
      ids = told r _ (λ all. externals all.items ≡ externals came) _ c.update_rows.ensures.rows c.update_rows.ensures.back (λ all is back. ap externals is ∙ updated-ids came s);
      stored = told r _ (λ all. all_stored all.items s ≡ stored_by c.args.kind came s) _ c.update_rows.ensures.rows c.update_rows.ensures.back
          (λ all is back. ap (λ l. all_stored l s) is ∙ updated-stored came s c.requires.sound back ∙ sym (ap (λ k. stored_by k came s) c.in-Update.is));
      admitted = told r _ (λ all. (admission : AdmissionView) → IsAdmitted s came admission → IsAdmitted s all.items admission) _ c.update_rows.ensures.rows c.update_rows.ensures.back
          (λ all is back admission h. subst (λ l. IsAdmitted s l admission) (sym is) (updates-admitted came s admission c.requires.sound back h));
    }
