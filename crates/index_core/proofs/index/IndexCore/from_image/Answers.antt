use Rattle.std.proofs.Common.{ℕ, ◌≤◌, List, sym, ap, subst, length, ◌∙◌}
use Rattle.doc_store.specs.Restored.{restored}
use Rattle.doc_store.specs.Sound.{IsSound}
use Rattle.doc_store.specs.Store.{Row, Store}
use Rattle.index_image.specs.Rows.{IndexData, index_view}
use Rattle.index_changes.specs.Indexed.{IsIndexed}
use Rattle.index_changes.specs.Keyed.{IsKeyed}
use Rattle.index_core.specs.Whole.{IsWhole}
use Rattle.index_changes.proofs.Imaging.{image-sound, image-keyed}
use Rattle.index_core.proofs.index.IndexCore.from_image.Goals as goal

pub read_documents-requires : goal.read_documents-requires
read_documents-requires g c =
    record { few = subst (λ (paths : List (List ℕ)). length paths ≤ 1000) (sym c.as_slice.ensures.value) c.requires.state.1.few_paths }

pub restore-requires : goal.restore-requires
restore-requires g c =
    let i : IndexData = index_view c.args.image in
    let rows = c.in_ok-rows.ensures.rows in
    subst IsSound (ap (λ (rs : List Row). record { paths = i.paths; next_id = i.next_id; rows = rs }) (sym rows)) (image-sound c.requires.state.0 i c.requires.state.1)

pub invariant_of-result : goal.invariant_of-result
invariant_of-result g c =
    let i : IndexData = index_view c.args.image in
    let read = c.in_ok-rows.field-0.rows.items in
    let here = ap (λ (rs : List Row). record { paths = i.paths; next_id = i.next_id; rows = rs }) c.in_ok-rows.ensures.rows in
    let content = c.in_ok-store.ensures.content ∙ here in
    let sound : IsSound (restored i.paths i.next_id read) = subst IsSound (sym here) (image-sound c.requires.state.0 i c.requires.state.1) in
    let kept = subst (λ (paths : List (List ℕ)). IsSound (restored paths i.next_id read) → IsIndexed c.in_ok-rows.field-0.kept i.settings (restored paths i.next_id read))
    c.as_slice.ensures.value (c.in_ok-rows.ensures.kept i.next_id) sound in
    record {
      keyed = subst (λ (s : Store). IsKeyed i.key s.rows) (sym content) (image-keyed c.requires.state.0 i c.requires.state.1);
      rows = subst (IsIndexed c.in_ok-rows.field-0.kept i.settings) (sym c.in_ok-store.ensures.content) kept;
      words = c.in_ok-of.ensures;
      no_documents = c.in_ok-store.ensures.staged;
    }
