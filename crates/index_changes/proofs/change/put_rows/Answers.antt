use Rattle.std.proofs.Common.{◌≡◌, ◌++◌, sym, ap, ap₂, ◌∙◌, subst, List, length, length-append, arith}
use Rattle.doc_rows.specs.declared.path_use.PathUse.{PathUse}
use Rattle.doc_index.specs.Documents.{documents_of}
use Rattle.row_index.specs.Standing.{StandsFor}
use Rattle.doc_store.proofs.SoundLemmas.{sound-all_stored}
use Rattle.search_settings.specs.Uses.{uses_from}
use Rattle.search_settings.proofs.UseLemmas.{uses-known, uses-length}
use Rattle.index_changes.proofs.Indexing.{Admits, admits, stored-indexed, refused-indexed}
use Rattle.index_changes.proofs.change.put_rows.Goals as goal
use Rattle.index_changes.proofs.change.put_rows.Goals.{After-as_slice-3}

-- the documents were admitted, and these are the paths after them
admitted : (c : After-as_slice-3) → Admits c.args.settings.now c.args.rows.items c.args.store.now.content c.as_slice-2.result.now
admitted c =
    let s = c.args.store.now.content in
    admits c.args.settings.now c.args.rows.items s c.args.admission c.as_slice-2.result.now c.requires.indexed.sound c.requires.admitted
    (c.as_slice-2.ensures.value ∙ c.in_ok-paths.ensures ∙ ap₂ ◌++◌ c.paths.ensures c.added.ensures)

used : (c : After-as_slice-3) → c.as_slice-3.result.now ≡ uses_from c.args.settings.now 0 c.as_slice-2.result.now
used c =
    let st = c.args.settings.now in
    let s = c.args.store.now.content in
    c.as_slice-3.ensures.value ∙ c.in_ok-uses.ensures ∙ uses-known st s.paths c.added-2.result.now c.as_slice.result.now (c.as_slice.ensures.value ∙ c.requires.indexed.uses)
    ∙ ap (uses_from st 0) (sym (c.as_slice-2.ensures.value ∙ c.in_ok-paths.ensures ∙ ap₂ ◌++◌ c.paths.ensures (c.added.ensures ∙ sym c.added-2.ensures)))

pub uses_behind-requires : goal.uses_behind-requires
uses_behind-requires c =
    let st = c.args.settings.now in
    let s = c.args.store.now.content in
    let most = (sound-all_stored c.args.rows.items s c.requires.indexed.sound c.requires.admitted.within).paths_within in
    let known = ap length (c.as_slice.ensures.value ∙ c.requires.indexed.uses) ∙ uses-length st 0 s.paths in
    let all = ap length (c.requires.admitted.added ∙ ap (λ v. s.paths ++ v) (sym c.added-2.ensures)) ∙ length-append s.paths c.added-2.result.now in
    omega (arith, most, known, all)

pub store_documents-requires-clause-uses : goal.store_documents-requires-clause-uses
store_documents-requires-clause-uses c = ap length (used (goal.at.store_documents-requires-clause-uses c).After-as_slice-3) ∙ uses-length c.args.settings.now 0 c.as_slice-2.result.now

pub store_documents-requires-clause-stands : goal.store_documents-requires-clause-stands
store_documents-requires-clause-stands c =
    let s = c.args.store.now.content in
    subst (λ (us : List PathUse). StandsFor c.args.kept.now.rows (documents_of c.as_slice-2.result.now us s.rows)) (sym (used c)) (subst (StandsFor c.args.kept.now.rows) (sym (admitted c).same) c.requires.indexed.stands)

pub returns-in_err-store_documents-clause-indexed : goal.returns-in_err-store_documents-clause-indexed
returns-in_err-store_documents-clause-indexed c =
    let at = (goal.at.returns-in_err-store_documents-clause-indexed c).After-as_slice-3 in
    let put = c.store_documents in
    refused-indexed c.args.settings.now c.args.rows.items c.args.store.now.content put.new.store.content c.as_slice-2.result.now c.as_slice-3.result.now (record { rows = put.new.index; uses = c.args.kept.now.uses })
    c.requires.indexed.sound (admitted at) (used at) c.requires.indexed.uses c.in_err-store_documents.ensures.stays put.ensures.stands (put.ensures.tight c.requires.indexed.tight)

pub returns-clause-indexed : goal.returns-clause-indexed
returns-clause-indexed c =
    let at = (goal.at.returns-clause-indexed c).After-as_slice-3 in
    let put = c.store_documents in
    let now = put.new.store.content in
    stored-indexed c.args.settings.now c.args.rows.items c.args.store.now.content now c.as_slice-2.result.now (record { rows = put.new.index; uses = c.in_ok-uses.uses })
    (admitted at) (sym c.as_slice-3.ensures.value ∙ used at) c.in_ok-store_documents.ensures.stored
    (subst (λ (us : List PathUse). StandsFor put.new.index (documents_of c.as_slice-2.result.now us now.rows)) c.as_slice-3.ensures.value put.ensures.stands) (put.ensures.tight c.requires.indexed.tight)
