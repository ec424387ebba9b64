use Rattle.std.proofs.Common.{ap, ◌∙◌, length, subst, sym}
use Rattle.doc_index.specs.Documents.{documents_of}
use Rattle.row_index.specs.Standing.{StandsFor}
use Rattle.search_settings.proofs.UseLemmas.{uses-length}
use Rattle.index_changes.proofs.Indexing.{left-indexed}
use Rattle.index_changes.proofs.change.remove_named.Goals as goal

pub remove_documents-requires-clause-uses : goal.remove_documents-requires-clause-uses
remove_documents-requires-clause-uses g c = ap length (c.as_slice.ensures.value ∙ c.requires.indexed.uses) ∙ uses-length c.args.settings.now 0 c.args.store.now.content.paths

pub remove_documents-requires-clause-stands : goal.remove_documents-requires-clause-stands
remove_documents-requires-clause-stands g c =
    let s = c.args.store.now.content in
    subst (λ us. StandsFor c.args.kept.now.rows (documents_of s.paths us s.rows)) (sym (c.as_slice.ensures.value ∙ c.requires.indexed.uses)) c.requires.indexed.stands

pub returns-clause-indexed : goal.returns-clause-indexed
returns-clause-indexed g c =
    let gone = c.remove_documents in
    let s = c.args.store.now.content in
    left-indexed gone.result c.args.settings.now c.args.ids.now s gone.new.store.content (record { rows = gone.new.index; uses = c.args.kept.now.uses }) c.requires.indexed.sound
    c.requires.indexed.uses gone.ensures.removed gone.ensures.stays
    (subst (λ us. StandsFor gone.new.index (documents_of gone.new.store.content.paths us gone.new.store.content.rows)) c.as_slice.ensures.value gone.ensures.stands) (gone.ensures.tight c.requires.indexed.tight)
