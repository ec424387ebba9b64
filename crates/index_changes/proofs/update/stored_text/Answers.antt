use Rattle.std.proofs.Common.{◌≡◌, Some, length, ltb, ltb-true, refl, sym, ap, ◌∙◌, rules}
use Rattle.std.specs.Prelude.{slice_get}
use Rattle.std.specs.Option.{option_map}
use Rattle.std.proofs.lemmas.Option.{slice_get_past, slice_get_read}
use Rattle.std.proofs.lemmas.List.Sorted.{IsPartitionPoint-from_clause, IsPartitionedBy-ltb}
use Rattle.doc_store.specs.Store.{id_of}
use Rattle.index_changes.specs.Index.{document_under}
use Rattle.index_changes.proofs.ByIds.{no-document-under}
use Rattle.index_changes.proofs.Reading.{id_in, read-sorted, text-read}
use Rattle.index_changes.proofs.update.stored_text.Goals as goal
use Rattle.index_changes.proofs.update.stored_text.Goals.{After-get}

pub returns-in_err-id : goal.returns-in_err-id
returns-in_err-id c =
    ap (option_map (λ text. text.now)) c.from_residual.ensures ∙ sym (no-document-under c.args.external.now c.args.store.now.content (sym c.in_err-id.ensures))

-- what is found is the stored document
found : (c : After-get) → option_map (λ x. x.text) (slice_get c.args.stored.now c.partition_point-place.result) ≡ document_under c.args.external.now c.args.store.now.content.rows
found c =
    let s = c.args.store.now.content in
    let external = c.args.external.now in
    let stored = c.args.stored.now in
    let there : id_of external s.rows ≡ Some c.in_ok-id.id.0 = sym c.in_ok-id.ensures in
    let point = IsPartitionPoint-from_clause (λ x. ltb (id_in x) c.in_ok-id.id.0) stored c.partition_point-place.result c.partition_point-place.ensures.partitioned
    (IsPartitionedBy-ltb id_in stored c.in_ok-id.id.0 (read-sorted external stored s c.requires.sound c.requires.read)) (λ a r q k. search rules) in
    text-read external stored s c.in_ok-id.id.0 c.partition_point-place.result c.requires.sound c.requires.read there point c.partition_point-place.ensures.bound

pub returns-in-Some : goal.returns-in-Some
returns-in-Some c =
    let less = ltb-true c.partition_point-place.result (length c.args.stored.now) (sym c.in-Some.ensures.lookup.0) in
    ap (option_map (λ x. x.text)) (sym (slice_get_read c.args.stored.now (length c.args.stored.now) c.partition_point-place.result c.in-Some.found.now refl less c.in-Some.ensures.lookup.1)) ∙ found (goal.at.returns-in-Some c).After-get

pub returns-in-None : goal.returns-in-None
returns-in-None c = ap (option_map (λ x. x.text)) (sym (slice_get_past c.args.stored.now c.partition_point-place.result c.in-None.ensures.lookup.3)) ∙ found (goal.at.returns-in-None c).After-get
