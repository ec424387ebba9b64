use Rattle.std.proofs.Common.{sym, ap, subst, ◌∙◌, append-nil}
use Rattle.std.specs.Option.{option_copied}
use Rattle.index_image.specs.Rows.{IndexData, index_view}
use Rattle.index_image.specs.State.{IsIndex}
use Rattle.index_changes.specs.Images.{index_of}
use Rattle.index_changes.specs.Index.{Index}
use Rattle.index_changes.proofs.Imaging.{image-is, image-back, image-state}
use Rattle.index_changes.proofs.image.image_of.Goals as goal

pub returns-clause-index : goal.returns-clause-index
returns-clause-index c =
    let index : Index = record { key = option_copied c.args.key; store = c.args.store.now.content; settings = c.args.settings.now } in
    let image : IndexData = index_view (record { uid = c.args.uid; key = c.in_ok-copy_of.field-0; next_id = c.next_id.result; paths = c.in_ok-joined.field-0; settings = c.in_ok-copy_of_settings.field-0; documents = c.in_ok-image_documents.field-0 }) in
    let same = image-is image index c.in_ok-copy_of.ensures c.next_id.ensures (c.in_ok-joined.ensures ∙ append-nil c.paths.result.now ∙ c.paths.ensures) c.in_ok-copy_of_settings.ensures c.in_ok-image_documents.ensures in
    ap index_of same ∙ image-back c.args.uid index c.requires.keyed

pub returns-clause-state : goal.returns-clause-state
returns-clause-state c = λ good before above.
    let index : Index = record { key = option_copied c.args.key; store = c.args.store.now.content; settings = c.args.settings.now } in
    let image : IndexData = index_view (record { uid = c.args.uid; key = c.in_ok-copy_of.field-0; next_id = c.next_id.result; paths = c.in_ok-joined.field-0; settings = c.in_ok-copy_of_settings.field-0; documents = c.in_ok-image_documents.field-0 }) in
    let same = image-is image index c.in_ok-copy_of.ensures c.next_id.ensures (c.in_ok-joined.ensures ∙ append-nil c.paths.result.now ∙ c.paths.ensures) c.in_ok-copy_of_settings.ensures c.in_ok-image_documents.ensures in
    subst (IsIndex before) (sym same) (image-state c.args.uid index c.requires.sound c.requires.keyed good before above)
