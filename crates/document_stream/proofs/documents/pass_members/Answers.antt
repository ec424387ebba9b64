use Rattle.std.proofs.Common.{◌≡◌, None, Err, refl, ap, ◌∙◌, arith}
use Rattle.json.specs.Json.{after_end_array}
use Rattle.serde_json.specs.Data.{Data, no_items}
use Rattle.serde_json.specs.View.{view}
use Rattle.document_stream.specs.Reads.{value_at, items_at, broken_behind}
use Rattle.search_base.specs.declared.fault.Fault.TheVariants.{Refused}
use Rattle.document_stream.specs.declared.fault.BodyRefusal.TheVariants.{NotJson}
use Rattle.document_stream.proofs.Refusals.{finds_broken}
use Rattle.document_stream.proofs.Turns.{items_over, item_read, item_refused}
use Rattle.document_stream.proofs.Listed.{broken_behind-item, broken_behind-over, broken_behind-more}
use Rattle.document_stream.proofs.documents.pass_members.Goals as goal

pub returns-in_err-read_value : goal.returns-in_err-read_value
returns-in_err-read_value c =
    let l = c.members in
    let going : (after_end_array l.reader ≡ None) × (c.take_end_array.new.self ≡ l.reader) = grind arith in
    let is : c.from_residual.result ≡ Err c.in_err-read_value.field-0.0 = grind arith in
    finds_broken _ (broken_behind (items_at 126 c.args.reader.now)) _ (value_at 126 c.take_end_array.new.self) is c.in_err-read_value.ensures.value
    (λ none. l.invariant ∙ ap broken_behind (item_refused 126 l.reader going.0 (rw (← going.1) none)))

pub members-preserved : goal.members-preserved
members-preserved c =
    let l = c.members in
    let d = view c.in_ok-read_value.field-0 in
    let r = c.read_value.new.reader in
    let going : (after_end_array l.reader ≡ None) × (c.take_end_array.new.self ≡ l.reader) = grind arith in
    l.invariant ∙ ap broken_behind (item_read 126 l.reader r d going.0 (rw (← going.1) c.in_ok-read_value.ensures.value)) ∙ broken_behind-item d (items_at 126 r)

pub returns-in_err-expect_end : goal.returns-in_err-expect_end
returns-in_err-expect_end c =
    let l = c.members in
    let s = c.take_end_array.new.self in
    let is : c.from_residual-in_err-expect_end.result ≡ Err (Refused NotJson) = grind arith in
    finds_broken {C = Data} _ (broken_behind (items_at 126 c.args.reader.now)) (Refused NotJson) None is (refl, refl)
    (λ none. l.invariant ∙ ap broken_behind (items_over 126 l.reader s (grind arith)) ∙ broken_behind-more no_items s c.in_err-expect_end.ensures.1)

pub returns : goal.returns
returns c =
    let l = c.members in
    let s = c.take_end_array.new.self in
    l.invariant ∙ ap broken_behind (items_over 126 l.reader s (grind arith)) ∙ broken_behind-over no_items s c.in_ok-expect_end.ensures
