use Rattle.std.proofs.Common.{◌≡◌, ◌+◌, ◌≤◌, None, Ok, Err, sym, ap, subst, ◌∙◌, arith}
use Rattle.json.specs.Json.{after_end_array}
use Rattle.serde_json.specs.Data.{depth}
use Rattle.serde_json.specs.View.{view}
use Rattle.search_base.specs.Gives.{Fails}
use Rattle.document_stream.specs.Reads.{value_at, items_at}
use Rattle.search_base.specs.declared.fault.Fault.TheVariants.{Refused}
use Rattle.document_stream.specs.declared.fault.BodyRefusal.TheVariants.{NotJson}
use Rattle.document_stream.proofs.Refusals.{gives_fault, fails_broken}
use Rattle.document_stream.proofs.Turns.{items_over, item_read, item_refused}
use Rattle.document_stream.proofs.Shallow.{value_at-shallow}
use Rattle.document_stream.proofs.Listed.{list_left, listed, document_found, fault_found, list_left-over, list_left-more}
use Rattle.document_stream.proofs.documents.read_list.Goals as goal

pub returns-in_err-value : goal.returns-in_err-value
returns-in_err-value c =
    let l = c.members in
    let going : (after_end_array l.reader ≡ None) × (c.take_end_array.new.self ≡ l.reader) = grind arith in
    let is : c.from_residual.result ≡ Err c.in_err-value.field-0.0 = grind arith in
    gives_fault _ _ _ _ is
    (fails_broken _ _ (value_at 126 c.take_end_array.new.self) c.in_err-value.ensures.value (λ none.
    listed c.args.reader.now ∙ l.invariant.all ∙ ap (list_left l.reading.texts.items (l.before + 1)) (item_refused 126 l.reader going.0 (rw (← going.1) none))))

pub document_at-requires : goal.document_at-requires
document_at-requires c =
    let shallow : depth (view c.in_ok-value.value) ≤ 126 = value_at-shallow 126 c.take_end_array.new.self c.read_value.new.reader (view c.in_ok-value.value) c.in_ok-value.ensures.value in
    omega arith

pub returns-in-Err-Refused : goal.returns-in-Err-Refused
returns-in-Err-Refused c =
    let l = c.members in
    let d = view c.in_ok-value.value in
    let r = c.read_value.new.reader in
    let going : (after_end_array l.reader ≡ None) × (c.take_end_array.new.self ≡ l.reader) = grind arith in
    let turn = item_read 126 l.reader r d going.0 (rw (← going.1) c.in_ok-value.ensures.value) in
    let found = listed c.args.reader.now ∙ l.invariant.all ∙ ap (list_left l.reading.texts.items (l.before + 1)) turn in
    subst (Fails c.fault_of_list.result) (sym found)
    (fault_found l.reading.texts.items (l.before + 1) d c.in-Err-Refused.why c.fault_of_list.result (items_at 126 r) (rw c.in-Err-Refused.field-0-is at c.in-Err-Refused.ensures) c.fault_of_list.ensures)

pub members-preserved : goal.members-preserved
members-preserved c =
    let l = c.members in
    let d = view c.in_ok-value.value in
    let r = c.read_value.new.reader in
    let going : (after_end_array l.reader ≡ None) × (c.take_end_array.new.self ≡ l.reader) = grind arith in
    let turn = item_read 126 l.reader r d going.0 (rw (← going.1) c.in_ok-value.ensures.value) in
    record {
      all = l.invariant.all ∙ ap (list_left l.reading.texts.items (l.before + 1)) turn ∙ document_found l.reading.texts.items (l.before + 1) d c.in-Ok.document (items_at 126 r) c.in-Ok.ensures
          ∙ ap (λ found. list_left found (l.before + 1 + 1) (items_at 126 r)) (sym c.in_ok-read-in-Ok.ensures.texts);
      reading = c.in_ok-read-in-Ok.ensures.reading;
    }

pub returns-in_err-expect_end : goal.returns-in_err-expect_end
returns-in_err-expect_end c =
    let l = c.members in
    let s = c.take_end_array.new.self in
    let is : c.from_residual-in_err-expect_end.result ≡ Err (Refused NotJson) = grind arith in
    gives_fault _ _ _ (Refused NotJson) is
    (listed c.args.reader.now ∙ l.invariant.all ∙ ap (list_left l.reading.texts.items (l.before + 1)) (items_over 126 l.reader s (grind arith))
    ∙ list_left-more l.reading.texts.items (l.before + 1) s c.in_err-expect_end.ensures.1)

pub returns : goal.returns
returns c =
    let l = c.members in
    let s = c.take_end_array.new.self in
    listed c.args.reader.now ∙ l.invariant.all ∙ ap (list_left l.reading.texts.items (l.before + 1)) (items_over 126 l.reader s (grind arith))
    ∙ list_left-over l.reading.texts.items (l.before + 1) s c.in_ok-expect_end.ensures ∙ ap Ok (sym c.finish.ensures)
