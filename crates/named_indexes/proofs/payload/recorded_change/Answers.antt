use Rattle.std.proofs.Common.{◌≡◌, Ok, Err, false, sym, ap, subst, ◌∙◌}
use Rattle.std.proofs.lemmas.Result.{err_from_is_err_and}
use Rattle.document_changes.specs.Changes.{ChangeData, change_view}
use Rattle.change_payloads.specs.Answers.{Decodes}
use Rattle.change_payloads.specs.Change.{change_at}
use Rattle.named_indexes.specs.Payloads.{is_good}
use Rattle.named_indexes.specs.declared.payload.Recorded.{Recorded}
use Rattle.named_indexes.proofs.Recording.{good_recorded, bad_recorded, none_recorded, bad_decodes}
use Rattle.named_indexes.proofs.payload.recorded_change.Goals as goal

pub returns-in_err-change-clause-exact : goal.returns-in_err-change-clause-exact
returns-in_err-change-clause-exact c =
    let p = err_from_is_err_and c.from_residual.result c.from_residual.ensures.1 in
    let exact = subst (λ b. Decodes change_view (Err c.in_err-change.field-0.0) (change_at b)) c.deref.ensures.value c.in_err-change.ensures.exact in
    let view : Recorded → ChangeData = λ (r : Recorded). r.payload in
    rw (p.1, p.2) (none_recorded view c.args.bytes.items c.in_err-change.field-0.0 exact)

pub returns-then-not-good-clause-exact : goal.returns-then-not-good-clause-exact
returns-then-not-good-clause-exact c =
    let bytes = c.args.bytes.items in
    let change = change_view c.in_ok-change.change in
    let at : change_at bytes ≡ Ok change = subst (λ b. change_at b ≡ Ok change) c.deref.ensures.value c.in_ok-change.ensures.exact in
    let bad : is_good change ≡ false = sym c.in_ok-good.ensures ∙ c.if-not-good.true in
    let view : Recorded → ChangeData = λ (r : Recorded). r.payload in
    bad_decodes view bytes c.deref-then-not-good.result.now c.first_byte.result c.deref-then-not-good.ensures.value c.first_byte.ensures (bad_recorded bytes change at bad)

pub returns-clause-exact : goal.returns-clause-exact
returns-clause-exact c =
    let bytes = c.args.bytes.items in
    let change = change_view c.in_ok-change.change in
    let at : change_at bytes ≡ Ok change = subst (λ b. change_at b ≡ Ok change) c.deref.ensures.value c.in_ok-change.ensures.exact in
    good_recorded bytes change at (sym c.in_ok-good.ensures ∙ c.if-not-good.false) ∙ ap Ok (sym c.in_ok-recorded.ensures.payload)
