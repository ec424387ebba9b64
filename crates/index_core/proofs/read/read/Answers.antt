use Rattle.std.proofs.Common.{◌+◌, ◌<◌, ap, ◌∙◌, sym, arith, length, length-drop}
use Rattle.std.specs.Prelude.{vec_len}
use Rattle.std.specs.Vec.{vec_capacity}
use Rattle.search_base.specs.declared.document.DocId.{DocId}
use Rattle.std.specs.Option.{option_map}
use Rattle.doc_store.specs.Store.{row_at}
use Rattle.index_core.proofs.Finding.{read-some, read-none}
use Rattle.index_core.proofs.read.read.Goals as goal
use Rattle.index_core.proofs.read.read.Goals.{in-Some, in_default}

pub loop-id-preserved : goal.loop-id-preserved
loop-id-preserved g c =
    let ids = c.args.ids.now in
    let i = c.loop-id.id-index in
    let rows = c.args.store.now.content.rows in
    let h = c.loop-id.invariant in
    let less : i < length ids = omega arith in
    let none : DocId = record { 0 = 0 } in
    elim c.match-fetch.branch [
      | in-Some w ↦ (
        read-some (λ d. d.now) (λ id. option_map (λ row. row.document) (row_at id.0 rows)) c.loop-id.documents.items c.match-fetch.documents.items w.in-Some.document ids i none less h.0 (ap (λ v. v.items) w.documents-is ∙ w.push_reserved.ensures.items) (sym c.fetch.ensures.document ∙ ap (option_map (λ d. d.now)) w.in-Some.is),
        (let step = c.fetch.ensures.step in omega (arith, h.1)),
        (let len = ap vec_len w.documents-is ∙ w.push_reserved.ensures.len in let cap = ap vec_capacity w.documents-is ∙ w.push_reserved.ensures.capacity in omega (arith, h.2, length-drop (i + 1) ids, length-drop i ids)),
      )
      | in_default w ↦ (
        read-none (λ d. d.now) (λ id. option_map (λ row. row.document) (row_at id.0 rows)) c.loop-id.documents.items c.match-fetch.documents.items ids i none less h.0 (ap (λ v. v.items) w.documents-is) (sym c.fetch.ensures.document ∙ ap (option_map (λ d. d.now)) w.in_default.is),
        (let step = c.fetch.ensures.step in omega (arith, h.1)),
        (let len = ap vec_len w.documents-is in let cap = ap vec_capacity w.documents-is in omega (arith, h.2, length-drop (i + 1) ids, length-drop i ids)),
      )
    ]
