use Rattle.std.proofs.Common.{◌<◌, ap, ◌∙◌, sym, arith, length}
use Rattle.std.specs.Option.{option_map}
use Rattle.search_base.specs.declared.document.DocId.{DocId}
use Rattle.search_result.specs.View.{hit_view}
use Rattle.index_core.specs.Shown.{hit_at}
use Rattle.index_core.proofs.Finding.{read-some, read-none}
use Rattle.index_core.proofs.index.IndexCore.hits.Goals as goal
use Rattle.index_core.proofs.index.IndexCore.hits.Goals.{in-Some+in_ok-push, in_default}

pub loop-id-preserved : goal.loop-id-preserved
loop-id-preserved g c =
    let ids = c.args.ids.now in
    let i = c.loop-id.id-index in
    let h = c.loop-id.invariant in
    let less : i < length ids = omega arith in
    let none : DocId = record { 0 = 0 } in
    elim c.match-branch-3.branch [
      | in-Some+in_ok-push w ↦ (
        read-some hit_view (λ id. hit_at c.args.self.now c.args.call.now id.0) c.loop-id.hits.items c.match-branch-3.hits.items w.in-Some.hit ids i none less h.0 (ap (λ v. v.items) w.hits-is ∙ w.in_ok-push.ensures.items)
            (sym c.in_ok-hit.ensures.hit ∙ ap (option_map hit_view) w.in-Some.is),
        (let step = c.hit.ensures.step in omega (arith, h.1)),
      )
      | in_default w ↦ (
        read-none hit_view (λ id. hit_at c.args.self.now c.args.call.now id.0) c.loop-id.hits.items c.match-branch-3.hits.items ids i none less h.0 (ap (λ v. v.items) w.hits-is)
            (sym c.in_ok-hit.ensures.hit ∙ ap (option_map hit_view) w.in_default.is),
        (let step = c.hit.ensures.step in omega (arith, h.1)),
      )
    ]
