use Rattle.std.proofs.Common.{◌≡◌, ℕ, List, length, sym, ap, ◌∙◌, subst, Some, rules}
use Rattle.std.specs.BTreeMap.{is_at, get}
use Rattle.std.specs.Map.{lookup}
use Rattle.std.specs.Option.{option_copied}
use Rattle.std.specs.Cmp.Lexicographic.{slice_cmp}
use Rattle.std.specs.Ordering.{nat_cmp}
use Rattle.doc_index.specs.Named.{named, AreRead}
use Rattle.doc_store.specs.Store.{externals}
use Rattle.doc_values.specs.Stored.{document_at}
use Rattle.index_changes.specs.Keyed.{AreReadBack}
use Rattle.index_changes.specs.Updating.{ArePlaces, is_place}
use Rattle.index_changes.proofs.Rising.{document-rises}
use Rattle.index_changes.proofs.Updating.{Updates, updates-start, updates-one, next-read}
use Rattle.index_changes.proofs.update.update_rows.Goals as goal

pub loop-row-init : goal.loop-row-init
loop-row-init c =
    let all = c.into_iter-row-iterator.result.rest.items in
    let s = c.args.store.now.content in
    (subst (λ v. Updates all all s v c.new-waiting.result) (sym c.in_ok-rows.ensures.items) (updates-start all s c.new-waiting.result (λ q. ap (lookup (is_at (slice_cmp nat_cmp q))) c.new-waiting.ensures.empty)), λ back. back)

pub loop-row-preserved : goal.loop-row-preserved
loop-row-preserved c =
    let all = c.into_iter-row-iterator.result.rest.items in
    let s = c.args.store.now.content in
    let row = c.in-Some.row in
    let back = subst (λ (text : List ℕ). document_at text ≡ Some row.document) c.text-text.ensures.text c.text-text.ensures.back in
    let placed : ArePlaces c.in_ok-places.places all = subst (ArePlaces c.in_ok-places.places) (c.as_slice.ensures.value ∙ sym c.into_iter-row-iterator.ensures.into_iter_gives.0) c.in_ok-places.ensures in
    let many : c.len-in-loop-row.result ≡ length c.loop-row.rows.items = search rules in (
      updates-one c.in_ok-places.places all c.loop-row.row-iterator.rest.items row c.next.new.self.rest.items s c.loop-row.rows.items c.push.new.self.items c.loop-row.waiting c.updated.new.waiting
          (option_copied c.stored_text-old.result) c.in_ok-updated.updated c.stands_at-is_last.result placed c.in-Some.ensures.steps.0 (document-rises row.document back) c.stored_text-old.ensures
          (c.stands_at-is_last.ensures ∙ ap (is_place (get (slice_cmp nat_cmp) c.in_ok-places.places row.external)) many) c.in_ok-updated.ensures.row c.in_ok-updated.ensures.waiting c.in_ok-push.ensures.items c.loop-row.invariant.0,
      λ rest. c.loop-row.invariant.1 (subst AreReadBack (sym c.in-Some.ensures.steps.0) (back, rest)),
    )

pub stored_text-old-requires-clause-read : goal.stored_text-old-requires-clause-read
stored_text-old-requires-clause-read c =
    let all = c.into_iter-row-iterator.result.rest.items in
    let s = c.args.store.now.content in
    next-read all c.loop-row.row-iterator.rest.items c.in-Some.row c.next.new.self.rest.items s c.loop-row.rows.items c.loop-row.waiting c.args.stored.now c.in-Some.ensures.steps.0 c.loop-row.invariant.0
    (subst (λ v. AreRead c.args.stored.now (named (externals v) s.rows)) (sym c.into_iter-row-iterator.ensures.into_iter_gives.0) c.requires.read)
