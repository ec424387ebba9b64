use Rattle.std.proofs.Common.{◌≡◌, ◌∙◌, ◌+◌, ◌++◌, ap, map, length, subst, arith, Some}
use Rattle.std.proofs.lemmas.List.{length-map}
use Rattle.doc_index.specs.Named.{is_named, named, stored_of, row_of}
use Rattle.doc_index.proofs.NamedLemmas.{rows_at, named-rows, read-step}
use Rattle.doc_index.proofs.named.read_named.Goals as goal

pub loop-id-init : goal.loop-id-init
loop-id-init g c =
    let rows = c.args.store.now.content.rows in
    let all = named c.args.externals.now rows in
    let ids = c.into_iter-id-iterator.ensures.into_iter_gives ∙ c.iter-id-items.ensures.ids ∙ c.in_ok-ids.ensures in
    record {
      can_next = tt;
      is_finite = tt;
      found = ap (λ items. map stored_of items ++ map row_of (rows_at c.into_iter-id-iterator.result rows)) c.new-found.ensures.items ∙ ap (λ items. map row_of (rows_at items rows)) ids ∙ ap (map row_of) (named-rows (is_named c.args.externals.now) 0 rows c.args.store.now.content.next_id c.requires.increase);
      counted = ap (λ items. c.args.fetches.now + length items) ids ∙ ap (λ n. c.args.fetches.now + n) (length-map all (λ r. r.id));
    }

pub loop-id-preserved-in-Continue-branch-3 : goal.loop-id-preserved-in-Continue-branch-3
loop-id-preserved-in-Continue-branch-3 g c =
    let rows = c.args.store.now.content.rows in
    let all = named c.args.externals.now rows in
    let rest = c.next.new.self in
    let found = c.loop-id.found.items in
    record {
      can_next = tt;
      is_finite = tt;
      found = ap (λ items. map stored_of items ++ map row_of (rows_at rest rows)) c.in_ok-push.ensures.items
          ∙ read-step found (record { id = c.in-Some.id; text = c.in_ok-text.text }) rest rows (map row_of all)
          (ap Some c.in_ok-text.ensures.cases ∙ c.in-Some-fetch.ensures.document)
          (subst (λ ids. map stored_of found ++ map row_of (rows_at ids rows) ≡ map row_of all) c.in-Some.ensures.steps c.loop-id.invariant.found);
      counted = (let told = subst (λ ids. c.loop-id.fetches + length ids ≡ c.args.fetches.now + length all) c.in-Some.ensures.steps c.loop-id.invariant.counted in
          omega (arith, told, c.fetch.ensures.step));
    }
