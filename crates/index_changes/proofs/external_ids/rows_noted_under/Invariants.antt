use Rattle.std.proofs.Common.{◌≡◌, ◌+◌}
use Rattle.doc_store.specs.Admitting.{IsNoted}
use Rattle.index_changes.specs.Keyed.{AreReadBack}
use Rattle.index_changes.specs.Plans.{rows_under}
use Rattle.index_changes.proofs.Behind.{after_these}
use Rattle.index_changes.proofs.external_ids.rows_noted_under.Given as goal

-- the rows so far, and then what is left, as it lies from the next place on
abbrev pub invariant-loop-text : goal.invariant-loop-text
invariant-loop-text l = record {
  rows : rows_under l.key 1 l.initial.text-iterator.rest.items ≡ after_these l.rows.items (rows_under l.key (l.before + 1) l.text-iterator.rest.items);
  back : AreReadBack l.rows.items;
  noted : IsNoted l.store.content l.admitting l.rows.items l.paths;
}
