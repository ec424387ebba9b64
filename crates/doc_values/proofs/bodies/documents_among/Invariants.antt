use Rattle.std.proofs.Common.{◌≡◌, ◌+◌, ◌≤◌}
use Rattle.serde_json.specs.Data.{items_depth}
use Rattle.serde_json.specs.Read.{max_depth}
use Rattle.serde_json.specs.View.{items_view}
use Rattle.doc_values.specs.Bodies.{documents_in}
use Rattle.doc_values.proofs.Placed.{after_these}
use Rattle.doc_values.proofs.bodies.documents_among.Given as goal

-- the documents so far, and then what is left, as it lies from the next place on
abbrev pub invariant-loop-item : goal.invariant-loop-item
invariant-loop-item l =
    let left = items_view l.item-iterator.rest.items in record {
      all : documents_in 1 (items_view l.initial.item-iterator.rest.items) ≡ after_these l.documents.items (documents_in (l.before + 1) left);
      shallow : items_depth left ≤ max_depth;
    }
