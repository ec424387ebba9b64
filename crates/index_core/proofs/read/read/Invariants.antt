use Rattle.std.proofs.Common.{◌≡◌, ◌+◌, ◌≤◌, map, length, take, drop}
use Rattle.std.specs.Prelude.{vec_len}
use Rattle.std.specs.Vec.{vec_capacity}
use Rattle.std.specs.Option.{option_map}
use Rattle.std.specs.List.{filter_map}
use Rattle.doc_store.specs.Store.{row_at}
use Rattle.index_core.proofs.read.read.Given as goal

-- the documents of the ids so far, a step for each, and room for those that are left
abbrev pub invariant-loop-id : goal.invariant-loop-id
invariant-loop-id g l =
    (map (λ document. document.now) l.documents.items ≡ filter_map (λ id. option_map (λ row. row.document) (row_at id.0 l.store.content.rows)) (take l.id-index l.ids)) ×
    (l.fetches ≡ l.initial.fetches + l.id-index) ×
    (vec_len l.documents + length (drop l.id-index l.ids) ≤ vec_capacity l.documents)
