use Rattle.std.proofs.Common.{arith}
use Rattle.distinct_hits.specs.Distinct.{texts_by}
use Rattle.doc_search.specs.Found.{order_in, taken_in}
use Rattle.index_core.specs.Among.{stored_values}
use Rattle.index_core.proofs.Asking.{few-known, taken-few}
use Rattle.index_core.proofs.distinct.search_apart.Goals as goal

pub returns-clause-same : goal.returns-clause-same
returns-clause-same g c =
    (few-known c.args.values.now c.search_distinct.new.values _
    (taken_in c.args.documents.now c.args.search (stored_values c.args.values.now.attribute.now c.args.values.now.store.now.content.rows)) c.search_distinct.result
    c.search_distinct.ensures.asks c.search_distinct.ensures.err_asks (λ s. s.fetches.ghost_name) (λ s. s.fetches.now) (λ b d a left. left)).0

pub returns-clause-fetches : goal.returns-clause-fetches
returns-clause-fetches g c =
    let values = stored_values c.args.values.now.attribute.now c.args.values.now.store.now.content.rows in
    let few = (few-known c.args.values.now c.search_distinct.new.values _
    (taken_in c.args.documents.now c.args.search values) c.search_distinct.result
    c.search_distinct.ensures.asks c.search_distinct.ensures.err_asks (λ s. s.fetches.ghost_name) (λ s. s.fetches.now) (λ b d a left. left)).1 in
    let taken = taken-few (texts_by values) (order_in c.args.documents.now c.args.search) c.args.search.window.offset c.args.search.window.limit in
    omega (arith, few, taken)
