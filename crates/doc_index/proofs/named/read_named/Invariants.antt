use Rattle.std.proofs.Common.{◌≡◌, ◌+◌, ◌++◌, length, map}
use Rattle.doc_index.specs.Named.{named, stored_of, row_of}
use Rattle.doc_index.proofs.NamedLemmas.{rows_at}
use Rattle.doc_index.proofs.named.read_named.Given as goal

abbrev pub invariant-loop-id : goal.invariant-loop-id
invariant-loop-id g l =
    let rows = l.store.content.rows in
    let all = named l.externals rows in
    record {
      can_next : (goal.iterator-loop-id g).can_next l.id-iterator;
      is_finite : (goal.iterator-loop-id g).is_finite l.id-iterator;
      found : map stored_of l.found.items ++ map row_of (rows_at l.id-iterator rows) ≡ map row_of all;
      counted : l.fetches + length l.id-iterator ≡ l.initial.fetches + length all;
    }
