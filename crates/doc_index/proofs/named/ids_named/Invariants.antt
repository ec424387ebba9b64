use Rattle.std.proofs.Common.{◌≡◌, take}
use Rattle.doc_index.specs.Named.{named}
use Rattle.doc_index.proofs.NamedLemmas.{ids_in}
use Rattle.doc_index.proofs.named.ids_named.Given as goal

abbrev pub invariant-loop-external : goal.invariant-loop-external
invariant-loop-external l = l.ids ≡ ids_in (named (take l.external-index l.externals) l.store.content.rows)
