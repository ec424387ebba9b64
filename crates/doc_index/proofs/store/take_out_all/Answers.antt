use Rattle.std.proofs.Common.{◌∙◌, sym, ap, map, arith}
use Rattle.std.proofs.lemmas.List.{drop_all}
use Rattle.doc_index.proofs.LeftLemmas.{removed_all, named-removed}
use Rattle.doc_index.proofs.store.take_out_all.Goals as goal

pub returns-clause-removed : goal.returns-clause-removed
returns-clause-removed c =
    let removed = c.args.removed.now in
    sym (ap (λ found. removed_all (map (λ f. f.id.0) found) c.loop-document.store.content) (drop_all c.loop-document.document-index removed (omega arith)))
    ∙ c.loop-document.invariant.removed
    ∙ named-removed c.args.externals.now removed c.args.store.now.content c.requires.sound.increase c.requires.removed
