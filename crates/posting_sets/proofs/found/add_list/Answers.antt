use Rattle.std.proofs.Common.{◌&&◌, ap, ◌∙◌, eqb}
use Rattle.std.proofs.lemmas.Bool.{eqb-true}
use Rattle.sorted_pages.specs.Entries.{has}
use Rattle.posting_sets.specs.Entries.{document_of}
use Rattle.posting_sets.specs.Found.{has_document}
use Rattle.posting_sets.proofs.NumberLemmas.{on_ok}
use Rattle.posting_sets.proofs.PrefixLemmas.{one_list, guarded}
use Rattle.posting_sets.proofs.found.add_list.Goals as goal

pub returns : goal.returns
returns c = on_ok c.add_documents.result c.add_documents.ensures (λ more q.
    let ids = c.args.universe.now.ids in
    let list = c.args.list.now.entries in
    ap (λ b. has ids q && b) (more q)
    ∙ guarded (has ids q) (has_document list q) (has_document c.in_ok-occurrences.occurrences q) (has c.args.builder.now q)
    (one_list ids q (λ entry. eqb (document_of entry) q) (λ entry t. eqb-true _ _ t) list c.in_ok-occurrences.occurrences c.in_ok-occurrences.ensures))
