use Rattle.std.proofs.Common.{map}
use Rattle.posting_sets.proofs.OccursLemmas.{ok_of}
use Rattle.posting_sets.proofs.NarrowLemmas.{narrow_found}
use Rattle.posting_sets.proofs.found.documents_of_row.Goals as goal

pub returns-in-Some : goal.returns-in-Some
returns-in-Some c =
    ok_of _ _ c.documents_of_lists.result c.documents_of_lists.ensures (λ set are.
    narrow_found c.args.postings.now c.args.words.now c.args.universe.now.ids c.in-Some.narrow.ids set.ids (map (λ list. list.now.entries) c.args.lists.now)
    c.requires.lists (rw c.in-Some.is at c.in_ok-narrow.ensures) are)
