use Rattle.facet_index.proofs.KeptLemmas.{kept_added}
use Rattle.facet_index.proofs.lists.add_documents.Goals as goal

pub returns-in_ok-docs-in-Some : goal.returns-in_ok-docs-in-Some
returns-in_ok-docs-in-Some c =
    kept_added c.operations_are_on_members.ensures c.in-Some.kept.now.ids c.args.list.now.entries c.args.universe.now.ids c.in_ok-docs-in-Some.docs.ids
    c.args.found.now c.add.new.self c.in-Some.ensures c.in_ok-docs-in-Some.ensures c.add.result c.add.ensures.ids
