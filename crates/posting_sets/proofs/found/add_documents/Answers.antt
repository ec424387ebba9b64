use Rattle.std.proofs.Common.{◌||◌, ap, ◌∙◌}
use Rattle.sorted_pages.specs.Entries.{has}
use Rattle.doc_sets.proofs.SetLemmas.{has-with_id}
use Rattle.posting_sets.specs.Found.{has_document}
use Rattle.posting_sets.proofs.WalkLemmas.{new_up, new_shorter, set_documents}
use Rattle.posting_sets.proofs.found.add_documents.Goals as goal

pub loop-start-smaller : goal.loop-start-smaller
loop-start-smaller c =
    new_shorter c.document_of-id.result.0 c.in-Some.start c.loop-start.left c.next.new.self c.pass.new.self c.document_of-id.ensures c.loop-start.invariant.left c.in-Some.ensures c.pass.ensures

pub loop-start-preserved : goal.loop-start-preserved
loop-start-preserved c =
    let id = c.document_of-id.result.0 in
    record {
      left = new_up id c.in-Some.start c.loop-start.left c.next.new.self c.pass.new.self c.document_of-id.ensures c.loop-start.invariant.left c.in-Some.ensures c.pass.ensures;
      each = λ q.
          ap (λ v. has_document c.pass.new.self q || has v q) c.in_ok-add_id.ensures.ids
          ∙ ap (λ b. has_document c.pass.new.self q || b) (has-with_id id q c.loop-start.builder)
          ∙ set_documents id c.in-Some.start c.loop-start.left c.next.new.self c.pass.new.self c.document_of-id.ensures c.loop-start.invariant.left c.in-Some.ensures c.pass.ensures q (has c.loop-start.builder q)
          ∙ c.loop-start.invariant.each q;
    }
