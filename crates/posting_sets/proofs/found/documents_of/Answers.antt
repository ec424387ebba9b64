use Rattle.std.proofs.Common.{◌≡◌, ◌||◌, ◌∷◌, [], ◌++◌, map, ap, sym, subst, ◌∙◌}
use Rattle.std.proofs.lemmas.List.{map-append}
use Rattle.sorted_pages.specs.Entries.{has, IsIncreasing}
use Rattle.posting_sets.specs.Found.{has_document}
use Rattle.posting_sets.proofs.WalkLemmas.{new_up, new_shorter, ids_up, ids_behind, ids_documents}
use Rattle.posting_sets.proofs.found.documents_of.Goals as goal

pub loop-start-smaller : goal.loop-start-smaller
loop-start-smaller c =
    new_shorter c.document_of-id.result.0 c.in-Some.start c.loop-start.left c.next.new.self c.pass.new.self c.document_of-id.ensures c.loop-start.invariant.left c.in-Some.ensures c.pass.ensures

pub loop-start-preserved : goal.loop-start-preserved
loop-start-preserved c =
    let id = c.document_of-id.result.0 in
    let left = c.loop-start.left in
    let new = c.pass.new.self in
    let h = c.loop-start.invariant in
    let ids = map (λ id. id.0) c.loop-start.ids.items in
    let more : map (λ id. id.0) c.push.new.self.items ≡ ids ++ id ∷ [] = ap (map (λ id. id.0)) c.in_ok-push.ensures.items ∙ map-append (λ id. id.0) c.loop-start.ids.items (c.document_of-id.result ∷ []) in
    record {
      left = new_up id c.in-Some.start left c.next.new.self new c.document_of-id.ensures h.left c.in-Some.ensures c.pass.ensures;
      increasing = subst IsIncreasing (sym more) (ids_up id c.in-Some.start left c.next.new.self new c.document_of-id.ensures h.left c.in-Some.ensures c.pass.ensures ids h.behind h.increasing);
      behind = λ q s t k. ids_behind id c.in-Some.start left c.next.new.self new c.document_of-id.ensures h.left c.in-Some.ensures c.pass.ensures ids h.behind q s (ap (λ v. has v q) (sym more) ∙ t) k;
      each = λ q. ap (λ v. has v q || has_document new q) more
          ∙ ids_documents id c.in-Some.start left c.next.new.self new c.document_of-id.ensures h.left c.in-Some.ensures c.pass.ensures ids h.behind q
          ∙ h.each q;
    }
