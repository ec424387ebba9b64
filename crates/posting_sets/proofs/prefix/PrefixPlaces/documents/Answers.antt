use Rattle.std.proofs.Common.{◌≡◌, ℕ, List, Bool, ◌&&◌, ◌||◌, sym, ap, ◌∙◌}
use Rattle.std.specs.List.{filter, list_any}
use Rattle.sorted_pages.specs.Entries.{has}
use Rattle.sorted_pages.proofs.SetLemmas.{has-filter, increasing-filter}
use Rattle.doc_sets.specs.Sets.{intersection}
use Rattle.posting_sets.specs.Found.{has_document}
use Rattle.posting_sets.proofs.OccursLemmas.{ok_of}
use Rattle.posting_sets.proofs.PrefixLemmas.{any_guarded, any_mapped, guarded_both, prefix_found}
use Rattle.posting_sets.proofs.prefix.PrefixPlaces.documents.Goals as goal

pub returns : goal.returns
returns c = ok_of _ _ c.and.result c.and.ensures (λ set e documents are.
    let ids = c.args.universe.now.ids in
    let up = c.len-documents.ensures.increasing in
    let view = c.args.self.now in
    let first = c.in_ok-builder.builder in
    let listed = c.add_lists.new.builder in
    let both = c.add_row.new.builder in
    e ∙ ap (intersection ids) c.in_ok-all.ensures
    ∙ prefix_found view documents are ids (filter (has both) ids) up (increasing-filter (has both) ids up)
    (λ id.
    let test : List ℕ → Bool = λ row. has_document row id in
    let long : list_any (λ list. has_document list.now.entries id) c.long.result.now ≡ list_any test view.long =
    sym (any_mapped (λ list. list.now.entries) test c.long.result.now) ∙ ap (list_any test) c.long.ensures in
    has-filter (has both) ids id
    ∙ guarded_both (has ids id) (has both id) (has_document view.short id) (has listed id) (list_any test view.long) (has first id)
    (c.in_ok-add_row.ensures id ∙ ap (λ row. has_document row id || has listed id) c.short.ensures)
    (c.in_ok-add_lists.ensures id ∙ ap (λ b. has ids id && (b || has first id)) long)
    (ap (λ v. has v id) c.in_ok-builder.ensures)
    ∙ ap (λ b. b || (has ids id && has_document view.short id)) (sym (any_guarded (has ids id) test view.long))))
