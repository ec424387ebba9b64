use Rattle.std.proofs.Common.{◌∷◌, [], map, sym, ap, ◌∙◌}
use Rattle.posting_sets.proofs.OccursLemmas.{ok_of}
use Rattle.posting_sets.proofs.PrefixLemmas.{only_one, are_in_list, are_walked}
use Rattle.posting_sets.proofs.found.documents_of_lists.Goals as goal

pub returns-then-documents-entries : goal.returns-then-documents-entries
returns-then-documents-entries c = ok_of _ _ c.documents_of_list.result c.documents_of_list.ensures (λ set e.
    let list = c.index-lists-0.result in
    let one = only_one c.args.lists.now list c.if-lists-eq1.true ∙ ap (λ l. l ∷ []) (sym c.index-lists-0.is) in
    are_in_list c.args.universe.now.ids set.ids list.now.entries (map (λ l. l.now.entries) c.args.lists.now) c.len-documents.ensures.increasing e (ap (map (λ l. l.now.entries)) one))

pub returns : goal.returns
returns c = ok_of _ _ c.from_sorted.result c.from_sorted.ensures (λ set e.
    are_walked c.args.universe.now.ids set.ids c.in_ok-occurrences.occurrences (map (λ id. id.0) c.in_ok-ids.ids.items) (map (λ l. l.now.entries) c.args.lists.now)
    c.in_ok-ids.ensures.increasing (e ∙ ap (map (λ id. id.0)) c.as_slice.ensures.value) c.in_ok-occurrences.ensures c.in_ok-ids.ensures.each)
