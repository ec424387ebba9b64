-- The matches among documents are those among their ids.
use Rattle.std.proofs.Common.{◌≡◌, ℕ, Bool, true, false, cond, List, [], ◌∷◌, map, filter, None, refl, ap, ap₂, ◌∙◌}
use Rattle.std.specs.Option.{option_map}
use Rattle.std.specs.List.{cons_option}
use Rattle.search_base.specs.declared.rule.Rule.{Rule}
use Rattle.search_base.specs.GraphView.{GraphView}
use Rattle.search_base.specs.RowsView.{RowsView}
use Rattle.search_base.specs.Tuple.{tuple}
use Rattle.row_index.specs.Documents.{IndexedDocument}
use Rattle.rule_buckets.specs.Matches.{match_at}
use Rattle.rule_buckets.specs.Matches as lists
use Rattle.doc_search.specs.Rows.{rows_of, rows_at}
use Rattle.doc_search.specs.Matches.{AreInOrder, matches_among, passing}
use Rattle.doc_search.proofs.OrderLemmas.{AreThere, all_there}

module _ (passes : RowsView → Bool) (query : GraphView) (rules : List Rule) where
  found_among : (documents some : List IndexedDocument) → AreThere documents some
      → lists.matches_among (rows_at documents) query rules (passing passes some) ≡ matches_among passes query rules some
  found_among documents [] there = refl
  found_among documents (x ∷ xs) there = by (passes x.rows) (found_among documents xs there.1)
    where
      by : (b : Bool) → lists.matches_among (rows_at documents) query rules (passing passes xs) ≡ matches_among passes query rules xs
          → lists.matches_among (rows_at documents) query rules
          (map (λ document. document.id) (cond b (x ∷ filter (λ document. passes document.rows) xs) (filter (λ document. passes document.rows) xs)))
          ≡ cons_option (option_map (match_at x.id) (cond b (tuple x.rows query rules) None)) (matches_among passes query rules xs)
      by true later = ap₂ (λ rows rest. cons_option (option_map (match_at x.id) (tuple rows query rules)) rest) (ap rows_of there.0) later
      by false later = later

  -- those of the ids that pass are those of the documents
  pub matches_over : (documents : List IndexedDocument) (universe : List ℕ) → AreInOrder documents → universe ≡ passing passes documents
      → lists.matches_among (rows_at documents) query rules universe ≡ matches_among passes query rules documents
  matches_over documents universe order is =
      ap (lists.matches_among (rows_at documents) query rules) is ∙ found_among documents documents (all_there documents order)
