use Rattle.std.proofs.Common.{◌≡◌, ℕ, List, Bool, [], ◌∷◌, true, ◌||◌, sym, ap, ◌∙◌}
use Rattle.std.specs.List.{list_any}
use Rattle.search_base.specs.Occurrence.{words_stand_at}
use Rattle.sorted_pages.specs.Entries.{has}
use Rattle.postings.specs.Documents.{places_of}
use Rattle.postings.specs.Prefixes.{rows_left}
use Rattle.posting_sets.specs.Entries.{document_of, path_of, position_of}
use Rattle.posting_sets.specs.Prefixes.{in_rows}
use Rattle.posting_sets.proofs.PrefixLemmas.{begins_at, alone}
use Rattle.posting_sets.proofs.prefix.PrefixPlaces.new.Goals as goal

pub returns-clause-gathered : goal.returns-clause-gathered
returns-clause-gathered c = λ documents fresh.
    let rows = c.with_prefix-word-items in
    record {
      each = λ entry.
          let there : List (List ℕ × List ℕ) → Bool = λ rows. list_any (λ row. has row.1 entry) rows in
          alone (in_rows c.loop-word.places entry) (there (rows_left c.loop-word._word-iterator)) (ap there c.in-None.ensures.steps.0)
          ∙ c.loop-word.invariant.each entry
          ∙ ap (λ left. there (rows_left left)) c.into_iter-word-iterator.ensures.into_iter_gives
          ∙ begins_at c.args.postings.now documents fresh c.args.prefix.now (rows_left rows.result) rows.ensures.lists rows.ensures.order entry
          ∙ ap (λ prefix. words_stand_at (places_of (document_of entry) documents) true (path_of entry) (position_of entry) (prefix ∷ []))
          (sym c.loop-word.invariant.prefix);
      narrow = fresh.narrow;
    }
