-- Rows of synonyms.
use Rattle.std.proofs.Common.{ℕ, List, [], ◌∷◌, ◌++◌, length, arith}
use Rattle.std.specs.Prelude.{nat_lt, nat_le, ◌&&◌}
use Rattle.std.specs.List.{flat_map, filter_map, cons_option, AllByRecursion}
use Rattle.std.proofs.lemmas.Bool.{cond_both}
use Rattle.synonym_terms.specs.SynonymRowView.{SynonymRowView}
use Rattle.synonym_terms.specs.Synonyms.{HasTerm}
use Rattle.index_settings.specs.View.{SynonymView}
use Rattle.search_settings.specs.QueryWords.{synonym_row, rows_under, words_of}

all-join : (xs ys : List SynonymRowView) → AllByRecursion HasTerm xs → AllByRecursion HasTerm ys → AllByRecursion HasTerm (xs ++ ys)
all-join [] ys h k = k
all-join (x ∷ xs) ys h k = (h.0, all-join xs ys h.1 k)

texts-have-terms : (key : List (List ℕ)) (texts : List (List ℕ)) → AllByRecursion HasTerm (filter_map (λ text. synonym_row key (words_of text)) texts)
texts-have-terms key [] = tt
texts-have-terms key (text ∷ texts) = by (words_of text) (texts-have-terms key texts)
  where
    by : (words : List (List ℕ)) → AllByRecursion HasTerm (filter_map (λ text. synonym_row key (words_of text)) texts) → AllByRecursion HasTerm (cons_option (synonym_row key words) (filter_map (λ text. synonym_row key (words_of text)) texts))
    by [] rest = rest
    by (word ∷ words) rest = (omega arith, rest)

pub rows-have-terms : (lists : List SynonymView) → AllByRecursion HasTerm (flat_map (λ list. rows_under (words_of list.key) list.texts) lists)
rows-have-terms [] = tt
rows-have-terms (list ∷ lists) =
    let key = words_of list.key in
    all-join (rows_under key list.texts) (flat_map (λ list. rows_under (words_of list.key) list.texts) lists)
    (cond_both (nat_lt 0 (length key) && nat_le (length key) 3) (filter_map (λ text. synonym_row key (words_of text)) list.texts) [] (AllByRecursion HasTerm) (λ _. texts-have-terms key list.texts) (λ _. tt))
    (rows-have-terms lists)
