use Rattle.std.proofs.Common.{◌≡◌, ℕ, ◌<◌, ◌≤◌, List, length, get_or, Result, Ok, Err, sym, ◌∙◌, ⊎_elim, arith}
use Rattle.std.specs.Result.{MatchResult, is_ok}
use Rattle.std.proofs.lemmas.Bool.{cases_lt}
use Rattle.std.proofs.lemmas.List.Sorted.{searched}
use Rattle.sorted_pages.specs.Entries.{has}
use Rattle.postings.proofs.ListLemmas.{has_at, has_none, rising}
use Rattle.postings.proofs.settled.holds.Goals as goal

found : (xs : List ℕ) (q : ℕ) (r : Result ℕ ℕ) → MatchResult r (λ i. (i < length xs) × (get_or xs i 0 ≡ q))
    (λ i. (i ≤ length xs) × ((k : ℕ) → k < i → get_or xs k 0 < q) × ((k : ℕ) → i ≤ k → k < length xs → q < get_or xs k 0)) → is_ok r ≡ has xs q
found xs q (Ok i) h = sym (has_at xs q i h.0 h.1)
found xs q (Err i) h = sym (has_none xs q (λ k inside is. ⊎_elim
    (λ below. let less = h.1 k below in omega arith) (λ from. let more = h.2 k from inside in omega arith) (cases_lt k i)))

pub returns : goal.returns
returns c = c.is_ok.ensures.value ∙ found c.args.entries.now c.args.entry c.binary_search.result
    (searched c.args.entries.now c.args.entry c.binary_search.result c.binary_search.ensures.position (rising c.args.entries.now c.requires))
