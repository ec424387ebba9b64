-- What a list gives, from the first on.
use Rattle.std.proofs.Common.{◌≡◌, ℕ, ◌+◌, List, [], ◌∷◌, ◌++◌, Result, Ok, Err, refl, sym, ap, ◌∙◌}
use Rattle.std.proofs.lemmas.List.{append_assoc}
use Rattle.serde_json.specs.Data.{Data, Items, item}
use Rattle.search_base.specs.Trying.{◌>>=◌}
use Rattle.request_refusals.specs.declared.refusal.Refusal.{Refusal}
use Rattle.search_bodies.specs.MultiData.{MultiData}
use Rattle.search_bodies.specs.Multi.{query_from, queries_from}

-- these, and then those that are left, where each of them is one
abbrev pub after_these : {A : Type 0} → List A → Result (List A) Refusal → Result (List A) Refusal
after_these done (Ok more) = Ok (done ++ more)
after_these done (Err r) = Err r

one_more : {A : Type 0} (done : List A) (x : A) (rest : Result (List A) Refusal)
    → after_these done (rest >>= λ more. Ok (x ∷ more)) ≡ after_these (done ++ x ∷ []) rest
one_more done x (Ok more) = ap Ok (sym (append_assoc done (x ∷ []) more))
one_more done x (Err r) = refl

-- a query is read, and the others are left
pub query_read : (k : ℕ) (d : Data) (ds : Items) (done : List MultiData) (x : MultiData) → query_from k d ≡ Ok x
    → after_these done (queries_from k (item d ds)) ≡ after_these (done ++ x ∷ []) (queries_from (k + 1) ds)
query_read k d ds done x is = ap (λ r. after_these done (r >>= λ query. queries_from (k + 1) ds >>= λ more. Ok (query ∷ more))) is ∙ one_more done x (queries_from (k + 1) ds)
