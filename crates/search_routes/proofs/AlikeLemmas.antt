-- Several searches that are answered show what each alone is answered with.
use Rattle.std.proofs.Common.{◌≡◌, List, [], ◌∷◌, map, Result, Ok, Err, refl, sym, ap, ap₂, ◌∙◌}
use Rattle.std.specs.Prelude.{zip}
use Rattle.serde_json.specs.Data.{Data}
use Rattle.http_wire.specs.Reply.{Answer}
use Rattle.request_refusals.specs.declared.refusal.Refusal.{Refusal}
use Rattle.search_base.specs.Trying.{◌>>=◌}
use Rattle.search_bodies.specs.MultiData.{MultiData}
use Rattle.request_calls.specs.Asked.{search, multi}
use Rattle.request_replies.specs.Replies as replies
use Rattle.search_routes.specs.State.{State}
use Rattle.search_routes.specs.Machine.{searched, results_of, answer_to}
use Rattle.search_routes.specs.Laws.{AreAnswered}

-- those that are answered show what each alone is answered with
abbrev Together : State → List MultiData → List Data → Type 0
Together s calls ds = (shown : List Data) × (map (λ one. answer_to s (search one.uid one.call)) calls ≡ map (λ d. Ok (replies.answer 200 d)) shown)
    × (ds ≡ map (λ p. replies.with_uid p.0.uid p.1) (zip calls shown))

together_more : (s : State) (one : MultiData) (others : List MultiData) (r : Result Data Refusal) (rest : Result (List Data) Refusal) (ds : List Data)
    → searched s.indexes one.uid one.call ≡ r → ((later : List Data) → rest ≡ Ok later → Together s others later)
    → ((r >>= λ d. Ok (replies.with_uid one.uid d)) >>= λ d. rest >>= λ later. Ok (d ∷ later)) ≡ Ok ds → Together s (one ∷ others) ds
together_more s one others (Err why) rest ds is later done = absurd (cc)
together_more s one others (Ok d) (Err why) ds is later done = absurd (cc)
together_more s one others (Ok d) (Ok ds) all is later done =
    let after = later ds refl in
    let same : replies.with_uid one.uid d ∷ ds ≡ all = cc in (
      d ∷ after.0,
      ap₂ (λ a others. a ∷ others) (ap (λ r. r >>= λ d. Ok (replies.answer 200 d)) is) after.1,
      sym same ∙ ap (λ ds. replies.with_uid one.uid d ∷ ds) after.2,
    )

together : (s : State) (calls : List MultiData) (ds : List Data) → results_of s.indexes calls ≡ Ok ds → Together s calls ds
together s [] ds is = let same : [] ≡ ds = cc in ([], refl, sym same)
together s (one ∷ others) ds is =
    together_more s one others (searched s.indexes one.uid one.call) (results_of s.indexes others) ds refl (together s others) is

pub answered_alike : (s : State) (calls : List MultiData) (a : Answer) → answer_to s (multi calls) ≡ Ok a → AreAnswered s calls a
answered_alike s calls a is = by (results_of s.indexes calls) refl is
  where
    by : (r : Result (List Data) Refusal) → results_of s.indexes calls ≡ r → (r >>= λ ds. Ok (replies.results ds)) ≡ Ok a → AreAnswered s calls a
    by (Ok ds) has done =
        let all = together s calls ds has in
        let same : replies.results ds ≡ a = cc in
        record { shown = all.0; alone = all.1; together = sym same ∙ ap replies.results all.2 }
    by (Err why) has done = absurd (cc)
