-- What a search of an index shows.
use Rattle.std.proofs.Common.{◌≡◌, ℕ, List, Result, Ok, sym, ap, subst, ◌∙◌}
use Rattle.request_refusals.specs.declared.refusal.Refusal.{Refusal}
use Rattle.search_base.specs.declared.fault.Fault.{Fault}
use Rattle.search_base.specs.Gives.{Gives}
use Rattle.search_base.specs.Trying.{◌>>=◌, refused_as}
use Rattle.search_result.specs.View.{Found}
use Rattle.index_changes.specs.Index.{Index}
use Rattle.index_core.specs.Found.{found}
use Rattle.index_core.specs.Terms.{terms_in}
use Rattle.serde_json.specs.Data.{Data}
use Rattle.search_call.specs.SearchView.{SearchView}
use Rattle.named_indexes.specs.Indexes.{Indexes}
use Rattle.search_routes.specs.Machine.{index_named, found_shown, search_refusal, searched}

-- what a search of an index that is there shows
searched_is : (es : Indexes) (uid : List ℕ) (call : SearchView) (i : Index) (f : Found) → index_named uid es ≡ Ok i → found i call ≡ Ok f
    → searched es uid call ≡ Ok (found_shown call i.settings (terms_in i call) f)
searched_is es uid call i f at is =
    ap (λ r. r >>= λ i. refused_as search_refusal (found i call) >>= λ f. Ok (found_shown call i.settings (terms_in i call) f)) at
    ∙ ap (λ r. refused_as search_refusal r >>= λ f. Ok (found_shown call i.settings (terms_in i call) f)) is

pub gives_searched : {X : Type 0} (view : X → Data) (es : Indexes) (uid : List ℕ) (call : SearchView) (i : Index) (f : Found) (result : Result X (Fault Refusal))
    → index_named uid es ≡ Ok i → found i call ≡ Ok f → Gives view result (Ok (found_shown call i.settings (terms_in i call) f)) → Gives view result (searched es uid call)
gives_searched view es uid call i f result at is gives = subst (λ a. Gives view result a) (sym (searched_is es uid call i f at is)) gives
