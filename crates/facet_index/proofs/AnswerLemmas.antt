-- Answers inside a universe.
use Rattle.std.proofs.Common.{◌≡◌, ℕ, List, Result, Ok, Err, ap, ◌∙◌}
use Rattle.std.specs.List.{filter}
use Rattle.std.specs.Result.{IfOk}
use Rattle.search_base.specs.declared.document.MarkKind.{MarkKind}
use Rattle.search_base.specs.declared.value.FacetValue.{FacetValue}
use Rattle.doc_sets.specs.SetView.{SetView}
use Rattle.postings.specs.Dictionary.{PostingsView, list_at}
use Rattle.facet_keys.specs.Keys.{leaf, mark, key_bytes, IsNarrow}
use Rattle.facet_keys.specs.Laws.{AreApart}
use Rattle.facet_index.specs.LeavesView.{LeavesView}
use Rattle.facet_index.specs.Documents.{has_value, has_mark, passes_at}
use Rattle.facet_index.specs.Places.{IsIndexOf, has_document}
use Rattle.facet_index.proofs.KeyLemmas.{value_at_key, mark_at_key}

-- the documents of a list
abbrev pub AreListed : List ℕ → List ℕ → List ℕ → Type 0
AreListed entries universe ids = ids ≡ filter (λ d. has_document d entries) universe

pub value_answer : {E : Type 0} → AreApart → (view : PostingsView) (path : ℕ) (v : FacetValue) (universe key : List ℕ) → key ≡ key_bytes path (leaf v) → IsNarrow path (leaf v)
    → (r : Result SetView E) → IfOk r (λ docs. AreListed (list_at key view) universe docs.ids)
    → IfOk r (λ docs. (documents : List LeavesView) → IsIndexOf view documents → docs.ids ≡ filter (passes_at (has_value v path) documents) universe)
value_answer apart view path v universe key is narrow (Ok docs) h = λ documents index.
    h ∙ ap (λ k. filter (λ d. has_document d (list_at k view)) universe) is ∙ value_at_key apart view documents path v universe narrow index
value_answer apart view path v universe key is narrow (Err e) h = tt

pub mark_answer : {E : Type 0} → AreApart → (view : PostingsView) (path : ℕ) (kind : MarkKind) (universe key : List ℕ) → key ≡ key_bytes path (mark kind) → IsNarrow path (mark kind)
    → (r : Result SetView E) → IfOk r (λ docs. AreListed (list_at key view) universe docs.ids)
    → IfOk r (λ docs. (documents : List LeavesView) → IsIndexOf view documents → docs.ids ≡ filter (passes_at (has_mark kind path) documents) universe)
mark_answer apart view path kind universe key is narrow (Ok docs) h = λ documents index.
    h ∙ ap (λ k. filter (λ d. has_document d (list_at k view)) universe) is ∙ mark_at_key apart view documents path kind universe narrow index
mark_answer apart view path kind universe key is narrow (Err e) h = tt
