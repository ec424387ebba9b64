-- The documents that match in their order, and what is opened for the first of them, said of all documents.
use Rattle.std.proofs.Common.{◌≡◌, ℕ, ◌+◌, ◌*◌, List, [], length, Result, Ok, Err, OnOk, refl, sym, ap, ap₂, ◌∙◌, append-nil, arith}
use Rattle.search_base.specs.CostOrder.{before}
use Rattle.search_base.specs.declared.cost_key.CostKey.{CostKey}
use Rattle.search_base.specs.declared.rule.Rule.{Rule}
use Rattle.search_base.specs.declared.value.FacetValue.{FacetValue}
use Rattle.search_base.specs.GraphView.{GraphView}
use Rattle.bucket_sort.specs.Trace.{trace}
use Rattle.distinct_hits.specs.Distinct.{texts_by, in_order, distinct_hits, reach, taken, AsksFor, AsksForSome}
use Rattle.filter_tree.specs.Tree.{Tree}
use Rattle.rule_buckets.specs.Entries.{entry_at}
use Rattle.rule_buckets.specs.Matches.{ids_of, hits_of}
use Rattle.rule_buckets.specs.Rules.{RulesView}
use Rattle.rule_buckets.proofs.Slices.{hits-in}
use Rattle.doc_search.specs.Found.{AreRulesOver, passes}
use Rattle.doc_search.specs.Matches.{matches_among, opened}
use Rattle.doc_search.specs.Searched.{DocumentsView}
use Rattle.doc_search.proofs.FoundLemmas.{rows_among, same-matches, same-total, same-opened}

pub on-ok : {T E : Type 0} (r : Result T E) (P : Type 0) → P → OnOk r P
on-ok (Ok x) P p = p
on-ok (Err e) P p = tt

-- nothing was asked for
pub asks-nothing : {S : Type 0} (Asks : S → ℕ → S → Type 0) (s : S) (all : List ℕ) → AsksForSome Asks s all s
asks-nothing Asks s all = record { gained = []; others = all; parts = refl; asks = refl }

-- all were asked for
pub asks-all : {S : Type 0} (Asks : S → ℕ → S → Type 0) (s t : S) (all : List ℕ) → AsksFor Asks s all t → AsksForSome Asks s all t
asks-all Asks s t all asked = record { gained = all; others = []; parts = sym (append-nil all); asks = asked }

module _ (among : DocumentsView) (query : GraphView) (tree : Tree) (rules : List Rule) (made : RulesView DocumentsView)
    (over : AreRulesOver among query tree rules made) (ids : List ℕ) (all : ids ≡ made.matching) where
  -- what rules put documents in order by
  abbrev key : ℕ → ℕ → CostKey
  key level d = entry_at (rows_among made.source d) made.graph made.rules level

  -- the documents that match, as the rules list them, and as the documents do
  abbrev listed : List ℕ
  listed = in_order key (length made.rules) ids

  abbrev order : List ℕ
  order = ids_of (hits_of (matches_among (passes among tree) query rules among.documents) 0 (length (matches_among (passes among tree) query rules among.documents)))

  pub same-order : listed ≡ order
  same-order =
      ap (in_order key (length made.rules)) all ∙ hits-in rows_among made 0 (length made.matching)
      ∙ ap₂ (λ matches n. ids_of (hits_of matches 0 n)) (same-matches among query tree rules made over) (same-total among query tree rules made over)

  same-trace : (r : ℕ) → trace before key (length made.rules) ids 0 r ≡ opened (passes among tree) query rules among.documents 0 r
  same-trace r =
      ap (λ ds. trace before key (length made.rules) ds 0 r) all
      ∙ ap (trace before key (length made.rules) made.matching 0) (plus r) ∙ same-opened among query tree rules made over (record { offset = 0; limit = r })
    where
      plus : (n : ℕ) → n ≡ 0 + n
      plus n = omega arith

  module _ (values : ℕ → List FacetValue) (offset limit : ℕ) where
    pub same-distinct : distinct_hits (texts_by values) listed offset limit ≡ distinct_hits (texts_by values) order offset limit
    same-distinct = ap (λ ds. distinct_hits (texts_by values) ds offset limit) same-order

    pub same-taken : taken (texts_by values) listed offset limit ≡ taken (texts_by values) order offset limit
    same-taken = ap (λ ds. taken (texts_by values) ds offset limit) same-order

    same-reach : reach (texts_by values) listed offset limit ≡ reach (texts_by values) order offset limit
    same-reach = ap (λ ds. reach (texts_by values) ds offset limit) same-order

    pub same-opened-for : trace before key (length made.rules) ids 0 (reach (texts_by values) listed offset limit)
        ≡ opened (passes among tree) query rules among.documents 0 (reach (texts_by values) order offset limit)
    same-opened-for =
        same-trace (reach (texts_by values) listed offset limit) ∙ ap (opened (passes among tree) query rules among.documents 0) same-reach

    pub same-most : length made.rules * reach (texts_by values) listed offset limit ≡ length rules * reach (texts_by values) order offset limit
    same-most = ap₂ (λ m n. m * n) (ap length over.rules_are) same-reach
