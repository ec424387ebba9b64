-- How many documents a read of an index needs.
use Rattle.std.proofs.Common.{◌≡◌, ℕ, ◌+◌, ◌≤◌, List, Option, Some, None, Ok, subst}
use Rattle.search_base.specs.Trying.{or_refuse}
use Rattle.request_refusals.specs.declared.refusal.Refusal.TheVariants.{NoIndex}
use Rattle.index_changes.specs.Index.{Index}
use Rattle.named_indexes.specs.Indexes.{Indexes, index_at}
use Rattle.search_routes.specs.Machine.{index_named}
use Rattle.search_routes.specs.Needs.{there_need}

-- no more than the index needs are read
pub named_most : (uid : List ℕ) (es : Indexes) (i : Index) (need : Index → ℕ) (before after : ℕ) → index_named uid es ≡ Ok i
    → after ≤ before + need i → after ≤ before + there_need (index_at uid es) need
named_most uid es i need before after is most = by (index_at uid es) is
  where
    by : (o : Option Index) → or_refuse (NoIndex uid) o ≡ Ok i → after ≤ before + there_need o need
    by None is = absurd (cc)
    by (Some j) is = let same : i ≡ j = cc in subst (λ v. after ≤ before + need v) same most
