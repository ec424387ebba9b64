-- The buckets that a call opens are those of the index that it names.
use Rattle.std.proofs.Common.{◌≡◌, ℕ, Bool, List, Option, Some, None, Ok, sym, ap, subst}
use Rattle.bucket_sort.specs.declared.log.Opening.{Opening}
use Rattle.search_base.specs.Trying.{or_refuse}
use Rattle.request_refusals.specs.declared.refusal.Refusal.TheVariants.{NoIndex}
use Rattle.index_changes.specs.Index.{Index}
use Rattle.bucket_sort.specs.Opens.{LogState, Opens}
use Rattle.named_indexes.specs.Indexes.{Indexes, index_at}
use Rattle.search_routes.specs.Machine.{index_named}
use Rattle.search_routes.specs.Openings.{there_opened}

opened-there : (uid : List ℕ) (es : Indexes) (i : Index) (all : Index → List Opening) → index_named uid es ≡ Ok i → there_opened (index_at uid es) all ≡ all i
opened-there uid es i all is = by (index_at uid es) is
  where
    by : (o : Option Index) → or_refuse (NoIndex uid) o ≡ Ok i → there_opened o all ≡ all i
    by None is = absurd (cc)
    by (Some j) is = let same : j ≡ i = cc in ap all same

-- what the index opens
pub opens-named : (uid : List ℕ) (es : Indexes) (i : Index) (all : Index → List Opening) (b : Bool) (old new : LogState) → index_named uid es ≡ Ok i
    → Opens b (all i) old new → Opens b (there_opened (index_at uid es) all) old new
opens-named uid es i all b old new is opens = subst (λ a. Opens b a old new) (sym (opened-there uid es i all is)) opens
