use Rattle.std.proofs.Common.{◌≡◌, drop}
use Rattle.std.specs.List.{fold}
use Rattle.serde_json.specs.Data.{no_members}
use Rattle.request_replies.specs.Facets.{with_stats, ends_members}
use Rattle.request_replies.proofs.facets.stats_by_attribute.Given as goal

-- the stats so far, with the attributes that are left, are those of all attributes
abbrev pub invariant-loop-facet : goal.invariant-loop-facet
invariant-loop-facet l =
    fold with_stats (ends_members l.stats.entries) (drop l.facet-index l.facets) ≡ fold with_stats no_members l.facets
