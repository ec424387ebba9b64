use Rattle.std.proofs.Common.{◌≡◌, drop}
use Rattle.std.specs.List.{fold}
use Rattle.serde_json.specs.Data.{no_members}
use Rattle.serde_json.specs.View.{members_view}
use Rattle.request_replies.specs.Facets.{with_counts}
use Rattle.request_replies.proofs.facets.distribution_value.Given as goal

-- the members so far, with the attributes that are left, are those of all attributes
abbrev pub invariant-loop-facet : goal.invariant-loop-facet
invariant-loop-facet l =
    fold with_counts (members_view l.members.entries) (drop l.facet-index l.facets) ≡ fold with_counts no_members l.facets
