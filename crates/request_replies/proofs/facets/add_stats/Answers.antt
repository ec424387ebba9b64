use Rattle.std.proofs.Common.{◌≡◌, ap, ◌∙◌, subst, rules}
use Rattle.serde_json.specs.Data.{put}
use Rattle.facet_counts.specs.FacetView.{FacetView}
use Rattle.request_replies.specs.Facets.{with_stats, ends_data, ends_members}
use Rattle.request_replies.proofs.FacetLemmas.{ends_put}
use Rattle.request_replies.proofs.facets.add_stats.Goals as goal

pub returns-in_ok-insert : goal.returns-in_ok-insert
returns-in_ok-insert c =
    let old = c.args.stats.now.entries in
    let ends = c.in-Some.ends in
    let copied : c.in_ok-clone.field-0 ≡ c.facet.inside.attribute = search rules in
    let added : ends_members c.insert.new.self.entries ≡ put c.facet.inside.attribute (ends_data ends) (ends_members old) =
    ap ends_members c.in_ok-insert.ensures.entries ∙ ends_put old _ ends ∙ ap (λ k. put k (ends_data ends) (ends_members old)) copied in
    let Is : FacetView → Type 0 = λ v. ends_members c.insert.new.self.entries ≡ with_stats (ends_members old) v in
    subst Is c.facet.view_is (rw c.in-Some.is added)
