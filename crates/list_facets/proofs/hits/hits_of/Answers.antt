use Rattle.list_facets.proofs.HitLemmas.{list_hits, set_hits}
use Rattle.list_facets.proofs.hits.hits_of.Goals as goal

pub returns-then-is_walked : goal.returns-then-is_walked
returns-then-is_walked c = list_hits c.sets_are_their_members.ensures c.args.list.now.entries c.args.matching.now.ids c.len.ensures.increasing c.len-2.ensures.increasing
    c.hits_in_list.result c.hits_in_list.ensures

pub returns-else-is_walked : goal.returns-else-is_walked
returns-else-is_walked c = set_hits c.args.list.now.entries c.args.matching.now.ids c.hits_in_set.result c.hits_in_set.ensures
