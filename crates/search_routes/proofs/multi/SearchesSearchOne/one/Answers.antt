use Rattle.std.proofs.Common.{refl}
use Rattle.search_routes.proofs.MultiLemmas.{searched-one}
use Rattle.search_routes.proofs.multi.SearchesSearchOne.one.Goals as goal

pub returns-clause-leaves : goal.returns-clause-leaves
returns-clause-leaves g c = (
  refl,
  refl,
  refl,
  refl,
  searched-one c.args.self.now.indexes.now c.args.call.now c.search_one-text.result c.outcome_of.result _ _ c.outcome_of.ensures
      c.search_one-text.ensures.answer c.search_one-text.ensures.fetched c.search_one-text.ensures.opens c.search_one-text.ensures.few,
)

pub returns-clause-agrees : goal.returns-clause-agrees
returns-clause-agrees g c = (returns-clause-leaves g c).4.agrees
