use Rattle.bucket_sort.specs.Opens.{is_starved}
use Rattle.index_core.proofs.Opening.{opens-none}
use Rattle.search_routes.proofs.reads.read_queued.Goals as goal

pub returns-in-Facets-clause-opens : goal.returns-in-Facets-clause-opens
returns-in-Facets-clause-opens g c = rw c.in-Facets.is (opens-none (is_starved c.search_facets.result) _)

pub returns-in-Search-clause-answer : goal.returns-in-Search-clause-answer
returns-in-Search-clause-answer g c = rw c.in-Search.is c.search.ensures.answer
