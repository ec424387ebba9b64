use Rattle.std.proofs.Common.{refl}
use Rattle.matchit.proofs.OnLiterals.{matchit_on_literals}
use Rattle.request_routes.proofs.Patterns.{finds_paths}
use Rattle.request_routes.proofs.table.router_of_paths.Goals as goal

pub returns : goal.returns
unfolding matchit_on_literals
returns c =
    let health = c.in_ok-insert.ensures in
    let indexes = c.in_ok-insert-2.ensures in
    let index = c.in_ok-insert-3.ensures in
    let documents = c.in_ok-insert-4.ensures in
    let document = c.in_ok-insert-5.ensures in
    let settings = c.in_ok-insert-6.ensures in
    let search_page = c.in_ok-insert-7.ensures in
    let multi_search = c.in_ok-insert-8.ensures in
    let facet_search = c.in_ok-insert-9.ensures in
    let task = c.in_ok-insert-10.ensures in
    rw (task.1, facet_search.1, multi_search.1, search_page.1, settings.1, document.1, documents.1, index.1, indexes.1, health.1, c.new-router.ensures)
    (finds_paths _ (refl, (refl, (refl, (refl, (refl, (refl, (refl, (refl, (refl, (refl, tt))))))))))
    (refl, (refl, (refl, (refl, (refl, (refl, (refl, (refl, (refl, (refl, tt)))))))))) refl)
