use Rattle.std.proofs.Common.{◌≡◌, ◌∙◌, List, [], drop, map, Ok, ap, sym, subst}
use Rattle.std.proofs.lemmas.List.{drop_all}
use Rattle.serde_json.specs.Data.{object, no_members}
use Rattle.serde_json.specs.View.{view, members_view}
use Rattle.serde_json.proofs.Views.{view-Object}
use Rattle.serde_json.specs.declared.value.Value.TheVariants.{Object}
use Rattle.filter_tree.specs.Tree as tree
use Rattle.filter_tree.specs.View.{view as tree_of}
use Rattle.search_base.specs.Trying.{◌>>=◌}
use Rattle.request_routes.specs.Held.{pair_of}
use Rattle.search_bodies.specs.Searches.{given_as, search_in, tried, with_given}
use Rattle.search_bodies.proofs.search.search_by_pairs.Goals as goal

pub returns : goal.returns
returns c =
    let pairs = c.args.pairs.now in
    let given = map given_as (map pair_of pairs) in
    let filter = c.loop-pair.filter in
    let members = c.loop-pair.members.entries in
    let none : drop c.loop-pair.pair-index pairs ≡ [] = drop_all c.loop-pair.pair-index pairs c.loop-pair-test.false in
    let tried_all : tried given tree.all ≡ Ok (tree_of filter) =
    subst (λ rest. tried given tree.all ≡ tried (map given_as (map pair_of rest)) (tree_of filter)) none c.loop-pair.invariant.filter in
    let same : with_given given no_members ≡ members_view members =
    subst (λ rest. with_given given no_members ≡ with_given (map given_as (map pair_of rest)) (members_view members)) none c.loop-pair.invariant.object in
    let shown : view (Object c.loop-pair.members) ≡ object (members_view members) = view-Object c.loop-pair.members in
    let read : c.in_ok-search_in.field-0 ≡ search_in (tree_of filter) (object (members_view members)) =
    c.in_ok-search_in.ensures ∙ ap (search_in (tree_of filter)) shown in
    ap (λ r. r >>= λ f. Ok (search_in f (object (with_given given no_members)))) tried_all
    ∙ (ap (λ ms. Ok (search_in (tree_of filter) (object ms))) same ∙ ap Ok (sym read))
