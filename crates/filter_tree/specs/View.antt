-- What contracts see of a filter: its tree.
use Rattle.filter_tree.specs.Tree.{TestData, equal, above, at_least, below, at_most, between, one_of, exists, null, empty, Tree, all, both, either, negation, test, trees_of}
use Rattle.filter_tree.specs.declared.tree.Test.{Test}
use Rattle.filter_tree.specs.declared.tree.Test.TheVariants as t
use Rattle.filter_tree.specs.declared.tree.Filter.{Filter, fold-Filter}
use Rattle.filter_tree.specs.declared.tree.Filter.TheOpen.{Filter-F}

abbrev pub test_view : Test → TestData
test_view (t.Equal w) = equal w
test_view (t.Above n) = above n
test_view (t.AtLeast n) = at_least n
test_view (t.Below n) = below n
test_view (t.AtMost n) = at_most n
test_view (t.Between m n) = between m n
test_view (t.OneOf ws) = one_of ws.items
test_view t.Exists = exists
test_view t.Null = null
test_view t.Empty = empty

-- one level, with each filter inside already seen as its tree
abbrev pub view_step : Filter-F Tree → Tree
view_step Filter-F.All = all
view_step (Filter-F.And fs) = both (trees_of fs.items)
view_step (Filter-F.Or fs) = either (trees_of fs.items)
view_step (Filter-F.Not f) = negation f.value
view_step (Filter-F.Test a x) = test a (test_view x)

abbrev pub view : Filter → Tree
view = fold-Filter Tree view_step
