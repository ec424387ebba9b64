-- What contracts see of a search.
use Rattle.std.specs.Prelude.{ℕ, Bool, false, List, [], Option, None, Vec}
use Rattle.std.specs.Option.{option_map}
use Rattle.filter_tree.specs.Tree.{Tree}
use Rattle.search_base.specs.declared.query.Strategy.{Strategy}
use Rattle.search_call.specs.declared.Window.{Window}
use Rattle.search_call.specs.declared.Window.TheVariants.{Slice}
use Rattle.search_call.specs.declared.Criterion.{Criterion}
use Rattle.search_call.specs.FormatView.{FormatView, no_formats}

-- the text that is searched for, the hits that are asked for, the filter that they pass, the attributes whose values
-- are counted, by what hits are sorted, which words a hit must hold, whether it shows its costs, the names of the members
-- that it shows, how it shows their texts, and the attribute of whose values no two hits have one in common
pub record SearchView : Type 0 where
  pub q : List ℕ
  pub window : Window
  pub filter : Tree
  pub facets : Option (List (List ℕ))
  pub sort : List Criterion
  pub strategy : Strategy
  pub costs : Bool
  pub retrieve : List (List ℕ)
  pub formats : FormatView
  pub distinct : Option (List ℕ)

-- the names of a list, where there is one
abbrev pub names_view : {A : Type 0} → Option (Vec (List ℕ) A) → Option (List (List ℕ))
names_view names = option_map (λ list. list.items) names

-- a facet search: the attribute whose values are asked for, the text that they begin with, where one is given, and the
-- text, the filter and the words by which the documents are found whose values they are
pub record FacetCallView : Type 0 where
  pub name : List ℕ
  pub query : Option (List ℕ)
  pub q : List ℕ
  pub filter : Tree
  pub strategy : Strategy

-- the search that finds these documents, and shows none of them
abbrev pub matches_of : FacetCallView → SearchView
matches_of call = record {
  q = call.q;
  window = Slice 0 0;
  filter = call.filter;
  facets = None;
  sort = [];
  strategy = call.strategy;
  costs = false;
  retrieve = [];
  formats = no_formats;
  distinct = None;
}
