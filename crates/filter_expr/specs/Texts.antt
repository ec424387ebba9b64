-- The texts of a filter value: a text alone, or an array of texts and of arrays of texts. Each member of the outer array is a group.
use Rattle.std.specs.Prelude.{ℕ, List, [], ◌∷◌, ◌++◌, Option, Some, None, option_map}
use Rattle.serde_json.specs.Data.{Data, null, string, array, Items, no_items, item}

-- an array of texts alone
abbrev pub texts_in : Items → Option (List (List ℕ))
texts_in no_items = Some []
texts_in (item (string s) ds) = option_map (λ ts. s ∷ ts) (texts_in ds)
texts_in (item _ ds) = None

-- a member of the outer array
abbrev pub group_of : Data → Option (List (List ℕ))
group_of (string s) = Some (s ∷ [])
group_of (array ds) = texts_in ds
group_of _ = None

abbrev pub and_group : Option (List (List ℕ)) → Option (List (List (List ℕ))) → Option (List (List (List ℕ)))
and_group None gs = None
and_group (Some g) None = None
and_group (Some g) (Some gs) = Some (g ∷ gs)

abbrev pub groups_in : Items → Option (List (List (List ℕ)))
groups_in no_items = Some []
groups_in (item d ds) = and_group (group_of d) (groups_in ds)

-- The groups of a value, where it is null, a text, or an array of texts and arrays of texts. Null has none.
abbrev pub groups_of : Data → Option (List (List (List ℕ)))
groups_of null = Some []
groups_of (string s) = Some ((s ∷ []) ∷ [])
groups_of (array ds) = groups_in ds
groups_of _ = None

-- ---- all texts of a value in their order, which numbers them from 1

abbrev pub texts_among : Items → List (List ℕ)
texts_among no_items = []
texts_among (item (string s) ds) = s ∷ texts_among ds
texts_among (item _ ds) = texts_among ds

abbrev pub texts_of_member : Data → List (List ℕ)
texts_of_member (string s) = s ∷ []
texts_of_member (array ds) = texts_among ds
texts_of_member _ = []

abbrev pub texts_of_members : Items → List (List ℕ)
texts_of_members no_items = []
texts_of_members (item d ds) = texts_of_member d ++ texts_of_members ds

abbrev pub texts_of : Data → List (List ℕ)
texts_of (string s) = s ∷ []
texts_of (array ds) = texts_of_members ds
texts_of _ = []
