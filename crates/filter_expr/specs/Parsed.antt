-- What a filter value means: the filters that its texts write, their tree, and the fault that refuses it.
use Rattle.std.specs.Prelude.{◌≡◌, ℕ, ◌+◌, List, [], ◌∷◌, ◌++◌, length, map, Bool, true, false, ◌⊎◌, Some, None, Result, Ok, Err, find}
use Rattle.std.specs.List.{list_all}
use Rattle.serde_json.specs.Data.{Data}
use Rattle.filter_tree.specs.Tree.{Tree, all, and_of, or_of}
use Rattle.filter_machine.specs.Number.{is_no_number}
use Rattle.filter_machine.specs.Grammar.{Ors, ors_tree, ors_values}
use Rattle.filter_machine.specs.Text.{is_space, IsFilter}
use Rattle.filter_expr.specs.Faults.{IsWithin, IsSyntaxFault, IsTooDeep}
use Rattle.filter_expr.specs.Texts.{groups_of, texts_of}
use Rattle.filter_expr.specs.declared.fault.FilterRefusal.{FilterRefusal}
use Rattle.filter_expr.specs.declared.fault.FilterRefusal.TheVariants.{Syntax, TooDeep, NotANumber, NotText}

-- nothing but spaces, tabs, CR and LF
abbrev pub is_blank : List ℕ → Bool
is_blank text = list_all is_space text

-- ---- the filters that texts write

-- a blank text writes none, any other a filter within the depth
abbrev pub Writes : List ℕ → List Ors → Type 0
Writes text fs = ((is_blank text ≡ true) × (fs ≡ [])) ⊎ ((f : Ors) × IsFilter text f × IsWithin f × (fs ≡ f ∷ []))

-- texts one after another
abbrev pub Write : List (List ℕ) → List Ors → Type 0
Write [] fs = fs ≡ []
Write (t ∷ ts) fs = (gs : List Ors) × (hs : List Ors) × Writes t gs × Write ts hs × (fs ≡ gs ++ hs)

-- group by group
abbrev pub GroupsWrite : List (List (List ℕ)) → List (List Ors) → Type 0
GroupsWrite [] fss = fss ≡ []
GroupsWrite (g ∷ gs) fss = (fs : List Ors) × (rest : List (List Ors)) × Write g fs × GroupsWrite gs rest × (fss ≡ fs ∷ rest)

-- ---- what they come to

-- OR over each group in which something stays
abbrev pub group_trees : List (List Ors) → List Tree
group_trees [] = []
group_trees ([] ∷ fss) = group_trees fss
group_trees ((f ∷ fs) ∷ fss) = or_of (map ors_tree (f ∷ fs)) ∷ group_trees fss

-- AND over the groups; no group sets no condition
abbrev pub conditions : List Tree → Tree
conditions [] = all
conditions (t ∷ ts) = and_of (t ∷ ts)

abbrev pub values_of : List Ors → List (List ℕ)
values_of [] = []
values_of (f ∷ fs) = ors_values f ++ values_of fs

-- the values that must be numbers, in order
abbrev pub values_of_groups : List (List Ors) → List (List ℕ)
values_of_groups [] = []
values_of_groups (fs ∷ fss) = values_of fs ++ values_of_groups fss

-- ---- the answer

-- The texts before the text with this number, from 1, have no fault, and it has this one.
pub record IsFirstFault (texts : List (List ℕ)) (number : ℕ) (Fault : List ℕ → Type 0) : Type 0 where
  pub before : List (List ℕ)
  pub text : List ℕ
  pub after : List (List ℕ)
  pub texts_are : texts ≡ before ++ text ∷ after
  pub number_is : number ≡ length before + 1
  pub filters : List Ors
  pub sound : Write before filters
  pub not_blank : is_blank text ≡ false
  pub fault : Fault text

-- the answers that the grammar allows for a value
abbrev pub IsParsed : Data → Result Tree FilterRefusal → Type 0
IsParsed d (Ok tree) =
    (gs : List (List (List ℕ))) × (fss : List (List Ors)) × (groups_of d ≡ Some gs) × GroupsWrite gs fss
    × (find is_no_number (values_of_groups fss) ≡ None) × (tree ≡ conditions (group_trees fss))
IsParsed d (Err (Syntax n p)) =
    (gs : List (List (List ℕ))) × (groups_of d ≡ Some gs) × IsFirstFault (texts_of d) n (λ text. IsSyntaxFault text p × ((q : ℕ) → IsTooDeep text q → ⊥))
IsParsed d (Err (TooDeep n p)) = (gs : List (List (List ℕ))) × (groups_of d ≡ Some gs) × IsFirstFault (texts_of d) n (λ text. IsTooDeep text p)
IsParsed d (Err (NotANumber value)) =
    (gs : List (List (List ℕ))) × (fss : List (List Ors)) × (groups_of d ≡ Some gs) × GroupsWrite gs fss × (find is_no_number (values_of_groups fss) ≡ Some value)
IsParsed d (Err NotText) = groups_of d ≡ None
