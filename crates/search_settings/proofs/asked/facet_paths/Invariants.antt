use Rattle.std.proofs.Common.{◌≡◌, ◌++◌, map}
use Rattle.search_settings.specs.Asked.{facet_path}
use Rattle.search_settings.proofs.asked.facet_paths.Given as goal

-- the paths of the attributes so far, and those of the ones that are left
abbrev pub invariant-loop-attribute : goal.invariant-loop-attribute
invariant-loop-attribute l =
    l.asked.items ++ map (facet_path l.paths) l.attribute-iterator.rest.items ≡ map (facet_path l.paths) l.initial.attribute-iterator.rest.items
