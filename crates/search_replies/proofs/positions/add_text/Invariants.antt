use Rattle.std.proofs.Common.{◌≡◌, ◌++◌, drop, map}
use Rattle.search_replies.specs.Positions.{place_of}
use Rattle.search_replies.proofs.positions.add_text.Given as goal

-- the places so far, with those of the spans that are left, are the ones at first with those of all
abbrev pub invariant-loop-span : goal.invariant-loop-span
invariant-loop-span l = record {
  texts : l.found.texts ≡ l.initial.found.texts;
  places : l.found.places.items ++ map (place_of l.initial.found.texts) (drop l.span-index l.span-items)
      ≡ l.initial.found.places.items ++ map (place_of l.initial.found.texts) l.span-items;
}
