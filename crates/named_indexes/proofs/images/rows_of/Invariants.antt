use Rattle.named_indexes.proofs.Listing.{IsListing}
use Rattle.named_indexes.proofs.images.rows_of.Given as goal

abbrev pub invariant-loop-uid : goal.invariant-loop-uid
invariant-loop-uid l = IsListing l.entries.entries l.uid-iterator l.rows.items
