use Rattle.std.proofs.Common.{◌≡◌, ◌++◌, take}
use Rattle.std.specs.List.{flat_map, AllByRecursion}
use Rattle.change_payloads.specs.Fits.{IsStored}
use Rattle.change_payloads.specs.Spelling.{json}
use Rattle.change_payloads.proofs.writing.put_documents.Given as goal

-- the documents so far are written
abbrev pub invariant-loop-document : goal.invariant-loop-document
invariant-loop-document l =
    (l.out.items ≡ l.initial.out.items ++ flat_map json (take l.document-index l.documents)) × AllByRecursion IsStored (take l.document-index l.documents)
