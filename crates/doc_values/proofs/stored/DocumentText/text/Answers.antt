use Rattle.std.proofs.Common.{subst}
use Rattle.std.specs.Str.{IsUtf8}
use Rattle.doc_values.proofs.Documents.{at_own_text}
use Rattle.doc_values.proofs.stored.DocumentText.text.Goals as goal

pub returns-clause-back : goal.returns-clause-back
returns-clause-back c = rw (c.as_str.ensures.value, ← c.self.view_is) (at_own_text _ _ c.self.invariant.document c.self.invariant.own (subst IsUtf8 c.as_str.ensures.value c.as_str.utf8) c.self.invariant.reads)
