use denote.Text.{Utf8}
use denote.Shadow.{shadow}
use Rattle.bench_parts.proofs.formats.terms_of.Given as goal

-- the last word is text
abbrev pub invariant-loop-word : goal.invariant-loop-word
invariant-loop-word l = shadow (Utf8 l.last)
