use Rattle.std.proofs.Common.{◌≡◌, ◌++◌, map, length}
use denote.Text.{Utf8}
use denote.Shadow.{shadow}
use Rattle.form_urlencoded.specs.Form.{split}
use Rattle.request_routes.proofs.parts.parts_of.Given as goal

-- the parts so far, and those of what is left, are those of the text
abbrev pub invariant-loop-part : goal.invariant-loop-part
invariant-loop-part l = record {
  text : shadow (Utf8 l.left);
  whole : map (λ part. part.now) l.parts.items ++ split l.separator l.left ≡ split l.separator l.fn.text;
}

abbrev pub decreases-loop-part : goal.decreases-loop-part
decreases-loop-part l = length l.left
