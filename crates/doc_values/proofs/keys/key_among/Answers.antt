use Rattle.std.proofs.Common.{◌≡◌, true, [], ◌∷◌, ◌++◌, length-append, string_bytes, ap, ◌∙◌, arith}
use Rattle.std.specs.Option.{option_copied}
use Rattle.serde_json.specs.View.{view, members_view}
use Rattle.doc_values.specs.Ids.{candidates, ends_in_id}
use Rattle.doc_values.proofs.Candidates.{candidates_more, first_of_or}
use Rattle.doc_values.proofs.keys.key_among.Goals as goal

pub loop-name-preserved-then-ends_in_id : goal.loop-name-preserved-then-ends_in_id
loop-name-preserved-then-ends_in_id c =
    let l = c.loop-name in
    let found = l.invariant.0 in
    let name = string_bytes c.in-Some.name.now in
    let is : ends_in_id name ≡ true = grind arith in
    let rest = ap (λ ms. found ++ candidates (members_view ms)) c.in-Some.ensures.steps in (
      found ++ name ∷ [],
      l.invariant.1 ∙ rest ∙ candidates_more found name (view c.in-Some.field-0-1.now) (members_view c.next.new.self) is,
      omega (arith, length-append found (name ∷ []), l.invariant.2),
      ap option_copied c.or-first.ensures ∙ first_of_or l.first c.as_str-then-ends_in_id.result found name l.invariant.3 c.as_str-then-ends_in_id.ensures.value,
    )
