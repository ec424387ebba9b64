use Rattle.std.proofs.Common.{rules, ◌≡◌, ℤ, List, ◌∷◌, [], ◌++◌, Some, slice_get, length, refl, w64, ap, subst, ◌∙◌, FitsSigned}
use Rattle.std.proofs.lemmas.Int.{to_z-of_z}
use Rattle.std.proofs.lemmas.Option.{slice_get_read}
use Rattle.tests_rules.proofs.PricedLemmas.{one-more}
use Rattle.tests_rules.proofs.numbers.PricedOrderedRows.numbers.Goals as goal

pub loop-id-preserved : goal.loop-id-preserved
loop-id-preserved c =
    let numbers = c.args.self.now.numbers.items in
    let read = c.deref.result.now in
    let number = c.in-Some-get.number.now in
    let id = c.in-Some.id in
    let found = c.in-Some-get.ensures.lookup in
    let fits : FitsSigned w64 number = search rules in
    one-more c.args.self.now.up numbers c.args.universe.now.ids c.loop-id.id-iterator c.next.new.self c.loop-id.pairs.items c.push.new.self.items number id
    c.loop-id.invariant c.in-Some.ensures.steps
    (subst (λ (l : List ℤ). slice_get l id.0 ≡ Some number) c.deref.ensures.value (slice_get_read read (length read) id.0 number refl found.3.0 found.1))
    (c.in_ok-push-in-Some-get.ensures.items ∙ ap (λ (n : ℤ). c.loop-id.pairs.items ++ ((n, id) ∷ [])) (to_z-of_z w64 number fits))
