use Rattle.std.proofs.Common.{◌≡◌, ℕ, ◌+◌, ◌++◌, ◌∷◌, [], List, Vec, length, sym, ap, subst, ◌∙◌, arith, append-nil}
use Rattle.std.specs.declared.alloc.Global.{Global}
use Rattle.std.specs.Option.{option_to_list}
use Rattle.std.proofs.lemmas.Bool.{eqb-true}
use Rattle.std.proofs.lemmas.List.{length-append, nil_from_length}
use Rattle.sorted_pages.specs.Pages.{flat, RestFull}
use Rattle.sorted_pages.proofs.WholeLemmas.{popped, flat_popped}
use Rattle.sorted_pages.proofs.whole.fill_last.Goals as goal

pub count_left-front-requires : goal.count_left-front-requires
count_left-front-requires c =
    let ps = c.args.front.now.pages.items in
    let left = c.pop.new.self.items in
    let page = c.in-Some.page in
    let same : ps ≡ left ++ page ∷ [] = c.pop.ensures.items ∙ ap (λ r. left ++ option_to_list r) c.in-Some.is in
    let long : length (flat ps) ≡ length (flat left) + length page.items = ap length (ap flat same ∙ flat_popped left page) ∙ length-append (flat left) page.items in
    let seen = ap (λ (q : List (Vec ℕ Global)). length (flat q)) c.as_slice.ensures.value in
    omega (arith, c.requires.counted, long, seen, c.len.ensures, page.ok.0)

pub returns-in-Some-clause-entries : goal.returns-in-Some-clause-entries
returns-in-Some-clause-entries c =
    let ps = c.args.front.now.pages.items in
    let left = c.pop.new.self.items in
    let same : ps ≡ left ++ c.in-Some.page ∷ [] = c.pop.ensures.items ∙ ap (λ r. left ++ option_to_list r) c.in-Some.is in
    let zero_len = eqb-true _ _ (sym c.is_empty.ensures ∙ c.if-is_empty.true) in
    let none = nil_from_length c.args.last.now.items (omega (arith, zero_len, c.args.last.now.ok.0)) in
    sym (flat_popped left c.in-Some.page) ∙ ap flat (sym same) ∙ sym (append-nil (flat ps)) ∙ ap (λ (v : List ℕ). flat ps ++ v) (sym none)

pub returns-in-Some-clause-rest : goal.returns-in-Some-clause-rest
returns-in-Some-clause-rest c =
    let left = c.pop.new.self.items in
    (popped left c.in-Some.page (subst RestFull (c.pop.ensures.items ∙ ap (λ r. left ++ option_to_list r) c.in-Some.is) c.requires.rest)).0

pub returns-in-Some-clause-some : goal.returns-in-Some-clause-some
returns-in-Some-clause-some c =
    let left = c.pop.new.self.items in
    (popped left c.in-Some.page (subst RestFull (c.pop.ensures.items ∙ ap (λ r. left ++ option_to_list r) c.in-Some.is) c.requires.rest)).1
