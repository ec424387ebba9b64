use mathlib.Core.Path.{fun_ext}
use Rattle.std.proofs.Common.{◌≡◌, ◌++◌, ◌∷◌, ℕ, List, Less, Equal, Greater, nat_cmp, true, ap, sym, ◌∙◌, subst, IfOk, string_bytes, rules}
use Rattle.std.specs.Cmp.Lexicographic.{slice_cmp}
use Rattle.serde_json.specs.Data.{Members, member}
use Rattle.serde_json.specs.View.{view}
use Rattle.serde_json.specs.Written.{members_text}
use Rattle.search_replies.specs.Added.{added_name, members_of, with_waiting, AreInOrder}
use Rattle.search_replies.proofs.AddedLemmas.{IsDue, put_before, put_instead, put_other}
use Rattle.search_replies.proofs.shown.+put_shown.Goals as goal

pub returns-in_ok-put_added-in-Less-clause-text : goal.returns-in_ok-put_added-in-Less-clause-text
returns-in_ok-put_added-in-Less-clause-text t c =
    let own = members_of c.args.own.now in
    let name = c.args.name.now in
    let d = view c.args.value.now in
    let old = string_bytes c.args.text.now in
    let ordered : AreInOrder c.args.line.waiting.now = search rules in
    let is : c.args.line.waiting.now ≡ c.in-Some.added.now ∷ c.in-Some.waiting.now = c.in-Some.ensures.cases.0 in
    let less : slice_cmp nat_cmp (added_name c.in-Some.added.now) name ≡ Less = search rules in
    let Is : (Members → List ℕ) → Type 0 = λ all. IfOk c.put_shown.result (λ after. (rest : Members) → string_bytes c.put_shown.new.text ++ members_text after.later (with_waiting own after.waiting.now rest) ≡ all rest) in
    let step : (rest : Members) → string_bytes c.put_added.new.text ++ members_text true (with_waiting own c.in-Some.waiting.now (member name d rest)) ≡ old ++ members_text c.args.line.later (with_waiting own c.args.line.waiting.now (member name d rest)) =
    λ rest. put_before own c.in-Some.added.now c.in-Some.waiting.now (subst AreInOrder is ordered) name d c.args.line.later _ _ c.in_ok-put_added-in-Less.ensures rest less
    ∙ ap (λ w. old ++ members_text c.args.line.later (with_waiting own w (member name d rest))) (sym is) in
    subst Is (fun_ext step) c.put_shown.ensures.text

pub returns-in_ok-put_added-in-Equal-clause-text : goal.returns-in_ok-put_added-in-Equal-clause-text
returns-in_ok-put_added-in-Equal-clause-text t c =
    let own = members_of c.args.own.now in
    let name = c.args.name.now in
    let d = view c.args.value.now in
    let ordered : AreInOrder c.args.line.waiting.now = search rules in
    let is : c.args.line.waiting.now ≡ c.in-Some.added.now ∷ c.in-Some.waiting.now = c.in-Some.ensures.cases.0 in
    let same : slice_cmp nat_cmp (added_name c.in-Some.added.now) name ≡ Equal = search rules in
    λ rest. put_instead own c.in-Some.added.now c.in-Some.waiting.now (subst AreInOrder is ordered) name d c.args.line.later _ _ c.in_ok-put_added-in-Equal.ensures rest same
    ∙ ap (λ w. string_bytes c.args.text.now ++ members_text c.args.line.later (with_waiting own w (member name d rest))) (sym is)

pub returns-in_ok-put_member-in-Greater-clause-text : goal.returns-in_ok-put_member-in-Greater-clause-text
returns-in_ok-put_member-in-Greater-clause-text t c =
    let name = c.args.name.now in
    let ordered : AreInOrder c.args.line.waiting.now = search rules in
    let is : c.args.line.waiting.now ≡ c.in-Some.added.now ∷ c.in-Some.waiting.now = c.in-Some.ensures.cases.0 in
    let greater : slice_cmp nat_cmp (added_name c.in-Some.added.now) name ≡ Greater = search rules in
    let due : IsDue name c.args.line.waiting.now = subst (IsDue name) (sym is) (greater, subst AreInOrder is ordered) in
    λ rest. put_other (members_of c.args.own.now) c.args.line.waiting.now name (view c.args.value.now) c.args.line.later _ _ c.in_ok-put_member-in-Greater.ensures due rest
