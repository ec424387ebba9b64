use Rattle.std.proofs.Common.{◌≡◌, List, ℕ, [], ◌∷◌, ◌++◌, length, map, slice_index_or, sym, ap, subst, ◌∙◌, append_assoc, append-nil, arith}
use Rattle.std.proofs.lemmas.List.{map-append}
use Rattle.facet_counts.specs.Counting.{AreCountsOf}
use Rattle.list_facets.proofs.OwnLemmas.{own_rows, own_leaves, own_counted}
use Rattle.list_facets.proofs.own.own_counts.Goals as goal

all-done : (done left ids : List ℕ) → done ++ left ≡ ids → left ≡ [] → done ≡ ids
all-done done left ids whole none = sym (append-nil done) ∙ ap (λ xs. done ++ xs) (sym none) ∙ whole

pub loop-id-preserved : goal.loop-id-preserved
loop-id-preserved c =
    let kept = c.loop-id.invariant in
    let id = c.in-Some.id.0 in
    let path = c.unwrap_or-path.result.0 in
    let rows = own_rows path c.args.leaves.now in (
      kept.0 ++ id ∷ [],
      append_assoc kept.0 (id ∷ []) c.next.new.self ∙ ap (λ xs. kept.0 ++ xs) (sym c.in-Some.ensures.steps) ∙ kept.1,
      subst (AreCountsOf c.add_leaves.new.self (c.args.asked ∷ [])) (sym (map-append rows kept.0 (id ∷ [])))
          (c.in_ok-add_leaves.ensures (c.args.asked ∷ []) (map rows kept.0) (rows id)
          (own_leaves path c.args.leaves.now id ∙ sym (c.as_slice.ensures.value ∙ c.in_ok-copy_under.ensures)) kept.2),
    )

pub swap_remove-requires : goal.swap_remove-requires
swap_remove-requires c =
    let kept = c.loop-id.invariant in
    let one = ap length (c.in_ok-replies.ensures (c.args.asked ∷ []) (map (own_rows c.unwrap_or-path.result.0 c.args.leaves.now) kept.0) kept.2) in
    omega (arith, one)

pub returns : goal.returns
returns c = λ rows are.
    let kept = c.loop-id.invariant in
    let own = own_rows c.unwrap_or-path.result.0 c.args.leaves.now in
    let all = all-done kept.0 c.loop-id.id-iterator c.args.matching.now.ids kept.1 c.in-None.ensures.steps.0 in
    let counts = subst (λ ids. AreCountsOf c.loop-id.counts (c.args.asked ∷ []) (map own ids)) all kept.2 in
    c.swap_remove.ensures.value
    ∙ ap (λ replies. slice_index_or replies 0 c.swap_remove.result) (c.in_ok-replies.ensures (c.args.asked ∷ []) (map own c.args.matching.now.ids) counts)
    ∙ own_counted c.args.leaves.now c.unwrap_or-path.result (record { 0 = 0 }) rows are c.args.asked c.args.most c.args.matching.now.ids c.unwrap_or-path.ensures
