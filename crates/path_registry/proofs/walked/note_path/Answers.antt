use Rattle.std.proofs.Common.{◌++◌, sym, ap, ◌∙◌, arith, length-append, length, append_assoc, ◌∷◌, []}
use Rattle.path_registry.proofs.PathLemmas.{with_path-known, with_path-new}
use Rattle.path_registry.proofs.walked.note_path.Goals as goal

pub returns-then-is_noted-clause-noted : goal.returns-then-is_noted-clause-noted
returns-then-is_noted-clause-noted c = λ _.
    let all = (c.args.registry.now.paths ++ c.args.added.now.paths) ++ c.args.fresh.now.paths in
    sym (with_path-known c.args.path all (sym c.is_noted.ensures ∙ c.if-is_noted.true))

pub returns-then-len-eq-MAX_PATHS-clause-spent : goal.returns-then-len-eq-MAX_PATHS-clause-spent
returns-then-len-eq-MAX_PATHS-clause-spent c = λ _.
    let known = c.args.registry.now.paths ++ c.args.added.now.paths in
    let all = known ++ c.args.fresh.now.paths in
    let new = with_path-new c.args.path all (sym c.is_noted.ensures ∙ c.if-is_noted.false) in
    omega (arith, ap length new, length-append all (c.args.path ∷ []), length-append known c.args.fresh.now.paths, length-append c.args.registry.now.paths c.args.added.now.paths)

pub returns-clause-noted : goal.returns-clause-noted
returns-clause-noted c = λ _.
    let known = c.args.registry.now.paths ++ c.args.added.now.paths in
    let all = known ++ c.args.fresh.now.paths in
    let new = with_path-new c.args.path all (sym c.is_noted.ensures ∙ c.if-is_noted.false) in
    ap (λ v. known ++ v) c.in_ok-add.ensures ∙ sym (append_assoc known c.args.fresh.now.paths (c.args.path ∷ [])) ∙ sym new
