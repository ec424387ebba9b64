use Rattle.std.proofs.Common.{subst, sym}
use Rattle.postings.specs.Dictionary.{lists_of, IsTight}
use Rattle.postings.proofs.postings.Postings.release.Goals as goal

pub returns-clause-tight : goal.returns-clause-tight
returns-clause-tight c = λ tight.
    let lists = subst (λ v. IsTight c.args.prepared.words v.lists) (sym c.self.view_is) tight in
    let words = subst (λ v. IsTight v.words (lists_of c.self.inside.lists)) (sym c.prepared.view_is) lists in
    c.drop_all_spent.ensures.tight (subst (λ v. IsTight v (lists_of c.self.inside.lists)) (sym c.as_slice.ensures.value) words)
