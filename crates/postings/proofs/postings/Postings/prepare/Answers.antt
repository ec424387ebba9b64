use Rattle.std.proofs.Common.{not, ◌&&◌, ap₂, subst, sym, ◌∙◌}
use Rattle.postings.specs.declared.change.Side.TheVariants.{Goes, Comes}
use Rattle.postings.specs.Changes.{IsChangeOf}
use Rattle.postings.specs.Dictionary.{lists_of, IsTight, none}
use Rattle.postings.proofs.TightLemmas.{tight_but}
use Rattle.postings.proofs.postings.Postings.prepare.Goals as goal

pub returns-in-Ok-clause-made : goal.returns-in-Ok-clause-made
returns-in-Ok-clause-made c = λ gone come change.
    let same = c.in_ok-words.ensures.same in
    let one = c.in_ok-by_word.ensures in
    let named = subst (λ v. IsChangeOf v gone come) (sym c.change.view_is) change in
    record {
      goes = λ word entry. same.goes word entry ∙ ap₂ (λ a b. a && not b) (one Goes word entry ∙ named.goes word entry) (one Comes word entry ∙ named.comes word entry);
      comes = λ word entry. same.comes word entry ∙ ap₂ (λ a b. a && not b) (one Comes word entry ∙ named.comes word entry) (one Goes word entry ∙ named.goes word entry);
      narrow = named.narrow;
    }

pub returns-in-Ok-clause-tight : goal.returns-in-Ok-clause-tight
returns-in-Ok-clause-tight c = λ tight.
    let lists = subst (λ v. IsTight none v.lists) (sym c.self.view_is) tight in
    subst (λ v. IsTight v (lists_of c.reserve_words.new.lists)) c.as_slice-rows.ensures.value
    (tight_but c.as_slice-rows.result.now (lists_of c.self.inside.lists) (lists_of c.reserve_words.new.lists) c.in-Ok.ensures.others lists)

pub returns-in-Err-clause-tight : goal.returns-in-Err-clause-tight
returns-in-Err-clause-tight c = λ tight.
    let lists = subst (λ v. IsTight none v.lists) (sym c.self.view_is) tight in
    c.drop_all_spent.ensures.tight (tight_but c.as_slice-rows.result.now (lists_of c.self.inside.lists) (lists_of c.reserve_words.new.lists) c.in-Err.ensures.others lists)
