use Rattle.std.proofs.Common.{◌≡◌, ℕ, not, ◌&&◌, ◌||◌, List, sym, ◌∙◌, rules, arith}
use Rattle.std.proofs.lemmas.Grind.{common_steps}
use Rattle.sorted_pages.specs.Entries.{has}
use Rattle.postings.specs.declared.change.Side.TheVariants.{Goes, Comes}
use Rattle.postings.specs.Dictionary.{lists_of, pages_at, entries_of, list_at}
use Rattle.postings.specs.Changes.{named}
use Rattle.postings.proofs.FreshLemmas.{stands_after, narrow_after, apart_after, told_after}
use Rattle.postings.proofs.postings.Postings.commit.Goals as goal

pub returns-clause-fresh : goal.returns-clause-fresh
returns-clause-fresh c = λ gone come documents prepared batch stood.
    let told : (w : List ℕ) (e : ℕ) → has (entries_of (pages_at w (lists_of c.change_words.new.lists))) e
    ≡ ((named Comes w e c.args.prepared.words || has (list_at w c.args.self.now) e) && not (named Goes w e c.args.prepared.words))
    = λ w e. first_of (search rules, grind (arith, common_steps)) in
    record {
      each = λ w e. told w e
          ∙ told_after _ _ _ gone come documents w e batch (prepared.comes w e) (prepared.goes w e) (stood.each w e)
          ∙ sym (stands_after gone come documents w e batch stood.narrow stood.apart);
      narrow = narrow_after gone come documents prepared.narrow stood.narrow;
      apart = apart_after gone come documents batch stood.apart;
    }
