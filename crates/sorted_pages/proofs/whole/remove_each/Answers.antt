use Rattle.std.proofs.Common.{ℕ, not, ◌++◌, List, sym, ap₂, subst, ◌∙◌}
use Rattle.sorted_pages.specs.Entries.{has, IsIncreasing}
use Rattle.sorted_pages.specs.Pages.{flat}
use Rattle.sorted_pages.proofs.SetLemmas.{increasing-filter}
use Rattle.sorted_pages.proofs.WholeLemmas.{pages_up, last_up, cut_minus}
use Rattle.sorted_pages.proofs.whole.remove_each.Goals as goal

pub remove_runs-went-requires-clause-sorted : goal.remove_runs-went-requires-clause-sorted
remove_runs-went-requires-clause-sorted c = pages_up c.args.front.now.pages.items c.args.last.now.items c.requires.whole

pub strike_out-requires-clause-page : goal.strike_out-requires-clause-page
strike_out-requires-clause-page c = last_up c.args.front.now.pages.items c.args.last.now.items c.requires.whole

pub returns-clause-entries : goal.returns-clause-entries
returns-clause-entries c =
    c.fill_last.ensures.entries
    ∙ ap₂ (λ (u v : List ℕ). u ++ v) c.remove_runs-went.ensures.flat c.strike_out.ensures
    ∙ cut_minus c.args.front.now.pages.items c.args.last.now.items c.parted.result.0.now c.parted.result.1.now
    c.requires.whole c.parted.ensures.cut c.parted.ensures.back c.args.gone.now c.parted.ensures.all

pub returns-clause-whole : goal.returns-clause-whole
returns-clause-whole c =
    let ps = c.args.front.now.pages.items in
    let last = c.args.last.now.items in
    let left = c.fill_last.ensures.entries
    ∙ ap₂ (λ (u v : List ℕ). u ++ v) c.remove_runs-went.ensures.flat c.strike_out.ensures
    ∙ cut_minus ps last c.parted.result.0.now c.parted.result.1.now c.requires.whole c.parted.ensures.cut c.parted.ensures.back c.args.gone.now c.parted.ensures.all in
    record {
      rest = c.fill_last.ensures.rest;
      some = c.fill_last.ensures.some;
      up = subst IsIncreasing (sym left) (increasing-filter (λ d. not (has c.args.gone.now d)) (flat ps ++ last) c.requires.whole.up);
    }
