use Rattle.std.proofs.Common.{not, sym, subst}
use Rattle.std.specs.declared.alloc.Global.{Global}
use Rattle.std.specs.Prelude.{Option, Box}
use Rattle.sorted_pages.specs.declared.whole.FrontPages.{FrontPages}
use Rattle.sorted_pages.specs.Entries.{has, IsIncreasing}
use Rattle.sorted_pages.specs.Pages.{pages_in, IsWhole}
use Rattle.sorted_pages.proofs.SetLemmas.{increasing-filter}
use Rattle.sorted_pages.proofs.WholeLemmas.{last_up, alone}
use Rattle.sorted_pages.proofs.front.take_out.Goals as goal

pub returns-in-None-clause-whole : goal.returns-in-None-clause-whole
returns-in-None-clause-whole c =
    let new = c.strike_out.new.page.items in
    let up = increasing-filter (λ d. not (has c.args.gone.now d)) c.args.last.now.items (last_up (pages_in c.args.front.now) c.args.last.now.items c.requires.whole) in
    subst (λ (f : Option (Box FrontPages Global)). IsWhole (pages_in f) new) (sym c.in-None.is) (alone new (subst IsIncreasing (sym c.strike_out.ensures) up))
