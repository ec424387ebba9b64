use Rattle.std.proofs.Common.{sym, ap, ◌∙◌, None, subst}
use Rattle.std.specs.Prelude.{bytes_eq, if◌then◌else◌}
use Rattle.path_registry.specs.Names.{number_at}
use Rattle.path_registry.specs.Shelves.{names_on, AreShelved}
use Rattle.path_registry.proofs.ShelfLemmas.{is_written, shelf-was, shelved-written, number-written, number-none}
use Rattle.path_registry.proofs.places.Places.take_out.Goals.{in-Some, in_default}
use Rattle.path_registry.proofs.places.Places.take_out.Goals as goal

pub invariant_of-self : goal.invariant_of-self
invariant_of-self c = elim c.match-get_mut.branch [
  | in-Some w ↦ subst AreShelved (sym (ap (λ p. p.shelves) w.self-inside-is))
      (shelved-written c.args.name.now _ w.take_out.new.self c.self.inside.shelves (c.get_mut.follows.lender w.take_out.new.self)
      (is_written c.args.name.now _ _ w.take_out.new.self c.self.inside.shelves _ c.length_of.ensures w.in-Some.ensures.value c.self.invariant
      (c.get_mut.follows.holds w.take_out.new.self) (λ q other kept. w.take_out.ensures.only q kept)))
  | in_default w ↦ subst AreShelved (sym (ap (λ p. p.shelves) w.self-inside-is ∙ c.get_mut.follows.holds-at-none)) c.self.invariant
]

pub returns : goal.returns
returns c = λ q. elim c.match-get_mut.branch [
  | in-Some w ↦ ap (λ p. number_at q (names_on p.shelves.entries)) w.self-inside-is
      ∙ number-written c.args.name.now q _ w.take_out.new.self c.self.inside.shelves (c.get_mut.follows.lender w.take_out.new.self) None
      (is_written c.args.name.now _ _ w.take_out.new.self c.self.inside.shelves _ c.length_of.ensures w.in-Some.ensures.value c.self.invariant
      (c.get_mut.follows.holds w.take_out.new.self) (λ p other kept. w.take_out.ensures.only p kept))
      (w.take_out.ensures.numbers q ∙ ap (λ v. if bytes_eq c.args.name.now q then None else number_at q v) (shelf-was _ _ c.self.inside.shelves w.in-Some.ensures.value))
      ∙ ap (λ v. if bytes_eq c.args.name.now q then None else number_at q v) c.self.view_is
  | in_default w ↦ ap (λ p. number_at q (names_on p.shelves.entries)) w.self-inside-is
      ∙ ap (λ m. number_at q (names_on m.entries)) c.get_mut.follows.holds-at-none
      ∙ number-none c.args.name.now q _ c.self.inside.shelves c.length_of.ensures w.in_default.ensures.value c.self.invariant
      ∙ ap (λ v. if bytes_eq c.args.name.now q then None else number_at q v) c.self.view_is
]
