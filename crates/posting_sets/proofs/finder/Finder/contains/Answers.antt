use Rattle.std.proofs.Common.{◌≡◌, Some, eqb, leb, sym, ap, subst, ◌∙◌}
use Rattle.std.specs.List.{filter, slice_get}
use Rattle.std.specs.Option.{option_eq}
use Rattle.sorted_pages.specs.Entries.{has, IsIncreasing}
use Rattle.posting_sets.proofs.PassLemmas.{from_more, first_is}
use Rattle.posting_sets.proofs.finder.Finder.contains.Goals as goal
use Rattle.posting_sets.proofs.finder.Finder.contains.Goals.{then-entry-self, else-entry-self}

pub invariant_of-self : goal.invariant_of-self
invariant_of-self c = elim c.if-entry-self.branch as (λ _. (c.if-entry-self.self-inside.left ≡ filter (leb c.args.entry) c.if-entry-self.self-inside.list.now.entries) × IsIncreasing c.if-entry-self.self-inside.list.now.entries) [
  | then-entry-self w ↦ subst (λ s. (s.left ≡ filter (leb c.args.entry) s.list.now.entries) × IsIncreasing s.list.now.entries) (sym w.self-inside-is) (w.from-self-inside.ensures.entries, w.from-self-inside.ensures.increasing)
  | else-entry-self w ↦ subst (λ s. (s.left ≡ filter (leb c.args.entry) s.list.now.entries) × IsIncreasing s.list.now.entries) (sym w.self-inside-is)
      (w.seek.ensures ∙ ap (filter (leb c.args.entry)) c.self.invariant.0 ∙ from_more c.self.inside.least c.args.entry c.self.inside.list.now.entries w.if-entry-self.false, c.self.invariant.1)
]

pub returns-clause-found : goal.returns-clause-found
returns-clause-found c =
    let entries = c.self.inside.list.now.entries in
    elim c.if-entry-self.branch as (λ _. c.eq.result ≡ has c.args.self.now c.args.entry) [
      | then-entry-self w ↦ c.eq.ensures ∙ ap (λ o. option_eq eqb o (Some c.args.entry)) (c.first.ensures.first ∙ ap (λ s. slice_get s.left 0) w.self-inside-is ∙ ap (λ v. slice_get v 0) w.from-self-inside.ensures.entries)
          ∙ first_is c.args.entry entries c.self.invariant.1 ∙ ap (λ v. has v c.args.entry) c.self.view_is
      | else-entry-self w ↦ c.eq.ensures ∙ ap (λ o. option_eq eqb o (Some c.args.entry)) (c.first.ensures.first ∙ ap (λ s. slice_get s.left 0) w.self-inside-is
          ∙ ap (λ v. slice_get v 0) (w.seek.ensures ∙ ap (filter (leb c.args.entry)) c.self.invariant.0 ∙ from_more c.self.inside.least c.args.entry entries w.if-entry-self.false))
          ∙ first_is c.args.entry entries c.self.invariant.1 ∙ ap (λ v. has v c.args.entry) c.self.view_is
    ]
