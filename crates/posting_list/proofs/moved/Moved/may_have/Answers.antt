use Rattle.std.proofs.Common.{◌&&◌, leb, refl, sym, ap, ◌∙◌, rules}
use Rattle.posting_list.proofs.MovedLemmas.{none_of}
use Rattle.posting_list.proofs.moved.Moved.may_have.Goals as goal

pub returns-in-Path : goal.returns-in-Path
returns-in-Path c = none_of c.self.inside.least c.self.inside.greatest c.self.inside.first _ _ c.in-Path.is _ c.is_between.ensures _ _ (search rules) c.self.invariant

pub returns-then-self : goal.returns-then-self
returns-then-self c =
    let least = c.self.inside.least in
    let greatest = c.self.inside.greatest in
    none_of least greatest c.self.inside.first _ _ c.in-Start.is _
    (c.is_between-then-self.ensures ∙ sym (ap (λ f. f && (leb least c.in-Start.path && leb c.in-Start.path greatest)) c.if-self.true)) _ _ (search rules) c.self.invariant

pub returns-else-self : goal.returns-else-self
returns-else-self c =
    let least = c.self.inside.least in
    let greatest = c.self.inside.greatest in
    none_of least greatest c.self.inside.first _ _ c.in-Start.is _
    (c.if-self.false ∙ sym (ap (λ f. f && (leb least c.in-Start.path && leb c.in-Start.path greatest)) c.if-self.false)) _ _ (search rules) c.self.invariant

pub returns-in-Later : goal.returns-in-Later
returns-in-Later c = none_of c.self.inside.least c.self.inside.greatest c.self.inside.first _ _ c.in-Later.is _ refl _ _ (search rules) c.self.invariant
