use Rattle.std.proofs.Common.{◌≡◌, ◌∙◌, ℕ, Bool, true, false, List, refl, sym, ap₂}
use Rattle.std.specs.Bool.{beq}
use Rattle.std.specs.Prelude.{bytes_eq}
use Rattle.std.specs.Cmp.Lexicographic.{pointwise}
use Rattle.std.proofs.lemmas.Slice.Eq.{bytes_eq-Decides, slice_eq-Decides}
use Rattle.search_base.specs.TermView.{TermView}
use Rattle.condition_graph.proofs.condition.is_same.Goals as goal

same_words : (v w : List (List ℕ)) → pointwise bytes_eq v w ≡ true → v ≡ w
same_words v w e = (slice_eq-Decides bytes_eq-Decides v w _ refl).0 e

same_bool : (a b : Bool) → beq a b ≡ true → a ≡ b
same_bool true true e = refl
same_bool false false e = refl
same_bool true false e = absurd (cc)
same_bool false true e = absurd (cc)

abbrev term_with : List (List ℕ) → Bool → TermView
term_with words prefix = record { words = words; prefix = prefix }

pub returns-then-one-other : goal.returns-then-one-other
returns-then-one-other c h =
    sym c.one.view_is
    ∙ ap₂ term_with (same_words c.one.inside.words.items c.other.inside.words.items (sym c.eq.ensures ∙ h))
    (same_bool c.one.inside.prefix c.other.inside.prefix c.if-one-other.true)
    ∙ c.other.view_is
