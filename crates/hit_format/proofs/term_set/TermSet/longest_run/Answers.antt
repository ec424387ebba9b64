use Rattle.std.proofs.Common.{◌∙◌, max, ap, ap₂}
use Rattle.hit_format.specs.Runs.{longest}
use Rattle.hit_format.proofs.FirstWordLemmas.{numbers-within, longest-kept, longest-none}
use Rattle.hit_format.proofs.term_set.TermSet.longest_run.Goals as goal

pub longest_at-of_word-requires : goal.longest_at-of_word-requires
longest_at-of_word-requires c = numbers-within _ _ _ (c.numbers_at-begun.ensures ∙ c.self.invariant.first _)

pub longest_at-of_prefixes-requires : goal.longest_at-of_prefixes-requires
longest_at-of_prefixes-requires c = numbers-within _ _ _ (c.as_slice.ensures.value ∙ c.self.invariant.prefixes_are)

pub returns-in-Some : goal.returns-in-Some
returns-in-Some c =
    c.max.ensures ∙ ap₂ max c.longest_at-of_word.ensures c.longest_at-of_prefixes.ensures
    ∙ longest-kept c.args.tokens.now _ c.in-Some.ensures.value c.self.inside.terms.now _ _ (c.numbers_at-begun.ensures ∙ c.self.invariant.first _)
    (c.as_slice.ensures.value ∙ c.self.invariant.prefixes_are)
    ∙ ap (longest c.args.tokens.now) c.self.view_is

pub returns-in-None : goal.returns-in-None
returns-in-None c = longest-none c.args.tokens.now c.args.self.now c.in-None.ensures.value
