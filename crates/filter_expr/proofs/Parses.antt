-- From the reading of a value to what the answer for it says.
use Rattle.std.proofs.Common.{◌≡◌, ℕ, ◌≤◌, List, length, cond, Option, Some, None, Result, Ok, Err, refl, sym, ap, ◌∙◌}
use Rattle.std.specs.Prelude.{is_some}
use Rattle.serde_json.specs.Data.{Data}
use Rattle.filter_expr.specs.Limit.{syntax_at, too_deep_at, reading_of}
use Rattle.filter_expr.specs.Texts.{groups_of, texts_of}
use Rattle.filter_expr.specs.Parsed.{conditions, values_of_groups, IsParsed}
use Rattle.filter_expr.specs.Reader.{Progress, new_progress, value_read, concluded_by, concluded}
use Rattle.filter_expr.specs.Answer.{concluded_of, parsed}
use Rattle.filter_expr.specs.declared.fault.FilterRefusal.{FilterRefusal}
use Rattle.filter_expr.specs.declared.fault.FilterRefusal.TheVariants.{Syntax, TooDeep, NotANumber, NotText}
use Rattle.filter_expr.proofs.Answered.{answer_is, within_text, deep_within_text}
use Rattle.filter_expr.proofs.Groups.{bad_found, GroupsOk, GroupsSay, value_says, IsRefused, IsDeep, first_fault}

-- ---- places

pub syntax_place : (text : List ℕ) (p : ℕ) → reading_of text ≡ Err (syntax_at p) → p ≤ length text
syntax_place text p e = let h = answer_is text in within_text text p ((rw e at h).0)

pub deep_place : (text : List ℕ) (p : ℕ) → reading_of text ≡ Err (too_deep_at p) → p ≤ length text
deep_place text p e = let h = answer_is text in deep_within_text text p (rw e at h)

-- ---- the answer

concluded_is : (d : Data) (gs : List (List (List ℕ))) (p : Progress) → groups_of d ≡ Some gs → GroupsOk gs (texts_of d) new_progress p → IsParsed d (concluded p)
concluded_is d gs p e h = by_bad p.bad refl
  where
    by_bad : (b : Option (List ℕ)) → p.bad ≡ b → IsParsed d (concluded_by b p.groups)
    by_bad None is = (gs, h.filters, e, h.write, sym (bad_found (values_of_groups h.filters)) ∙ sym h.bad_is ∙ is, ap conditions h.groups_are)
    by_bad (Some w) is = (gs, h.filters, e, h.write, sym (bad_found (values_of_groups h.filters)) ∙ sym h.bad_is ∙ is)

read_is : (d : Data) (gs : List (List (List ℕ))) (r : Result Progress FilterRefusal) → groups_of d ≡ Some gs → GroupsSay gs (texts_of d) new_progress r → IsParsed d (concluded_of r)
read_is d gs (Ok p) e h = concluded_is d gs p e h
read_is d gs (Err (Syntax n k)) e h = (gs, e, first_fault (texts_of d) n (IsRefused k) h)
read_is d gs (Err (TooDeep n k)) e h = (gs, e, first_fault (texts_of d) n (IsDeep k) h)
read_is d gs (Err (NotANumber w)) e h = absurd h
read_is d gs (Err NotText) e h = absurd h

-- the answer for a value is what the grammar allows
pub parsed_is : (d : Data) → IsParsed d (parsed d)
unfolding parsed
parsed_is d = by_groups (groups_of d) refl
  where
    by_groups : (o : Option (List (List (List ℕ)))) → groups_of d ≡ o → IsParsed d (cond (is_some o) (concluded_of (value_read d new_progress)) (Err NotText))
    by_groups None e = e
    by_groups (Some gs) e = read_is d gs (value_read d new_progress) e (value_says d gs e)
