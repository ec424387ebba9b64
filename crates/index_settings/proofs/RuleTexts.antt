-- A text names a rule exactly where it is that rule's text.
use Rattle.std.proofs.Common.{◌≡◌, ℕ, ◌-◌, ◌<◌, List, ◌++◌, length, take, drop, codes, false, Option, Some, None, refl, sym, ap, ◌∙◌, subst, arith, true≢false, length-append, append_assoc}
use Rattle.std.proofs.lemmas.Bool.{cond_both, false_from_ne_true, and_parts, ltb-true}
use Rattle.std.proofs.lemmas.List.{take-append-drop}
use Rattle.std.proofs.lemmas.Slice.Eq.{bytes_eq-Decides}
use Rattle.std.proofs.Math.Seq.{drop-append_seam}
use Rattle.std.specs.Prelude.{◌&&◌, if◌then◌else◌, nat_lt}
use Rattle.std.specs.Str.{bytes_eq}
use Rattle.index_settings.specs.declared.rule.RankingRule.{RankingRule}
use Rattle.index_settings.specs.declared.rule.RankingRule.TheVariants.{Words, Typo, Proximity, Attribute, Sort, Exactness, Up, Down}
use Rattle.index_settings.specs.Rules.{before_ending, by_attribute, rule_of, orders_by}
use Rattle.index_settings.specs.Laws.{rule_text, HasAttribute, TextsNameRules}
use Rattle.index_settings.proofs.Endings.{before_none, before_some}

abbrev IsNamed : List ℕ → RankingRule → Type 0
IsNamed text rule = (text ≡ rule_text rule) × HasAttribute rule

-- ---- a text that names a rule

if_named : (text name : List ℕ) (here rule : RankingRule) (rest : Option RankingRule) → (text ≡ name → IsNamed text here) → (rest ≡ Some rule → IsNamed text rule)
    → (if bytes_eq text name then Some here else rest) ≡ Some rule → IsNamed text rule
if_named text name here rule rest first later =
    cond_both (bytes_eq text name) (Some here) rest (λ o. o ≡ Some rule → IsNamed text rule)
    (λ same is. let one : here ≡ rule = cc in subst (IsNamed text) one (first ((bytes_eq-Decides text name).0 same))) (λ _ is. later is)

before_ends : (ending text start : List ℕ) → before_ending ending text ≡ Some start → (text ≡ start ++ ending) × (0 < length start)
before_ends ending text start =
    let n = length text - length ending in
    cond_both (nat_lt (length ending) (length text) && bytes_eq (drop n text) ending) (Some (take n text)) None (λ o. o ≡ Some start → (text ≡ start ++ ending) × (0 < length start))
    (λ ends is.
    let parts = and_parts (nat_lt (length ending) (length text)) (bytes_eq (drop n text) ending) ends in
    let front : take n text ≡ start = cc in
    let end : drop n text ≡ ending = (bytes_eq-Decides (drop n text) ending).0 parts.1 in
    let whole : text ≡ start ++ ending = sym (take-append-drop n text) ∙ rw (front, end) in
    (whole, omega (arith, ltb-true (length ending) (length text) parts.0, ap length whole, length-append start ending)))
    (λ _ is. cc)

by_attribute_named : (text : List ℕ) (up down : Option (List ℕ)) (rule : RankingRule) → ((start : List ℕ) → up ≡ Some start → (text ≡ start ++ codes ":asc") × (0 < length start))
    → ((start : List ℕ) → down ≡ Some start → (text ≡ start ++ codes ":desc") × (0 < length start)) → by_attribute up down ≡ Some rule → IsNamed text rule
by_attribute_named text (Some start) down rule ups downs is =
    let one : Up start ≡ rule = cc in
    subst (IsNamed text) one (ups start refl)
by_attribute_named text None (Some start) rule ups downs is =
    let one : Down start ≡ rule = cc in
    subst (IsNamed text) one (downs start refl)
by_attribute_named text None None rule ups downs is = cc

named : (text : List ℕ) (rule : RankingRule) → rule_of text ≡ Some rule → IsNamed text rule
named text rule =
    let custom = by_attribute (before_ending (codes ":asc") text) (before_ending (codes ":desc") text) in
    let sixth : Option RankingRule = if bytes_eq text (codes "exactness") then Some Exactness else custom in
    let fifth : Option RankingRule = if bytes_eq text (codes "sort") then Some Sort else sixth in
    let fourth : Option RankingRule = if bytes_eq text (codes "attribute") then Some Attribute else fifth in
    let third : Option RankingRule = if bytes_eq text (codes "proximity") then Some Proximity else fourth in
    let second : Option RankingRule = if bytes_eq text (codes "typo") then Some Typo else third in
    if_named text (codes "words") Words rule second (λ e. (e, tt))
    (if_named text (codes "typo") Typo rule third (λ e. (e, tt))
    (if_named text (codes "proximity") Proximity rule fourth (λ e. (e, tt))
    (if_named text (codes "attribute") Attribute rule fifth (λ e. (e, tt))
    (if_named text (codes "sort") Sort rule sixth (λ e. (e, tt))
    (if_named text (codes "exactness") Exactness rule custom (λ e. (e, tt))
    (by_attribute_named text (before_ending (codes ":asc") text) (before_ending (codes ":desc") text) rule
    (before_ends (codes ":asc") text) (before_ends (codes ":desc") text)))))))

-- ---- the text of a rule

not_name : (ending text start name : List ℕ) → before_ending ending text ≡ Some start → before_ending ending name ≡ None → bytes_eq text name ≡ false
not_name ending text start name ends other =
    false_from_ne_true (bytes_eq text name) (λ same.
    let is : text ≡ name = (bytes_eq-Decides text name).0 same in
    let both : Some start ≡ None = sym ends ∙ ap (before_ending ending) is ∙ other in
    cc)

end_of : (front ending text : List ℕ) → text ≡ front ++ ending → drop (length text - length ending) text ≡ ending
end_of front ending text is =
    let n : length text - length ending ≡ length front = omega (arith, ap length is, length-append front ending) in
    rw (n, is) (drop-append_seam front ending)

not_asc : (text start : List ℕ) → text ≡ start ++ codes ":desc" → before_ending (codes ":asc") text ≡ None
not_asc text start is =
    before_none (codes ":asc") text (λ front asc.
    let up = end_of (front ++ codes ":") (codes "asc") text (asc ∙ sym (append_assoc front (codes ":") (codes "asc"))) in
    let down = end_of (start ++ codes ":d") (codes "esc") text (is ∙ sym (append_assoc start (codes ":d") (codes "esc"))) in
    true≢false (ap (λ end. bytes_eq end (codes "asc")) (sym up ∙ down)))

names : (text : List ℕ) (rule : RankingRule) → IsNamed text rule → rule_of text ≡ Some rule
names text Words h = rw h.0
names text Typo h = rw h.0
names text Proximity h = rw h.0
names text Attribute h = rw h.0
names text Sort h = rw h.0
names text Exactness h = rw h.0
names text (Up start) h =
    let ending = codes ":asc" in
    let ends : before_ending ending text ≡ Some start = before_some ending text start h.0 h.1 in
    rw (
      not_name ending text start (codes "words") ends refl,
      not_name ending text start (codes "typo") ends refl,
      not_name ending text start (codes "proximity") ends refl,
      not_name ending text start (codes "attribute") ends refl,
      not_name ending text start (codes "sort") ends refl,
      not_name ending text start (codes "exactness") ends refl,
      ends,
    )
names text (Down start) h =
    let ending = codes ":desc" in
    let ends : before_ending ending text ≡ Some start = before_some ending text start h.0 h.1 in
    rw (
      not_name ending text start (codes "words") ends refl,
      not_name ending text start (codes "typo") ends refl,
      not_name ending text start (codes "proximity") ends refl,
      not_name ending text start (codes "attribute") ends refl,
      not_name ending text start (codes "sort") ends refl,
      not_name ending text start (codes "exactness") ends refl,
      not_asc text start h.0,
      ends,
    )

pub texts_name : TextsNameRules
texts_name text rule = (named text rule, names text rule)

-- ---- the path that a rule orders by

orders_unless : (path text name : List ℕ) (here rest other : Option RankingRule) → (text ≡ name → orders_by path here ≡ orders_by path other)
    → orders_by path rest ≡ orders_by path other → orders_by path (if bytes_eq text name then here else rest) ≡ orders_by path other
orders_unless path text name here rest other first later =
    cond_both (bytes_eq text name) here rest (λ o. orders_by path o ≡ orders_by path other)
    (λ same. first ((bytes_eq-Decides text name).0 same)) (λ _. later)

-- a rule that is a word has no attribute before an ending
pub orders_by_ending : (path text : List ℕ) → orders_by path (rule_of text) ≡ orders_by path (by_attribute (before_ending (codes ":asc") text) (before_ending (codes ":desc") text))
orders_by_ending path text =
    let custom = by_attribute (before_ending (codes ":asc") text) (before_ending (codes ":desc") text) in
    let sixth : Option RankingRule = if bytes_eq text (codes "exactness") then Some Exactness else custom in
    let fifth : Option RankingRule = if bytes_eq text (codes "sort") then Some Sort else sixth in
    let fourth : Option RankingRule = if bytes_eq text (codes "attribute") then Some Attribute else fifth in
    let third : Option RankingRule = if bytes_eq text (codes "proximity") then Some Proximity else fourth in
    let second : Option RankingRule = if bytes_eq text (codes "typo") then Some Typo else third in
    orders_unless path text (codes "words") (Some Words) second custom (λ e. rw e)
    (orders_unless path text (codes "typo") (Some Typo) third custom (λ e. rw e)
    (orders_unless path text (codes "proximity") (Some Proximity) fourth custom (λ e. rw e)
    (orders_unless path text (codes "attribute") (Some Attribute) fifth custom (λ e. rw e)
    (orders_unless path text (codes "sort") (Some Sort) sixth custom (λ e. rw e)
    (orders_unless path text (codes "exactness") (Some Exactness) custom custom (λ e. rw e) refl)))))
