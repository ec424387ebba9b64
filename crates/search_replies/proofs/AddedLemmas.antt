-- Added members come to others one after the other, where each stands before those that still wait.
use Rattle.std.proofs.Common.{◌≡◌, ℕ, List, [], ◌∷◌, ◌++◌, length, Bool, true, Ordering, Less, Equal, Greater, nat_cmp, refl, sym, ap, ◌∙◌, append_assoc}
use Rattle.std.specs.Cmp.Lexicographic.{slice_cmp, nat_list_cmp_total, bytes_decides, texts_ties}
use Rattle.std.specs.Ordering.{is_eq, match_ordering, ordering_reverse}
use Rattle.serde_json.specs.Data.{Data, Members, no_members, member, put}
use Rattle.serde_json.specs.Written.{compact_text, members_text, comma_if}
use Rattle.json.specs.Print.{quoted}
use Rattle.search_replies.specs.declared.added.Added.{Added}
use Rattle.search_replies.specs.Added.{added_name, added_data, with_waiting, IsBefore, AreInOrder}

abbrev compared : List ℕ → List ℕ → Ordering
compared a b = slice_cmp nat_cmp a b

-- ---- one member

-- the first member, if there is one, stands behind a name
abbrev IsBehind : List ℕ → Members → Type 0
IsBehind name no_members = Unit {0}
IsBehind name (member l d ms) = compared name l ≡ Less

put_first : (k : List ℕ) (d : Data) (ms : Members) → IsBehind k ms → put k d ms ≡ member k d ms
put_first k d no_members h = refl
put_first k d (member l e ms) h = ap (λ o. match_ordering o (member k d (member l e ms)) (member l d ms) (member l e (put k d ms))) h

behind_put : (name k : List ℕ) (d : Data) (ms : Members) → compared name k ≡ Less → IsBehind name ms → IsBehind name (put k d ms)
behind_put name k d no_members less h = less
behind_put name k d (member l e ms) less h = by (compared k l)
  where
    by : (o : Ordering) → IsBehind name (match_ordering o (member k d (member l e ms)) (member l d ms) (member l e (put k d ms)))
    by Less = less
    by Equal = h
    by Greater = h

-- ---- all that wait

behind_waiting : (own : Members) (name : List ℕ) (waiting : List Added) (ms : Members) → IsBefore name waiting → IsBehind name ms → IsBehind name (with_waiting own waiting ms)
behind_waiting own name [] ms before h = h
behind_waiting own name (added ∷ waiting) ms before h =
    behind_put name (added_name added) (added_data own added) (with_waiting own waiting ms) before.0 (behind_waiting own name waiting ms before.1 h)

-- the first of them stands before all
first_waits : (own : Members) (added : Added) (waiting : List Added) (ms : Members) → IsBefore (added_name added) waiting → IsBehind (added_name added) ms
    → with_waiting own (added ∷ waiting) ms ≡ member (added_name added) (added_data own added) (with_waiting own waiting ms)
first_waits own added waiting ms before h = put_first (added_name added) (added_data own added) (with_waiting own waiting ms) (behind_waiting own (added_name added) waiting ms before h)

greater_is_less : (a b : List ℕ) → compared a b ≡ Less → compared b a ≡ Greater
greater_is_less a b h = nat_list_cmp_total.antisymm b a ∙ ap ordering_reverse h

less_is_greater : (a b : List ℕ) → compared a b ≡ Greater → compared b a ≡ Less
less_is_greater a b h = nat_list_cmp_total.antisymm b a ∙ ap ordering_reverse h

-- a member stands before all that wait
pub member_first : (own : Members) (name : List ℕ) (d : Data) (waiting : List Added) (rest : Members) → IsBefore name waiting
    → with_waiting own waiting (member name d rest) ≡ member name d (with_waiting own waiting rest)
member_first own name d [] rest before = refl
member_first own name d (added ∷ waiting) rest before =
    let a = added_name added in let held = added_data own added in
    ap (put a held) (member_first own name d waiting rest before.1)
    ∙ ap (λ o. match_ordering o (member a held (member name d (with_waiting own waiting rest))) (member name held (with_waiting own waiting rest)) (member name d (put a held (with_waiting own waiting rest)))) (greater_is_less name a before.0)

-- a name before the first of them is before all
before_all : (name a : List ℕ) (waiting : List Added) → compared name a ≡ Less → IsBefore a waiting → IsBefore name waiting
before_all name a [] less before = before
before_all name a (added ∷ waiting) less before = (nat_list_cmp_total.trans name a (added_name added) less before.0, before_all name a waiting less before.1)

before_alike : (a name : List ℕ) (waiting : List Added) → compared a name ≡ Equal → IsBefore a waiting → IsBefore name waiting
before_alike a name [] same before = before
before_alike a name (added ∷ waiting) same before =
    (sym (nat_list_cmp_total.congr a name (added_name added) same) ∙ before.0, before_alike a name waiting same before.1)

-- ---- texts

-- a text, a member behind it, and others
member_text : (old new : List ℕ) (later : Bool) (name : List ℕ) (d : Data) (ms : Members)
    → new ≡ old ++ (comma_if later ++ (quoted name ++ 58 ∷ compact_text d))
    → new ++ members_text true ms ≡ old ++ members_text later (member name d ms)
member_text old new later name d ms is =
    ap (λ v. v ++ members_text true ms) is
    ∙ append_assoc old (comma_if later ++ (quoted name ++ 58 ∷ compact_text d)) (members_text true ms)
    ∙ ap (λ v. old ++ v) (append_assoc (comma_if later) (quoted name ++ 58 ∷ compact_text d) (members_text true ms)
    ∙ ap (λ v. comma_if later ++ v) (append_assoc (quoted name) (58 ∷ compact_text d) (members_text true ms)))

module _ (own : Members) (added : Added) (waiting : List Added) (order : AreInOrder (added ∷ waiting)) (name : List ℕ) (d : Data) (later : Bool) (old new : List ℕ)
    (is_put : new ≡ old ++ (comma_if later ++ (quoted (added_name added) ++ 58 ∷ compact_text (added_data own added)))) where
  -- an added member before another
  pub put_before : (rest : Members) → compared (added_name added) name ≡ Less
      → new ++ members_text true (with_waiting own waiting (member name d rest)) ≡ old ++ members_text later (with_waiting own (added ∷ waiting) (member name d rest))
  put_before rest less =
      member_text old new later (added_name added) (added_data own added) (with_waiting own waiting (member name d rest)) is_put
      ∙ ap (λ ms. old ++ members_text later ms) (sym (first_waits own added waiting (member name d rest) order.0 less))

  -- in its place
  pub put_instead : (rest : Members) → compared (added_name added) name ≡ Equal
      → new ++ members_text true (with_waiting own waiting rest) ≡ old ++ members_text later (with_waiting own (added ∷ waiting) (member name d rest))
  put_instead rest same =
      let a = added_name added in let held = added_data own added in let behind = with_waiting own waiting rest in
      let named : a ≡ name = (bytes_decides a name).0 (texts_ties a name ∙ ap is_eq same) in
      let is : with_waiting own (added ∷ waiting) (member name d rest) ≡ member a held behind
      = ap (put a held) (member_first own name d waiting rest (before_alike a name waiting same order.0))
      ∙ ap (λ o. match_ordering o (member a held (member name d behind)) (member name held behind) (member name d (put a held behind))) same
      ∙ ap (λ n. member n held behind) (sym named) in
      member_text old new later a held behind is_put ∙ ap (λ ms. old ++ members_text later ms) (sym is)

-- an added member at the end
pub put_last : (own : Members) (added : Added) (waiting : List Added) (later : Bool) (old new : List ℕ) → AreInOrder (added ∷ waiting)
    → new ≡ old ++ (comma_if later ++ (quoted (added_name added) ++ 58 ∷ compact_text (added_data own added)))
    → new ++ members_text true (with_waiting own waiting no_members) ≡ old ++ members_text later (with_waiting own (added ∷ waiting) no_members)
put_last own added waiting later old new order is_put =
    member_text old new later (added_name added) (added_data own added) (with_waiting own waiting no_members) is_put
    ∙ ap (λ ms. old ++ members_text later ms) (sym (first_waits own added waiting no_members order.0 tt))

-- none waits, or the first of them stands behind a name
abbrev pub IsDue : List ℕ → List Added → Type 0
IsDue name [] = Unit {0}
IsDue name (added ∷ more) = (compared (added_name added) name ≡ Greater) × AreInOrder (added ∷ more)

before_due : (name : List ℕ) (list : List Added) → IsDue name list → IsBefore name list
before_due name [] due = tt
before_due name (added ∷ more) due =
    let less = less_is_greater (added_name added) name due.0 in (less, before_all name (added_name added) more less due.1.0)

pub none_due : (name : List ℕ) (list : List Added) → length list ≡ 0 → IsDue name list
none_due name [] none = tt
none_due name (added ∷ more) none = absurd (cc)

-- another member before all that wait
pub put_other : (own : Members) (waiting : List Added) (name : List ℕ) (d : Data) (later : Bool) (old new : List ℕ)
    → new ≡ old ++ (comma_if later ++ (quoted name ++ 58 ∷ compact_text d)) → IsDue name waiting → (rest : Members)
    → new ++ members_text true (with_waiting own waiting rest) ≡ old ++ members_text later (with_waiting own waiting (member name d rest))
put_other own waiting name d later old new is_put due rest =
    member_text old new later name d (with_waiting own waiting rest) is_put
    ∙ ap (λ ms. old ++ members_text later ms) (sym (member_first own name d waiting rest (before_due name waiting due)))
