use Rattle.std.proofs.Common.{◌≡◌, ℕ, ◌<◌, Bool, true, false, ◌&&◌, ◌||◌, ◌==◌, List, [], ◌∷◌, ◌++◌, length, get_or, Result, Ok, Err, OnOk, refl, sym, ap, ap₂, ◌∙◌, rules}
use Rattle.std.specs.Str.{bytes_eq}
use Rattle.sorted_pages.specs.Entries.{has}
use Rattle.postings.specs.declared.change.Side.{Side}
use Rattle.postings.specs.declared.change.Side.TheVariants.{Goes, Comes}
use Rattle.postings.specs.declared.change.WordChange.{WordChange}
use Rattle.postings.specs.Changes.{is_side, side_of, names, gathered}
use Rattle.postings.proofs.GatherLemmas.{gathered_push, gathered_set}
use Rattle.postings.proofs.gathered.Gathered.name.Goals as goal
use Rattle.postings.proofs.gathered.Gathered.name.Goals.{then-len-self+in_ok-grow, else-len-self}

ok_then : {X E P Q : Type 0} (r : Result X E) → OnOk r P → (P → Q) → OnOk r Q
ok_then (Ok x) p f = f p
ok_then (Err e) p f = tt

-- nothing is in an empty change
nothing : (s : Side) (change : WordChange) → change.gone.items ≡ [] → change.come.items ≡ [] → (e : ℕ) → has (side_of s change) e ≡ false
nothing Goes change gone come e = ap (λ xs. has xs e) gone
nothing Comes change gone come e = ap (λ xs. has xs e) come

or_false : (b : Bool) → (b || false) ≡ b
or_false true = refl
or_false false = refl

turn : (k a b : Bool) → (k && (a && b)) ≡ (a && (k && b))
turn true a b = refl
turn false true b = refl
turn false false b = refl

pub returns-in-Some : goal.returns-in-Some
returns-in-Some c = ok_then c.add_entry.result c.add_entry.ensures (λ more s w e.
    let rows = c.args.self.now.rows.items in
    let at = c.in-Some.at in
    let row = c.index_mut.result.now in
    let is : get_or rows at row ≡ row = search rules in
    let word : row.0 ≡ c.args.word.now = ap (λ (r : List ℕ × WordChange). r.0) (sym is) ∙ c.in-Some.ensures.1 row in
    gathered_set s w e rows at row c.add_entry.new.change (is_side c.args.side s && (c.args.entry == e)) c.in-Some.ensures.0 is (more s e)
    ∙ ap (λ v. (bytes_eq v w && (is_side c.args.side s && (c.args.entry == e))) || gathered s w e rows) word
    ∙ ap (λ b. b || gathered s w e rows) (turn (bytes_eq c.args.word.now w) (is_side c.args.side s) (c.args.entry == e)))

pub returns : goal.returns
returns c = λ s w e.
    let rows = c.if-len-self.self.rows.items in
    let new = c.add_entry-2.new.change in
    let empty : WordChange = record { gone = c.new.result; come = c.new-2.result } in
    let named = is_side c.args.side s && (bytes_eq c.args.word.now w && (c.args.entry == e)) in
    let before : gathered s w e rows ≡ gathered s w e c.args.self.now.rows.items = elim c.if-len-self.branch [
      | then-len-self+in_ok-grow q ↦ ap (λ v. gathered s w e v.rows.items) q.self-is ∙ q.in_ok-grow.ensures s w e
      | else-len-self q ↦ ap (λ v. gathered s w e v.rows.items) q.self-is
    ] in
    let row : (bytes_eq c.in_ok-copy_word.field-0 w && has (side_of s new) e) ≡ named =
    ap₂ (λ v b. bytes_eq v w && b) c.in_ok-copy_word.ensures
    (c.in_ok-add_entry.ensures s e ∙ ap (λ b. (is_side c.args.side s && (c.args.entry == e)) || b) (nothing s empty c.new.ensures.items c.new-2.ensures.items e) ∙ or_false (is_side c.args.side s && (c.args.entry == e)))
    ∙ turn (bytes_eq c.args.word.now w) (is_side c.args.side s) (c.args.entry == e) in
    ap (λ v. gathered s w e v.items) c.keep_last.ensures
    ∙ ap (λ v. gathered s w e v) c.in_ok-push.ensures.items
    ∙ gathered_push s w e rows (c.in_ok-copy_word.field-0, new)
    ∙ ap₂ (λ a b. a || b) row before
