use Rattle.std.proofs.Common.{◌≡◌, ◌-◌, ◌<◌, [], ◌∷◌, length, Some, None, Err, string_bytes, refl, sym, ap, ◌∙◌, arith, rules}
use Rattle.json.specs.Json.{parse_map, after_end_array, read_key, value}
use Rattle.json.specs.Reads.{token_of}
use Rattle.json.proofs.Grammar.{value_is, read_key-shorter}
use Rattle.serde_json.specs.Data.{null, boolean, number, string, array, object, put}
use Rattle.serde_json.specs.Read.{of_json, converted}
use Rattle.serde_json.specs.View.{view, number_view, members_view}
use Rattle.serde_json.specs.declared.value.Value.{String, Number, Bool, Null, the_lemmas}
use Rattle.serde_json.proofs.Views.{view-Array, view-Object, members_view-insert_entry}
use Rattle.document_stream.specs.Reads.{value_at, items_at, members_at}
use Rattle.search_base.specs.declared.fault.Fault.TheVariants.{Refused}
use Rattle.document_stream.specs.declared.fault.BodyRefusal.TheVariants.{NotJson}
use Rattle.document_stream.proofs.Refusals.{broken, broken_part}
use Rattle.document_stream.proofs.Turns.{members_onto, value_at-begin_array, value_at-begin_object, value_at-flat_array, value_at-flat_object, value_at-empty, items_over, item_read, item_refused, members_over, key_refused, member_read, member_refused, items_before, items_before-no_items, one_more_item}
use Rattle.document_stream.proofs.values.+values.Goals as goal

pub read_items-returns-in_err-item-clause-items : goal.read_items-returns-in_err-item-clause-items
read_items-returns-in_err-item-clause-items t c =
    let depth = c.args.depth in
    let l = c.items in
    let going : (after_end_array l.reader ≡ None) × (c.take_end_array.new.self ≡ l.reader) = grind arith in
    let is : c.from_residual.result ≡ Err c.in_err-item.field-0.0 = grind arith in
    broken_part _ _ _ _ _ (value_at depth c.take_end_array.new.self) is c.in_err-item.ensures.value
    (λ none. l.invariant.all ∙ ap (parse_map (items_before l.found.items)) (item_refused depth l.reader going.0 (rw (← going.1) none)))

pub read_items-items-preserved : goal.read_items-items-preserved
read_items-items-preserved t c =
    let depth = c.args.depth in
    let l = c.items in
    let v = c.in_ok-item.item in
    let r = c.read_value.new.reader in
    let going : (after_end_array l.reader ≡ None) × (c.take_end_array.new.self ≡ l.reader) = grind arith in
    let less : length r < length l.reader = rw (← going.1) c.in_ok-item.ensures.shorter in
    let turn = item_read depth l.reader r (view v) going.0 (rw (← going.1) c.in_ok-item.ensures.value) in record {
      all = l.invariant.all ∙ ap (parse_map (items_before l.found.items)) turn ∙ one_more_item l.found.items v (items_at depth r)
          ∙ ap (λ vs. parse_map (items_before vs) (items_at depth r)) (sym c.in_ok-push.ensures.items);
      shorter = omega (arith, l.invariant.shorter);
    }

pub read_items-returns-clause-items : goal.read_items-returns-clause-items
read_items-returns-clause-items t c =
    let l = c.items in
    let r = c.take_end_array.new.self in
    l.invariant.all ∙ ap (parse_map (items_before l.found.items)) (items_over c.args.depth l.reader r (grind arith)) ∙ ap (λ ds. Some (ds, r)) (items_before-no_items l.found.items)

pub read_members-returns-in_err-name-clause-members : goal.read_members-returns-in_err-name-clause-members
read_members-returns-in_err-name-clause-members t c =
    let l = c.members in
    let is : c.from_residual.result ≡ Err (Refused NotJson) = grind arith in
    broken _ _ _ _ is (l.invariant.all ∙ key_refused c.args.depth (members_view l.found.entries) l.reader c.in_err-name.ensures.1)

pub read_members-returns-in_err-member-clause-members : goal.read_members-returns-in_err-member-clause-members
read_members-returns-in_err-member-clause-members t c =
    let depth = c.args.depth in
    let l = c.members in
    let k = c.in-Some.name.now in
    let s = c.next_name.new.reader in
    let named : read_key l.reader ≡ Some (Some k, s) = grind arith in
    let is : c.from_residual-in_err-member.result ≡ Err c.in_err-member.field-0.0 = grind arith in
    broken_part _ _ _ _ _ (value_at depth s) is c.in_err-member.ensures.value (λ none. l.invariant.all ∙ member_refused depth (members_view l.found.entries) k l.reader s named none)

pub read_members-members-preserved : goal.read_members-members-preserved
read_members-members-preserved t c =
    let depth = c.args.depth in
    let l = c.members in
    let old = members_view l.found.entries in
    let k = c.in-Some.name.now in
    let s = c.next_name.new.reader in
    let named : read_key l.reader ≡ Some (Some k, s) = grind arith in
    let v = c.in_ok-member.member in
    let r = c.read_value.new.reader in
    let fewer = read_key-shorter l.reader (Some k) s named in
    let less = c.in_ok-member.ensures.shorter in
    let copied : string_bytes c.in_ok-key.key ≡ k = search rules in
    let inserted : members_view c.insert.new.self.entries ≡ put k (view v) old =
    ap members_view c.in_ok-insert.ensures.entries ∙ members_view-insert_entry l.found.entries c.in_ok-key.key v ∙ ap (λ name. put name (view v) old) copied in record {
      all = l.invariant.all ∙ member_read depth old k l.reader s r (view v) named c.in_ok-member.ensures.value ∙ ap (λ found. members_onto depth found r) (sym inserted);
      shorter = omega (arith, l.invariant.shorter);
    }

pub read_members-returns-clause-members : goal.read_members-returns-clause-members
read_members-returns-clause-members t c =
    let l = c.members in
    l.invariant.all ∙ members_over c.args.depth (members_view l.found.entries) l.reader c.next_name.new.reader (grind arith)

pub read_value-returns-in_err-first-clause-value : goal.read_value-returns-in_err-first-clause-value
read_value-returns-in_err-first-clause-value t c =
    let empty : c.args.reader.now ≡ [] = grind arith in
    let is : c.from_residual.result ≡ Err (Refused NotJson) = grind arith in
    broken _ _ _ _ is (ap (value_at c.args.depth) empty ∙ value_at-empty c.args.depth)

pub value_from-returns-then-depth-eq0-clause-value : goal.value_from-returns-then-depth-eq0-clause-value
value_from-returns-then-depth-eq0-clause-value t c =
    let none : c.args.depth ≡ 0 = omega arith in
    (refl, ap (λ k. value_at c.args.depth (token_of k ∷ c.args.reader.now)) c.in-BeginArray.is ∙ value_at-flat_array c.args.depth c.args.reader.now none)

pub value_from-returns-then-depth-eq0-2-clause-value : goal.value_from-returns-then-depth-eq0-2-clause-value
value_from-returns-then-depth-eq0-2-clause-value t c =
    let none : c.args.depth ≡ 0 = omega arith in
    (refl, ap (λ k. value_at c.args.depth (token_of k ∷ c.args.reader.now)) c.in-BeginObject.is ∙ value_at-flat_object c.args.depth c.args.reader.now none)

pub value_from-returns-in_err-read_items-in-BeginArray-clause-value : goal.value_from-returns-in_err-read_items-in-BeginArray-clause-value
value_from-returns-in_err-read_items-in-BeginArray-clause-value t c =
    let depth = c.args.depth in
    let ts = c.args.reader.now in
    let opened = ap (λ k. value_at depth (token_of k ∷ ts)) c.in-BeginArray.is ∙ value_at-begin_array depth ts (omega arith) in
    let is : c.from_residual-in_err-read_items-in-BeginArray.result ≡ Err c.in_err-read_items-in-BeginArray.field-0.0 = grind arith in
    broken_part _ _ _ _ _ (items_at (depth - 1) ts) is c.in_err-read_items-in-BeginArray.ensures.items (λ none. opened ∙ ap (parse_map array) none)

pub value_from-returns-in_err-read_members-in-BeginObject-clause-value : goal.value_from-returns-in_err-read_members-in-BeginObject-clause-value
value_from-returns-in_err-read_members-in-BeginObject-clause-value t c =
    let depth = c.args.depth in
    let ts = c.args.reader.now in
    let opened = ap (λ k. value_at depth (token_of k ∷ ts)) c.in-BeginObject.is ∙ value_at-begin_object depth ts (omega arith) in
    let is : c.from_residual-in_err-read_members-in-BeginObject.result ≡ Err c.in_err-read_members-in-BeginObject.field-0.0 = grind arith in
    broken_part _ _ _ _ _ (members_at (depth - 1) ts) is c.in_err-read_members-in-BeginObject.ensures.members (λ none. opened ∙ ap (parse_map object) none)

pub value_from-returns-in-Null-clause-value : goal.value_from-returns-in-Null-clause-value
value_from-returns-in-Null-clause-value t c =
    let first = ap (λ k. value_at c.args.depth (token_of k ∷ c.args.reader.now)) c.in-Null.is in
    let seen : view Null ≡ null = search (rules, the_lemmas) in
    first ∙ ap (converted of_json) (value_is c.args.depth _) ∙ ap (λ d. Some (d, c.args.reader.now)) (sym seen)

pub value_from-returns-in-Bool-clause-value : goal.value_from-returns-in-Bool-clause-value
value_from-returns-in-Bool-clause-value t c =
    let first = ap (λ k. value_at c.args.depth (token_of k ∷ c.args.reader.now)) c.in-Bool.is in
    let seen : view (Bool c.in-Bool.b) ≡ boolean c.in-Bool.b = search (rules, the_lemmas) in
    first ∙ ap (converted of_json) (value_is c.args.depth _) ∙ ap (λ d. Some (d, c.args.reader.now)) (sym seen)

pub value_from-returns-in-Some-clause-value : goal.value_from-returns-in-Some-clause-value
value_from-returns-in-Some-clause-value t c =
    let first = ap (λ k. value_at c.args.depth (token_of k ∷ c.args.reader.now)) c.in-Number.is in
    let seen : view (Number c.in-Some.number) ≡ number (number_view c.in-Some.number) = search (rules, the_lemmas) in
    first ∙ ap (converted of_json) (value_is c.args.depth _) ∙ rw (← c.in-Some.ensures, seen)

pub value_from-returns-in-None-clause-value : goal.value_from-returns-in-None-clause-value
value_from-returns-in-None-clause-value t c =
    let first = ap (λ k. value_at c.args.depth (token_of k ∷ c.args.reader.now)) c.in-Number.is in
    (refl, first ∙ ap (converted of_json) (value_is c.args.depth _) ∙ rw (← c.in-None.ensures))

pub value_from-returns-in_ok-from_str-in-String-clause-value : goal.value_from-returns-in_ok-from_str-in-String-clause-value
value_from-returns-in_ok-from_str-in-String-clause-value t c =
    let first = ap (λ k. value_at c.args.depth (token_of k ∷ c.args.reader.now)) c.in-String.is in
    let seen : view (String c.in_ok-from_str-in-String.field-0) ≡ string c.in-String.text.now = search (rules, the_lemmas) in
    first ∙ ap (converted of_json) (value_is c.args.depth _) ∙ ap (λ d. Some (d, c.args.reader.now)) (sym seen)

pub value_from-returns-in_ok-read_items-in-BeginArray-clause-value : goal.value_from-returns-in_ok-read_items-in-BeginArray-clause-value
value_from-returns-in_ok-read_items-in-BeginArray-clause-value t c =
    let depth = c.args.depth in
    let ts = c.args.reader.now in
    let opened = ap (λ k. value_at depth (token_of k ∷ ts)) c.in-BeginArray.is ∙ value_at-begin_array depth ts (omega arith) in
    let found = c.in_ok-read_items-in-BeginArray in
    opened ∙ ap (parse_map array) found.ensures.items ∙ ap (λ d. Some (d, c.read_items.new.reader)) (sym (view-Array found.field-0))

pub value_from-returns-in_ok-read_members-in-BeginObject-clause-value : goal.value_from-returns-in_ok-read_members-in-BeginObject-clause-value
value_from-returns-in_ok-read_members-in-BeginObject-clause-value t c =
    let depth = c.args.depth in
    let ts = c.args.reader.now in
    let opened = ap (λ k. value_at depth (token_of k ∷ ts)) c.in-BeginObject.is ∙ value_at-begin_object depth ts (omega arith) in
    let found = c.in_ok-read_members-in-BeginObject in
    opened ∙ ap (parse_map object) found.ensures.members ∙ ap (λ d. Some (d, c.read_members.new.reader)) (sym (view-Object found.field-0))

pub value_from-returns-in-EndArray-clause-value : goal.value_from-returns-in-EndArray-clause-value
value_from-returns-in-EndArray-clause-value t c =
    let none : value c.args.depth (token_of c.args.first ∷ c.args.reader.now) ≡ None = rw (value_is c.args.depth (token_of c.args.first ∷ c.args.reader.now)) (grind arith) in
    (refl, ap (converted of_json) none)
