use Rattle.std.proofs.Common.{rules, ◌≡◌, ◌∙◌, ◌+◌, ◌-◌, ◌<◌, ◌^◌, [], ◌∷◌, ◌++◌, List, ℕ, length, set, ap, arith}
use Rattle.change_journal.specs.First.{First, gate_or}
use Rattle.change_journal.specs.Format.{entry_bytes}
use Rattle.change_journal.proofs.Firsts.{added_first, first_long}
use Rattle.change_journal.proofs.first.FirstJournal.add.Goals as goal

pub overflow_add-self : goal.overflow_add-self
overflow_add-self c =
    let long = first_long c.self.inside.number c.self.inside.bytes.items c.self.inside.count c.self.invariant in
    let kept : c.keep_gate.new.bytes.items ≡ gate_or c.self.inside.bytes.items = search rules in
    let most : length c.keep_gate.new.bytes.items < 2 ^ 63 = search rules in
    omega (arith, long, most, ap length kept)

pub invariant_of-self-2 : goal.invariant_of-self-2
invariant_of-self-2 c =
    let q = c.self.inside in
    let same = ap (λ (v : First). v.number + length v.payloads) c.self.view_is in
    let small : q.number + q.count < 2 ^ 64 = omega (arith, same, c.requires.room, c.self.invariant.counted) in
    let kept : c.keep_gate.new.bytes.items ≡ gate_or q.bytes.items = search rules in
    let at : c.len-gate.result - 1 ≡ length (gate_or q.bytes.items) - 1 = search rules in
    let items : c.put_record.new.bytes.items ≡ gate_or q.bytes.items ++ entry_bytes (q.number + q.count) c.args.payload.now = search rules in
    (added_first q.number q.bytes.items c.args.payload.now q.count (set c.put_record.new.bytes.items (c.len-gate.result - 1) 1) c.self.invariant c.requires.short small
    (ap (λ (i : ℕ). set c.put_record.new.bytes.items i 1) at ∙ ap (λ (l : List ℕ). set l (length (gate_or q.bytes.items) - 1) 1) items)).1

pub returns-clause-added : goal.returns-clause-added
returns-clause-added c =
    let q = c.self.inside in
    let same = ap (λ (v : First). v.number + length v.payloads) c.self.view_is in
    let small : q.number + q.count < 2 ^ 64 = omega (arith, same, c.requires.room, c.self.invariant.counted) in
    let kept : c.keep_gate.new.bytes.items ≡ gate_or q.bytes.items = search rules in
    let at : c.len-gate.result - 1 ≡ length (gate_or q.bytes.items) - 1 = search rules in
    let items : c.put_record.new.bytes.items ≡ gate_or q.bytes.items ++ entry_bytes (q.number + q.count) c.args.payload.now = search rules in
    (added_first q.number q.bytes.items c.args.payload.now q.count (set c.put_record.new.bytes.items (c.len-gate.result - 1) 1) c.self.invariant c.requires.short small
    (ap (λ (i : ℕ). set c.put_record.new.bytes.items i 1) at ∙ ap (λ (l : List ℕ). set l (length (gate_or q.bytes.items) - 1) 1) items)).0
    ∙ ap (λ (v : First). record { number = v.number; payloads = v.payloads ++ c.args.payload.now ∷ [] }) c.self.view_is
