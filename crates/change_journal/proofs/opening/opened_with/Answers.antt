use Rattle.std.proofs.Common.{rules, ◌≡◌, ◌∙◌, ◌+◌, ◌-◌, ◌≤◌, ℕ, List, length, drop, refl, sym, subst, ap, arith}
use Rattle.std.specs.Prelude.{Option, Some, Err}
use Rattle.index_image.specs.Rows.{image_view}
use Rattle.change_journal.specs.Format.{Walk, shut, broken, walk, found_at}
use Rattle.change_journal.specs.Opens.{number_of, tail_of, behind, TailWithin}
use Rattle.change_journal.specs.declared.opening.Tail.TheVariants.{Shut}
use Rattle.change_journal.specs.declared.opening.Opened.{Opened}
use Rattle.change_journal.proofs.Records.{end_behind, fault_walk, opens, opens_holds}
use Rattle.change_journal.proofs.Fronts.{found_behind}
use Rattle.change_journal.proofs.opening.opened_with.Goals as goal

pub returns-in-Broken-clause-stored : goal.returns-in-Broken-clause-stored
returns-in-Broken-clause-stored c = λ xs (looks, (version, image), bytes).
    let start = 24 + c.args.front.size in
    let rows = image_view c.args.image.rows in
    let within : start ≤ c.in-Broken.place = subst (λ v. TailWithin v start (start + length c.args.bytes.now)) c.in-Broken.is c.in-Ok.ensures.within in
    let tail : tail_of c.in-Ok.read.1 ≡ broken c.in-Broken.place = ap tail_of c.in-Broken.is in
    let w : walk 0 start rows.changes (drop start xs) ≡ behind c.in-Ok.read.0.items (broken c.in-Broken.place) =
    ap (λ (l : List ℕ). walk 0 start rows.changes l) (sym bytes) ∙ c.in-Ok.ensures.walk ∙ ap (λ (v : Walk). behind c.in-Ok.read.0.items v) tail in
    let byte : found_at xs c.in-Broken.place ≡ c.found.result =
    sym (found_behind xs start c.in-Broken.place within) ∙ ap (λ (l : List ℕ). found_at l (c.in-Broken.place - start)) (sym bytes) ∙ sym c.found.ensures in
    fault_walk (number_of c.args.side) c.args.front.generation c.args.front.size rows c.in-Broken.place xs (behind c.in-Ok.read.0.items (broken c.in-Broken.place))
    image w (end_behind c.in-Ok.read.0.items (broken c.in-Broken.place))
    ∙ ap (λ (f : Option ℕ). Err (record { disk = number_of c.args.side; place = c.in-Broken.place; found = f })) byte
    ∙ ap (λ (d : ℕ). Err (record { disk = d; place = c.in-Broken.place; found = c.found.result })) (sym c.number.ensures)

pub overflow_add-journal-2 : goal.overflow_add-journal-2
overflow_add-journal-2 c =
    let start = 24 + c.args.front.size in
    let t : TailWithin (Shut c.in-Shut.gate) start (start + length c.args.bytes.now) = subst (λ v. TailWithin v start (start + length c.args.bytes.now)) c.in-Shut.is c.in-Ok.ensures.within in
    omega (arith, t.1, c.requires.within)

pub overflow_sub-journal : goal.overflow_sub-journal
overflow_sub-journal c =
    let start = 24 + c.args.front.size in
    let t : TailWithin (Shut c.in-Shut.gate) start (start + length c.args.bytes.now) = subst (λ v. TailWithin v start (start + length c.args.bytes.now)) c.in-Shut.is c.in-Ok.ensures.within in
    omega (arith, t.0)

pub returns-clause-stored : goal.returns-clause-stored
returns-clause-stored c = λ xs (looks, (version, image), bytes).
    let start = 24 + c.args.front.size in
    let rows = c.args.image.rows in
    let t : TailWithin (Shut c.in-Shut.gate) start (start + length c.args.bytes.now) = subst (λ v. TailWithin v start (start + length c.args.bytes.now)) c.in-Shut.is c.in-Ok.ensures.within in
    let tail : tail_of c.in-Ok.read.1 ≡ shut c.in-Shut.gate = ap tail_of c.in-Shut.is in
    let w : walk 0 start rows.changes (drop start xs) ≡ behind c.in-Ok.read.0.items (shut c.in-Shut.gate) =
    ap (λ (l : List ℕ). walk 0 start rows.changes l) (sym bytes) ∙ c.in-Ok.ensures.walk ∙ ap (λ (v : Walk). behind c.in-Ok.read.0.items v) tail in
    let o : Opened = record {
      journal = record { active = Some c.args.side; generation = c.args.front.generation; gate = c.in-Shut.gate; count = rows.changes + c.len.result; grown = c.in-Shut.gate + 1 - start };
      active = c.number-2.result;
      image = Some rows;
      version = c.args.image.version;
      image_at = 24;
      changes = c.in-Ok.read.0;
    } in
    opens o (number_of c.args.side) c.args.front.generation c.args.front.size (image_view rows) xs looks image w c.number-2.ensures refl version refl (omega (arith, t.0))

pub returns-clause-holds : goal.returns-clause-holds
returns-clause-holds c = λ xs (looks, (version, image), bytes).
    let start = 24 + c.args.front.size in
    let rows = c.args.image.rows in
    let tail : tail_of c.in-Ok.read.1 ≡ shut c.in-Shut.gate = ap tail_of c.in-Shut.is in
    let w : walk 0 start rows.changes (drop start xs) ≡ behind c.in-Ok.read.0.items (shut c.in-Shut.gate) =
    ap (λ (l : List ℕ). walk 0 start rows.changes l) (sym bytes) ∙ c.in-Ok.ensures.walk ∙ ap (λ (v : Walk). behind c.in-Ok.read.0.items v) tail in
    let count : c.len.result ≡ length c.in-Ok.read.0.items = search rules in
    let counts = ap (λ (k : ℕ). rows.changes + k) count in
    let o : Opened = record {
      journal = record { active = Some c.args.side; generation = c.args.front.generation; gate = c.in-Shut.gate; count = rows.changes + c.len.result; grown = c.in-Shut.gate + 1 - start };
      active = c.number-2.result;
      image = Some rows;
      version = c.args.image.version;
      image_at = 24;
      changes = c.in-Ok.read.0;
    } in
    opens_holds o (number_of c.args.side) c.args.front.generation c.args.front.size (image_view rows) xs looks image w refl counts

pub returns-clause-goes_on : goal.returns-clause-goes_on
returns-clause-goes_on c =
    let start = 24 + c.args.front.size in
    let rows = c.args.image.rows in
    let t : TailWithin (Shut c.in-Shut.gate) start (start + length c.args.bytes.now) = subst (λ v. TailWithin v start (start + length c.args.bytes.now)) c.in-Shut.is c.in-Ok.ensures.within in
    let count : c.len.result ≡ length c.in-Ok.read.0.items = search rules in
    (refl, refl, omega (arith, t.1, c.requires.within), omega arith, (search rules, c.requires.state, ap (λ (k : ℕ). rows.changes + k) count))
