use Rattle.std.proofs.Common.{◌≡◌, ℕ, ◌++◌, List, Vec, length, take, sym, ap, subst, ◌∙◌, arith}
use Rattle.std.specs.declared.alloc.Global.{Global}
use Rattle.std.proofs.lemmas.List.{length-append}
use Rattle.sorted_pages.specs.Entries.{IsIncreasing}
use Rattle.sorted_pages.specs.Pages.{flat, RestFull}
use Rattle.sorted_pages.proofs.PageLemmas.{flat-append}
use Rattle.sorted_pages.proofs.WholeLemmas.{rest_append, cut_off}
use Rattle.sorted_pages.proofs.whole.cut_last.Goals as goal

pub returns-clause-entries : goal.returns-clause-entries
returns-clause-entries c =
    let ps = c.args.front.now.pages.items in
    let made = c.in_ok-made.made.items in
    let all : c.append.new.self.items ≡ ps ++ made = c.in-Ok.ensures.items ∙ ap (λ (q : List (Vec ℕ Global)). q ++ made) c.in_ok-reserve.ensures.items in
    ap (λ (q : List (Vec ℕ Global)). flat q ++ c.in_ok-tail.tail.items) all
    ∙ cut_off ps made c.args.last.now.items c.in_ok-tail.tail.items _ (c.in_ok-made.ensures.flat ∙ c.split_at.ensures.front ∙ ap (take _) c.as_slice.ensures.value) c.in_ok-tail.ensures.tail

pub returns-clause-whole : goal.returns-clause-whole
returns-clause-whole c =
    let ps = c.args.front.now.pages.items in
    let made = c.in_ok-made.made.items in
    let all : c.append.new.self.items ≡ ps ++ made = c.in-Ok.ensures.items ∙ ap (λ (q : List (Vec ℕ Global)). q ++ made) c.in_ok-reserve.ensures.items in
    let same = ap (λ (q : List (Vec ℕ Global)). flat q ++ c.in_ok-tail.tail.items) all
    ∙ cut_off ps made c.args.last.now.items c.in_ok-tail.tail.items _ (c.in_ok-made.ensures.flat ∙ c.split_at.ensures.front ∙ ap (take _) c.as_slice.ensures.value) c.in_ok-tail.ensures.tail in
    record {
      rest = subst RestFull (sym all) (rest_append ps made c.requires.whole.rest c.in_ok-made.ensures.full);
      some = λ l. omega (arith, c.in_ok-tail.ensures.tail_len, c.in_ok-tail.tail.ok.0, c.len-len.ensures, c.if-len-le-PART.false);
      up = subst IsIncreasing (sym same) c.requires.whole.up;
    }

pub returns-clause-counted : goal.returns-clause-counted
returns-clause-counted c =
    let ps = c.args.front.now.pages.items in
    let made = c.in_ok-made.made.items in
    let all : c.append.new.self.items ≡ ps ++ made = c.in-Ok.ensures.items ∙ ap (λ (q : List (Vec ℕ Global)). q ++ made) c.in_ok-reserve.ensures.items in
    let long = ap length (ap flat all ∙ flat-append ps made) ∙ length-append (flat ps) (flat made) in
    let came = ap length c.in_ok-made.ensures.flat in
    omega (arith, c.requires.counted, long, came, c.split_at.ensures.front_len, c.saturating_add-front.ensures)
