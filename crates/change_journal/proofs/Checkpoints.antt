-- An image on one disk, and both disks beside it.
use Rattle.std.proofs.Common.{◌≡◌, inl, inr, ℕ, suc, ◌+◌, ◌<◌, ◌≤◌, ◌^◌, Bool, true, false, List, ◌∷◌, ◌++◌, length, take, drop, refl, sym, ◌∙◌, ap, subst, arith, rules, length-append, append_assoc, Ok}
use Rattle.std.specs.Prelude.{Option, Some, None, bytes_eq, codes}
use Rattle.std.specs.Int.{w64, from_le_bytes, to_le_bytes}
use Rattle.std.proofs.lemmas.Nat.{from_le_bytes-to_le_bytes_8}
use Rattle.std.proofs.lemmas.List.{take_at, drop_at, drop-drop}
use Rattle.std.proofs.lemmas.Bool.Decides.{nat_tests}
use Rattle.std.proofs.lemmas.Slice.Eq.{bytes_eq-Decides}
use Rattle.outside_io.specs.Disks.{Contents, fresh, Told}
use Rattle.change_journal.specs.Format.{Look, closed, bad, opened, look, generation_in, length_in, Walk, walk, end_of, payloads, by_looks, stored, pair_in, stored_pair}
use Rattle.change_journal.specs.First.{AreShort, journal_bytes}
use Rattle.index_image.specs.Image.{state_at}
use Rattle.change_journal.specs.Fits.{HasCount, Holds, IsOlder, IsSettled, alone, image_pair, IsOldOrImage, StandsFor}
use Rattle.change_journal.specs.Shut.{image_disk, is_told, Remade}
use Rattle.change_journal.specs.declared.journal.Journal.{Journal}
use Rattle.change_journal.proofs.Firsts.{walk_of, room_of, walk_is_of, end_is_of, payloads_of, long_journal}
use Rattle.change_journal.proofs.Looks.{look_is, alone_is, first_active, second_active}
use Rattle.change_journal.proofs.Grow.{opened_as}

long_8 : (n : ℕ) → length (to_le_bytes w64 n) ≡ 8
long_8 n = search rules

module _ (g : ℕ) (image : List ℕ) (m : ℕ) (all : List (List ℕ)) (b : ℕ) (positive : 0 < g) (small : g < 2 ^ 64) (short : length image < 2 ^ 64) (shorts : AreShort all) (few : m + length all ≤ 2 ^ 64) where
  abbrev journal : List ℕ
  journal = journal_bytes m all

  abbrev file : List ℕ
  file = suc b ∷ image_disk g image journal

  abbrev end : List ℕ
  end = image ++ journal

  abbrev name : List ℕ
  name = codes "RANKIDX"

  flat : drop 1 file ≡ name ++ (to_le_bytes w64 g ++ (to_le_bytes w64 (length image) ++ end))
  flat = append_assoc name (to_le_bytes w64 g ++ to_le_bytes w64 (length image)) end ∙ ap (λ (l : List ℕ). name ++ l) (append_assoc (to_le_bytes w64 g) (to_le_bytes w64 (length image)) end)

  at_8 : drop 8 file ≡ to_le_bytes w64 g ++ (to_le_bytes w64 (length image) ++ end)
  at_8 = sym (drop-drop 7 1 file) ∙ ap (λ (l : List ℕ). drop 7 l) flat ∙ drop_at name (to_le_bytes w64 g ++ (to_le_bytes w64 (length image) ++ end)) 7 refl

  at_16 : drop 16 file ≡ to_le_bytes w64 (length image) ++ end
  at_16 = sym (drop-drop 8 8 file) ∙ ap (λ (l : List ℕ). drop 8 l) at_8 ∙ drop_at (to_le_bytes w64 g) (to_le_bytes w64 (length image) ++ end) 8 (long_8 g)

  at_24 : drop 24 file ≡ end
  at_24 = sym (drop-drop 8 16 file) ∙ ap (λ (l : List ℕ). drop 8 l) at_16 ∙ drop_at (to_le_bytes w64 (length image)) end 8 (long_8 (length image))

  long : length file ≡ 24 + length image + length journal
  long = omega (
    arith,
    ap length flat,
    length-append name (to_le_bytes w64 g ++ (to_le_bytes w64 (length image) ++ end)),
    length-append (to_le_bytes w64 g) (to_le_bytes w64 (length image) ++ end),
    length-append (to_le_bytes w64 (length image)) end,
    length-append image journal,
    long_journal m all,
    long_8 g,
    long_8 (length image),
  )

  generation_is : generation_in file ≡ g
  unfolding generation_in
  generation_is = ap (λ (l : List ℕ). from_le_bytes w64 (take 8 l)) at_8
      ∙ ap (λ (l : List ℕ). from_le_bytes w64 l) (take_at (to_le_bytes w64 g) (to_le_bytes w64 (length image) ++ end) 8 (long_8 g)) ∙ from_le_bytes-to_le_bytes_8 g small

  length_is : length_in file ≡ length image
  unfolding length_in
  length_is = ap (λ (l : List ℕ). from_le_bytes w64 (take 8 l)) at_16
      ∙ ap (λ (l : List ℕ). from_le_bytes w64 l) (take_at (to_le_bytes w64 (length image)) end 8 (long_8 (length image))) ∙ from_le_bytes-to_le_bytes_8 (length image) short

  pub image_looks : look file ≡ opened g (length image)
  image_looks = look_is file g (length image) (record {
    long = omega (arith, long, long_journal m all);
    gate = grind (arith, nat_tests);
    name = ap (λ (l : List ℕ). bytes_eq l name) (ap (λ (l : List ℕ). take 7 l) flat ∙ take_at name (to_le_bytes w64 g ++ (to_le_bytes w64 (length image) ++ end)) 7 refl) ∙ sym ((bytes_eq-Decides name name).1 refl);
    positive = let t : 0 < generation_in file = omega (arith, generation_is) in grind (arith, nat_tests);
    fits = omega (arith, long, length_is, long_journal m all);
    generation = generation_is;
    size = length_is;
  })

  pub image_is : take (length image) (drop 24 file) ≡ image
  image_is = ap (λ (l : List ℕ). take (length image) l) at_24 ∙ take_at image journal (length image) refl

  pub walk_is : (n : ℕ) → n ≡ m → walk 0 (24 + length image) n (drop (24 + length image) file) ≡ walk_of (24 + length image) all
  walk_is n same = ap (λ (l : List ℕ). walk 0 (24 + length image) n l)
      (sym (drop-drop (length image) 24 file) ∙ ap (λ (l : List ℕ). drop (length image) l) at_24 ∙ drop_at image journal (length image) refl)
      ∙ ap (λ (i : ℕ). walk 0 (24 + length image) i journal) same ∙ walk_is_of (24 + length image) m all shorts few

  pub image_holds : (i : Journal) → i.generation ≡ g → i.gate + 1 ≡ 24 + length image + length journal → HasCount image m → i.count ≡ m + length all → Holds i file
  image_holds i same gate (s, state, count) counts =
      let at : 24 + length image + room_of all ≡ i.gate = omega (arith, gate, long_journal m all) in
      let is = walk_is s.changes count in
      record {
        size = length image;
        state = s;
        looks = image_looks ∙ ap (λ (k : ℕ). opened k (length image)) (sym same);
        image = ap state_at image_is ∙ state;
        ends = ap end_of is ∙ end_is_of (24 + length image) all ∙ ap Ok at;
        counts = omega (arith, counts, count, ap (λ (w : Walk). length (payloads w)) is, ap length (payloads_of (24 + length image) all));
      }

  pub image_stands : (d : ℕ) → HasCount image m → pair_in (alone d file) ≡ Ok (image_pair image all)
  image_stands d (s, state, count) =
      let is = walk_is s.changes count in
      ap pair_in (alone_is d g (length image) file image_looks
      ∙ opened_as d g (length image) file s (24 + length image + room_of all) (ap state_at image_is ∙ state) (ap end_of is ∙ end_is_of (24 + length image) all))
      ∙ ap (λ (im : List ℕ). Ok (record { image = Some im; changes = payloads (walk 0 (24 + length image) s.changes (drop (24 + length image) file)) })) image_is
      ∙ ap (λ (w : Walk). Ok (record { image = Some image; changes = payloads w })) is
      ∙ ap (λ (ps : List (List ℕ)). Ok (record { image = Some image; changes = ps })) (payloads_of (24 + length image) all)

-- both disks

opened_older : (last next l : ℕ) (v : Look) → v ≡ opened last l → last < next → IsOlder next v
opened_older last next l v e lt = subst (IsOlder next) (sym e) lt

closed_of : (v : Look) → IsOlder 0 v → v ≡ closed
closed_of closed older = refl
closed_of (bad k) older = absurd older
closed_of (opened h m) older = absurd (omega arith)

older_more : (last next : ℕ) (v : Look) → last < next → IsOlder last v → IsOlder next v
older_more last next closed lt older = tt
older_more last next (bad k) lt older = absurd older
older_more last next (opened h m) lt older = omega arith

none_stored : (a b : List ℕ) → look a ≡ closed → look b ≡ closed → stored a b ≡ Ok None
unfolding stored by_looks
none_stored a b ea eb = ap (λ (v : Look). by_looks a b v (look b)) ea ∙ ap (λ (v : Look). by_looks a b closed v) eb

module _ (last m : ℕ) (image : List ℕ) (all : List (List ℕ)) (small : last + 1 < 2 ^ 64) (short : length image < 2 ^ 64) (shorts : AreShort all) (few : m + length all ≤ 2 ^ 64) (count : HasCount image m) where
  abbrev records : List ℕ
  records = journal_bytes m all

  new_second : (a x : List ℕ) (b : ℕ) → IsOlder (last + 1) (look a) → x ≡ suc b ∷ image_disk (last + 1) image records → stored_pair a x ≡ Ok (image_pair image all)
  new_second a x b older is =
      let wins = second_active a x (last + 1) (length image) (ap look is ∙ image_looks (last + 1) image m all b (omega arith) small short shorts few) older in
      ap pair_in wins ∙ ap (λ (l : List ℕ). pair_in (alone 1 l)) is ∙ image_stands (last + 1) image m all b (omega arith) small short shorts few 1 count

  new_first : (x b : List ℕ) (k : ℕ) → IsOlder (last + 1) (look b) → x ≡ suc k ∷ image_disk (last + 1) image records → stored_pair x b ≡ Ok (image_pair image all)
  new_first x b k older is =
      let wins = first_active x b (last + 1) (length image) (ap look is ∙ image_looks (last + 1) image m all k (omega arith) small short shorts few) older in
      ap pair_in wins ∙ ap (λ (l : List ℕ). pair_in (alone 0 l)) is ∙ image_stands (last + 1) image m all k (omega arith) small short shorts few 0 count

  -- the active disk is the first, and the second is made anew
  pub remade_second : (l : ℕ) (a b x : List ℕ) → look a ≡ opened last l → IsOlder last (look b) → Remade last (last + 1) image records x → IsOldOrImage image all (stored_pair a b) (stored_pair a x)
  remade_second l a b x e older (inl still) = inl (ap pair_in (first_active a x last l e still ∙ sym (first_active a b last l e older)))
  remade_second l a b x e older (inr (byte, is)) = inr (new_second a x byte (opened_older last (last + 1) l (look a) e (omega arith)) is)

  pub remade_first : (l : ℕ) (a b x : List ℕ) → look b ≡ opened last l → IsOlder last (look a) → Remade last (last + 1) image records x → IsOldOrImage image all (stored_pair a b) (stored_pair x b)
  remade_first l a b x e older (inl still) = inl (ap pair_in (second_active x b last l e still ∙ sym (second_active a b last l e older)))
  remade_first l a b x e older (inr (byte, is)) = inr (new_first x b byte (opened_older last (last + 1) l (look b) e (omega arith)) is)

  pub remade_none : (a b x : List ℕ) → last ≡ 0 → IsOlder 0 (look a) → IsOlder 0 (look b) → Remade last (last + 1) image records x → IsOldOrImage image all (stored_pair a b) (stored_pair x b)
  remade_none a b x zero_is older_a older_b (inl still) =
      let shut_b = closed_of (look b) older_b in
      inl (ap pair_in (none_stored x b (closed_of (look x) (subst (λ (k : ℕ). IsOlder k (look x)) zero_is still)) shut_b ∙ sym (none_stored a b (closed_of (look a) older_a) shut_b)))
  remade_none a b x zero_is older_a older_b (inr (byte, is)) = inr (new_first x b byte (older_more 0 (last + 1) (look b) (omega arith) older_b) is)

  -- once it has succeeded
  pub made_second : (oa pb : Option Contents) (a : List ℕ) → oa ≡ Some (fresh a) → IsOlder (last + 1) (look a) → pb ≡ Some (fresh (1 ∷ image_disk (last + 1) image records))
      → StandsFor oa pb (Ok (image_pair image all))
  made_second oa pb a was older made = (a, 1 ∷ image_disk (last + 1) image records, was, made, new_second a (1 ∷ image_disk (last + 1) image records) 0 older refl)

  pub made_first : (pa ob : Option Contents) (b : List ℕ) → ob ≡ Some (fresh b) → IsOlder (last + 1) (look b) → pa ≡ Some (fresh (1 ∷ image_disk (last + 1) image records))
      → StandsFor pa ob (Ok (image_pair image all))
  made_first pa ob b was older made = (1 ∷ image_disk (last + 1) image records, b, made, was, new_first (1 ∷ image_disk (last + 1) image records) b 0 older refl)

abbrev IsOff : Bool → Type 0
IsOff false = Unit {0}
IsOff true = ⊥

-- a disk that tells its contents, and was made to hold zs with nothing pending
pub now_made : (o p : Option Contents) (ys zs : List ℕ) → is_told p ≡ is_told o → IsSettled p → Told p (λ xs. xs ≡ zs) → o ≡ Some (fresh ys) → p ≡ Some (fresh zs)
now_made o None ys zs alike calm made was = absurd (subst IsOff (alike ∙ ap is_told was) tt)
now_made o (Some s) ys zs alike calm made was = calm ∙ ap (λ (xs : List ℕ). Some (fresh xs)) made

pub holds_older : (j : Journal) (xs : List ℕ) → Holds j xs → IsOlder (j.generation + 1) (look xs)
holds_older j xs h = opened_older j.generation (j.generation + 1) h.size (look xs) h.looks (omega arith)

pub none_older : (last : ℕ) (xs : List ℕ) → IsOlder 0 (look xs) → IsOlder (last + 1) (look xs)
none_older last xs older = older_more 0 (last + 1) (look xs) (omega arith) older
