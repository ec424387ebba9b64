-- Some sets of the documents of a list, each of which changes.
use Rattle.std.proofs.Common.{◌≡◌, ◌≢◌, ℕ, ◌+◌, ◌<◌, ◌≤◌, zero, suc, List, [], ◌∷◌, ◌++◌, length, get_or, get_or-set_same, get_or-set_other, below_more, Option, Some, None, IfSome, sym, subst, ◌∙◌, arith}
use Rattle.std.proofs.Math.ListN.{set, length-set}
use Rattle.std.proofs.lemmas.List.{get_or_read}
use Rattle.posting_list.specs.declared.part.Part.TheVariants.{All}
use Rattle.posting_list.specs.declared.documents.KeptSet.{KeptSet}
use Rattle.posting_list.specs.Sets.{IsSetOfPassing, is_part, AreSetsOf, AreAfter}

abbrev nothing : KeptSet
nothing = record { part = All; documents = record { ids = []; spare = 0 } }

abbrev pub IsOf : KeptSet → List ℕ → Type 0
IsOf kept entries = IsSetOfPassing (is_part kept.part) kept.documents.ids entries

module _ (R : KeptSet → KeptSet → Type 0) where
  -- the first of the sets have changed so, and the others are as they were
  pub record HaveGone (done : ℕ) (old new : List KeptSet) : Type 0 where
    pub long : length new ≡ length old
    pub first : (k : ℕ) → k < done → k < length old → R (get_or old k nothing) (get_or new k nothing)
    pub other : (k : ℕ) → done ≤ k → get_or new k nothing ≡ get_or old k nothing

  -- one set more has changed
  pub one_more : (done : ℕ) (old new : List KeptSet) (was now : KeptSet) → done < length new → was ≡ get_or new done was → R (get_or new done was) now
      → HaveGone done old new → HaveGone (done + 1) old (set new done now)
  one_more done old new was now inside is gone h = record {
    long = length-set new done now ∙ h.long;
    first = below_more (λ k. k < length old → R (get_or old k nothing) (get_or (set new done now) k nothing)) done
        (λ k low lt. let ne : k ≢ done = omega arith in subst (R (get_or old k nothing)) (sym (get_or-set_other new done k now nothing ne)) (h.first k low lt))
        (λ lt. subst (R (get_or old done nothing)) (sym (get_or-set_same new done now nothing inside))
        (subst (λ before. R before now) (sym is ∙ get_or_read new done was inside is nothing ∙ h.other done (omega arith)) gone));
    other = λ k above. let ne : k ≢ done = omega arith in get_or-set_other new done k now nothing ne ∙ h.other k (omega arith);
  }

  pub all_gone : (before after : List ℕ) → ((old new : KeptSet) → R old new → IsOf old before → IsOf new after) → (old new : List KeptSet) → length new ≡ length old
      → ((k : ℕ) → k < length old → R (get_or old k nothing) (get_or new k nothing)) → AreSetsOf old before → AreSetsOf new after
  all_gone before after step [] [] long each h = tt
  all_gone before after step [] (n ∷ new) long each h = absurd (omega arith)
  all_gone before after step (o ∷ old) [] long each h = absurd (omega arith)
  all_gone before after step (o ∷ old) (n ∷ new) long each h =
      (step o n (each 0 (omega arith)) h.0, all_gone before after step old new (omega arith) (λ k lt. each (suc k) (omega arith)) h.1)

-- a set with the same members is of the same list
abbrev pub IsAlike : KeptSet → KeptSet → Type 0
IsAlike old new = (new.part ≡ old.part) × (new.documents.ids ≡ old.documents.ids)

alike_of : (entries : List ℕ) (old new : KeptSet) → IsAlike old new → IsOf old entries → IsOf new entries
alike_of entries old new same h = subst (λ part. IsSetOfPassing (is_part part) new.documents.ids entries) (sym same.0)
    (subst (λ ids. IsSetOfPassing (is_part old.part) ids entries) (sym same.1) h)

pub alike_set : (entries : List ℕ) (sets : List KeptSet) (i : ℕ) (was now : KeptSet) → i < length sets → IsAlike (get_or sets i was) now
    → AreSetsOf sets entries → AreSetsOf (set sets i now) entries
alike_set entries [] i was now inside same h = absurd (omega arith)
alike_set entries (s ∷ sets) zero was now inside same h = (alike_of entries s now same h.0, h.1)
alike_set entries (s ∷ sets) (suc i) was now inside same h = (h.0, alike_set entries sets i was now (omega arith) same h.1)

-- one set more
pub one_behind : (sets : List KeptSet) (kept : KeptSet) (entries : List ℕ) → AreSetsOf sets entries → IsOf kept entries → AreSetsOf (sets ++ kept ∷ []) entries
one_behind [] kept entries h one = (one, tt)
one_behind (s ∷ sets) kept entries h one = (h.0, one_behind sets kept entries h.1 one)

-- the set at an index
pub set_at : (sets : List KeptSet) (i : ℕ) (kept : KeptSet) (entries : List ℕ) → AreSetsOf sets entries → i < length sets → kept ≡ get_or sets i kept → IsOf kept entries
set_at [] i kept entries h inside is = absurd (omega arith)
set_at (s ∷ sets) zero kept entries h inside is = subst (λ k. IsOf k entries) (sym is) h.0
set_at (s ∷ sets) (suc i) kept entries h inside is = set_at sets i kept entries h.1 (omega arith) is

-- a set of a list has become that of the list after a change
abbrev pub HasChanged : List ℕ → List ℕ → List ℕ → KeptSet → KeptSet → Type 0
HasChanged gone come new was now = (now.part ≡ was.part) × ((entries : List ℕ) → AreAfter gone come entries new
    → IsOf was entries → IsSetOfPassing (is_part was.part) now.documents.ids new)

pub changed_of : (gone come entries new : List ℕ) → AreAfter gone come entries new → (was now : KeptSet) → HasChanged gone come new was now → IsOf was entries → IsOf now new
changed_of gone come entries new after was now change h =
    subst (λ part. IsSetOfPassing (is_part part) now.documents.ids new) (sym change.0) (change.1 entries after h)

pub some_of : {X : Type 0} (P Q : X → Type 0) (r : Option X) → IfSome r P → ((x : X) → P x → Q x) → IfSome r Q
some_of P Q (Some x) h f = f x h
some_of P Q None h f = tt
