-- What a call that opens buckets does to a log and to a count of openings, by how it ends.
use Rattle.std.proofs.Common.{◌≡◌, ◌+◌, ◌≤◌, Bool, true, false, List, [], length, Option, Some, None, refl, sym, ap, subst, append-nil, arith}
use Rattle.std.specs.Prelude.{IsErrAnd, Result, Ok, Err, is_err}
use Rattle.bucket_sort.specs.declared.log.Opening.{Opening}
use Rattle.bucket_sort.specs.Opens.{LogState, Opens}
use Rattle.bucket_sort.specs.Told.{and_then}

told-nothing : (told : Option (List Opening)) → and_then told [] ≡ told
told-nothing None = refl
told-nothing (Some all) = ap Some (append-nil all)

-- nothing was opened yet
pub opens-nothing : (all : List Opening) (log : LogState) → Opens true all log log
opens-nothing all log = (
  record { gained = []; others = all; parts = refl; told = sym (told-nothing log.told) },
  record { low = omega arith; high = omega arith },
)

-- and there was nothing to open
pub opens-none : (b : Bool) (log : LogState) → Opens b [] log log
opens-none true log = opens-nothing [] log
opens-none false log = (sym (told-nothing log.told), omega arith)

-- what opened all opened some
pub opens-some : (b : Bool) (all : List Opening) (old new : LogState) → Opens b all old new → Opens true all old new
opens-some true all old new h = h
opens-some false all old new (told, opened) = (
  record { gained = all; others = []; parts = sym (append-nil all); told = told },
  record { low = omega (arith, opened); high = omega (arith, opened) },
)

pub opens-either : (b : Bool) (all : List Opening) (old new : LogState) → Opens false all old new → Opens b all old new
opens-either true all old new h = opens-some false all old new h
opens-either false all old new h = h

-- a call that failed opened some
pub opens-failed : {T E : Type 0} (Q : E → Type 0) (r : Result T E) (all : List Opening) (old new : LogState) → IsErrAnd r Q → Opens true all old new
    → Opens (is_err r) all old new
opens-failed Q (Ok x) all old new failed h = absurd failed
opens-failed Q (Err e) all old new failed h = h

-- no more than all
pub opens-at_most : (b : Bool) (all : List Opening) (old new : LogState) → Opens b all old new → new.opened ≤ old.opened + length all
opens-at_most true all old new h = h.1.high
opens-at_most false all old new (told, opened) = omega (arith, opened)

-- the same by another name
pub opens-same : (b : Bool) (all same : List Opening) (old new : LogState) → all ≡ same → Opens b all old new → Opens b same old new
opens-same b all same old new is h = subst (λ some. Opens b some old new) is h
