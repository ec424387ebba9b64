-- What a search shows beside its hits, and what it reads.
use Rattle.std.proofs.Common.{◌≡◌, ◌+◌, Bool, true, false, cond, List, [], length, None, Result, Ok, Err, sym, ap, subst}
use Rattle.std.specs.Result.{IsErrAnd}
use Rattle.search_base.specs.declared.fault.Fault.{Fault}
use Rattle.search_base.specs.declared.fault.Fault.TheVariants as fault
use Rattle.bucket_sort.specs.declared.log.Opening.{Opening}
use Rattle.bucket_sort.specs.Opens.{LogState, Opens, is_starved}
use Rattle.rule_buckets.proofs.OpenLemmas.{opens-nothing}
use Rattle.search_base.specs.Terms.{HaveSame}
use Rattle.search_base.specs.TermView.{TermView}
use Rattle.search_call.specs.SearchView.{SearchView}
use Rattle.search_settings.specs.SearchFaults.{search_fault}
use Rattle.index_changes.specs.Index.{Index}
use Rattle.index_core.specs.Fetches.{compared, documents_needed}
use Rattle.index_core.specs.Found.{asked}
use Rattle.index_core.specs.Looked.{unless_refused}

-- terms that are shown or not
pub terms-same : (b : Bool) (shown terms other : List TermView) → shown ≡ cond b terms [] → HaveSame terms other → HaveSame shown (cond b other [])
terms-same true shown terms other is h = subst (λ ts. HaveSame ts other) (sym is) h
terms-same false shown terms other is h = subst (λ ts. HaveSame ts []) (sym is) (record { there = λ term t. t; back = λ term t. t })

-- where memory is wanting before a bucket is opened
pub opens-none-starved : {T R : Type 0} (r : Result T (Fault R)) (Q : Fault R → Type 0) → ((f : Fault R) → Q f → f ≡ fault.NoMemory) → (all : List Opening) (log : LogState) → IsErrAnd r Q
    → Opens (is_starved r) all log log
opens-none-starved (Ok x) Q is all log h = absurd h
opens-none-starved {T} {R} (Err f) Q is all log h = subst (λ why. Opens (is_starved {A = T} {R = R} (Err why)) all log log) (sym (is f h)) (opens-nothing all log)

-- a search that is not refused
pub needed-is : (index : Index) (call : SearchView) → search_fault index.settings call ≡ None → documents_needed index call ≡ compared index call + length (asked index call)
needed-is index call none = ap (λ o. unless_refused o (compared index call + length (asked index call)) 0) none
