use Rattle.std.proofs.Common.{◌≡◌, ◌++◌, drop, string_bytes, false}
use Rattle.request_replies.specs.Replies.{joined}
use Rattle.request_replies.proofs.several.put_results.Given as goal

-- the text so far, with the results that are left, is the text at first with all results
abbrev pub invariant-loop-result : goal.invariant-loop-result
invariant-loop-result l =
    string_bytes l.text ++ joined l.later (drop l.result-index l.results)
    ≡ string_bytes l.initial.text ++ joined false l.results
