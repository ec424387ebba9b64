use Rattle.request_replies.proofs.PrintLemmas.{results_printed}
use Rattle.request_replies.proofs.several.results_text.Goals as goal

pub returns : goal.returns
returns c = λ ds are.
    results_printed c.args.results.now ds _ _ _ c.in_ok-text.ensures.ok c.in_ok-put_results.ensures c.in_ok-push_str.ensures.bytes are
