use Rattle.std.proofs.Common.{◌≡◌, ◌+◌, ◌*◌, ◌≤◌, ◌++◌, length, unwrap_or, vec_len}
use Rattle.std.specs.List.{concat}
use Rattle.unicode_segmentation.specs.Iter.{word_bounds_left}
use Rattle.token_words.specs.Tokens.{tokens, tokens_from}
use Rattle.token_words.proofs.token_list.first_tokens.Given as goal

-- the tokens so far and those of what is left are those of the text
abbrev pub invariant-loop-segment : goal.invariant-loop-segment
invariant-loop-segment l =
    let left = word_bounds_left l.segment-iterator in
    record {
      told : l.list.items ++ tokens_from l.last l.hard l.at left ≡ tokens l.fn.text;
      room : l.at + length (concat left) ≡ length l.fn.text;
      few : vec_len l.list ≤ l.most;
      small : unwrap_or l.last 0 ≤ 8 * vec_len l.list;
    }
