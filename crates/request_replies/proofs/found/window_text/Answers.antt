use Rattle.std.specs.Option.{option_copied}
use Rattle.request_replies.proofs.PrintLemmas.{slice_printed, page_printed}
use Rattle.request_replies.proofs.found.window_text.Goals as goal

pub returns-in-Slice : goal.returns-in-Slice
returns-in-Slice c = rw c.in-Slice.is
    (slice_printed (option_copied c.args.uid) c.args.q.now c.in-Slice.offset c.in-Slice.limit c.args.total _ _ _
    c.in_ok-index.ensures c.in_ok-q.ensures c.in_ok-format-in-Slice.ensures.ok)

pub returns : goal.returns
returns c = rw c.in-Page.is
    (page_printed (option_copied c.args.uid) c.args.q.now c.in-Page.page c.in-Page.per c.args.total _ _ _ _
    c.in_ok-index.ensures c.in_ok-q.ensures c.total_pages-pages.ensures c.in_ok-format-in-Page.ensures.ok)
