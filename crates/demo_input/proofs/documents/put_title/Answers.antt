use Rattle.demo_input.proofs.DocumentLemmas.{title_printed}
use Rattle.demo_input.proofs.documents.put_title.Goals as goal

pub returns : goal.returns
returns c =
    title_printed c.args.first c.args.second c.args.third c.args.fourth _ _ _ _ _ _
    c.word-first.ensures c.word-second.ensures c.word-third.ensures c.word-fourth.ensures c.in_ok-write.ensures.bytes
