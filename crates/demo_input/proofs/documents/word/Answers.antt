use Rattle.std.proofs.Common.{rules, ◌<◌, ◌%◌, arith}
use Rattle.demo_input.proofs.TableLemmas.{table_read}
use Rattle.demo_input.proofs.documents.word.Goals as goal

pub returns : goal.returns
returns c =
    let within : c.args.drawn % 16 < 16 = omega arith in
    search (rules, table_read)
