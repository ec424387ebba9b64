use Rattle.doc_rows.proofs.ApartLemmas.{apart-from}
use Rattle.doc_rows.proofs.laws.texts_stand_apart.Goals as goal

pub returns : goal.returns
returns c = λ number rank texts text. apart-from number rank 0 texts text
