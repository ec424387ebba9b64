use Rattle.index_settings.proofs.RuleTexts.{texts_name}
use Rattle.index_settings.proofs.laws.texts_name_rules.Goals as goal

pub returns : goal.returns
returns c = texts_name
