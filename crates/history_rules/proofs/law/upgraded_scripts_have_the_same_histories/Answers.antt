use Rattle.history_rules.proofs.VersionLemmas.{is_legal}
use Rattle.history_rules.proofs.law.upgraded_scripts_have_the_same_histories.Goals as goal

pub returns : goal.returns
returns c script told events =
    (is_legal 2 script told events, is_legal script.version (record script { version = 2 }) told events)
