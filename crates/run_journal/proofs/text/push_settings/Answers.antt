use Rattle.run_journal.proofs.Texts.{five_writes}
use Rattle.run_journal.proofs.text.push_settings.Goals as goal

pub returns : goal.returns
returns c = five_writes _ _ _ _ _ _ _ _ _ _ _ c.in_ok-push_str-2.ensures.bytes c.in_ok-push_setting-3.ensures c.in_ok-push_setting-2.ensures c.in_ok-push_setting.ensures c.in_ok-push_str.ensures.bytes
