use Rattle.std.proofs.Common.{◌∙◌, ap, length}
use Rattle.group_script.proofs.group.text_length.Goals as goal

pub returns : goal.returns
returns c = ap length (c.as_slice-bytes.ensures.value ∙ c.in_ok-text.ensures.text)
