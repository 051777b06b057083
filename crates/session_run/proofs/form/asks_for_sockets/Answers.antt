use Rattle.std.proofs.Common.{Some, ap, refl}
use Rattle.session_run.specs.declared.form.Form.TheVariants as forms
use Rattle.session_run.proofs.form.asks_for_sockets.Goals as goal

pub returns-in-Some-Net : goal.returns-in-Some-Net
returns-in-Some-Net c = (
  λ yes. (c.in-Some-Net.ensures.some forms.Net).0 (ap Some c.in-Some-Net.field-0-is),
  λ net. refl,
)
