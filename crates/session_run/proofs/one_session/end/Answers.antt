use Rattle.std.proofs.Common.{Err, ap, refl}
use Rattle.session_run.proofs.WorkLemmas.{said}
use Rattle.session_run.specs.declared.form.Form.TheVariants as forms
use Rattle.session_run.proofs.one_session.end.Goals as goal

pub returns-in-Err-Refused-clause-says : goal.returns-in-Err-Refused-clause-says
returns-in-Err-Refused-clause-says g c =
    let refused = c.in-Err-Refused.refused in
    let why = c.in-Err-Refused.ensures.refused refused (ap Err c.in-Err-Refused.field-0-is) in (
      refused.rule,
      refused.line,
      refused.token,
      (c.in-Some.form, (c.in-Some.ensures.some c.in-Some.form).0 refl, why.0),
      why.1,
      rw c.in-Err-Refused.field-0-is refl,
    )

pub returns-clause-says : goal.returns-clause-says
returns-clause-says g c =
    rw c.ending.ensures
    (said g.H.CompletionHandler.marks _ c.in-Some.form _ c.work-outcome.result.0
    ((c.in-Some.ensures.some c.in-Some.form).0 refl) c.in-Ok.ensures.origin c.work-outcome.ensures.works)

pub returns-clause-upgrade : goal.returns-clause-upgrade
returns-clause-upgrade g c named =
    let same = (c.in-Some.ensures.some forms.Upgrade).1 named in c.work-outcome.ensures.upgrade (cc same)
