use Rattle.trace_check.proofs.ending.write_note.Goals as goal

pub returns-in-Refused-clause-whole : goal.returns-in-Refused-clause-whole
returns-in-Refused-clause-whole g c = rw (c.in-Refused.is, ← c.number.ensures) c.write_refusal.ensures.whole

pub returns-in-Refused-clause-part : goal.returns-in-Refused-clause-part
returns-in-Refused-clause-part g c = rw (c.in-Refused.is, ← c.number.ensures) c.write_refusal.ensures.part

pub returns-in-BadTrace-clause-whole : goal.returns-in-BadTrace-clause-whole
returns-in-BadTrace-clause-whole g c = rw c.in-BadTrace.is c.write_numbered.ensures.whole

pub returns-in-BadTrace-clause-part : goal.returns-in-BadTrace-clause-part
returns-in-BadTrace-clause-part g c = rw c.in-BadTrace.is c.write_numbered.ensures.part
