use Rattle.std.proofs.Common.{subst, sym}
use Rattle.http_handlers.specs.Accepting.{AcceptsBy}
use Rattle.http_handlers.proofs.accepting.accepted.Goals as goal

pub returns-in-Eof-clause-accepts : goal.returns-in-Eof-clause-accepts
returns-in-Eof-clause-accepts c =
    subst (λ given. AcceptsBy given c.args.service c.args.made c.args.now c.args.io.now c.pause.new.io) (sym c.in-Eof.is)
    c.pause.ensures.pauses

pub returns-in-NotFound-clause-accepts : goal.returns-in-NotFound-clause-accepts
returns-in-NotFound-clause-accepts c =
    subst (λ given. AcceptsBy given c.args.service c.args.made c.args.now c.args.io.now c.pause-in-NotFound.new.io) (sym c.in-NotFound.is)
    c.pause-in-NotFound.ensures.pauses

pub returns-in-Broken-clause-accepts : goal.returns-in-Broken-clause-accepts
returns-in-Broken-clause-accepts c =
    subst (λ given. AcceptsBy given c.args.service c.args.made c.args.now c.args.io.now c.pause-in-Broken.new.io) (sym c.in-Broken.is)
    c.pause-in-Broken.ensures.pauses

pub returns-in-Reset-clause-accepts : goal.returns-in-Reset-clause-accepts
returns-in-Reset-clause-accepts c =
    subst (λ given. AcceptsBy given c.args.service c.args.made c.args.now c.args.io.now c.pause-in-Reset.new.io) (sym c.in-Reset.is)
    c.pause-in-Reset.ensures.pauses
