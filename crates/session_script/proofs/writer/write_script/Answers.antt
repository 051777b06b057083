use Rattle.std.proofs.Common.{◌≡◌, length, sym, ap, subst, arith, rules}
use Rattle.session_script.specs.Grammar.{IsScript}
use Rattle.session_script.specs.Spelling.{spelling_of}
use Rattle.session_script.proofs.ReadingBackLemmas.{written_is_read}
use Rattle.session_script.proofs.writer.write_script.Goals as goal

spelled : (c : goal.In_ok-after_session) → c.after_session.new.out.items ≡ spelling_of c.args.script.now
unfolding spelling_of
spelled c = search rules

pub returns-clause-reads_back : goal.returns-clause-reads_back
returns-clause-reads_back c = subst (λ text. IsScript text c.args.script.now) (sym (spelled c)) c.reads_back.ensures

pub returns-clause-shortest : goal.returns-clause-shortest
returns-clause-shortest c bytes is =
    omega (arith, c.after_session.new.out.ok, ap length (spelled c), (written_is_read bytes c.args.script.now is).1)
