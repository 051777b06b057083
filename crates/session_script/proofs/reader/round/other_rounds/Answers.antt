use Rattle.std.proofs.Common.{sym}
use Rattle.std.proofs.lemmas.Result.{err_from_is_err_and}
use Rattle.session_script.specs.Tokens.{tokens_at}
use Rattle.session_script.specs.Productions.{begins_round, next_round}
use Rattle.session_script.proofs.RepeatingLemmas.{goes_on, is_over, breaks, falls}
use Rattle.session_script.proofs.TurnsLemmas.{next_round_takes, no_round_at_end}
use Rattle.session_script.proofs.reader.round.other_rounds.Goals as goal

pub each_round-smaller : goal.each_round-smaller
each_round-smaller c =
    falls begins_round (next_round c.args.header.now) no_round_at_end (next_round_takes c.args.header.now)
    c.each_round.rounds.items c.next_round.new.rounds.items (tokens_at c.each_round.cursor)
    (tokens_at c.next_round.new.cursor) c.in_ok-next_round.ensures

pub each_round-preserved : goal.each_round-preserved
each_round-preserved c =
    goes_on begins_round (next_round c.args.header.now) no_round_at_end (next_round_takes c.args.header.now)
    c.each_round.rounds.items c.next_round.new.rounds.items (tokens_at c.each_round.cursor)
    (tokens_at c.next_round.new.cursor) _ (sym c.each_round-test.ensures) c.in_ok-next_round.ensures
    c.each_round.invariant

pub returns-in_err-next_round : goal.returns-in_err-next_round
returns-in_err-next_round c =
    let p = err_from_is_err_and c.from_residual.result c.from_residual.ensures.1 in
    rw (p.1, p.2) (breaks begins_round (next_round c.args.header.now) no_round_at_end
    (next_round_takes c.args.header.now) c.in_err-next_round.field-0.0 c.each_round.rounds.items
    (tokens_at c.each_round.cursor) _ (sym c.each_round-test.ensures) c.in_err-next_round.ensures
    c.each_round.invariant)

pub returns : goal.returns
returns c =
    is_over begins_round (next_round c.args.header.now) no_round_at_end (next_round_takes c.args.header.now)
    c.each_round.rounds.items (tokens_at c.each_round.cursor) _ (sym c.each_round-test.ensures) c.each_round.invariant
