-- Time passes: what is kept shows the state behind that.
use Rattle.std.proofs.Common.{arith, ap, refl, subst, sym, ◌∙◌}
use Rattle.std.proofs.lemmas.Bool.{ltb-false, true≢false}
use Rattle.std.specs.Prelude.{◌≡◌, ◌≤◌, ℕ, nat_lt, Bool, true, false, List, [], ◌∷◌, ◌++◌, None, if◌then◌else◌}
use Rattle.asio_types.specs.declared.code.Code.TheVariants as code
use Rattle.io_rules.specs.declared.event.Event.{Event}
use Rattle.io_rules.specs.declared.event.Event.TheVariants as event
use Rattle.io_rules.specs.declared.limits.Limits.{Limits}
use Rattle.io_rules.specs.declared.request.Marks.{Marks}
use Rattle.io_rules.specs.Legal.{MayHappen, after, state_of}
use Rattle.io_rules.specs.Names.{Names}
use Rattle.io_rules.specs.State.{ContextState}
use Rattle.io_rules.specs.Timers.{due}
use Rattle.io_strands.specs.declared.ready.ReadyOp.{ReadyOp}
use Rattle.io_strands.specs.Cell.{Cell}
use Rattle.io_jobs.specs.Listed.{JobList}
use Rattle.io_timers.specs.Pending.{Timers}
use Rattle.io_scheduler.specs.declared.counts.Counts.{Counts}
use Rattle.io_scheduler.specs.declared.waiting.Waiting.{Waiting}
use Rattle.io_scheduler.specs.Expired.{HasPassed, HaveExpired, IsExpiredIf}
use Rattle.io_scheduler.specs.Shown.{Shows}
use Rattle.io_scheduler.specs.Waits.{ShowsWaits}
use Rattle.io_scheduler.specs.Come.{HaveCome, completions}
use Rattle.io_scheduler.specs.Tallied.{IsTally}
use Rattle.io_scheduler.specs.declared.tally.Tally.{Tally}
use Rattle.io_scheduler.proofs.ComeLemmas.{come_more, completions_more}
use Rattle.io_scheduler.proofs.TallyLemmas.{tally_still}

pub shows_passed : {H S : Type 0} (marks : H → Marks) (limits : Limits) (counts : Counts) (names : Names)
    (cells : List (Cell H S)) (jobs : JobList (ReadyOp H)) (s : ContextState) (t : ℕ) →
    Shows marks limits counts names cells jobs s →
    Shows marks limits (record counts { clock = t }) names cells jobs (after (event.Passed t) s)
shows_passed marks limits counts names cells jobs s t shows =
    let with_clock : Counts → Counts = λ c. record c { clock = t } in
    record {
      limits_are = shows.limits_are;
      counts_are = ap with_clock shows.counts_are;
      names_are = shows.names_are;
      below = shows.below;
      spares = shows.spares;
      strands = shows.strands;
      there = shows.there;
      rooms = shows.rooms;
      each = shows.each;
      listed = shows.listed;
      own = shows.own;
      own_all = shows.own_all;
      own_room = shows.own_room;
      settled = shows.settled;
      going = shows.going;
    }

pub waits_passed : {H : Type 0} (marks : H → Marks) (limits : Limits) (timers : Timers (Waiting H)) (s : ContextState)
    (t : ℕ) → ShowsWaits marks limits timers s → ShowsWaits marks limits timers (after (event.Passed t) s)
waits_passed marks limits timers s t shows = record {
  timers_are = shows.timers_are;
  places = shows.places;
  waits_are = shows.waits_are;
  rises = shows.rises;
  each = shows.each;
  all = shows.all;
  room = shows.room;
}

-- time never falls
pub may_pass : (s : ContextState) (clock now : ℕ) → s.finishing ≡ false → clock ≡ s.now →
    MayHappen s (event.Passed (if nat_lt now clock then clock else now))
may_pass s clock now going is = record {
  going = going;
  later = subst (λ k. k ≤ (if nat_lt now clock then clock else now)) is (not_before (nat_lt now clock) refl);
}
  where
    not_before : (b : Bool) → nat_lt now clock ≡ b → clock ≤ (if nat_lt now clock then clock else now)
    not_before true less =
        subst (λ c. clock ≤ (if c then clock else now)) (sym less) (omega arith)
    not_before false more =
        subst (λ c. clock ≤ (if c then clock else now)) (sym more) (ltb-false now clock more)

pub tally_passed : (tally : Tally) (s : ContextState) (t : ℕ) → IsTally tally s → IsTally tally (after (event.Passed t) s)
tally_passed tally s t is = tally_still tally s _ is refl refl refl

pub none_yet : (limits : Limits) (past : List Event) → HaveExpired limits past past
none_yet limits past = record { ops = []; come = record { may = tt; is = refl } }

pub one_more : (limits : Limits) (more : Bool) (first old new : List Event) → HaveExpired limits first old →
    IsExpiredIf more limits old new → HaveExpired limits first new
one_more limits true first old new have one = record {
  ops = have.ops ++ one.op ∷ [];
  come =
      subst (λ events. HaveCome limits events first new) (sym (completions_more code.Ok have.ops one.op))
      (come_more limits (completions code.Ok have.ops) first old new (event.Done one.op code.Ok 0) have.come one.may one.is);
}
one_more limits false first old new have one = subst (HaveExpired limits first) (sym one.1) have

-- the clock's reading, and what was due then
pub has_passed : (limits : Limits) (now : ℕ) (first old new : List Event) → MayHappen (state_of limits first) (event.Passed now) →
    old ≡ event.Passed now ∷ first → HaveExpired limits old new → HasPassed limits now first new
has_passed limits now first old new may is have =
    let come = subst (λ past. HaveCome limits (completions code.Ok have.ops) past new) is have.come in
    record { ops = have.ops; come = record { may = (may, come.may); is = come.is } }

pub over_now : (limits : Limits) (more : Bool) (old new : List Event) → IsExpiredIf more limits old new → more ≡ false →
    due (state_of limits new) ≡ None
over_now limits true old new one over = absurd (true≢false over)
over_now limits false old new one over = ap (λ past. due (state_of limits past)) one.1 ∙ one.0
