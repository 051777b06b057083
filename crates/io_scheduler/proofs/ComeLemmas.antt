-- Events come one after another.
use Rattle.std.proofs.Common.{ap, refl, subst, sym, ◌∙◌}
use Rattle.std.specs.Prelude.{◌≡◌, ℕ, List, [], ◌∷◌, ◌++◌, None}
use Rattle.asio_types.specs.declared.code.Code.{Code}
use Rattle.asio_types.specs.declared.code.Code.TheVariants as code
use Rattle.io_rules.specs.declared.event.Event.{Event}
use Rattle.io_rules.specs.declared.event.Event.TheVariants as event
use Rattle.io_rules.specs.declared.limits.Limits.{Limits}
use Rattle.io_rules.specs.Legal.{MayHappen, after, state_of}
use Rattle.io_rules.specs.State.{ContextState}
use Rattle.io_scheduler.specs.Come.{HaveCome, HavePassed, MayCome, NotesAll, behind, completions, with_events}
use Rattle.io_scheduler.specs.Expired.{HasPassed}
use Rattle.io_rules.specs.Timers.{due}

-- the state of the history behind them
pub state_with : (limits : Limits) (events past : List Event) →
    state_of limits (with_events events past) ≡ behind events (state_of limits past)
state_with limits [] past = refl
state_with limits (e ∷ events) past = state_with limits events (e ∷ past)

with_more : (events : List Event) (e : Event) (past : List Event) →
    with_events (events ++ e ∷ []) past ≡ e ∷ with_events events past
with_more [] e past = refl
with_more (x ∷ events) e past = with_more events e (x ∷ past)

may_more : (events : List Event) (e : Event) (s : ContextState) → MayCome events s → MayHappen (behind events s) e →
    MayCome (events ++ e ∷ []) s
may_more [] e s may more = (more, tt)
may_more (x ∷ events) e s may more = (may.0, may_more events e (after x s) may.1 more)

-- one more comes
pub come_more : (limits : Limits) (events first old new : List Event) (e : Event) → HaveCome limits events first old →
    MayHappen (state_of limits old) e → new ≡ e ∷ old → HaveCome limits (events ++ e ∷ []) first new
come_more limits events first old new e come may is = record {
  may = may_more events e (state_of limits first) come.may
      (subst (λ s. MayHappen s e) (ap (state_of limits) come.is ∙ state_with limits events first) may);
  is = is ∙ ap (λ past. e ∷ past) come.is ∙ sym (with_more events e first);
}

pub completions_more : (given : Code) (numbers : List ℕ) (n : ℕ) →
    completions given (numbers ++ n ∷ []) ≡ completions given numbers ++ event.Done n given 0 ∷ []
completions_more given [] n = refl
completions_more given (m ∷ numbers) n = ap (λ events. event.Done m given 0 ∷ events) (completions_more given numbers n)

-- completions leave names and expiries
pub names_behind_all : (given : Code) (numbers : List ℕ) (s : ContextState) → (behind (completions given numbers) s).names ≡ s.names
names_behind_all given [] s = refl
names_behind_all given (n ∷ numbers) s = names_behind_all given numbers (after (event.Done n given 0) s)

pub timers_behind_all : (given : Code) (numbers : List ℕ) (s : ContextState) →
    (behind (completions given numbers) s).timers ≡ s.timers
timers_behind_all given [] s = refl
timers_behind_all given (n ∷ numbers) s = timers_behind_all given numbers (after (event.Done n given 0) s)

-- what a critical section notes
pub notes_all : (limits : Limits) (events before after past new : List Event) → HaveCome limits events past new →
    before ≡ past → after ≡ new → NotesAll limits events before after (state_of limits past) (state_of limits new)
notes_all limits events before after past new come from to = record {
  may = come.may;
  all = to ∙ come.is ∙ ap (with_events events) (sym from);
  from = ap (state_of limits) from;
  to = ap (state_of limits) to;
}

-- the clock has come further, and what was due then has completed
pub have_passed : (limits : Limits) (now : ℕ) (old new : List Event) → HasPassed limits now old new →
    due (state_of limits new) ≡ None → HavePassed now (state_of limits old) (state_of limits new)
have_passed limits now old new passed over = record {
  ops = passed.ops;
  may = passed.come.may;
  is = ap (state_of limits) passed.come.is ∙ state_with limits (event.Passed now ∷ completions code.Ok passed.ops) old;
  over = over;
}
