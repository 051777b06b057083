-- What is so of those who sleep, where some are called or there is nothing to do.
use Rattle.std.proofs.Common.{arith, ap, refl, subst, sym, ◌∙◌}
use Rattle.std.proofs.lemmas.Bool.{true≢false}
use Rattle.std.specs.Prelude.{◌≡◌, ◌<◌, ◌==◌, ◌&&◌, ◌||◌, ℕ, nat_lt, not, Bool, true, false, Option, Some, None}
use Rattle.io_rules.specs.State.{ContextState}
use Rattle.io_timers.proofs.FoundLemmas.{apart_test}
use Rattle.io_context.specs.declared.sleepers.Sleepers.{Sleepers}
use Rattle.io_context.specs.declared.sleepers.Watch.{Watch}
use Rattle.io_context.specs.declared.sleepers.Watch.TheVariants as watch
use Rattle.io_context.specs.Sleeping.{IsIdle, IsInTime, SleepWhileIdle, first_expiry, is_any, is_called, is_quiet, watches}

in_time_off : (w : Watch) (first : Option ℕ) → watches w ≡ false → IsInTime w first
in_time_off watch.Nobody first off = tt
in_time_off watch.Called first off = tt
in_time_off (watch.Until expiry) first off = absurd (true≢false off)

and_false : (b : Bool) → (b && false) ≡ false
and_false true = refl
and_false false = refl

none_any : (asleep : ℕ) (w : Watch) → asleep ≡ 0 → watches w ≡ false → (nat_lt 0 asleep || watches w) ≡ false
none_any asleep w none off = ap (λ n. nat_lt 0 n || watches w) none ∙ off

not_quiet : (called : ℕ) (w : Watch) → 0 < called → ((called == 0) && not (is_called w)) ≡ false
not_quiet called w some =
    ap (λ b. b && not (is_called w)) (apart_test called 0 (λ none. omega (arith, some, none)))

pub nobody_sleeps : (sleepers : Sleepers) (s : ContextState) (listed : Bool) → sleepers.asleep ≡ 0 → watches sleepers.watch ≡ false →
    SleepWhileIdle sleepers s listed
nobody_sleeps sleepers s listed none off = record {
  idle = λ quiet any. absurd (true≢false (sym any ∙ none_any sleepers.asleep sleepers.watch none off));
  watched = λ quiet some. absurd (omega (arith, none, some));
  in_time = in_time_off sleepers.watch (first_expiry s) off;
}

pub watcher_called : (sleepers : Sleepers) (s : ContextState) (listed : Bool) → sleepers.watch ≡ watch.Called → SleepWhileIdle sleepers s listed
watcher_called sleepers s listed called =
    let busy : is_quiet sleepers ≡ false =
    ap (λ w. (sleepers.called == 0) && not (is_called w)) called ∙ and_false (sleepers.called == 0) in
    record {
      idle = λ quiet any. absurd (true≢false (sym quiet ∙ busy));
      watched = λ quiet some. absurd (true≢false (sym quiet ∙ busy));
      in_time = subst (λ w. IsInTime w (first_expiry s)) (sym called) tt;
    }

pub busy_sleepers : (sleepers : Sleepers) (s : ContextState) (listed : Bool) → is_quiet sleepers ≡ false →
    IsInTime sleepers.watch (first_expiry s) → SleepWhileIdle sleepers s listed
busy_sleepers sleepers s listed busy in_time = record {
  idle = λ quiet any. absurd (true≢false (sym quiet ∙ busy));
  watched = λ quiet some. absurd (true≢false (sym quiet ∙ busy));
  in_time = in_time;
}

pub one_called : (sleepers : Sleepers) (s : ContextState) (listed : Bool) → 0 < sleepers.called →
    IsInTime sleepers.watch (first_expiry s) → SleepWhileIdle sleepers s listed
one_called sleepers s listed some in_time =
    busy_sleepers sleepers s listed (not_quiet sleepers.called sleepers.watch some) in_time

pub idle_watched : (sleepers : Sleepers) (s : ContextState) (listed : Bool) → IsIdle s listed → watches sleepers.watch ≡ true →
    IsInTime sleepers.watch (first_expiry s) → SleepWhileIdle sleepers s listed
idle_watched sleepers s listed idle on in_time = record {
  idle = λ quiet any. idle;
  watched = λ quiet some. on;
  in_time = in_time;
}
