-- Before the first event.
use Rattle.std.proofs.Common.{arith, ap, refl, subst, sym, ◌∙◌, ⊎_elim}
use Rattle.std.proofs.lemmas.Bool.{cases_lt}
use Rattle.std.proofs.lemmas.Bool.{true≢false}
use Rattle.std.proofs.lemmas.List.{get_or-replicate, get_or_past, length-replicate}
use Rattle.std.specs.Prelude.{◌≡◌, ◌<◌, ◌≤◌, ℕ, ◌+◌, ◌^◌, zero, suc, false, List, [], ◌∷◌, ◌++◌, None, Some, map, replicate}
use Rattle.std.specs.List.{slice_index_or}
use Rattle.io_rules.specs.declared.limits.Limits.{Limits}
use Rattle.io_rules.specs.declared.request.Marks.{Marks}
use Rattle.io_rules.specs.Names.{first_names, new_place}
use Rattle.io_rules.specs.State.{first_state, new_stream, new_timer}
use Rattle.io_strands.specs.Cell.{Cell, is_there, may_begin, vacant}
use Rattle.io_strands.specs.Numbered.{numbered}
use Rattle.io_jobs.specs.Listed.{no_jobs}
use Rattle.io_scheduler.specs.Counted.{new_counts}
use Rattle.io_timers.specs.Pending.{no_waits}
use Rattle.io_rules.specs.declared.operation.Side.{Side}
use Rattle.io_rules.specs.Cancelling.{is_out_for}
use Rattle.io_scheduler.specs.Streams.{IsPlain, ShowsStreams}
use Rattle.io_scheduler.specs.Waits.{ShowsWaits}
use Rattle.io_streams.specs.Pending.{no_streams}
use Rattle.io_scheduler.specs.Shown.{Shows, ShowsCell, cell_at, is_used_place, lane_of_place, room_of}
use Rattle.io_scheduler.proofs.StreamingLemmas.{none_first}

map-replicate : {A B : Type 0} (f : A → B) (n : ℕ) (x : A) → map f (replicate n x) ≡ replicate n (f x)
map-replicate f zero x = refl
map-replicate f (suc n) x = ap (λ rest. f x ∷ rest) (map-replicate f n x)

-- no strand is anywhere
pub vacant_at : {H S : Type 0} (P : Cell H S → Type 0) (n room place : ℕ) → ((r : ℕ) → P (vacant r)) →
    P (cell_at (replicate n (vacant room)) place)
vacant_at {H = H} {S = S} P n room place each =
    ⊎_elim (λ (lt : place < n). subst P
    (sym (get_or-replicate n place (vacant {H = H} {S = S} room) (vacant {H = H} {S = S} 0) lt)) (each room))
    (λ (le : n ≤ place).
    let many = length-replicate n (vacant {H = H} {S = S} room) in
    subst P (sym
    (get_or_past (replicate n (vacant {H = H} {S = S} room)) place (vacant {H = H} {S = S} 0)
    (omega (arith, le, many)))) (each 0))
    (cases_lt place n)

pub vacant_idle : {H S : Type 0} (cells : List (Cell H S)) (n room : ℕ) → cells ≡ replicate n (vacant room) →
    (place : ℕ) → is_there (cell_at cells place) ≡ false
vacant_idle cells n room are place =
    subst (λ (xs : List (Cell _ _)). is_there (cell_at xs place) ≡ false) (sym are)
    (vacant_at (λ c. is_there c ≡ false) n room place (λ r. refl))

pub last_idle : {H S : Type 0} (xs : List (Cell H S)) (y : Cell H S) →
    ((place : ℕ) → is_there (cell_at (xs ++ y ∷ []) place) ≡ false) → is_there y ≡ false
last_idle [] y idle = idle 0
last_idle (x ∷ xs) y idle = last_idle xs y (λ k. idle (suc k))

pub rest_idle : {H S : Type 0} (xs : List (Cell H S)) (y : Cell H S) →
    ((place : ℕ) → is_there (cell_at (xs ++ y ∷ []) place) ≡ false) → (place : ℕ) → is_there (cell_at xs place) ≡ false
rest_idle [] y idle place = refl
rest_idle (x ∷ xs) y idle zero = idle 0
rest_idle (x ∷ xs) y idle (suc place) = rest_idle xs y (λ k. idle (suc k)) place

pub shows_first : {H S : Type 0} (marks : H → Marks) (limits : Limits) →
    Shows {S = S} marks limits (new_counts limits) (first_names limits)
    (replicate limits.strands (vacant limits.operations)) (no_jobs limits.strands limits.operations) (first_state limits)
shows_first marks limits =
    let n = limits.strands in let r = limits.operations in
    record {
      limits_are = refl;
      counts_are = refl;
      names_are = refl;
      below = tt;
      spares = tt;
      strands = map-replicate numbered n (vacant r);
      there = map-replicate is_there n (vacant r) ∙ sym (map-replicate is_used_place n new_place);
      rooms = map-replicate room_of n (vacant r);
      each = λ k. vacant_at (λ c. ShowsCell marks [] 0 (lane_of_place (replicate n new_place) k) c) n r k
          (λ m. record { ready = tt; tied = omega arith; idle = λ isnt. refl });
      listed = sym (map-replicate may_begin n (vacant r));
      own = tt;
      own_all = refl;
      own_room = refl;
      settled = refl;
      going = refl;
    }

pub waits_first : {H : Type 0} (marks : H → Marks) (limits : Limits) →
    ShowsWaits marks limits (no_waits limits.timers limits.operations) (first_state limits)
waits_first marks limits = record {
  timers_are = refl;
  places = length-replicate limits.timers new_timer ∙ sym (length-replicate limits.timers new_place);
  waits_are = refl;
  rises = tt;
  each = tt;
  all = ap (λ n. 0 + n) (none_first limits.streams);
  room = omega arith;
}

pub streams_first : {H : Type 0} (marks : H → Marks) (limits : Limits) → limits.streams < 2 ^ 32 →
    ShowsStreams marks limits (no_streams limits.streams limits.operations) (first_state limits)
streams_first marks limits small = record {
  streams_are = refl;
  places = length-replicate limits.streams new_stream ∙ sym (length-replicate limits.streams new_place);
  few = subst (λ n. n < 2 ^ 32) (sym (length-replicate limits.streams new_stream)) small;
  each = tt;
  all = sym (none_first limits.streams);
  room = omega arith;
  plain = λ name. new_at limits.streams name.place;
  heads = λ name side op head. absurd (none_is op head.numbered);
  busy = λ name side out none. true≢false (sym out ∙ none_out limits.streams name.place side);
}
  where
    none_is : {X : Type 0} (x : X) → None ≡ Some x → ⊥
    none_is x is = cc

    none_out : (n place : ℕ) (side : Side) →
        is_out_for side (slice_index_or (replicate n new_stream) place new_stream).out ≡ false
    none_out zero place side = refl
    none_out (suc n) zero side = refl
    none_out (suc n) (suc place) side = none_out n place side

    new_at : (n place : ℕ) → IsPlain (slice_index_or (replicate n new_stream) place new_stream)
    new_at zero place = record { held = refl; searched = refl; connects = refl }
    new_at (suc n) zero = record { held = refl; searched = refl; connects = refl }
    new_at (suc n) (suc place) = new_at n place
