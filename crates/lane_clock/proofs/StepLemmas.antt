-- Each kind of step on a word may be made by a seat, whatever the table is, and tells what it found.
use Rattle.std.proofs.Common.{◌≡◌, ℕ, ◌+◌, ◌%◌, ◌^◌, ◌<◌, true, set, slice_index, sym, refl, ap, subst}
use Rattle.std.proofs.lemmas.List.{set-get_or}
use Rattle.atomic_table.specs.Table.{State, Me, keeps, step, Allows}
use Rattle.atomic_table.proofs.Lists.{set_again}
use mathlib.Core.Option.{none}
use Rattle.asio_types.specs.declared.event.Event.{Event}
use Rattle.lane_clock.specs.declared.found.Change.{Change}
use Rattle.lane_clock.specs.declared.step.ClockStep.TheVariants.{Draw, Load}
use Rattle.lane_clock.specs.declared.step.View.{View}
use Rattle.lane_clock.specs.ClockWord.{amount, found_of}
use Rattle.lane_clock.specs.Layout.{Layout}
use Rattle.lane_clock.specs.Knowledge.{known_at, steps_at}
use Rattle.lane_clock.specs.Steps.{draw_count, step_count}
use Rattle.lane_clock.specs.Chronicle.{HasOneHistory}
use Rattle.lane_clock.specs.Plays.{step_view, draws, loads, hears}
use Rattle.lane_clock.proofs.KeepLemmas.{steps_keep}
use Rattle.lane_clock.proofs.WordLemmas.{change_of-amount, loaded, drawn_words}

module _ (plan : Layout) {S : Type 0} (slots id : ℕ) (me : Me S View)
    (mine : (known_at me.0.known me.0.number).mine ≡ true) where
  pub may_load : Allows (λ s. HasOneHistory plan {S = S} s) slots id me 0 (λ n. n) (loads (step slots 0 0 0 none) me)
  may_load s kept homes at small =
      let st = Load (found_of (slice_index s.words 0)) in (
        step_view me.0 st,
        keeps,
        tt,
        steps_keep plan s kept id me.0 at st (set s.words 0 (slice_index s.words 0)) s.homes mine
            (ap found_of kept.words.clock)
            (loaded plan kept.history s.words kept.words me.0.number 0 (found_of (slice_index s.words 0))),
        refl,
      )

  drawing : (shown : Event) (c : Change) → step_count draw_count (steps_at me.0.known me.0.number) < 65536 →
      Allows (λ s. HasOneHistory plan {S = S} s) slots id me 0 (λ n. (n + amount c) % 2 ^ 64)
      (draws shown (step slots 0 (amount c) 0 none) me)
  drawing shown c few s kept homes at small =
      let found = found_of (slice_index s.words 0) in
      let st = Draw shown c found in
      let whole = (kept.each id me.0 at).whole me.0.number mine in (
        step_view me.0 st,
        keeps,
        tt,
        steps_keep plan s kept id me.0 at st (set s.words 0 ((slice_index s.words 0 + amount c) % 2 ^ 64)) s.homes mine
            (ap found_of kept.words.clock, subst (λ ss. step_count draw_count ss < 65536) whole few)
            (drawn_words plan kept.history s.words kept.words me.0.number shown c found),
        ap (λ (x : Change). (step_view me.0 (Draw shown x found), me.1)) (sym (change_of-amount c)),
      )

  pub may_draw : (shown : Event) (c : Change) (k : ℕ) → k ≡ amount c → step_count draw_count (steps_at me.0.known me.0.number) < 65536
      → Allows (λ s. HasOneHistory plan {S = S} s) slots id me 0 (λ n. (n + k) % 2 ^ 64) (draws shown (step slots 0 k 0 none) me)
  may_draw shown c k e few =
      subst
      (λ k.
      Allows (λ s. HasOneHistory plan {S = S} s) slots id me 0 (λ n. (n + k) % 2 ^ 64)
      (draws shown (step slots 0 k 0 none) me)) (sym e) (drawing shown c few)

-- a load of any word leaves all as it is, and tells that what was heard agrees
pub may_hear : (plan : Layout) {S : Type 0} (slots id : ℕ) (me : Me S View) (word : ℕ)
    → Allows (λ s. HasOneHistory plan {S = S} s) slots id me word (λ n. n) (hears (step slots word 0 0 none) me)
may_hear plan {S} slots id me word s kept homes at small =
    let same : record { words = set s.words word (slice_index s.words word); homes = s.homes; views = set s.views id me.0 }
    ≡ s
    = λ i. record {
      words = set-get_or s.words word 0 i;
      homes = s.homes;
      views = set_again s.views id me.0 at i;
    } in (
      me.0,
      keeps,
      tt,
      subst (λ (t : State S View). HasOneHistory plan {S = S} t) (sym same) kept,
      (refl, (kept.each id me.0 at).heard),
    )
