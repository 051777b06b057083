-- Waits that leave one after another, and are listed.
use Rattle.std.proofs.Common.{◌≡◌, ℕ, ◌+◌, ◌≤◌, Bool, not, List, [], ◌∷◌, length, map, filter, refl, ap, sym, subst, ◌∙◌, arith}
use Rattle.stream_rules.specs.declared.queue.Completion.{Completion}
use Rattle.history_rules.specs.Performing.{aborted, is_wait_of}
use Rattle.history_rules.specs.Settling.{sorted_by, waited}
use Rattle.history_rules.specs.Waits.{expiry_in}
use Rattle.history_rules.specs.declared.wait.Wait.{Wait}
use Rattle.proactor_core.specs.Due.{Due, listed}
use Rattle.proactor_core.specs.Waits.{TakesExpired, TakesFirstOf, Waiting, aborts, expired, has_expired, without}
use Rattle.proactor_core.proofs.FilterLemmas.{filter-all, none-passes}
use Rattle.proactor_core.proofs.ListingLemmas.{listed-cons, listed-nil}

-- those that pass the test are on their way from the waits to the list; what they tell is a function of the waits
pub record IsDrainedTo (test : Wait → Bool) (tell : Waiting → List Completion) (first current : Waiting)
    (due list : Due) : Type 0 where
  pub same : current ≡ record first { waits = current.waits }
  pub others : filter (λ wait. not (test wait)) current.waits ≡ filter (λ wait. not (test wait)) first.waits
  pub told : listed (tell current) list ≡ listed (tell first) due
  pub room : length current.waits ≤ list.spare

module _ (test : Wait → Bool) (tell : Waiting → List Completion) (first : Waiting) (due : Due) where
  pub drain-start : length first.waits ≤ due.spare → IsDrainedTo test tell first first due due
  drain-start room = record { same = refl; others = refl; told = refl; room = room }

  pub drain-step : (old new : Waiting) (list : Due) (one : Completion) → IsDrainedTo test tell first old due list →
      tell old ≡ one ∷ tell new → new ≡ record old { waits = new.waits } →
      filter (λ wait. not (test wait)) new.waits ≡ filter (λ wait. not (test wait)) old.waits →
      length new.waits + 1 ≡ length old.waits → IsDrainedTo test tell first new due (listed (one ∷ []) list)
  drain-step old new list one is tells same others fewer =
      let only : Waiting → Waiting = λ w. record w { waits = new.waits } in
      let room = is.room in
      record {
        same = same ∙ ap only is.same;
        others = others ∙ is.others;
        told = listed-cons one (tell new) list ∙ ap (λ cs. listed cs list) (sym tells) ∙ is.told;
        room = omega arith;
      }

  pub drain-waits : (current : Waiting) (list : Due) → IsDrainedTo test tell first current due list →
      filter test current.waits ≡ [] → current ≡ without test first
  drain-waits current list is none =
      let with_waits : List Wait → Waiting = λ ws. record first { waits = ws } in
      let all =
      filter-all (λ wait. not (test wait)) current.waits (λ k d b. ap not (none-passes test current.waits none k d b)) in
      is.same ∙ ap with_waits (sym all ∙ is.others)

  pub drain-list : (current : Waiting) (list : Due) → IsDrainedTo test tell first current due list → tell current ≡ [] →
      list ≡ listed (tell first) due
  drain-list current list is none = sym (listed-nil list) ∙ ap (λ cs. listed cs list) (sym none) ∙ is.told

-- the first of a timer is cancelled
pub drain-first : (timer op : ℕ) (first old new : Waiting) (due list : Due) →
    IsDrainedTo (is_wait_of timer) (aborts (is_wait_of timer)) first old due list → TakesFirstOf timer op old new →
    IsDrainedTo (is_wait_of timer) (aborts (is_wait_of timer)) first new due (listed (aborted op 0 ∷ []) list)
drain-first timer op first old new due list is taken =
    let only : List Wait → Waiting = λ ws. record old { waits = ws } in
    drain-step (is_wait_of timer) (aborts (is_wait_of timer)) first due old new list (aborted op 0) is
    (ap (map (λ wait. aborted wait.op 0)) taken.first)
    (taken.only ∙ ap only (sym (ap (λ (w : Waiting). w.waits) taken.only))) taken.others taken.fewer

-- the first that has expired completes
pub drain-expired : (now op : ℕ) (first old new : Waiting) (due list : Due) →
    IsDrainedTo (has_expired now first.expiries) (expired now) first old due list → TakesExpired now op old new →
    IsDrainedTo (has_expired now first.expiries) (expired now) first new due
    (listed (waited (record { op = op; timer = 0 }) ∷ []) list)
drain-expired now op first old new due list is taken =
    let expiries : old.expiries ≡ first.expiries = ap (λ (w : Waiting). w.expiries) is.same in
    let P : List ℕ → Type 0 = λ es.
    filter (λ wait. not (has_expired now es wait)) new.waits
    ≡ filter (λ wait. not (has_expired now es wait)) old.waits in
    drain-step (has_expired now first.expiries) (expired now) first due old new list
    (waited (record { op = op; timer = 0 })) is taken.first taken.same (subst P expiries taken.others) taken.fewer

-- none has expired
pub expired-none : (now : ℕ) (w : Waiting) → filter (has_expired now w.expiries) w.waits ≡ [] → expired now w ≡ []
expired-none now w none = ap (λ ws. map waited (sorted_by (expiry_in w.expiries) ws)) none
