-- What the turns of the reactor leave of what was taken.
use Rattle.std.proofs.Common.{◌≡◌, ℕ, zero, suc, Bool, true, false, List, ◌∷◌, Option, Some, None, length, refl, ap, ◌∙◌, []}
use Rattle.std.specs.List.{slice_set}
use Rattle.session_script.specs.declared.act.Act.{Act}
use Rattle.session_script.specs.declared.act.Act.TheVariants as act
use Rattle.session_script.specs.Script.{ScriptModel, act_of}
use Rattle.session_script.specs.WellFormed.{IsWellFormed}
use Rattle.session_script.proofs.PlacingLemmas.{act_fits}
use Rattle.history_rules.specs.Performing.{performed}
use Rattle.history_rules.specs.Requests.{disconnected, reactor_after_done, reactor_after_take, slot_in, told_off}
use Rattle.history_rules.specs.Settling.{served_below, settled, with_streams_served, with_waits_served}
use Rattle.history_rules.specs.State.{ReactorHalf}
use Rattle.history_rules.specs.Time.{at_last, at_time, reactor_after_last, reactor_after_tick}
use Rattle.history_rules.specs.Untold.{gone}
use Rattle.history_rules.proofs.PerformingLemmas.{performs-by}
use Rattle.stream_rules.specs.declared.queue.Completion.{Completion}

-- serving streams takes nothing
below-taken : (n : ℕ) (r : ReactorHalf) → (served_below n r).taken ≡ r.taken
below-taken zero r = refl
below-taken (suc n) r = below-taken n r

streams-taken : (told : Bool) (r : ReactorHalf) → (with_streams_served told r).taken ≡ r.taken
streams-taken true r = below-taken (length r.queues) r
streams-taken false r = refl

settled-taken : (told : Bool) (r : ReactorHalf) → (settled told r).taken ≡ r.taken
settled-taken told r = streams-taken told (record (with_waits_served r) { whole_turn = true; reached = 0 })

pub tick-taken : (script : ScriptModel) (told : Bool) (r : ReactorHalf) (now : ℕ) →
    (reactor_after_tick script told r now).taken ≡ r.taken
tick-taken script told r now = settled-taken told (at_time script told now r)

pub last-taken : (told : Bool) (r : ReactorHalf) → (reactor_after_last told r).taken ≡ r.taken
last-taken told r = settled-taken told (at_last told r)

-- a take takes one act
pub take-taken : (script : ScriptModel) (told : Bool) (r : ReactorHalf) (a : ℕ) → IsWellFormed script →
    (reactor_after_take script told r a).taken ≡ slice_set r.taken a true
take-taken script told r a well =
    settled-taken told (performed script a r)
    ∙ ap (λ (taken : List Bool). slice_set taken a true)
    (performs-by script a (act_of script a) r (λ it is. act_fits script a well it is)).taken

-- and a completion none
gone-taken : (given : Option Act) (r : ReactorHalf) → (gone given r).taken ≡ r.taken
gone-taken (Some (act.ReadSome a b c d e)) r = refl
gone-taken (Some (act.ReadAll a b c d e)) r = refl
gone-taken (Some (act.Until a b c d e f)) r = refl
gone-taken (Some (act.WriteSome a b c d e)) r = refl
gone-taken (Some (act.WriteAll a b c d e)) r = refl
gone-taken given r = refl

told_off-taken : (script : ScriptModel) (o : ℕ) (r : ReactorHalf) (due : List Completion) →
    (told_off script o r due).taken ≡ r.taken
told_off-taken script o r [] = gone-taken (act_of script o) r
told_off-taken script o r (head ∷ due) = refl

disconnected-taken : (o : ℕ) (slot : Option ℕ) (r : ReactorHalf) → (disconnected o slot r).taken ≡ r.taken
disconnected-taken o None r = refl
disconnected-taken o (Some slot) r = refl

pub done-taken : (script : ScriptModel) (r : ReactorHalf) (o : ℕ) → (reactor_after_done script r o).taken ≡ r.taken
done-taken script r o =
    disconnected-taken o (slot_in (act_of script o)) (record (told_off script o r r.due) { whole_turn = false })
    ∙ told_off-taken script o r r.due
