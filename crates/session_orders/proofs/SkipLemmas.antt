-- Which places of completions a walk may go past.
use Rattle.std.proofs.Common.{◌≡◌, ◌<◌, ◌≤◌, ◌+◌, ◌-◌, ◌*◌, ◌/◌, ◌%◌, ◌⊎◌, inl, inr, ℕ, Bool, Option, Some, None, List, length, slice_get, arith, refl, ap, sym, subst, ◌∙◌}
use Rattle.std.proofs.lemmas.Bool.{cases_lt, eq-eqb, lt-ltb}
use Rattle.asio_types.specs.declared.code.Code.{Code}
use Rattle.asio_types.specs.declared.code.Code.TheVariants as code
use Rattle.asio_types.specs.declared.event.Event.{Event}
use Rattle.asio_types.specs.declared.event.Event.TheVariants as event
use Rattle.history_book.specs.Replay.{Replayed}
use Rattle.history_rules.specs.Legal.{MayHappen, state_of}
use Rattle.history_rules.specs.Requests.{MayTell}
use Rattle.history_rules.specs.State.{ReactorHalf}
use Rattle.history_rules.specs.Untold.{MayGiveUntold}
use Rattle.session_orders.specs.Place.{asked_of, base_of, place_of, sizes}
use Rattle.session_orders.specs.Walk.{HasCome, NoneBetween}
use Rattle.session_orders.specs.declared.bounds.ReactorKind.{ReactorKind}
use Rattle.session_orders.proofs.ComeLemmas.{may_in}
use Rattle.session_orders.proofs.OwnLemmas.{own_stands}
use Rattle.session_orders.proofs.PlaceLemmas.{behind_base}
use Rattle.session_orders.proofs.SizeLemmas.{size_of}
use Rattle.session_script.specs.declared.act.Act.{Act}
use Rattle.session_script.specs.declared.act.Act.TheVariants as act
use Rattle.session_script.specs.Script.{ScriptModel, act_of}
use Rattle.stream_rules.specs.declared.queue.Completion.{Completion}

-- what may complete at all may complete with reset and no bytes, or if it asks for none with ok
gives_probed : (r : ReactorHalf) (o : ℕ) (act : Option Act) (given : Code) (size : ℕ) →
    MayGiveUntold r o act given size → MayGiveUntold r o act code.Reset 0 ⊎ MayGiveUntold r o act code.Ok 0
gives_probed r o None given size gives = absurd gives
gives_probed r o (Some (act.ReadSome stream most strand slot filter)) given size gives =
    inl (record { head = gives.head; ahead = gives.ahead; allowed = refl })
gives_probed r o (Some (act.ReadAll stream all strand slot filter)) given size gives =
    elim (cases_lt 0 all) [
      | inl some ↦ inl (record { head = gives.head; ahead = gives.ahead; allowed = lt-ltb 0 all some })
      | inr none ↦
          inr (record { head = gives.head; ahead = gives.ahead; allowed = eq-eqb 0 all (omega (arith, none)) })
    ]
gives_probed r o (Some (act.Until stream delimiter max strand slot filter)) given size gives =
    inl (record { head = gives.head; ahead = gives.ahead; allowed = refl })
gives_probed r o (Some (act.WriteSome stream bytes strand slot filter)) given size gives =
    inl (record { head = gives.head; ahead = gives.ahead; allowed = refl })
gives_probed r o (Some (act.WriteAll stream bytes strand slot filter)) given size gives =
    elim (cases_lt 0 (length bytes)) [
      | inl some ↦ inl (record { head = gives.head; ahead = gives.ahead; allowed = lt-ltb 0 (length bytes) some })
      | inr none ↦
          inr (record { head = gives.head; ahead = gives.ahead; allowed = eq-eqb 0 (length bytes) (omega (arith, none)) })
    ]
gives_probed r o (Some (act.Post strand)) given size gives = absurd gives
gives_probed r o (Some (act.Defer strand)) given size gives = absurd gives
gives_probed r o (Some (act.Dispatch strand)) given size gives = absurd gives
gives_probed r o (Some (act.Expires timer after)) given size gives = absurd gives
gives_probed r o (Some (act.ExpiresAt timer at)) given size gives = absurd gives
gives_probed r o (Some (act.Wait timer strand slot filter)) given size gives = absurd gives
gives_probed r o (Some (act.Cancel timer)) given size gives = absurd gives
gives_probed r o (Some (act.CancelOne timer)) given size gives = absurd gives
gives_probed r o (Some (act.Emit slot types)) given size gives = absurd gives
gives_probed r o (Some (act.Close stream)) given size gives = absurd gives
gives_probed r o (Some (act.Release guard)) given size gives = absurd gives
gives_probed r o (Some act.Stop) given size gives = absurd gives

none_or_some : {A X : Type 0} (x : X) → None ≡ Some x → A
none_or_some x wrong = cc

-- nothing is due, and neither of the two may come
pub nothing_given : (script : ScriptModel) (told : Bool) (r : ReactorHalf) (o : ℕ) (how : Code) (size : ℕ) →
    slice_get r.due 0 ≡ None → (MayTell script told r o code.Reset 0 → ⊥) → (MayTell script told r o code.Ok 0 → ⊥) →
    MayTell script told r o how size → ⊥
nothing_given script told r o how size none reset ok (inl next) = none_or_some next.head (sym none ∙ next.due)
nothing_given script told r o how size none reset ok (inr given) =
    elim (gives_probed r o (act_of script o) how size given.given) [
      | inl gives ↦ reset (inr (record { untold = given.untold; fixed = given.fixed; given = gives }))
      | inr gives ↦ ok (inr (record { untold = given.untold; fixed = given.fixed; given = gives }))
    ]

same_some : (first second : Completion) → Some first ≡ Some second → first ≡ second
same_some first second same = cc

-- another operation is due
pub another_due : (script : ScriptModel) (told : Bool) (r : ReactorHalf) (o : ℕ) (code : Code) (size : ℕ)
    (next : Completion) → slice_get r.due 0 ≡ Some next → (next.op ≡ o → ⊥) → MayTell script told r o code size → ⊥
another_due script told r o code size next due other (inl given) =
    let one : given.head ≡ next = same_some given.head next (sym given.due ∙ due) in
    other (ap (λ head. head.op) (sym one) ∙ given.is_op)
another_due script told r o code size next due other (inr given) =
    none_or_some next (sym (ap (λ all. slice_get all 0) given.fixed) ∙ due)

-- an operation that can't complete has nothing at its places

pub none_of_op : (script : ScriptModel) (kind : ReactorKind) (r : Replayed) (path : List Event) (place op : ℕ) →
    HasCome script kind r path → base_of script ≤ place → op ≡ (place - base_of script) / sizes / 7 →
    ((code : Code) (size : ℕ) → MayTell r.script r.told r.state.reactor op code size → ⊥) →
    NoneBetween script kind (state_of script kind.told path) place (base_of script + (op + 1) * 7 * sizes)
none_of_op script kind r path place op come past is none event asked may above below =
    let n = place_of script kind event - base_of script in
    let found =
    own_stands script n event
    (behind_base script kind (state_of script kind.told path) event come.fits (size_of script kind.told path) asked may
    (omega (arith, past, above))) in
    let at : n / sizes / 7 ≡ op = omega (arith, past, is, above, below) in
    let here =
    subst (λ e. MayHappen r.script r.told r.state e) (sym found.is) ((may_in script kind r path event come).1 may) in
    none found.code (n % sizes) (subst (λ k. MayTell r.script r.told r.state.reactor k found.code (n % sizes)) at here.next)

-- more bytes than are asked for have no places

pub none_of_size : (script : ScriptModel) (kind : ReactorKind) (r : Replayed) (path : List Event) (place row : ℕ) →
    HasCome script kind r path → base_of script ≤ place → row ≡ (place - base_of script) / sizes →
    asked_of script (row / 7) < (place - base_of script) % sizes →
    NoneBetween script kind (state_of script kind.told path) place (base_of script + (row + 1) * sizes)
none_of_size script kind r path place row come past is more event asked may above below =
    let n = place_of script kind event - base_of script in
    let found =
    own_stands script n event
    (behind_base script kind (state_of script kind.told path) event come.fits (size_of script kind.told path) asked may
    (omega (arith, past, above))) in
    let at : n / sizes ≡ row = omega (arith, past, is, above, below) in
    let within : n % sizes ≤ asked_of script (row / 7) =
    subst (λ k. n % sizes ≤ asked_of script (k / 7)) at found.within in
    let later : (place - base_of script) % sizes ≤ n % sizes = omega (arith, past, is, above, at) in
    omega (arith, within, more, later)
