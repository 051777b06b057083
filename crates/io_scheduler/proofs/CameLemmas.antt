-- What a system call gave brings an operation further, and it goes on: nothing but a system call settles it
-- then, either.
use Rattle.std.proofs.Common.{ap, refl, sym, ◌∙◌}
use Rattle.std.specs.Prelude.{◌≡◌, ℕ, ◌+◌, nat_le, Bool, true, false, Option, Some, None, if◌then◌else◌}
use Rattle.asio_types.specs.declared.code.Code.TheVariants as code
use Rattle.io_rules.specs.declared.gave.Gave.{Gave}
use Rattle.io_rules.specs.declared.gave.Gave.TheVariants as gave
use Rattle.io_rules.specs.declared.name.Name.{Name}
use Rattle.io_rules.specs.declared.op.Phase.TheVariants as phase
use Rattle.io_rules.specs.declared.operation.Operation.{Operation}
use Rattle.io_rules.specs.declared.operation.Operation.TheVariants as operation
use Rattle.io_rules.specs.Serving.{Served, served_on, stays}
use Rattle.io_rules.specs.State.{StreamState}
use Rattle.io_rules.proofs.StrandLemmas.{by_test}
use Rattle.io_scheduler.specs.declared.returning.Came.TheVariants as came
use Rattle.io_scheduler.specs.declared.settling.Gets.{Gets}
use Rattle.io_scheduler.specs.Back.{made_of}
use Rattle.io_scheduler.specs.Returned.{came_all, came_of, came_on, settles_with}
use Rattle.io_scheduler.specs.Settling.{gets_at_once, gets_if}
use Rattle.io_scheduler.specs.Streams.{IsPlain}
use Rattle.io_scheduler.proofs.ServingLemmas.{as_served, served_is}

settles_on : (gets : Gets) (more : ℕ) → came.Settles gets ≡ came.On more → ⊥
settles_on gets more is = cc

some_none : (gets : Gets) → Some gets ≡ None → ⊥
some_none gets is = cc

on_same : (moved more : ℕ) → came.On moved ≡ came.On more → moved ≡ more
on_same moved more is = cc

-- it goes on
pub record GoesOn (kind : Operation) (moved more : ℕ) (cancelled : Bool) : Type 0 where
  pub open_still : cancelled ≡ false
  pub gets : (linked : Bool) → gets_at_once linked kind moved ≡ None → gets_at_once linked kind more ≡ None

on_by : (kind : Operation) (moved more : ℕ) (cancelled : Bool) → came_on moved cancelled ≡ came.On more →
    GoesOn kind moved more cancelled
on_by kind moved more true is = absurd (settles_on _ more is)
on_by kind moved more false is = record {
  open_still = refl;
  gets = λ linked none. ap (gets_at_once linked kind) (sym (on_same moved more is)) ∙ none;
}

on_open : (moved more : ℕ) (cancelled : Bool) → came_on moved cancelled ≡ came.On more → cancelled ≡ false
on_open moved more true is = absurd (settles_on _ more is)
on_open moved more false is = refl

on_moved : (moved more : ℕ) (cancelled : Bool) → came_on moved cancelled ≡ came.On more → moved ≡ more
on_moved moved more true is = absurd (settles_on _ more is)
on_moved moved more false is = on_same moved more is

-- not all that it asked for has moved
record Lacks (size more : ℕ) (cancelled : Bool) : Type 0 where
  pub open_still : cancelled ≡ false
  pub fewer : nat_le size more ≡ false

all_on : (size moved more : ℕ) (cancelled : Bool) → came_all size moved cancelled ≡ came.On more → Lacks size more cancelled
all_on size moved more cancelled is =
    by_test (nat_le size moved)
    (λ all.
    absurd (settles_on _ more
    (sym (ap (λ b. if b then settles_with code.Ok size else came_on moved cancelled) all) ∙ is)))
    (λ fewer.
    let rest = sym (ap (λ b. if b then settles_with code.Ok size else came_on moved cancelled) fewer) ∙ is in
    record {
      open_still = on_open moved more cancelled rest;
      fewer = ap (nat_le size) (sym (on_moved moved more cancelled rest)) ∙ fewer;
    })

read_more : (linked : Bool) (name : Name) (size moved more : ℕ) → nat_le size more ≡ false →
    gets_at_once linked (operation.ReadAll name size) moved ≡ None →
    gets_at_once linked (operation.ReadAll name size) more ≡ None
read_more true name size moved more fewer none = ap (λ b. gets_if b code.Ok size) fewer
read_more false name size moved more fewer none = absurd (some_none _ none)

write_more : (linked : Bool) (name : Name) (size moved more : ℕ) →
    gets_at_once linked (operation.WriteAll name size) moved ≡ None →
    gets_at_once linked (operation.WriteAll name size) more ≡ None
write_more true name size moved more none = none
write_more false name size moved more none = absurd (some_none _ none)

pub goes_on : (kind : Operation) (given : Gave) (moved more : ℕ) (cancelled : Bool) →
    came_of kind given moved cancelled ≡ came.On more → GoesOn kind moved more cancelled
goes_on kind gave.WouldBlock moved more cancelled is = on_by kind moved more cancelled is
goes_on operation.Post (gave.Moved size) moved more cancelled is = absurd (settles_on _ more is)
goes_on operation.Defer (gave.Moved size) moved more cancelled is = absurd (settles_on _ more is)
goes_on operation.Dispatch (gave.Moved size) moved more cancelled is = absurd (settles_on _ more is)
goes_on (operation.Wait timer) (gave.Moved size) moved more cancelled is = absurd (settles_on _ more is)
goes_on (operation.ReadSome name most) (gave.Moved size) moved more cancelled is = absurd (settles_on _ more is)
goes_on (operation.ReadAll name most) (gave.Moved size) moved more cancelled is =
    let lacks = all_on most (moved + size) more cancelled is in
    record { open_still = lacks.open_still; gets = λ linked none. read_more linked name most moved more lacks.fewer none }
goes_on (operation.ReadUntil name most) (gave.Moved size) moved more cancelled is = absurd (settles_on _ more is)
goes_on (operation.WriteSome name most) (gave.Moved size) moved more cancelled is = absurd (settles_on _ more is)
goes_on (operation.WriteAll name most) (gave.Moved size) moved more cancelled is =
    let lacks = all_on most (moved + size) more cancelled is in
    record { open_still = lacks.open_still; gets = λ linked none. write_more linked name most moved more none }
goes_on (operation.Accept listener) (gave.Moved size) moved more cancelled is = absurd (settles_on _ more is)
goes_on (operation.Connect name) (gave.Moved size) moved more cancelled is = absurd (settles_on _ more is)
goes_on kind (gave.Found size end) moved more cancelled is = on_by kind moved more cancelled is
goes_on kind (gave.Failed given) moved more cancelled is = absurd (settles_on _ more is)
goes_on kind gave.Made moved more cancelled is = absurd (settles_on _ more is)
goes_on kind gave.Linked moved more cancelled is = absurd (settles_on _ more is)

-- then nothing was made
pub none_made : (kind : Operation) (given : Gave) (reserved : Option Name) (moved more : ℕ) (cancelled : Bool) →
    came_of kind given moved cancelled ≡ came.On more → made_of given reserved ≡ None
none_made kind gave.WouldBlock reserved moved more cancelled is = refl
none_made kind (gave.Moved size) reserved moved more cancelled is = refl
none_made kind (gave.Found size end) reserved moved more cancelled is = refl
none_made kind (gave.Failed given) reserved moved more cancelled is = refl
none_made kind gave.Made reserved moved more cancelled is = absurd (settles_on _ more is)
none_made kind gave.Linked reserved moved more cancelled is = refl

-- ---- it is still then

settled_pending : (gets : Gets) (moved : ℕ) (cancelled : Bool) → phase.Settled gets.code gets.size ≡ phase.Pending moved cancelled → ⊥
settled_pending gets moved cancelled is = cc

pub none_gets : (gets : Option Gets) (moved held : ℕ) (cancelled : Bool) →
    as_served gets moved cancelled held ≡ stays moved cancelled held → gets ≡ None
none_gets None moved held cancelled is = refl
none_gets (Some gets) moved held cancelled is =
    absurd (settled_pending gets moved cancelled (ap (λ (it : Served). it.phase) is))

pub still_on : (stream : StreamState) (kind : Operation) (moved more : ℕ) (cancelled : Bool) → IsPlain stream →
    GoesOn kind moved more cancelled → served_on stream moved cancelled kind ≡ stays moved cancelled stream.held →
    served_on stream more cancelled kind ≡ stays more cancelled stream.held
still_on stream kind moved more cancelled plain on is =
    let none = none_gets (gets_at_once stream.linked kind moved) moved stream.held cancelled
    (sym (served_is stream moved cancelled plain kind) ∙ is) in
    served_is stream more cancelled plain kind
    ∙ ap (λ g. as_served g more cancelled stream.held) (on.gets stream.linked none)
