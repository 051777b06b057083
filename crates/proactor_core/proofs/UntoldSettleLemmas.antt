-- A turn of a history with untold bytes beside one of a proactor.
use Rattle.std.proofs.Common.{◌≡◌, ℕ, ◌<◌, ◌==◌, true, not, nat_lt, List, [], ◌∷◌, Option, Some, None, length, map, filter, get_or, inl, inr, refl, sym, ap, subst, arith}
use Rattle.std.specs.List.{All}
use Rattle.std.proofs.lemmas.Bool.Decides.{nat_tests}
use Rattle.std.proofs.lemmas.Bool.{cases_lt}
use Rattle.std.proofs.lemmas.List.{get_or_past}
use Rattle.std.proofs.lemmas.List.Elements.{All-nil}
use Rattle.asio_types.specs.declared.code.Code.TheVariants as code
use Rattle.session_script.specs.declared.act.Act.{Act}
use Rattle.session_script.specs.declared.act.Act.TheVariants as act
use Rattle.session_script.specs.Script.{ScriptModel, act_of}
use Rattle.stream_rules.specs.Queue.{Pending}
use Rattle.stream_rules.specs.Serving.{All_bytes, All_of, Reading, Some_bytes, Some_of, Until, Writing}
use Rattle.composed_ops.specs.StreamOperation.{Reads, Writes}
use Rattle.composed_ops.specs.Progress.{IsUnderWay, StreamProgress}
use Rattle.history_rules.specs.Kinds.{reading_of, writing_of}
use Rattle.history_rules.specs.Settling.{due_waits, expiry_of, is_due, sorted_by, waited, with_waits_served}
use Rattle.history_rules.specs.State.{ReactorHalf, StreamQueues, no_queues}
use Rattle.history_rules.specs.declared.wait.Wait.{Wait}
use Rattle.history_rules.specs.Untold.{may_have_moved, reading_place}
use Rattle.proactor_core.specs.Untold.{queues_of_view, turned, unmoved_queues, AreKnown, AreKnownAt, AreToldBy, AreUnderWay, IsKnown, IsReadUnderWay, IsUntoldWith, IsWriteUnderWay, MayAbort, UntoldSettles}
use Rattle.proactor_core.proofs.UntoldGivenLemmas.{below-given, given-known}
use Rattle.proactor_core.proofs.UntoldLikeLemmas.{alike-due, alike-from, alike-kept, forget, known-moved, rested-at, rested-known, IsAlike}

ok-told : (given : Option Act) → may_have_moved given code.Ok 0 0 ≡ true
ok-told None = refl
ok-told (Some (act.ReadAll stream size strand slot filter)) = refl
ok-told (Some (act.WriteAll stream bytes strand slot filter)) = refl
ok-told (Some given) = refl

waited-told : (script : ScriptModel) (waits : List Wait) → AreToldBy script (map waited waits) (map waited waits)
waited-told script [] = tt
waited-told script (wait ∷ waits) = (
  record { is_op = refl; outcome = (refl, ok-told (act_of script wait.op)) },
  waited-told script waits,
)

waits-served : (script : ScriptModel) (mid half : ReactorHalf) → IsAlike script mid half →
    IsAlike script (with_waits_served mid) (with_waits_served half)
waits-served script mid half alike =
    let keeps : ReactorHalf → ReactorHalf = λ r. record r { waits = filter (λ wait. not (is_due r wait)) r.waits } in
    let same : due_waits half ≡ due_waits mid = ap due_waits alike.same in
    let told : AreToldBy script (due_waits half) (due_waits mid) =
    subst (λ own. AreToldBy script own (due_waits mid)) (sym same)
    (waited-told script (sorted_by (expiry_of mid) (filter (is_due mid) mid.waits))) in
    alike-due script (keeps mid) (keeps half) (due_waits half) (due_waits mid) told
    (alike-kept script mid half keeps (λ streams due reached. refl) refl refl alike)

moved-none : (n : ℕ) → n ≡ 0 → (n == 0) ≡ true
moved-none n none = grind (arith, nat_tests)

moved-some : (n size : ℕ) → n < size → nat_lt n size ≡ true
moved-some n size below = grind (arith, nat_tests)

-- a read that is under way
abbrev read_progress : ℕ → Reading → StreamProgress
read_progress moved reading = record { asks = Reads reading; moved = moved; latest = None }

abbrev write_progress : ℕ → Writing → StreamProgress
write_progress moved writing = record { asks = Writes writing; moved = moved; latest = None }

module _ (moved : ℕ) where
  own-read : (own asks : Reading) → Some own ≡ Some asks → IsUnderWay (read_progress moved asks) →
      IsUnderWay (read_progress moved own)
  own-read own asks is under_way = let same : own ≡ asks = cc in
      subst (λ r. IsUnderWay (read_progress moved r)) (sym same) under_way

  own-write : (own asks : Writing) → Some own ≡ Some asks → IsUnderWay (write_progress moved asks) →
      IsUnderWay (write_progress moved own)
  own-write own asks is under_way = let same : own ≡ asks = cc in
      subst (λ w. IsUnderWay (write_progress moved w)) (sym same) under_way

  read-aborts : (given : Act) (asks : Reading) → reading_of given ≡ Some asks →
      IsUnderWay (read_progress moved asks) → may_have_moved (Some given) code.Aborted 0 moved ≡ true
  read-aborts (act.ReadSome stream size strand slot filter) asks is under_way = let own =
      own-read (Some_bytes size) asks is under_way in moved-none moved own.before
  read-aborts (act.ReadAll stream size strand slot filter) asks is under_way = let own =
      own-read (All_bytes size) asks is under_way in moved-some moved size own.missing
  read-aborts (act.Until stream delimiter max strand slot filter) asks is under_way = let own =
      own-read (Until delimiter max) asks is under_way in moved-none moved own.before
  read-aborts given asks is under_way = absurd (cc)

  write-aborts : (given : Act) (asks : Writing) → writing_of given ≡ Some asks →
      IsUnderWay (write_progress moved asks) → may_have_moved (Some given) code.Aborted 0 moved ≡ true
  write-aborts (act.WriteSome stream bytes strand slot filter) asks is under_way = let own =
      own-write (Some_of bytes) asks is under_way in moved-none moved own.before
  write-aborts (act.WriteAll stream bytes strand slot filter) asks is under_way = let own =
      own-write (All_of bytes) asks is under_way in moved-some moved (length bytes) own.missing
  write-aborts given asks is under_way = absurd (cc)

reads-may-abort : (script : ScriptModel) (stream : ℕ) (reads : List (Pending Reading)) →
    All (IsKnown script reading_of stream) reads → All IsReadUnderWay reads → All (MayAbort script) reads
reads-may-abort script stream reads known under_way = λ k d b.
    let read = get_or reads k d in
    let is = known k d b in
    subst (λ (o : Option Act). may_have_moved o code.Aborted 0 read.moved ≡ true) (sym is.is_act)
    (read-aborts read.moved is.act read.asks is.asks (under_way k d b))

writes-may-abort : (script : ScriptModel) (stream : ℕ) (writes : List (Pending Writing)) →
    All (IsKnown script writing_of stream) writes → All IsWriteUnderWay writes → All (MayAbort script) writes
writes-may-abort script stream writes known under_way = λ k d b.
    let write = get_or writes k d in
    let is = known k d b in
    subst (λ (o : Option Act). may_have_moved o code.Aborted 0 write.moved ≡ true) (sym is.is_act)
    (write-aborts write.moved is.act write.asks is.asks (under_way k d b))

none-under-way : AreUnderWay no_queues
none-under-way = record { reads = All-nil IsReadUnderWay; writes = All-nil IsWriteUnderWay }

under-way-at : (queues : List StreamQueues) → All AreUnderWay queues → (n : ℕ) → AreUnderWay (queues_of_view queues n)
under-way-at queues all n =
    elim (cases_lt n (length queues)) [
      | inl within ↦ all n no_queues within
      | inr past ↦ subst AreUnderWay (sym (get_or_past queues n no_queues past)) none-under-way
    ]

pub untold-settles : UntoldSettles
untold-settles script mid half count reached streams served due unserved below under_way =
    let waited = with_waits_served mid in
    let alike = waits-served script mid half (alike-from script mid half unserved) in
    let gives = below-given below in
    let after = turned streams served due reached mid in
    let ends = λ (r : ReactorHalf). let w : ReactorHalf = record r { whole_turn = true; reached = 0 } in w in
    let own = ends (forget alike.streams alike.due alike.reached waited) in
    let rested : AreKnown script (map unmoved_queues mid.queues) =
    λ n. subst (AreKnownAt script n) (sym (rested-at mid.queues n))
    (rested-known script n (queues_of_view mid.queues n) (alike.good n).known) in
    let staying : AreKnown script (map unmoved_queues served) = given-known script gives.in_order rested in
    let known = λ (n : ℕ). known-moved script n (queues_of_view served n)
    (subst (AreKnownAt script n) (rested-at served n) (staying n)) in
    let moving = λ (n : ℕ). under-way-at served under_way n in
    let untold : IsUntoldWith script gives.given after own = record {
      fixed = waited.due;
      due = gives.listed;
      told = alike.told;
      place = reading_place count;
      in_order = gives.in_order;
      known = rested;
      aborts = λ n. record {
        reads = reads-may-abort script n (queues_of_view served n).reads (known n).reads (moving n).reads;
        writes = writes-may-abort script n (queues_of_view served n).writes (known n).writes (moving n).writes;
      };
      others = refl;
    } in
    (gives.given, subst (IsUntoldWith script gives.given after) (sym (ap ends alike.same)) untold)
