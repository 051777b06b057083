-- The next completion of a proactor may be told in a history with untold bytes.
use Rattle.std.proofs.Common.{◌≡◌, ℕ, ◌≤◌, false, List, [], ◌∷◌, ◌++◌, Option, Some, None, map, drop, inl, inr, refl, sym, ap, subst, ◌∙◌}
use Rattle.std.specs.List.{All, slice_get}
use Rattle.std.specs.Option.{option_map}
use Rattle.std.proofs.lemmas.List.Elements.{All-head}
use Rattle.asio_types.specs.declared.code.Code.{Code}
use Rattle.session_script.specs.declared.act.Act.{Act}
use Rattle.session_script.specs.declared.act.Act.TheVariants as act
use Rattle.session_script.specs.Script.{ScriptModel, act_of}
use Rattle.stream_rules.specs.declared.queue.Completion.{Completion}
use Rattle.stream_rules.specs.Queue.{Pending}
use Rattle.stream_rules.specs.Serving.{All_bytes, All_of, Reading, Some_bytes, Some_of, Until, Writing}
use Rattle.stream_rules.specs.Stream.{Stream}
use Rattle.history_rules.specs.Kinds.{reading_of, stream_of, writing_of}
use Rattle.history_rules.specs.Requests.{disconnected, reactor_after_done, slot_in, told_off}
use Rattle.history_rules.specs.State.{ReactorHalf, StreamQueues}
use Rattle.history_rules.specs.Untold.{gone, head_of, may_give_read, may_give_write, read_gone, reading_place, write_gone, writing_place, MayGiveRead, MayGiveUntold, MayGiveWrite}
use Rattle.proactor_core.specs.Untold.{none_given, queues_of_view, read_given, unmoved_queues, without_read, without_write, write_given, AreGiven, AreKnown, AreKnownAt, AreToldBy, IsFirstGiven, IsKnown, IsUntoldWith, MayAbortAll, TellAlike, UntoldTells}
use Rattle.proactor_core.proofs.UntoldGivenLemmas.{All-drop}
use Rattle.proactor_core.proofs.UntoldLikeLemmas.{each-set}

-- an operation that was told leaves its slot
untold-off : (script : ScriptModel) (given : List Completion) (op : ℕ) (slot : Option ℕ) (mid half : ReactorHalf) →
    IsUntoldWith script given mid half → IsUntoldWith script given (disconnected op slot mid)
    (disconnected op slot half)
untold-off script given op None mid half untold = untold
untold-off script given op (Some slot) mid half untold = record {
  fixed = untold.fixed;
  due = untold.due;
  told = untold.told;
  place = untold.place;
  in_order = untold.in_order;
  known = untold.known;
  aborts = untold.aborts;
  others = ap (disconnected op (Some slot)) untold.others;
}

All-first : {X : Type 0} (P : X → Type 0) (xs : List X) (x : X) → slice_get xs 0 ≡ Some x → All P xs → P x
All-first P [] x is all = absurd (cc)
All-first P (y ∷ xs) x is all = let same : y ≡ x = cc in subst P same (All-head P y xs all)

-- what a reading operation gives, and what goes
record IsRead (given : Act) (stream : ℕ) (asks : Reading) : Type 0 where
  gives : (r : ReactorHalf) (op : ℕ) (code : Code) (size : ℕ) → MayGiveRead r op stream asks code size →
      MayGiveUntold r op (Some given) code size
  goes : (r : ReactorHalf) → gone (Some given) r ≡ read_gone stream r

read-here : (given : Act) (stream here : ℕ) (asks own : Reading) → Some own ≡ Some asks → Some here ≡ Some stream →
    IsRead given here own → IsRead given stream asks
read-here given stream here asks own is on read =
    let same : own ≡ asks = cc in
    let there : here ≡ stream = cc in
    subst (IsRead given stream) same (subst (λ s. IsRead given s own) there read)

reads-are : (given : Act) (stream : ℕ) (asks : Reading) → reading_of given ≡ Some asks →
    stream_of given ≡ Some stream → IsRead given stream asks
reads-are (act.ReadSome here size strand slot filter) stream asks is on =
    read-here (act.ReadSome here size strand slot filter) stream here asks (Some_bytes size) is on
    (record { gives = λ r op code n may. may; goes = λ r. refl })
reads-are (act.ReadAll here size strand slot filter) stream asks is on =
    read-here (act.ReadAll here size strand slot filter) stream here asks (All_bytes size) is on
    (record { gives = λ r op code n may. may; goes = λ r. refl })
reads-are (act.Until here delimiter max strand slot filter) stream asks is on =
    read-here (act.Until here delimiter max strand slot filter) stream here asks (Until delimiter max) is on
    (record { gives = λ r op code n may. may; goes = λ r. refl })
reads-are given stream asks is on = absurd (cc)

-- a writing one likewise
record IsWrite (given : Act) (stream : ℕ) (asks : Writing) : Type 0 where
  gives : (r : ReactorHalf) (op : ℕ) (code : Code) (size : ℕ) → MayGiveWrite r op stream asks code size →
      MayGiveUntold r op (Some given) code size
  goes : (r : ReactorHalf) → gone (Some given) r ≡ write_gone stream r

write-here : (given : Act) (stream here : ℕ) (asks own : Writing) → Some own ≡ Some asks → Some here ≡ Some stream →
    IsWrite given here own → IsWrite given stream asks
write-here given stream here asks own is on write =
    let same : own ≡ asks = cc in
    let there : here ≡ stream = cc in
    subst (IsWrite given stream) same (subst (λ s. IsWrite given s own) there write)

writes-are : (given : Act) (stream : ℕ) (asks : Writing) → writing_of given ≡ Some asks →
    stream_of given ≡ Some stream → IsWrite given stream asks
writes-are (act.WriteSome here bytes strand slot filter) stream asks is on =
    write-here (act.WriteSome here bytes strand slot filter) stream here asks (Some_of bytes) is on
    (record { gives = λ r op code n may. may; goes = λ r. refl })
writes-are (act.WriteAll here bytes strand slot filter) stream asks is on =
    write-here (act.WriteAll here bytes strand slot filter) stream here asks (All_of bytes) is on
    (record { gives = λ r op code n may. may; goes = λ r. refl })
writes-are given stream asks is on = absurd (cc)

is-head : {Asks : Type 0} (queue : List (Pending Asks)) (head : Pending Asks) (op : ℕ) →
    slice_get queue 0 ≡ Some head → op ≡ head.op → head_of queue ≡ Some op
is-head {Asks = Asks} queue head op is same = ap (option_map (λ (pending : Pending Asks). pending.op)) is
    ∙ ap (λ n. Some n) (sym same)

module _ (script : ScriptModel) (mid : ReactorHalf) (streams : List Stream) (queues : List StreamQueues)
    (reached : ℕ) where
  -- what the history has
  abbrev own_half : List Completion → ReactorHalf
  own_half due = record mid { streams = streams; queues = queues; due = due; reached = reached }

  -- what is due for the history too
  tell-fixed : (given : List Completion) (own : Completion) (due : List Completion) (told : Completion)
      (fixed rest : List Completion) (place : ℕ) → mid.due ≡ told ∷ rest → rest ≡ fixed ++ given →
      AreToldBy script (own ∷ due) (told ∷ fixed) → AreGiven reached queues given place
      (map unmoved_queues mid.queues) → AreKnown script queues → MayAbortAll script mid.queues →
      TellAlike script told mid (own_half (own ∷ due))
  tell-fixed given own due told fixed rest place is after are in_order known aborts =
      let op = told.op in
      let slot = slot_in (act_of script op) in
      let left : ReactorHalf = record mid { due = rest; whole_turn = false } in
      let half : ReactorHalf = record (own_half due) { whole_turn = false } in
      let goes : reactor_after_done script mid op ≡ disconnected op slot left =
      ap (λ d. let r : ReactorHalf = record (told_off script op mid d) { whole_turn = false } in
      disconnected op slot r) is in
      let untold : IsUntoldWith script given left half = record {
        fixed = fixed;
        due = after;
        told = are.1;
        place = place;
        in_order = in_order;
        known = known;
        aborts = aborts;
        others = refl;
      } in
      record {
        told = inl (record { head = own; due = refl; is_op = sym are.0.is_op; outcome = are.0.outcome });
        after = (
          given,
          subst (λ m. IsUntoldWith script given m (disconnected op slot half)) (sym goes)
              (untold-off script given op slot left half untold),
        );
      }

  -- what a stream gave
  tell-given : (done : Completion) (rest : List Completion) (place stream_place : ℕ) (left : List StreamQueues) →
      mid.due ≡ done ∷ rest → MayGiveUntold (own_half []) done.op
      (act_of script done.op) done.outcome.0 done.outcome.1 →
      gone (act_of script done.op) (own_half []) ≡ record (own_half []) { queues = left; reached = stream_place } →
      AreGiven stream_place left rest place (map unmoved_queues mid.queues) → AreKnown script left →
      MayAbortAll script mid.queues → TellAlike script done mid (own_half [])
  tell-given done rest place stream_place left is may goes in_order known aborts =
      let op = done.op in
      let slot = slot_in (act_of script op) in
      let after : ReactorHalf = record mid { due = rest; whole_turn = false } in
      let half : ReactorHalf = record (own_half []) { queues = left; reached = stream_place; whole_turn = false } in
      let ends = λ (r : ReactorHalf). let w : ReactorHalf = record r { whole_turn = false } in
      disconnected op slot w in
      let first : reactor_after_done script mid op ≡ disconnected op slot after =
      ap (λ d. ends (told_off script op mid d)) is in
      let second : reactor_after_done script (own_half []) op ≡ disconnected op slot half = ap ends goes in
      let untold : IsUntoldWith script rest after half = record {
        fixed = [];
        due = refl;
        told = tt;
        place = place;
        in_order = in_order;
        known = known;
        aborts = aborts;
        others = refl;
      } in
      record {
        told = inr (record { untold = refl; fixed = refl; given = may });
        after = (
          rest,
          subst (λ m. IsUntoldWith script rest m (reactor_after_done script (own_half []) op)) (sym first)
              (subst (λ h. IsUntoldWith script rest (disconnected op slot after) h) (sym second)
              (untold-off script rest op slot after half untold)),
        );
      }

  -- the streams gave it
  tell-in-order : {given : List Completion} {from place : ℕ} {first : List StreamQueues} (head : Completion)
      (rest : List Completion) → AreGiven from first given place (map unmoved_queues mid.queues) → from ≡ reached →
      first ≡ queues → given ≡ head ∷ rest → mid.due ≡ head ∷ rest → AreKnown script queues →
      MayAbortAll script mid.queues → TellAlike script head mid (own_half [])
  tell-in-order head rest (none_given ahead) at is gives due known aborts = absurd (cc)
  tell-in-order {place = place} {first = first} head rest
      (read_given {done = done} {given = given} stream ahead gave more) at is gives due known aborts =
      let done_is : done ≡ head = cc in
      let given_is : given ≡ rest = cc in
      let now = queues_of_view queues stream in
      let first_is =
      subst (λ (qs : List StreamQueues). IsFirstGiven may_give_read (queues_of_view qs stream).reads head)
      is (subst (IsFirstGiven may_give_read (queues_of_view first stream).reads) done_is gave) in
      let behind = subst (λ (g : List Completion). AreGiven (reading_place stream)
      (without_read stream queues) g place (map unmoved_queues mid.queues)) given_is
      (subst (λ (qs : List StreamQueues). AreGiven (reading_place stream) (without_read stream qs) given place
      (map unmoved_queues mid.queues)) is more) in
      let one = All-first (IsKnown script reading_of stream) now.reads first_is.head first_is.first
      (known stream).reads in
      let act_is : act_of script head.op ≡ Some one.act = ap (act_of script) first_is.is_op ∙ one.is_act in
      let read = reads-are one.act stream first_is.head.asks one.asks one.on in
      let may : MayGiveRead (own_half []) head.op stream first_is.head.asks head.outcome.0 head.outcome.1 = record {
        head = is-head now.reads first_is.head head.op first_is.first first_is.is_op;
        ahead = subst (λ n. n ≤ reading_place stream) at ahead;
        allowed = first_is.allowed;
      } in
      let known_left = each-set (AreKnownAt script) queues stream (record now { reads = drop 1 now.reads })
      (record {
        reads = All-drop (IsKnown script reading_of stream) now.reads (known stream).reads;
        writes = (known stream).writes;
      }) known in
      tell-given head rest place (reading_place stream) (without_read stream queues) due
      (subst (λ (o : Option Act). MayGiveUntold (own_half []) head.op o head.outcome.0 head.outcome.1) (sym act_is)
      (read.gives (own_half []) head.op head.outcome.0 head.outcome.1 may))
      (ap (λ o. gone o (own_half [])) act_is ∙ read.goes (own_half [])) behind known_left aborts
  tell-in-order {place = place} {first = first} head rest
      (write_given {done = done} {given = given} stream ahead gave more) at is gives due known aborts =
      let done_is : done ≡ head = cc in
      let given_is : given ≡ rest = cc in
      let now = queues_of_view queues stream in
      let first_is = subst (λ (qs : List StreamQueues). IsFirstGiven may_give_write
      (queues_of_view qs stream).writes head) is (subst
      (IsFirstGiven may_give_write (queues_of_view first stream).writes) done_is gave) in
      let behind = subst (λ (g : List Completion). AreGiven (writing_place stream)
      (without_write stream queues) g place (map unmoved_queues mid.queues)) given_is
      (subst (λ (qs : List StreamQueues). AreGiven (writing_place stream) (without_write stream qs) given place
      (map unmoved_queues mid.queues)) is more) in
      let one = All-first (IsKnown script writing_of stream) now.writes first_is.head first_is.first
      (known stream).writes in
      let act_is : act_of script head.op ≡ Some one.act = ap (act_of script) first_is.is_op ∙ one.is_act in
      let write = writes-are one.act stream first_is.head.asks one.asks one.on in
      let may : MayGiveWrite (own_half []) head.op stream first_is.head.asks head.outcome.0 head.outcome.1 =
      record {
        head = is-head now.writes first_is.head head.op first_is.first first_is.is_op;
        ahead = subst (λ n. n ≤ writing_place stream) at ahead;
        allowed = first_is.allowed;
      } in
      let known_left = each-set (AreKnownAt script) queues stream (record now { writes = drop 1 now.writes })
      (record {
        reads = (known stream).reads;
        writes = All-drop (IsKnown script writing_of stream) now.writes
            (known stream).writes;
      }) known in
      tell-given head rest place (writing_place stream) (without_write stream queues) due
      (subst (λ (o : Option Act). MayGiveUntold (own_half []) head.op o head.outcome.0 head.outcome.1) (sym act_is)
      (write.gives (own_half []) head.op head.outcome.0 head.outcome.1 may))
      (ap (λ o. gone o (own_half [])) act_is ∙ write.goes (own_half [])) behind known_left aborts

  tell-next : (given due fixed : List Completion) (place : ℕ) (head : Completion) (rest : List Completion) →
      mid.due ≡ fixed ++ given → AreToldBy script due fixed →
      AreGiven reached queues given place (map unmoved_queues mid.queues) → AreKnown script queues →
      MayAbortAll script mid.queues → mid.due ≡ head ∷ rest → TellAlike script head mid (own_half due)
  tell-next given [] [] place head rest is are in_order known aborts due =
      tell-in-order head rest in_order refl refl (sym is ∙ due) due known aborts
  tell-next given [] (told ∷ fixed) place head rest is are in_order known aborts due = absurd are
  tell-next given (own ∷ more) [] place head rest is are in_order known aborts due = absurd are
  tell-next given (own ∷ more) (told ∷ fixed) place head rest is are in_order known aborts due =
      let both : told ∷ (fixed ++ given) ≡ head ∷ rest = sym is ∙ due in
      let head_is : told ≡ head = cc in
      subst (λ (h : Completion). TellAlike script h mid (own_half (own ∷ more))) head_is
      (tell-fixed given own more told fixed (fixed ++ given) place is refl are in_order known aborts)

pub untold-tells : UntoldTells
untold-tells script head rest mid half (given, untold) due =
    subst (TellAlike script head mid) (sym untold.others)
    (tell-next script mid half.streams half.queues half.reached given half.due untold.fixed untold.place head rest
    untold.due untold.told untold.in_order untold.known untold.aborts due)
