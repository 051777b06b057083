-- What a call for a read does is what the rules of streams give, where the reactor tells its bytes.
use Rattle.std.proofs.Common.{◌≡◌, ℕ, ◌-◌, ◌<◌, Option, None, Some, List, [], ◌∷◌, ◌++◌, ◌≤◌, inl, inr, zero, suc, min, set, length, take, drop, refl, sym, ap, subst, ◌∙◌, arith}
use Rattle.std.specs.Option.{IfSome, option_map}
use Rattle.std.proofs.lemmas.List.{get_or-set_same, length-set}
use Rattle.asio_types.specs.declared.code.Code.{Code}
use Rattle.asio_types.specs.declared.outside.Moved.{Moved}
use Rattle.asio_types.specs.declared.outside.Moved.TheVariants as moved
use Rattle.stream_rules.specs.Cutting.{Course}
use Rattle.stream_rules.specs.Moving.{moved_by, moved_count, read_answer}
use Rattle.stream_rules.specs.Serving.{Some_bytes, All_bytes, Until, Outcome, after_reading, read_code}
use Rattle.stream_rules.specs.declared.serving.Served.{Served}
use Rattle.stream_rules.specs.Stream.{Stream, new_stream}
use Rattle.stream_rules.specs.World.{stream_at}
use Rattle.composed_ops.specs.declared.want.Want.TheVariants as want
use Rattle.composed_ops.specs.StreamOperation.{StreamOperation, Reads, Writes}
use Rattle.composed_ops.specs.Feeding.{Exchange, IsFilled, MayAnswer, MayBeAsked, exchange_after, exchange_answered, course_of, held_with}
use Rattle.composed_ops.specs.Progress.{IsSearched, IsUnderWay, StreamProgress, progress_after}
use Rattle.composed_ops.specs.Step.{outcome_by, step_of}
use Rattle.composed_ops.specs.Want.{asking_want, counted_want, wanted}
use Rattle.composed_ops.proofs.CountLemmas.{some-there}
use Rattle.composed_ops.proofs.FeedingLemmas.{machines-complete, machines-go_on}
use Rattle.composed_ops.proofs.ReactorLemmas.{held-consumed, reads-answered}
use Rattle.composed_ops.proofs.RunLemmas.{holding-keeps, machines-finish, machines-wait}
use Rattle.reactor_trait.specs.Reactor.{Outside, with_stream}
use Rattle.proactor_core.specs.Reactor.{told_stream, ChangesOne}
use Rattle.proactor_core.specs.Reading.{exchange_at, Ends, IsGathered, IsRound}
use Rattle.proactor_core.specs.Round.{round_of}
use Rattle.proactor_core.specs.declared.round.StreamRound.{StreamRound}
use Rattle.proactor_core.specs.declared.round.StreamRound.TheVariants as round

-- one stream has changed
pub told_stream-changed : (outside : Outside) (number : ℕ) (change : Stream → Stream) →
    number < length outside.streams →
    told_stream (option_map (with_stream number change) (Some outside)) number
    ≡ change (stream_at outside.streams number)
told_stream-changed outside number change within =
    get_or-set_same outside.streams number (change (stream_at outside.streams number)) new_stream within

-- a call that is answered
pub answer-round : (exchange : Exchange) (answer : Moved) (outcome : Option Outcome) → MayBeAsked exchange →
    MayAnswer exchange answer → outcome_by exchange.progress answer ≡ outcome →
    IsRound exchange (exchange_after exchange answer) (round_of (step_of outcome))
answer-round exchange answer None ready may is = machines-go_on exchange answer ready may is
answer-round exchange answer (Some (code, size)) ready may is =
    let whole = machines-complete exchange answer (code, size) ready may is in
    (ap (λ (course : Course). course.outcome) whole, ap (λ (course : Course). course.stream) whole)

-- a read of the reactor was answered
pub read-follows : (told left : Option Outside) (number : ℕ) (progress next : StreamProgress) (held kept piece : List ℕ)
    (most : ℕ) (answer : Moved) (turn : StreamRound) → IsUnderWay progress → IsSearched progress held →
    wanted progress held ≡ want.Read most → IfSome told (λ outside. number < length outside.streams) →
    IfSome told (λ _. answer ≡ read_answer most (told_stream told number)) →
    left ≡ option_map (with_stream number (after_reading (moved_count answer))) told →
    IfSome told (λ _. piece ≡ take (moved_count answer) (told_stream told number).arrived) →
    kept ≡ held_with progress.asks held piece → next ≡ progress_after progress answer →
    turn ≡ round_of (step_of (outcome_by progress answer)) →
    IfSome told (λ _. IsRound (exchange_at progress held told number) (exchange_at next kept left number) turn)
read-follows None left number progress next held kept piece most answer turn under_way searched wants there answered
    gives brings keeps moves turns =
    tt
read-follows (Some outside) left number progress next held kept piece most answer turn under_way searched wants there
    answered gives brings keeps moves turns =
    let exchange = exchange_at progress held (Some outside) number in
    let ready : MayBeAsked exchange = record { under_way = under_way; searched = searched } in
    let told = reads-answered exchange most ready wants in
    let may : MayAnswer exchange answer = subst (MayAnswer exchange) (sym answered) told.may in
    let step = answer-round exchange answer (outcome_by progress answer) ready may refl in
    let read =
    subst
    (λ w. IsRound exchange (exchange_answered w exchange answer) (round_of (step_of (outcome_by progress answer))))
    wants step in
    let behind : told_stream left number ≡ after_reading (moved_count answer) (stream_at outside.streams number) =
    ap (λ t. told_stream t number) gives
    ∙ told_stream-changed outside number (after_reading (moved_count answer)) there in
    rw (turns, moves, keeps, brings, behind) read

-- a read of the reactor that brought nothing yet
pub wait-follows : (told left : Option Outside) (number : ℕ) (progress : StreamProgress) (held : List ℕ) (most : ℕ)
    (answer : Moved) → IsUnderWay progress → IsSearched progress held → wanted progress held ≡ want.Read most →
    IfSome told (λ outside. number < length outside.streams) →
    IfSome told (λ _. answer ≡ read_answer most (told_stream told number)) → answer ≡ moved.NotYet →
    left ≡ option_map (with_stream number (after_reading (moved_count answer))) told →
    IfSome told (λ _. Ends (exchange_at progress held told number) (exchange_at progress held left number) None)
wait-follows None left number progress held most answer under_way searched wants there answered nothing gives = tt
wait-follows (Some outside) left number progress held most answer under_way searched wants there answered nothing gives =
    let exchange = exchange_at progress held (Some outside) number in
    let ready : MayBeAsked exchange = record { under_way = under_way; searched = searched } in
    let told = reads-answered exchange most ready wants in
    let waits = machines-wait exchange ready (told.nothing (sym answered ∙ nothing)) in
    let count : moved_count answer ≡ 0 = ap moved_count nothing in
    let behind : told_stream left number ≡ after_reading (moved_count answer) (stream_at outside.streams number) =
    ap (λ t. told_stream t number) gives
    ∙ told_stream-changed outside number (after_reading (moved_count answer)) there in
    rw (behind, count) waits

counted-empty : (missing count : ℕ) → counted_want missing [] ≡ want.Held count → ⊥
counted-empty missing count is = cc

-- held bytes that a read consumes are all that is there for it
filled-held : (asks : StreamOperation) (before count : ℕ) (held : List ℕ) (stream : Stream) → IsGathered asks held stream →
    asking_want asks before held ≡ want.Held count → IsFilled asks held stream
filled-held (Reads (Some_bytes size)) before count held stream (inl none) is =
    absurd (counted-empty (size - before) count (rw none at is))
filled-held (Reads (Some_bytes size)) before count held stream (inr filled) is = filled
filled-held (Reads (All_bytes size)) before count held stream gathered is = tt
filled-held (Reads (Until delimiter max)) before count held stream gathered is = tt
filled-held (Writes writing) before count held stream gathered is = tt

-- held bytes were consumed
pub held-follows : (told : Option Outside) (number : ℕ) (progress next : StreamProgress) (held kept : List ℕ) (count : ℕ)
    (turn : StreamRound) → IsUnderWay progress → IsSearched progress held → wanted progress held ≡ want.Held count →
    IfSome told (λ _. IsGathered progress.asks held (told_stream told number)) → kept ≡ drop count held →
    next ≡ progress_after progress (moved.Took count) →
    turn ≡ round_of (step_of (outcome_by progress (moved.Took count))) →
    IfSome told (λ _. IsRound (exchange_at progress held told number) (exchange_at next kept told number) turn)
held-follows None number progress next held kept count turn under_way searched wants gathered keeps moves turns = tt
held-follows (Some outside) number progress next held kept count turn under_way searched wants gathered keeps moves turns =
    let exchange = exchange_at progress held (Some outside) number in
    let ready : MayBeAsked exchange = record { under_way = under_way; searched = searched } in
    let filled = filled-held progress.asks progress.moved count held exchange.stream gathered wants in
    let may = held-consumed exchange count ready filled wants in
    let step = answer-round exchange (moved.Took count) (outcome_by progress (moved.Took count)) ready may refl in
    let read =
    subst
    (λ w.
    IsRound exchange (exchange_answered w exchange (moved.Took count))
    (round_of (step_of (outcome_by progress (moved.Took count))))) wants step in
    rw (turns, moves, keeps) read

-- a read completed on held bytes, and consumed some of them
pub finish-follows : (told : Option Outside) (number : ℕ) (progress : StreamProgress) (held kept : List ℕ) (ended : Code)
    (size : ℕ) → IsUnderWay progress → IsSearched progress held → wanted progress held ≡ want.Finish ended size →
    kept ≡ drop size held →
    IfSome told
    (λ _. Ends (exchange_at progress held told number) (exchange_at progress kept told number) (Some (ended, size)))
finish-follows None number progress held kept ended size under_way searched wants keeps = tt
finish-follows (Some outside) number progress held kept ended size under_way searched wants keeps =
    let exchange = exchange_at progress held (Some outside) number in
    let ready : MayBeAsked exchange = record { under_way = under_way; searched = searched } in
    let whole = machines-finish exchange ended size ready wants in
    rw keeps (ap (λ (course : Course). course.outcome) whole, ap (λ (course : Course). course.stream) whole)

-- what has arrived was moved behind the held bytes
pub filling-keeps : (first told left : Option Outside) (number count : ℕ) (start held kept piece : List ℕ) →
    IfSome told (λ outside. number < length outside.streams) →
    IfSome told (λ _. piece ≡ take count (told_stream told number).arrived) →
    left ≡ option_map (with_stream number (after_reading count)) told → kept ≡ held ++ piece →
    ChangesOne number first told →
    IfSome first (λ _.
    (progress : StreamProgress) →
    course_of (exchange_at progress held told number) ≡ course_of (exchange_at progress start first number)) →
    IfSome first (λ _.
    (progress : StreamProgress) →
    course_of (exchange_at progress kept left number) ≡ course_of (exchange_at progress start first number))
filling-keeps None told left number count start held kept piece there brings gives keeps changes same = tt
filling-keeps (Some before) None left number count start held kept piece there brings gives keeps changes same =
    absurd (cc)
filling-keeps (Some before) (Some outside) left number count start held kept piece there brings gives keeps changes same =
    λ progress.
    let behind : told_stream left number ≡ after_reading count (stream_at outside.streams number) =
    ap (λ t. told_stream t number) gives ∙ told_stream-changed outside number (after_reading count) there in
    rw (keeps, brings, behind) (holding-keeps (exchange_at progress held (Some outside) number) count ∙ same progress)

-- a call that brought nothing
pub none-brought : (most : ℕ) (answer : Moved) (stream : Stream) → 1 ≤ most →
    ((count : ℕ) → answer ≡ moved.Took count → ⊥) → answer ≡ read_answer most stream → stream.arrived ≡ []
none-brought most answer stream some none is = nothing stream.arrived refl
  where
    nothing : (bytes : List ℕ) → stream.arrived ≡ bytes → stream.arrived ≡ []
    nothing [] at = at
    nothing (b ∷ bytes) at =
        let length_is : length stream.arrived ≡ length (b ∷ bytes) = ap length at in
        let there : 1 ≤ length stream.arrived = omega arith in
        let took =
        ap (λ (s : Served). moved_by s.outcome)
        (some-there most (length stream.arrived) (option_map read_code stream.read_mark) there) in
        absurd (none (min most (length stream.arrived)) (is ∙ took))

took-none : (answer : Moved) → ((count : ℕ) → answer ≡ moved.Took count → ⊥) → moved_count answer ≡ 0
took-none (moved.Took count) none = absurd (none count refl)
took-none moved.End none = refl
took-none moved.NotYet none = refl
took-none moved.Reset none = refl

-- what such a call leaves of a stream: all of it, and nothing is there
pub record IsDry (told left : Option Outside) (number : ℕ) : Type 0 where
  pub same : told_stream left number ≡ told_stream told number
  pub dry : (told_stream left number).arrived ≡ []

pub dry-left : (told left : Option Outside) (number most : ℕ) (answer : Moved) → 1 ≤ most →
    IfSome told (λ outside. number < length outside.streams) → ((count : ℕ) → answer ≡ moved.Took count → ⊥) →
    IfSome told (λ _. answer ≡ read_answer most (told_stream told number)) →
    left ≡ option_map (with_stream number (after_reading (moved_count answer))) told →
    IfSome told (λ _. IsDry told left number)
dry-left None left number most answer some there none answered gives = tt
dry-left (Some outside) left number most answer some there none answered gives =
    let behind : told_stream left number ≡ after_reading (moved_count answer) (stream_at outside.streams number) =
    ap (λ t. told_stream t number) gives
    ∙ told_stream-changed outside number (after_reading (moved_count answer)) there in
    let same : told_stream left number ≡ stream_at outside.streams number =
    behind ∙ ap (λ n. after_reading n (stream_at outside.streams number)) (took-none answer none) in
    record {
      same = same;
      dry =
          ap (λ (s : Stream). s.arrived) same
          ∙ none-brought most answer (stream_at outside.streams number) some none answered;
    }

pub stop-keeps : (first told left : Option Outside) (number : ℕ) (start held : List ℕ) →
    IfSome told (λ _. IsDry told left number) → ChangesOne number first told →
    IfSome first (λ _.
    (progress : StreamProgress) →
    course_of (exchange_at progress held told number) ≡ course_of (exchange_at progress start first number)) →
    IfSome first (λ _.
    (progress : StreamProgress) →
    course_of (exchange_at progress held left number) ≡ course_of (exchange_at progress start first number))
stop-keeps None told left number start held dry changes same = tt
stop-keeps (Some before) None left number start held dry changes same = absurd (cc)
stop-keeps (Some before) (Some outside) left number start held dry changes same = λ progress.
    rw dry.same (same progress)

pub stop-filled : (first told left : Option Outside) (number size : ℕ) (held : List ℕ) →
    IfSome told (λ _. IsDry told left number) → ChangesOne number first told →
    IfSome first (λ _. IsFilled (Reads (Some_bytes size)) held (told_stream left number))
stop-filled None told left number size held dry changes = tt
stop-filled (Some before) None left number size held dry changes = absurd (cc)
stop-filled (Some before) (Some outside) left number size held dry changes = inr dry.dry

twice-set : (streams : List Stream) (number : ℕ) (a b : Stream) →
    set (set streams number a) number b ≡ set streams number b
twice-set [] number a b = refl
twice-set (s ∷ streams) zero a b = refl
twice-set (s ∷ streams) (suc number) a b = ap (λ ss. s ∷ ss) (twice-set streams number a b)

-- a change after another
pub changes-on : (first told left : Option Outside) (number : ℕ) → ChangesOne number first told →
    ChangesOne number told left → ChangesOne number first left
changes-on None told left number changes more =
    more ∙ ap (option_map (with_stream number (λ _. told_stream left number))) changes
changes-on (Some before) told left number changes more =
    let change = with_stream number (λ _. told_stream left number) in
    let first = with_stream number (λ _. told_stream told number) in
    more ∙ ap (option_map change) changes
    ∙ ap (λ (ss : List Stream). Some (record before { streams = ss }))
    (twice-set before.streams number (told_stream told number) (told_stream left number))

-- a stream that is there stays there
pub there-still : (told left : Option Outside) (number : ℕ) → ChangesOne number told left →
    IfSome told (λ outside. number < length outside.streams) → IfSome left (λ outside. number < length outside.streams)
there-still None left number changes there =
    subst (λ (t : Option Outside). IfSome t (λ outside. number < length outside.streams)) (sym changes) tt
there-still (Some outside) left number changes there =
    let same = length-set outside.streams number (told_stream left number) in
    let within : number < length (set outside.streams number (told_stream left number)) = omega arith in
    subst (λ (t : Option Outside). IfSome t (λ outside. number < length outside.streams)) (sym changes) within

-- a call after which an operation goes on
pub goes-on-same : (first told left : Option Outside) (number : ℕ) (start progress next : StreamProgress)
    (from held kept : List ℕ) → ChangesOne number first told →
    IfSome told
    (λ _. IsRound (exchange_at progress held told number) (exchange_at next kept left number) round.GoesOn) →
    IfSome first
    (λ _. course_of (exchange_at progress held told number) ≡ course_of (exchange_at start from first number)) →
    IfSome first (λ _. course_of (exchange_at next kept left number) ≡ course_of (exchange_at start from first number))
goes-on-same None told left number start progress next from held kept changes goes same = tt
goes-on-same (Some before) None left number start progress next from held kept changes goes same = absurd (cc)
goes-on-same (Some before) (Some outside) left number start progress next from held kept changes goes same =
    goes.same ∙ same

-- a reactor that tells its bytes goes on telling them
pub told-still : (told left : Option Outside) (number : ℕ) (P : Type 0) → ChangesOne number told left →
    IfSome told (λ _. P) → IfSome left (λ _. P)
told-still None left number P changes holds = subst (λ (t : Option Outside). IfSome t (λ _. P)) (sym changes) tt
told-still (Some outside) left number P changes holds =
    subst (λ (t : Option Outside). IfSome t (λ _. P)) (sym changes) holds

ends-on : (first before after : Exchange) (outcome : Option Outcome) → course_of before ≡ course_of first →
    Ends before after outcome → Ends first after outcome
ends-on first before after None same ends = sym same ∙ ends
ends-on first before after (Some outcome) same ends =
    (ap (λ (course : Course). course.outcome) (sym same) ∙ ends.0, ap (λ (course : Course). course.stream) (sym same) ∙ ends.1)

-- a call by which an operation ends
pub ends-same : (first told left : Option Outside) (number : ℕ) (start progress next : StreamProgress)
    (from held kept : List ℕ) (outcome : Option Outcome) → ChangesOne number first told →
    IfSome told (λ _. Ends (exchange_at progress held told number) (exchange_at next kept left number) outcome) →
    IfSome first
    (λ _. course_of (exchange_at progress held told number) ≡ course_of (exchange_at start from first number)) →
    IfSome first (λ _. Ends (exchange_at start from first number) (exchange_at next kept left number) outcome)
ends-same None told left number start progress next from held kept outcome changes ends same = tt
ends-same (Some before) None left number start progress next from held kept outcome changes ends same = absurd (cc)
ends-same (Some before) (Some outside) left number start progress next from held kept outcome changes ends same =
    ends-on (exchange_at start from (Some before) number) (exchange_at progress held (Some outside) number)
    (exchange_at next kept left number) outcome same ends
