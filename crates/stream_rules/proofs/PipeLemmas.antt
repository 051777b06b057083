-- What the streams of a scripted reactor and their reserved memory do as lines are performed.
use Rattle.std.proofs.Common.{◌≡◌, ℕ, ◌+◌, ◌<◌, ◌≤◌, ◌==◌, cond, Some, List, [], ◌∷◌, ◌++◌, length, map, take, drop, get_or, set, replicate, zero, suc, inl, inr, subst, refl, sym, ap, ◌∙◌, arith}
use Rattle.std.specs.List.{slice_get, All}
use Rattle.std.proofs.lemmas.Grind.{common_steps}
use Rattle.std.proofs.lemmas.Bool.{cases_eq, cases_lt}
use Rattle.std.proofs.lemmas.Bool.Decides.{nat_tests}
use Rattle.std.proofs.lemmas.List.{map-set, get_or-map, get_or-set_same, get_or-set_other, take_more, length-map, map-append, get_or_push, replicate_more, length-append}
use Rattle.std.proofs.lemmas.List.Sums.{fold_more}
use Rattle.std.proofs.lemmas.List.Elements.{All-set}
use Rattle.std.proofs.lemmas.List.Edits.{map_over_more}
use Rattle.std.proofs.lemmas.Option.{slice_get_within, slice_get-get_or, get_or_from_slice_get}
use Rattle.asio_types.specs.declared.world.Line.{Line}
use Rattle.stream_rules.specs.Stream.{Stream, new_stream, marked_last}
use Rattle.stream_rules.specs.World.{changed_at, lines_at, lines_after, perform_line, perform_lines}
use Rattle.stream_rules.specs.declared.pipe.Pipe.{Pipe}
use Rattle.stream_rules.specs.Pipes.{pipe_stream, fed, roomed, fed_to, room_to, HasRoom, UsesRoom, KeepsRoom, IsMarked}

-- one stream changed
pub changed-set : (f : Stream → Stream) (pipes : List Pipe) (d : ℕ) (any new : Pipe) → d < length pipes →
    pipe_stream new ≡ f (pipe_stream (get_or pipes d any)) →
    map pipe_stream (set pipes d new) ≡ changed_at d f (map pipe_stream pipes)
changed-set f pipes d any new b same =
    let there = get_or-map pipe_stream pipes d any new_stream b in
    map-set pipe_stream pipes d new ∙ ap (λ s. set (map pipe_stream pipes) d s) (same ∙ ap f (sym there))

fed_to-append : (d : ℕ) (xs ys : List Line) → fed_to d (xs ++ ys) ≡ fed_to d xs + fed_to d ys
fed_to-append d [] ys = grind arith
fed_to-append d (x ∷ xs) ys = grind (arith, fed_to-append d xs ys)

room_to-append : (d : ℕ) (xs ys : List Line) → room_to d (xs ++ ys) ≡ room_to d xs + room_to d ys
room_to-append d [] ys = grind arith
room_to-append d (x ∷ xs) ys = grind (arith, room_to-append d xs ys)

-- one more line
pub fed_to-more : (d : ℕ) (lines : List Line) (k : ℕ) (line : Line) → k < length lines → line ≡ get_or lines k line →
    fed_to d (take (k + 1) lines) ≡ fed_to d (take k lines) + cond (line.stream == d) (fed line.what) 0
fed_to-more d lines k line b is =
    let more = take_more lines k line b in
    let push = fed_to-append d (take k lines) (line ∷ []) in
    ap (fed_to d) (rw (sym is) at more) ∙ grind (arith, push)

pub room_to-more : (d : ℕ) (lines : List Line) (k : ℕ) (line : Line) → k < length lines → line ≡ get_or lines k line →
    room_to d (take (k + 1) lines) ≡ room_to d (take k lines) + cond (line.stream == d) (roomed line.what) 0
room_to-more d lines k line b is =
    let more = take_more lines k line b in
    let push = room_to-append d (take k lines) (line ∷ []) in
    ap (room_to d) (rw (sym is) at more) ∙ grind (arith, push)

fed_to-take : (d : ℕ) (lines : List Line) (k : ℕ) → fed_to d (take k lines) ≤ fed_to d lines
fed_to-take d [] k = grind (arith, common_steps)
fed_to-take d (l ∷ ls) zero = grind (arith, common_steps)
fed_to-take d (l ∷ ls) (suc k) = grind (arith, common_steps, fed_to-take d ls k)

room_to-take : (d : ℕ) (lines : List Line) (k : ℕ) → room_to d (take k lines) ≤ room_to d lines
room_to-take d [] k = grind (arith, common_steps)
room_to-take d (l ∷ ls) zero = grind (arith, common_steps)
room_to-take d (l ∷ ls) (suc k) = grind (arith, common_steps, room_to-take d ls k)

-- the next line finds the memory for what it brings
pub room-bytes : (due : List Line) (k : ℕ) (line : Line) (old pipes : List Pipe) (pipe : Pipe) →
    slice_get due k ≡ Some line → line.stream < length old → HasRoom due old → UsesRoom (take k due) old pipes →
    fed line.what ≤ (get_or pipes line.stream pipe).inbound.left
room-bytes due k line old pipes pipe e b has uses =
    let within = slice_get_within due k line e in
    let is = get_or_from_slice_get due k line line e in
    let more = fed_to-more line.stream due k line within (sym is) in
    let whole = fed_to-take line.stream due (k + 1) in
    let had = has.bytes line.stream pipe b in
    let used = uses.bytes line.stream pipe b in
    grind (arith, nat_tests)

pub room-room : (due : List Line) (k : ℕ) (line : Line) (old pipes : List Pipe) (pipe : Pipe) →
    slice_get due k ≡ Some line → line.stream < length old → HasRoom due old → UsesRoom (take k due) old pipes →
    roomed line.what ≤ (get_or pipes line.stream pipe).outbound.left
room-room due k line old pipes pipe e b has uses =
    let within = slice_get_within due k line e in
    let is = get_or_from_slice_get due k line line e in
    let more = room_to-more line.stream due k line within (sym is) in
    let whole = room_to-take line.stream due (k + 1) in
    let had = has.room line.stream pipe b in
    let used = uses.room line.stream pipe b in
    grind (arith, nat_tests)

get_or_default : {X : Type 0} (xs : List X) (k : ℕ) (d e : X) → k < length xs → get_or xs k d ≡ get_or xs k e
get_or_default xs k d e b = cc (sym (slice_get-get_or xs k d b), slice_get-get_or xs k e b)

-- one more line is performed
pub perform-more : (due : List Line) (k : ℕ) (line : Line) (streams : List Stream) → slice_get due k ≡ Some line →
    perform_lines (take (k + 1) due) streams ≡ perform_line (perform_lines (take k due) streams) line
perform-more due k line streams e =
    let within = slice_get_within due k line e in
    let is = get_or_from_slice_get due k line line e in
    let more = fold_more perform_line streams due k line within in
    rw is at more

-- an element in place of another
at-set : (pipes : List Pipe) (k : ℕ) (new : Pipe) (f : Pipe → ℕ) (d : ℕ) (any pipe : Pipe) (more : ℕ) →
    k < length pipes → f new + more ≡ f (get_or pipes k any) →
    (d ≡ k → f (get_or (set pipes k new) d pipe) + more ≡ f (get_or pipes d pipe))
    × ((d ≡ k → ⊥) → f (get_or (set pipes k new) d pipe) ≡ f (get_or pipes d pipe))
at-set pipes k new f d any pipe more b e =
    let was = get_or_default pipes k any pipe b in (
      λ same. rw same (ap (λ p. f p + more) (get_or-set_same pipes k new pipe b) ∙ e ∙ ap f was),
      λ other. ap f (get_or-set_other pipes k d new pipe other),
    )

pub uses-more : (due : List Line) (k : ℕ) (line : Line) (old pipes : List Pipe) (any after : Pipe) →
    slice_get due k ≡ Some line → line.stream < length pipes →
    after.inbound.left + fed line.what ≡ (get_or pipes line.stream any).inbound.left →
    after.outbound.left + roomed line.what ≡ (get_or pipes line.stream any).outbound.left →
    UsesRoom (take k due) old pipes → UsesRoom (take (k + 1) due) old (set pipes line.stream after)
uses-more due k line old pipes any after e b bytes room uses =
    let within = slice_get_within due k line e in
    let there = sym (get_or_from_slice_get due k line line e) in
    record {
      bytes = λ d pipe c.
          let more = fed_to-more d due k line within there in
          let used = uses.bytes d pipe c in
          let at = at-set pipes line.stream after (λ p. p.inbound.left) d any pipe (fed line.what) b bytes in
          elim (cases_eq d line.stream) [
            | inl same ↦ let now = at.0 same in grind (arith, nat_tests)
            | inr other ↦ let now = at.1 other in grind (arith, nat_tests)
          ];
      room = λ d pipe c.
          let more = room_to-more d due k line within there in
          let used = uses.room d pipe c in
          let at = at-set pipes line.stream after (λ p. p.outbound.left) d any pipe (roomed line.what) b room in
          elim (cases_eq d line.stream) [
            | inl same ↦ let now = at.0 same in grind (arith, nat_tests)
            | inr other ↦ let now = at.1 other in grind (arith, nat_tests)
          ];
    }

-- nothing is performed yet
pub uses-none : (lines : List Line) (pipes : List Pipe) → UsesRoom (take 0 lines) pipes pipes
uses-none lines pipes = record {
  bytes = λ d pipe c. grind (arith, common_steps);
  room = λ d pipe c. grind (arith, common_steps);
}

-- a line that is due names a stream that is there
pub within-due : (due : List Line) (k n : ℕ) (line : Line) → All (λ (l : Line). l.stream < n) due →
    slice_get due k ≡ Some line → line.stream < n
within-due due k n line all e =
    let there = all k line (slice_get_within due k line e) in
    let is = get_or_from_slice_get due k line line e in
    rw is at there

-- one more stream is marked
pub mark-more : (pipes init : List Pipe) (k : ℕ) (any new : Pipe) → length pipes ≡ length init → k < length init →
    pipe_stream new ≡ marked_last (pipe_stream (get_or pipes k any)) →
    map pipe_stream pipes ≡ map marked_last (take k (map pipe_stream init)) ++ drop k (map pipe_stream init) →
    map pipe_stream (set pipes k new)
    ≡ map marked_last (take (k + 1) (map pipe_stream init)) ++ drop (k + 1) (map pipe_stream init)
mark-more pipes init k any new long b same so_far =
    let streams = map pipe_stream init in
    let old = pipe_stream (get_or pipes k any) in
    let there = get_or-map pipe_stream pipes k any old (omega arith) in
    let next =
    map_over_more marked_last streams (map pipe_stream pipes) k old (omega (arith, length-map init pipe_stream)) so_far (sym there) in
    map-set pipe_stream pipes k new ∙ ap (λ s. set (map pipe_stream pipes) k s) same ∙ next

-- the memory that is reserved stays where one stream keeps its own
pub keeps-more : (init pipes : List Pipe) (k : ℕ) (any new : Pipe) → k < length pipes →
    new.inbound.left ≡ (get_or pipes k any).inbound.left → new.outbound.left ≡ (get_or pipes k any).outbound.left →
    KeepsRoom init pipes → KeepsRoom init (set pipes k new)
keeps-more init pipes k any new b bytes room keeps = record {
  bytes = λ d pipe c.
      let kept = keeps.bytes d pipe c in
      let at = at-set pipes k new (λ p. p.inbound.left) d any pipe 0 b (omega (arith, bytes)) in
      elim (cases_eq d k) [ inl same ↦ omega (arith, at.0 same, kept) | inr other ↦ omega (arith, at.1 other, kept) ];
  room = λ d pipe c.
      let kept = keeps.room d pipe c in
      let at = at-set pipes k new (λ p. p.outbound.left) d any pipe 0 b (omega (arith, room)) in
      elim (cases_eq d k) [ inl same ↦ omega (arith, at.0 same, kept) | inr other ↦ omega (arith, at.1 other, kept) ];
}

pub marked-more : (pipes : List Pipe) (k : ℕ) (new : Pipe) → k < length pipes → IsMarked new →
    ((j : ℕ) (pipe : Pipe) → j < k → IsMarked (get_or pipes j pipe)) → (j : ℕ) (pipe : Pipe) → j < k + 1 →
    IsMarked (get_or (set pipes k new) j pipe)
marked-more pipes k new b marked so_far j pipe c =
    elim (cases_eq j k) [
      | inl same ↦
          subst IsMarked (sym (ap (λ i. get_or (set pipes k new) i pipe) same ∙ get_or-set_same pipes k new pipe b)) marked
      | inr other ↦ subst IsMarked (sym (get_or-set_other pipes k j new pipe other)) (so_far j pipe (omega arith))
    ]

before-push : {X : Type 0} (xs : List X) (y d : X) (k : ℕ) → k < length xs → get_or (xs ++ y ∷ []) k d ≡ get_or xs k d
before-push [] y d k b = absurd (omega arith)
before-push (x ∷ xs) y d zero b = refl
before-push (x ∷ xs) y d (suc k) b = before-push xs y d k (omega arith)

left-push : (f : Pipe → ℕ) (g : ℕ → ℕ) (pipes : List Pipe) (new : Pipe) (n : ℕ) → length pipes ≡ n →
    ((d : ℕ) (pipe : Pipe) → d < length pipes → f (get_or pipes d pipe) ≡ g d) → f new ≡ g n → (d : ℕ) (pipe : Pipe) →
    d < length (pipes ++ new ∷ []) → f (get_or (pipes ++ new ∷ []) d pipe) ≡ g d
left-push f g pipes new n long so_far is d pipe b =
    elim (cases_lt d (length pipes)) [
      | inl early ↦ ap f (before-push pipes new pipe d early) ∙ so_far d pipe early
      | inr late ↦
          let last : d ≡ n = omega (arith, length-append pipes (new ∷ [])) in
          rw last (ap f (get_or_push pipes new pipe n long) ∙ is)
    ]

-- one more new stream
pub pipes-push : (pipes : List Pipe) (new : Pipe) (n : ℕ) (lines : List Line) → pipe_stream new ≡ new_stream →
    new.inbound.left ≡ fed_to n lines → new.outbound.left ≡ room_to n lines →
    (map pipe_stream pipes ≡ replicate n new_stream) × (length pipes ≡ n)
    × ((d : ℕ) (pipe : Pipe) → d < length pipes → (get_or pipes d pipe).inbound.left ≡ fed_to d lines)
    × ((d : ℕ) (pipe : Pipe) → d < length pipes → (get_or pipes d pipe).outbound.left ≡ room_to d lines) →
    (map pipe_stream (pipes ++ new ∷ []) ≡ replicate (n + 1) new_stream) × (length (pipes ++ new ∷ []) ≡ n + 1)
    × ((d : ℕ) (pipe : Pipe) → d < length (pipes ++ new ∷ []) →
    (get_or (pipes ++ new ∷ []) d pipe).inbound.left ≡ fed_to d lines)
    × ((d : ℕ) (pipe : Pipe) → d < length (pipes ++ new ∷ []) →
    (get_or (pipes ++ new ∷ []) d pipe).outbound.left ≡ room_to d lines)
pipes-push pipes new n lines stream bytes room so_far = (
  map-append pipe_stream pipes (new ∷ []) ∙ rw (so_far.0, stream) (replicate_more n new_stream),
  omega (arith, length-append pipes (new ∷ []), so_far.1),
  left-push (λ p. p.inbound.left) (λ d. fed_to d lines) pipes new n so_far.1 so_far.2 bytes,
  left-push (λ p. p.outbound.left) (λ d. room_to d lines) pipes new n so_far.1 so_far.3 room,
)

-- marks stay as a line is performed
pub marked-set : (init pipes : List Pipe) (k : ℕ) (any new : Pipe) → k < length pipes →
    (IsMarked (get_or pipes k any) → IsMarked new) → (All IsMarked init → All IsMarked pipes) → All IsMarked init →
    All IsMarked (set pipes k new)
marked-set init pipes k any new b marks so_far all =
    All-set IsMarked pipes k new (marks (so_far all k any b)) (so_far all)

fed_to-split : (d time : ℕ) (lines : List Line) →
    fed_to d (lines_at time lines) + fed_to d (lines_after time lines) ≤ fed_to d lines
fed_to-split d time [] = grind arith
fed_to-split d time (line ∷ lines) = grind (arith, nat_tests, fed_to-split d time lines)

room_to-split : (d time : ℕ) (lines : List Line) →
    room_to d (lines_at time lines) + room_to d (lines_after time lines) ≤ room_to d lines
room_to-split d time [] = grind arith
room_to-split d time (line ∷ lines) = grind (arith, nat_tests, room_to-split d time lines)

-- the lines of one time fit where all lines to come do
pub HasRoom-at : (time : ℕ) (lines : List Line) (pipes : List Pipe) → HasRoom lines pipes →
    HasRoom (lines_at time lines) pipes
HasRoom-at time lines pipes has = record {
  bytes = λ d pipe b. let split = fed_to-split d time lines in let had = has.bytes d pipe b in omega arith;
  room = λ d pipe b. let split = room_to-split d time lines in let had = has.room d pipe b in omega arith;
}

-- what is to come then still fits
pub HasRoom-after : (time : ℕ) (lines : List Line) (old new : List Pipe) → HasRoom lines old →
    UsesRoom (lines_at time lines) old new → length new ≡ length old → HasRoom (lines_after time lines) new
HasRoom-after time lines old new has uses long = record {
  bytes = λ d pipe b.
      let split = fed_to-split d time lines in
      let c : d < length old = omega arith in
      let had = has.bytes d pipe c in
      let used = uses.bytes d pipe c in
      omega arith;
  room = λ d pipe b.
      let split = room_to-split d time lines in
      let c : d < length old = omega arith in
      let had = has.room d pipe c in
      let used = uses.room d pipe c in
      omega arith;
}

-- what is to come still fits where the memory for it stayed
pub HasRoom-keeps : (lines : List Line) (old new : List Pipe) → HasRoom lines old → KeepsRoom old new →
    length new ≡ length old → HasRoom lines new
HasRoom-keeps lines old new has keeps long = record {
  bytes = λ d pipe b.
      let c : d < length old = omega arith in
      let had = has.bytes d pipe c in
      let kept = keeps.bytes d pipe c in
      omega arith;
  room = λ d pipe b.
      let c : d < length old = omega arith in
      let had = has.room d pipe c in
      let kept = keeps.room d pipe c in
      omega arith;
}
