-- What the next label of a lane on which handlers execute makes of what is left of an execution.
use Rattle.std.proofs.Common.{◌≡◌, ◌⊎◌, ℕ, suc, ◌+◌, ◌-◌, ◌<◌, ◌≤◌, true, cond, List, [], ◌∷◌, ◌++◌, inl, inr, length, drop, refl, sym, ap, subst, ◌∙◌, arith, length-append, lt-ltb}
use Rattle.std.specs.Prelude.{nat_lt}
use mathlib.Core.Option.{some-injective}
use lib.ListN.{get_elem?}
use Rattle.asio_types.specs.declared.code.Code.{Code}
use Rattle.asio_types.specs.declared.event.Event.{Event}
use Rattle.asio_types.specs.declared.event.Event.TheVariants as event
use Rattle.op_handlers.specs.declared.call.Call.{Call}
use Rattle.session_script.specs.Script.{ScriptModel}
use Rattle.strand_core.specs.Execution.{IsWholeExecution}
use Rattle.strand_core.specs.declared.posted.Posted.{Posted}
use Rattle.strand_core.specs.declared.posted.Posted.TheVariants as posted
use Rattle.lane_clock.specs.declared.found.Change.{Change}
use Rattle.lane_clock.specs.declared.found.Change.TheVariants as change
use Rattle.lane_clock.specs.declared.found.Found.{Found}
use Rattle.lane_clock.specs.declared.step.ClockStep.{ClockStep}
use Rattle.lane_map.specs.LaneNumbers.{reactor_lane}
use Rattle.lane_logs.specs.Labels.{AreDrawn, IsDrawn, Labelled, allots, begins, dispatches, ends, entries_in, events_in, none_drawn, one_drawn, posts, returns, shows, silent, stops_context}
use Rattle.lane_logs.specs.LaneLog.{MayFollow}
use Rattle.lane_logs.specs.Names.{SessionNames}
use Rattle.lane_logs.specs.Parts.{ExecutedPart, Part, executed, failed, idle, labels_in, missing, turned}
use Rattle.history_merge.proofs.HistoryLemmas.{shown_by}
use Rattle.history_merge.proofs.PartLemmas.{IsMadeAt}
use Rattle.history_merge.proofs.StageLemmas.{left_behind, left_first, left_last, left_of, stage_at}

-- labels that show the begin of an operation first
pub record BeginsWith (op : ℕ) (given : Code) (size : ℕ) (labels : List Labelled) : Type 0 where
  pub found : Found
  pub more : List Labelled
  pub is : labels ≡ shows (event.Begin op given size) change.Same found ∷ more

abbrev FirstIs : List Posted → List Labelled → Type 0
FirstIs [] labels = labels ≡ []
FirstIs (posted.Begin op given size begun ∷ calls) labels = BeginsWith op given size labels
FirstIs (posted.Call act ∷ calls) labels = Unit {0}
FirstIs (posted.Back act ∷ calls) labels = Unit {0}
FirstIs (posted.End op ran ∷ calls) labels = Unit {0}

module _ (script : ScriptModel) where
  first_alone : {made : Posted} {labels : List Labelled} → IsDrawn script made labels → FirstIs (made ∷ []) labels
  first_alone (begins {op} {size} {with_code} {found}) = record { found = found; more = []; is = refl }
  first_alone (posts isnt unentered) = tt
  first_alone (dispatches isnt entered) = tt
  first_alone (stops_context is) = tt
  first_alone returns = tt
  first_alone ends = tt

  first_more : (calls : List Posted) (labels : List Labelled) (one : Posted) (made : List Labelled) → FirstIs calls labels →
      FirstIs (one ∷ []) made → FirstIs (calls ++ one ∷ []) (labels ++ made)
  first_more [] labels one made none now = subst (λ xs. FirstIs (one ∷ []) (xs ++ made)) (sym none) now
  first_more (posted.Begin op given size begun ∷ calls) labels one made first now =
      record { found = first.found; more = first.more ++ made; is = ap (λ xs. xs ++ made) first.is }
  first_more (posted.Call act ∷ calls) labels one made first now = tt
  first_more (posted.Back act ∷ calls) labels one made first now = tt
  first_more (posted.End op ran ∷ calls) labels one made first now = tt

  first_label : {calls : List Posted} {labels : List Labelled} → AreDrawn script calls labels → FirstIs calls labels
  first_label none_drawn = refl
  first_label (one_drawn {calls} {call = one} {labels} {made} before now) =
      first_more calls labels one made (first_label before) (first_alone now)

  -- an execution begins with the begin of its operation
  pub execution_first : (HasMark : Call → ℕ → Type 0) (op : ℕ) (given : Code) (size : ℕ) (calls : List Posted)
      (labels : List Labelled) → IsWholeExecution script HasMark op given size calls → AreDrawn script calls labels →
      BeginsWith op given size labels
  execution_first HasMark op given size calls labels whole drawn =
      subst (λ calls. FirstIs calls labels) whole.is (first_label drawn)

-- the events of labels
abbrev pub events_by : List Labelled → List Event
events_by labels = events_in (entries_in labels)

-- The label shows nothing, and the same is left
pub record PassesBy (label : Labelled) (was now : List Labelled) : Type 0 where
  pub nothing : shown_by label ≡ []
  pub same : events_by now ≡ events_by was

-- it shows the next event of what is left of an execution
pub record GoesOnBy (part : ExecutedPart) (label : Labelled) (was now : List Labelled) : Type 0 where
  pub shown : Event
  pub changes : Change
  pub found : Found
  pub first : List Labelled
  pub is : label ≡ shows shown changes found
  pub left : events_by was ≡ shown ∷ events_by now
  pub among : part.labels ≡ first ++ label ∷ now
  pub some : 1 ≤ length first

-- it begins an execution
pub record BeginsBy (part : ExecutedPart) (label : Labelled) (was now : List Labelled) : Type 0 where
  pub found : Found
  pub is : label ≡ shows (event.Begin part.note.op part.note.code part.note.size) change.Same found
  pub none : was ≡ []
  pub own : part.labels ≡ label ∷ now

drop_at : (xs ys : List Labelled) → drop (length xs) (xs ++ ys) ≡ ys
drop_at [] ys = refl
drop_at (x ∷ xs) ys = drop_at xs ys

drop_past : (xs : List Labelled) (y : Labelled) (ys : List Labelled) → drop (suc (length xs)) (xs ++ y ∷ ys) ≡ ys
drop_past [] y ys = refl
drop_past (x ∷ xs) y ys = drop_past xs y ys

pub head_is : (x y : Labelled) (xs ys : List Labelled) → x ∷ xs ≡ y ∷ ys → x ≡ y
head_is x y xs ys same = some-injective x y (ap (λ zs. get_elem? zs 0) same)

module _ (script : ScriptModel) (lane : ℕ) where
  -- within an execution
  module _ (part : ExecutedPart) (first : BeginsWith part.note.op part.note.code part.note.size part.labels) where
    abbrev Left : ℕ → List Labelled
    Left i = left_of script lane (executed part) i

    abbrev NextIn : Labelled → ℕ → Type 0
    NextIn label i =
        PassesBy label (Left i) (Left (suc i))
        ⊎ (GoesOnBy part label (Left i) (Left (suc i)) ⊎ BeginsBy part label (Left i) (Left (suc i)))

    left_more : (n : ℕ) (labels : List Labelled) → part.labels ≡ labels → Left (suc (suc (suc n))) ≡ drop (suc n) labels
    left_more n labels are =
        let less : nat_lt 2 (suc (suc (suc n))) ≡ true = lt-ltb 2 (suc (suc (suc n))) (omega arith) in
        let minus : suc (suc (suc n)) - 2 ≡ suc n = omega arith in
        ap (λ b. cond b (drop (suc (suc (suc n)) - 2) part.labels) []) less
        ∙ (ap (λ i. drop i part.labels) minus ∙ ap (λ xs. drop (suc n) xs) are)

    behind_begin : (label : Labelled) (z : Labelled) (rest after : List Labelled) →
        part.labels ≡ (z ∷ rest) ++ label ∷ after → NextIn label (suc (suc (suc (length rest))))
    behind_begin label z rest after are =
        let was : Left (suc (suc (suc (length rest)))) ≡ label ∷ after =
        left_more (length rest) ((z ∷ rest) ++ label ∷ after) are ∙ drop_at (z ∷ rest) (label ∷ after) in
        let now : Left (suc (suc (suc (suc (length rest))))) ≡ after =
        left_more (suc (length rest)) ((z ∷ rest) ++ label ∷ after) are ∙ drop_past (z ∷ rest) label after in
        by_label label refl was now
      where
        by_label : (other : Labelled) → label ≡ other → Left (suc (suc (suc (length rest)))) ≡ label ∷ after →
            Left (suc (suc (suc (suc (length rest))))) ≡ after → NextIn label (suc (suc (suc (length rest))))
        by_label (silent step) is was now = inl (record {
          nothing = ap shown_by is;
          same = ap events_by now ∙ sym (ap events_by was ∙ ap (λ x. events_by (x ∷ after)) is);
        })
        by_label (allots act at place) is was now = inl (record {
          nothing = ap shown_by is;
          same = ap events_by now ∙ sym (ap events_by was ∙ ap (λ x. events_by (x ∷ after)) is);
        })
        by_label (shows shown changes found) is was now = inr (inl (record {
          shown = shown;
          changes = changes;
          found = found;
          first = z ∷ rest;
          is = is;
          left =
              ap events_by was
              ∙ (ap (λ x. events_by (x ∷ after)) is ∙ ap (λ xs. shown ∷ events_by xs) (sym now));
          among = are ∙ ap (λ xs. (z ∷ rest) ++ label ∷ xs) (sym now);
          some = omega arith;
        }))

    at_begin : (label : Labelled) (after : List Labelled) → part.labels ≡ label ∷ after → NextIn label 2
    at_begin label after are = inr (inr (record {
      found = first.found;
      is = head_is label (shows (event.Begin part.note.op part.note.code part.note.size) change.Same first.found) after first.more
          (sym are ∙ first.is);
      none = refl;
      own = are ∙ ap (λ xs. label ∷ xs) (sym (ap (λ xs. drop 1 xs) are));
    }))

    by_before : (label : Labelled) (before after : List Labelled) →
        labels_in script lane (executed part) ≡ before ++ label ∷ after → NextIn label (length before)
    by_before label [] after are = inl (record {
      nothing = ap shown_by (sym (head_is _ label _ after are));
      same = refl;
    })
    by_before label (x ∷ []) after are = inl (record {
      nothing = ap shown_by (sym (head_is _ label _ after (ap (λ xs. drop 1 xs) are)));
      same = refl;
    })
    by_before label (x ∷ (y ∷ [])) after are = at_begin label after (ap (λ xs. drop 2 xs) are)
    by_before label (x ∷ (y ∷ (z ∷ rest))) after are = behind_begin label z rest after (ap (λ xs. drop 2 xs) are)

  -- a single step by itself
  alone_is : (x label : Labelled) (before after : List Labelled) → x ∷ [] ≡ before ++ label ∷ after → x ≡ label
  alone_is x label [] after are = head_is x label [] after are
  alone_is x label (y ∷ before) after are =
      absurd (let size = ap length (ap (λ xs. drop 1 xs) are) ∙ length-append before (label ∷ after) in omega (arith, size))

  -- the stage of the lane at a label and behind it
  module _ (parts : List Part) (k : ℕ) (label : Labelled) (at : IsMadeAt Part (labels_in script lane) parts k label) where
    part_size : length (labels_in script lane at.part) ≡ length at.before + suc (length at.after)
    part_size = ap length at.labels_are ∙ length-append at.before (label ∷ at.after)

    pub left_here : left_behind script lane parts k ≡ left_of script lane at.part (length at.before)
    left_here =
        let size = part_size in
        ap (λ ps. left_behind script lane ps k) at.parts_are
        ∙ stage_at script lane [] (left_of script lane) (left_first script lane) (left_last script lane) at.later at.part
        at.earlier (length at.before) k (omega (arith, size)) at.index

    pub left_then : left_behind script lane parts (suc k) ≡ left_of script lane at.part (suc (length at.before))
    left_then =
        let size = part_size in
        ap (λ ps. left_behind script lane ps (suc k)) at.parts_are
        ∙ stage_at script lane [] (left_of script lane) (left_first script lane) (left_last script lane) at.later at.part
        at.earlier (suc (length at.before)) (suc k) (omega (arith, size)) (omega (arith, at.index))

-- What the next label of a lane below the reactor's makes of what is left: it shows nothing, or it stands in an execution
pub record StandsIn (names : SessionNames) (opener : List ClockStep) (lane : ℕ) (earlier : List Part) (part : Part) : Type 0 where
  pub executes : ExecutedPart
  pub is : part ≡ executed executes
  pub may : MayFollow names opener lane earlier (executed executes)

abbrev pub NextLeft : SessionNames → List ClockStep → ℕ → List Part → Part → Labelled → List Labelled → List Labelled → Type 0
NextLeft names opener lane earlier part label was now =
    PassesBy label was now
    ⊎ ((in_execution : StandsIn names opener lane earlier part)
    × (GoesOnBy in_execution.executes label was now ⊎ BeginsBy in_execution.executes label was now))

module _ (names : SessionNames) (opener : List ClockStep) (lane : ℕ) (below : lane < reactor_lane names.script) where
  next_of : (earlier : List Part) (part : Part) → MayFollow names opener lane earlier part →
      (label : Labelled) (before after : List Labelled) → labels_in names.script lane part ≡ before ++ label ∷ after →
      NextLeft names opener lane earlier part label (left_of names.script lane part (length before))
      (left_of names.script lane part (suc (length before)))
  next_of earlier (idle step) may label before after are =
      inl (record { nothing = ap shown_by (sym (alone_is names.script lane (silent step) label before after are)); same = refl })
  next_of earlier (executed part) may label before after are =
      let first =
      execution_first names.script _ part.note.op part.note.code part.note.size part.calls part.labels may.whole may.drawn in
      elim (by_before names.script lane part first label before after are) [
        | inl passes ↦ inl passes
        | inr moves ↦ inr (record { executes = part; is = refl; may = may }, moves)
      ]
  next_of earlier (turned part) may label before after are = absurd (let is = may.reactor in omega (arith, is, below))
  next_of earlier (failed part) may label before after are = absurd (let is = may.reactor in omega (arith, is, below))
  next_of earlier (missing place note) may label before after are =
      inl (record { nothing = ap shown_by (sym (alone_is names.script lane _ label before after are)); same = refl })

  pub next_left : (parts : List Part) (k : ℕ) (label : Labelled)
      (at : IsMadeAt Part (labels_in names.script lane) parts k label) → MayFollow names opener lane at.earlier at.part →
      NextLeft names opener lane at.earlier at.part label (left_behind names.script lane parts k)
      (left_behind names.script lane parts (suc k))
  next_left parts k label at may =
      subst (λ was.
      NextLeft names opener lane at.earlier at.part label was (left_behind names.script lane parts (suc k)))
      (sym (left_here names.script lane parts k label at))
      (subst (λ now.
      NextLeft names opener lane at.earlier at.part label (left_of names.script lane at.part (length at.before)) now)
      (sym (left_then names.script lane parts k label at))
      (next_of at.earlier at.part may label at.before at.after at.labels_are))
