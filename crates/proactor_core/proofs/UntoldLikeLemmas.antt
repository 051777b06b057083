-- A history with untold bytes beside a proactor whose streams have given nothing.
use Rattle.std.proofs.Common.{◌≡◌, ℕ, ◌≤◌, Bool, true, false, cond, List, [], ◌∷◌, ◌++◌, Option, length, map, get_or, set, inl, inr, refl, sym, ap, subst, ◌∙◌, arith}
use Rattle.std.specs.Prelude.{◌⊎◌}
use Rattle.std.specs.List.{All}
use Rattle.std.proofs.Math.ListN.{get_or-map, length-set}
use Rattle.std.proofs.lemmas.Bool.{cases_eq, cases_lt}
use Rattle.std.proofs.lemmas.List.{append-nil, get_or-set_other, get_or-set_same, get_or_past, map-set}
use Rattle.std.proofs.lemmas.List.Elements.{All-map}
use Rattle.session_script.specs.declared.act.Act.{Act}
use Rattle.session_script.specs.Script.{ScriptModel}
use Rattle.stream_rules.specs.declared.queue.Completion.{Completion}
use Rattle.stream_rules.specs.Queue.{Pending}
use Rattle.stream_rules.specs.Stream.{Stream}
use Rattle.history_rules.specs.Kinds.{reading_of, writing_of}
use Rattle.history_rules.specs.Performing.{queues_at, with_due, with_queues}
use Rattle.history_rules.specs.State.{ReactorHalf, StreamQueues, no_queues}
use Rattle.proactor_core.specs.Pending.{unmoved}
use Rattle.proactor_core.specs.Untold.{none_given, queues_of_view, read_given, unmoved_queues, write_given, AreGiven, AreKnownAt, AreToldBy, IsKnown, IsUntoldWith, MayAbortAt}
use Rattle.proactor_core.proofs.WaitLemmas.{All-from_map}

-- what a history with untold bytes has, where all that is due is fixed
abbrev pub forget : List Stream → List Completion → ℕ → ReactorHalf → ReactorHalf
forget streams due reached mid = record mid {
  streams = streams;
  queues = map unmoved_queues mid.queues;
  due = due;
  reached = reached;
}

pub record IsGood (script : ScriptModel) (stream : ℕ) (queues : StreamQueues) : Type 0 where
  pub known : AreKnownAt script stream queues
  pub aborts : MayAbortAt script queues

pub record IsAlike (script : ScriptModel) (mid half : ReactorHalf) : Type 0 where
  pub streams : List Stream
  pub due : List Completion
  pub reached : ℕ
  pub same : half ≡ forget streams due reached mid
  pub told : AreToldBy script due mid.due
  pub good : (stream : ℕ) → IsGood script stream (queues_of_view mid.queues stream)

module _ {Asks : Type 0} (script : ScriptModel) (asks_of : Act → Option Asks) (stream : ℕ) where
  known-rested : (queue : List (Pending Asks)) → All (IsKnown script asks_of stream) queue →
      All (IsKnown script asks_of stream) (map unmoved queue)
  known-rested queue all =
      All-map (IsKnown script asks_of stream) unmoved queue
      (λ k d b. let is = all k d b in record { act = is.act; is_act = is.is_act; asks = is.asks; on = is.on })

  known-again : (queue : List (Pending Asks)) → All (IsKnown script asks_of stream) (map unmoved queue) →
      All (IsKnown script asks_of stream) queue
  known-again queue all =
      let moved : All (λ pending. IsKnown script asks_of stream (unmoved pending)) queue =
      All-from_map (IsKnown script asks_of stream) unmoved queue all in
      λ k d b. let is = moved k d b in record { act = is.act; is_act = is.is_act; asks = is.asks; on = is.on }

pub rested-known : (script : ScriptModel) (stream : ℕ) (queues : StreamQueues) → AreKnownAt script stream queues →
    AreKnownAt script stream (unmoved_queues queues)
rested-known script stream queues known = record {
  reads = known-rested script reading_of stream queues.reads known.reads;
  writes = known-rested script writing_of stream queues.writes known.writes;
}

pub known-moved : (script : ScriptModel) (stream : ℕ) (queues : StreamQueues) →
    AreKnownAt script stream (unmoved_queues queues) → AreKnownAt script stream queues
known-moved script stream queues known = record {
  reads = known-again script reading_of stream queues.reads known.reads;
  writes = known-again script writing_of stream queues.writes known.writes;
}

-- where nothing was given all is left
pub none-left : {from to : ℕ} {queues left : List StreamQueues} {given : List Completion} →
    AreGiven from queues given to left → given ≡ [] → queues ≡ left
none-left (none_given ahead) e = refl
none-left (read_given stream ahead first rest) e = absurd (cc)
none-left (write_given stream ahead first rest) e = absurd (cc)

pub rested-at : (queues : List StreamQueues) (stream : ℕ) →
    queues_of_view (map unmoved_queues queues) stream ≡ unmoved_queues (queues_of_view queues stream)
rested-at queues stream = get_or-map unmoved_queues queues stream no_queues

module _ (script : ScriptModel) (mid half : ReactorHalf) where
  pub alike-from : IsUntoldWith script [] mid half → IsAlike script mid half
  alike-from untold =
      let left : half.queues ≡ map unmoved_queues mid.queues = none-left untold.in_order refl in
      let due : mid.due ≡ untold.fixed = untold.due ∙ append-nil untold.fixed in
      record {
        streams = half.streams;
        due = half.due;
        reached = half.reached;
        same = untold.others ∙ ap (λ qs. let r : ReactorHalf = record mid {
          streams = half.streams;
          queues = qs;
          due = half.due;
          reached = half.reached;
        } in r) left;
        told = subst (AreToldBy script half.due) (sym due) untold.told;
        good = λ n. record {
          known = known-moved script n (queues_of_view mid.queues n)
              (subst (AreKnownAt script n) (ap (λ qs. queues_of_view qs n) left ∙ rested-at mid.queues n)
              (untold.known n));
          aborts = untold.aborts n;
        };
      }

  pub alike-to : IsAlike script mid half → IsUntoldWith script [] mid half
  alike-to alike =
      let within : alike.reached ≤ alike.reached = omega arith in
      subst (λ h. IsUntoldWith script [] mid h) (sym alike.same) (record {
        fixed = mid.due;
        due = sym (append-nil mid.due);
        told = alike.told;
        place = alike.reached;
        in_order = none_given within;
        known = λ n. subst (AreKnownAt script n) (sym (rested-at mid.queues n))
            (rested-known script n (queues_of_view mid.queues n) (alike.good n).known);
        aborts = λ n. (alike.good n).aborts;
        others = refl;
      })

  pub at-half : IsAlike script mid half → (stream : ℕ) →
      queues_at half stream ≡ unmoved_queues (queues_at mid stream)
  at-half alike stream = ap (λ (h : ReactorHalf). queues_of_view h.queues stream) alike.same
      ∙ rested-at mid.queues stream

  -- what speaks neither of queues nor of what is due
  pub alike-kept : (f : ReactorHalf → ReactorHalf) → ((streams : List Stream) (due : List Completion)
      (reached : ℕ) → f (forget streams due reached mid) ≡ forget streams due reached (f mid)) →
      (f mid).due ≡ mid.due → (f mid).queues ≡ mid.queues → IsAlike script mid half →
      IsAlike script (f mid) (f half)
  alike-kept f both due queues alike = record {
    streams = alike.streams;
    due = alike.due;
    reached = alike.reached;
    same = ap f alike.same ∙ both alike.streams alike.due alike.reached;
    told = subst (AreToldBy script alike.due) (sym due) alike.told;
    good = λ n. subst (λ qs. IsGood script n (queues_of_view qs n)) (sym queues) (alike.good n);
  }

  -- streams are not looked at
  pub alike-streams : (streams others : List Stream) → IsAlike script mid half →
      IsAlike script (record mid { streams = streams }) (record half { streams = others })
  alike-streams streams others alike = record {
    streams = others;
    due = alike.due;
    reached = alike.reached;
    same = ap (λ (h : ReactorHalf). let r : ReactorHalf = record h { streams = others } in r) alike.same;
    told = alike.told;
    good = alike.good;
  }

pub told-append : (script : ScriptModel) (own told more others : List Completion) → AreToldBy script own told →
    AreToldBy script more others → AreToldBy script (own ++ more) (told ++ others)
told-append script [] [] more others first second = second
told-append script [] (y ∷ told) more others first second = absurd first
told-append script (x ∷ own) [] more others first second = absurd first
told-append script (x ∷ own) (y ∷ told) more others first second =
    (first.0, told-append script own told more others first.1 second)

set-here : {X : Type 0} (xs : List X) (i : ℕ) (x d : X) →
    (get_or (set xs i x) i d ≡ x) ⊎ (get_or (set xs i x) i d ≡ get_or xs i d)
set-here xs i x d =
    elim (cases_lt i (length xs)) [
      | inl within ↦ inl (get_or-set_same xs i x d within)
      | inr past ↦ inr (get_or_past (set xs i x) i d (let long = length-set xs i x in omega arith)
          ∙ sym (get_or_past xs i d past))
    ]

-- what holds of each stream, once the queues of one are others
pub each-set : (P : ℕ → StreamQueues → Type 0) (queues : List StreamQueues) (stream : ℕ) (new : StreamQueues) →
    P stream new → ((n : ℕ) → P n (queues_of_view queues n)) → (n : ℕ) → P n (queues_of_view (set queues stream new) n)
each-set P queues stream new here each n =
    elim (cases_eq n stream) [
      | inl same ↦ subst (λ m. P m (queues_of_view (set queues stream new) m)) (sym same)
          (elim (set-here queues stream new no_queues) [
            | inl is ↦ subst (P stream) (sym is) here
            | inr is ↦ subst (P stream) (sym is) (each stream)
          ])
      | inr other ↦ subst (P n) (sym (get_or-set_other queues stream n new no_queues other)) (each n)
    ]

module _ (script : ScriptModel) (mid half : ReactorHalf) where
  pub alike-due : (own told : List Completion) → AreToldBy script own told → IsAlike script mid half →
      IsAlike script (with_due told mid) (with_due own half)
  alike-due own told are alike = record {
    streams = alike.streams;
    due = alike.due ++ own;
    reached = alike.reached;
    same = ap (with_due own) alike.same;
    told = told-append script alike.due mid.due own told alike.told are;
    good = alike.good;
  }

  pub alike-queues : (stream : ℕ) (new own : StreamQueues) → own ≡ unmoved_queues new → IsGood script stream new →
      IsAlike script mid half → IsAlike script (with_queues mid stream new) (with_queues half stream own)
  alike-queues stream new own is good alike =
      let with_them = λ (qs : List StreamQueues). let r : ReactorHalf =
      record mid { streams = alike.streams; queues = qs; due = alike.due; reached = alike.reached } in r in
      record {
        streams = alike.streams;
        due = alike.due;
        reached = alike.reached;
        same = ap (λ (h : ReactorHalf). with_queues h stream own) alike.same
            ∙ ap with_them (ap (set (map unmoved_queues mid.queues) stream) is
            ∙ sym (map-set unmoved_queues mid.queues stream new));
        told = alike.told;
        good = each-set (IsGood script) mid.queues stream new good alike.good;
      }

-- both choose alike
pub alike-choice : (script : ScriptModel) (test : Bool) (mid other half another : ReactorHalf) →
    IsAlike script mid half → IsAlike script other another →
    IsAlike script (cond test mid other) (cond test half another)
alike-choice script true mid other half another first second = first
alike-choice script false mid other half another first second = second
