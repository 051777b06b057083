-- Between its turns a history with untold bytes rests where a proactor does.
use Rattle.std.proofs.Common.{◌≡◌, ℕ, false, List, [], ◌∷◌, ◌++◌, length, map, replicate, zero, suc, inl, inr, refl, sym, ap, subst, ◌∙◌, arith}
use Rattle.std.specs.Prelude.{count_by}
use Rattle.std.specs.List.{All}
use Rattle.std.proofs.lemmas.Bool.{cases_lt}
use Rattle.std.proofs.lemmas.List.{get_or-replicate, get_or_past, length-append, length-replicate}
use Rattle.std.proofs.lemmas.List.Elements.{All-map, All-nil}
use Rattle.session_script.specs.Script.{ScriptModel}
use Rattle.stream_rules.specs.declared.queue.Completion.{Completion}
use Rattle.history_rules.specs.Kinds.{reading_of, writing_of}
use Rattle.history_rules.specs.Rounds.{is_held, IsEmptied}
use Rattle.history_rules.specs.State.{ReactorHalf, StreamQueues, first_reactor, no_queues}
use Rattle.history_rules.specs.Time.{at_last, at_time, next_time}
use Rattle.proactor_core.specs.Pending.{unmoved}
use Rattle.proactor_core.specs.Untold.{queues_of_view, unmoved_queues, AreToldBy, IsKnown, IsUntoldWith, MayAbort, UntoldBegins, UntoldAnswers, UntoldEnds, UntoldRests, UntoldTicks}
use Rattle.proactor_core.proofs.UntoldGivenLemmas.{given-count, rested-count}
use Rattle.proactor_core.proofs.UntoldLikeLemmas.{alike-to, none-left, IsAlike, IsGood}

rested-none : (count : ℕ) → map unmoved_queues (replicate count no_queues) ≡ replicate count no_queues
rested-none zero = refl
rested-none (suc count) = ap (λ qs. no_queues ∷ qs) (rested-none count)

none-at : (count n : ℕ) → queues_of_view (replicate count no_queues) n ≡ no_queues
none-at count n =
    elim (cases_lt n count) [
      | inl within ↦ get_or-replicate count n no_queues no_queues within
      | inr past ↦ get_or_past (replicate count no_queues) n no_queues
          (let long = length-replicate count no_queues in omega arith)
    ]

none-good : (script : ScriptModel) (n : ℕ) → IsGood script n no_queues
none-good script n = record {
  known = record { reads = All-nil (IsKnown script reading_of n); writes = All-nil (IsKnown script writing_of n) };
  aborts = record { reads = All-nil (MayAbort script); writes = All-nil (MayAbort script) };
}

pub untold-begins : UntoldBegins
untold-begins script streams =
    let half = first_reactor script false in
    let mid : ReactorHalf = record half { streams = streams } in
    let with_them = λ (qs : List StreamQueues). let r : ReactorHalf = record half { queues = qs } in r in
    let alike : IsAlike script mid half = record {
      streams = half.streams;
      due = [];
      reached = 0;
      same = ap with_them (sym (rested-none script.world.streams));
      told = tt;
      good = λ n. subst (IsGood script n) (sym (none-at script.world.streams n)) (none-good script n);
    } in
    ([], alike-to script mid half alike)

nothing-both : {X : Type 0} (xs ys : List X) → xs ++ ys ≡ [] → (xs ≡ []) × (ys ≡ [])
nothing-both [] ys e = (refl, e)
nothing-both (x ∷ xs) ys e = absurd (cc)

told-nothing : (script : ScriptModel) (own told : List Completion) → told ≡ [] → AreToldBy script own told →
    own ≡ []
told-nothing script [] told e are = refl
told-nothing script (x ∷ own) [] e are = absurd are
told-nothing script (x ∷ own) (y ∷ told) e are = absurd (cc)

pub untold-rests : UntoldRests
untold-rests script mid half (given, untold) none =
    let both = nothing-both untold.fixed given (sym untold.due ∙ none) in
    let left : half.queues ≡ map unmoved_queues mid.queues = none-left untold.in_order both.1 in
    let last : half.last ≡ mid.last = ap (λ (h : ReactorHalf). h.last) untold.others in
    record {
      unserved = subst (λ g. IsUntoldWith script g mid half) both.1 untold;
      due = told-nothing script half.due untold.fixed both.0 untold.told;
      drained = λ drained is. subst (All IsEmptied) (sym left)
          (All-map IsEmptied unmoved_queues mid.queues
          (λ k d b. let empty = drained (sym last ∙ is) k d b in
          (ap (map unmoved) empty.0, ap (map unmoved) empty.1)));
    }

pub untold-ticks : UntoldTicks
untold-ticks script given now streams mid half untold = record {
  fixed = untold.fixed;
  due = untold.due;
  told = untold.told;
  place = untold.place;
  in_order = untold.in_order;
  known = untold.known;
  aborts = untold.aborts;
  others = ap (at_time script false now) untold.others;
}

pub untold-ends : UntoldEnds
untold-ends script given streams mid half untold = record {
  fixed = untold.fixed;
  due = untold.due;
  told = untold.told;
  place = untold.place;
  in_order = untold.in_order;
  known = untold.known;
  aborts = untold.aborts;
  others = ap (at_last false) untold.others;
}

told-count : (script : ScriptModel) (own told : List Completion) → AreToldBy script own told →
    length own ≡ length told
told-count script [] [] are = refl
told-count script [] (y ∷ told) are = absurd are
told-count script (x ∷ own) [] are = absurd are
told-count script (x ∷ own) (y ∷ told) are = ap (λ n. suc n) (told-count script own told are.1)

pub untold-answers : UntoldAnswers
untold-answers script mid half (given, untold) =
    let waits = ap (λ (h : ReactorHalf). length h.waits) untold.others in
    let some = given-count untold.in_order in
    let rested = rested-count mid.queues in
    let own = told-count script half.due untold.fixed untold.told in
    let all = ap length untold.due ∙ length-append untold.fixed given in
    record {
      next = ap (next_time script) untold.others;
      pending = omega arith;
      guards = ap (λ (h : ReactorHalf). count_by is_held h.guards) untold.others;
      taken = ap (λ (h : ReactorHalf). h.taken) untold.others;
      last = ap (λ (h : ReactorHalf). h.last) untold.others;
      failed = ap (λ (h : ReactorHalf). h.failed) untold.others;
      whole_turn = ap (λ (h : ReactorHalf). h.whole_turn) untold.others;
    }
