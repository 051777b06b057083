-- A whole body, by the acts that it calls.
use Rattle.std.proofs.Common.{◌≡◌, ℕ, zero, suc, ◌+◌, ◌<◌, ◌≤◌, Bool, List, [], ◌∷◌, ◌++◌, Some, length, refl, sym, ap, subst, ◌∙◌, arith}
use Rattle.std.specs.Prelude.{slice_get}
use Rattle.std.proofs.lemmas.List.{append_assoc}
use Rattle.std.proofs.lemmas.Option.{slice_get_within}
use Rattle.asio_types.specs.Faults.{most_faults}
use Rattle.asio_types.specs.declared.code.Class.TheVariants as class
use Rattle.asio_types.specs.declared.code.Code.TheVariants as code
use Rattle.session_script.specs.Script.{Place, ScriptModel, parent_of}
use Rattle.session_script.specs.WellFormed.{IsWellFormed}
use Rattle.history_rules.specs.State.{ContextState, ReactorHalf}
use Rattle.op_handlers.specs.declared.call.Call.{Call}
use Rattle.strand_core.specs.Execution.{AreCalls, no_act, outside, inside, execution_of}
use Rattle.strand_core.specs.declared.posted.Posted.{Posted}
use Rattle.strand_core.specs.declared.posted.Posted.TheVariants as posted
use Rattle.execution_laws.proofs.ApartLemmas.{IsOf, apart, numbers_rise}
use Rattle.execution_laws.proofs.CallLemmas.{IsGoing, IsNext}
use Rattle.execution_laws.proofs.InsideLemmas.{act_inside}
use Rattle.execution_laws.proofs.MovesLemmas.{goes-bound, moves-both, moves-none}
use Rattle.execution_laws.proofs.OutsideLemmas.{MovesOn, act_outside, there-still}
use Rattle.execution_laws.proofs.PlaceLemmas.{behind_it, few_acts, parent_is, within_script}
use Rattle.execution_laws.proofs.ScriptLemmas.{few_in}
use Rattle.execution_laws.proofs.StateLemmas.{IsAt, IsThere, acts_in, both}

module _ (script : ScriptModel) (well : IsWellFormed script) where
  next_of : (told : Bool) (r : ReactorHalf) (place : Place) (a k : ℕ) → slice_get (acts_in script place) k ≡ Some a →
      IsGoing r.failed place → IsNext script told r place a k
  next_of told r place a k at going = record {
    parent = parent_is script well place a k at;
    behind = behind_it script well place a k at;
    next = at;
    few =
        omega (arith, few_acts script well, few_in place 0 script.acts, slice_get_within (acts_in script place) k a at);
    going = going;
  }

  -- these acts come next in a body
  pub record Follows (place : Place) (k : ℕ) (acts : List ℕ) : Type 0 where
    pub size : length (acts_in script place) ≡ k + length acts
    pub each : (i a : ℕ) → slice_get acts i ≡ Some a → slice_get (acts_in script place) (k + i) ≡ Some a

  pub follows-all : (place : Place) → Follows place 0 (acts_in script place)
  follows-all place = record {
    size = omega arith;
    each = λ i a at. let e : 0 + i ≡ i = omega arith in ap (slice_get (acts_in script place)) e ∙ at;
  }

  pub follows-next : (place : Place) (k a : ℕ) (acts : List ℕ) → Follows place k (a ∷ acts) →
      slice_get (acts_in script place) k ≡ Some a
  follows-next place k a acts follows =
      let e : k ≡ k + 0 = omega arith in ap (slice_get (acts_in script place)) e ∙ follows.each 0 a refl

  pub follows-rest : (place : Place) (k a : ℕ) (acts : List ℕ) → Follows place k (a ∷ acts) → Follows place (k + 1) acts
  follows-rest place k a acts follows = record {
    size = follows.size ∙ omega arith;
    each = λ i b at.
        let e : k + 1 + i ≡ k + suc i = omega arith in
        ap (slice_get (acts_in script place)) e ∙ follows.each (suc i) b at;
  }

  -- an act that comes next stands in the body, and comes once
  pub only_here : (place : Place) (k a : ℕ) (acts : List ℕ) (n : ℕ) → Follows place k (a ∷ acts) → IsOf n (a ∷ []) →
      parent_of script n ≡ place
  only_here place k a acts n follows (zero, is) =
      parent_is script well place n k (follows-next place k a acts follows ∙ is)
  only_here place k a acts n follows (suc i, is) = absurd (cc)

  pub behind_here : (place : Place) (k a : ℕ) (acts : List ℕ) (n : ℕ) → Follows place k (a ∷ acts) → IsOf n acts →
      parent_of script n ≡ place
  behind_here place k a acts n follows (i, is) = parent_is script well place n (k + suc i) (follows.each (suc i) n is)

  pub not_again : (place : Place) (k a : ℕ) (acts : List ℕ) (n : ℕ) → Follows place k (a ∷ acts) → IsOf n (a ∷ []) →
      IsOf n acts → ⊥
  not_again place k a acts n follows (zero, is) (j, again) =
      let less : n < n =
      numbers_rise place 0 script.acts k (k + suc j) n n (omega arith) (follows-next place k a acts follows ∙ is)
      (follows.each (suc j) n again) in
      omega (arith, less)
  not_again place k a acts n follows (suc i, is) again = absurd (cc)

  module _ (told : Bool) (r : ReactorHalf) (HasMark : Call → ℕ → Type 0) where
    -- what holds between two calls of a body
    pub record Between (place : Place) (k : ℕ) (s : ContextState) : Type 0 where
      pub going : IsGoing r.failed place
      pub size : length s.acts ≡ length script.acts
      pub there : IsThere s place
      pub few : s.events ≤ most_faults
      pub at : IsAt s place (both k)

    -- one act of a body, and the acts behind it
    joined : (place : Place) (k a : ℕ) (acts : List ℕ) (xs ys : List Posted) (s : ContextState) →
        Follows place k (a ∷ acts) → AreCalls script HasMark (a ∷ []) xs → AreCalls script HasMark acts ys →
        s.events ≤ most_faults → (first : MovesOn script told r place (k + 1) xs s) →
        MovesOn script told r place (length (acts_in script place)) ys first.after →
        MovesOn script told r place (length (acts_in script place)) (xs ++ ys) s
    joined place k a acts xs ys s follows one others few first rest =
        let differ =
        apart script well HasMark place one others (λ n of. only_here place k a acts n follows of)
        (λ n of. behind_here place k a acts n follows of)
        (λ n of of_too. not_again place k a acts n follows of of_too) first.moves.own rest.moves.own in
        record {
          after = rest.after;
          at = rest.at;
          moves = moves-both script told r place s first.after rest.after xs ys few first.moves rest.moves differ;
        }

    between_still : (place : Place) (k j : ℕ) (calls : List Posted) (s : ContextState) → Between place k s →
        (first : MovesOn script told r place j calls s) → Between place j first.after
    between_still place k j calls s between first = record {
      going = between.going;
      size = first.moves.count ∙ between.size;
      there = there-still place s first.after first.moves.count between.there;
      few = goes-bound script told r s first.after calls between.few first.moves.goes;
      at = first.at;
    }

    -- the calls of the acts that are left in a body
    pub whole_body : (place : Place) {acts : List ℕ} {calls : List Posted} → AreCalls script HasMark acts calls →
        (k : ℕ) (s : ContextState) → Follows place k acts → Between place k s →
        MovesOn script told r place (length (acts_in script place)) calls s
    whole_body place no_act k s follows between =
        let all : k ≡ length (acts_in script place) = sym (follows.size ∙ omega arith) in
        record {
          after = s;
          at = subst (λ k. IsAt s place (both k)) all between.at;
          moves = moves-none script told r place s;
        }
    whole_body place (outside {act} {acts} {calls} isnt more) k s follows between =
        let at = follows-next place k act acts follows in
        let within : act < length s.acts = omega (arith, within_script script well place act k at, between.size) in
        let first =
        act_outside script told r place act k (next_of told r place act k at between.going) s within between.there
        between.few between.at isnt in
        joined place k act acts (posted.Call act ∷ posted.Back act ∷ []) calls s follows (outside isnt no_act) more
        between.few first
        (whole_body place more (k + 1) first.after (follows-rest place k act acts follows)
        (between_still place k (k + 1) (posted.Call act ∷ posted.Back act ∷ []) s between first))
    whole_body place (inside {act} {begun} {mark} {acts} {body} {calls} is marked inner more) k s follows between =
        let at = follows-next place k act acts follows in
        let within : act < length s.acts = omega (arith, within_script script well place act k at, between.size) in
        let execution : List Posted = execution_of act code.Ok 0 begun mark body in
        let first =
        act_inside script told r place act k (next_of told r place act k at between.going) s within between.there
        between.few between.at is begun mark body
        (λ t size few running. whole_body (Some (act, class.Ok)) inner 0 t (follows-all (Some (act, class.Ok)))
        (record { going = tt; size = size ∙ between.size; there = omega (arith, within, size); few = few; at = running })) in
        subst (λ xs. MovesOn script told r place (length (acts_in script place)) (posted.Call act ∷ xs) s)
        (append_assoc execution (posted.Back act ∷ []) calls)
        (joined place k act acts (posted.Call act ∷ (execution ++ posted.Back act ∷ [])) calls s follows
        (inside is marked inner no_act) more between.few first (whole_body place more (k + 1) first.after
        (follows-rest place k act acts follows)
        (between_still place k (k + 1) (posted.Call act ∷ (execution ++ posted.Back act ∷ [])) s between first)))
