-- The next line of a run claims a thing, gives it back, or does neither.
use Rattle.std.proofs.Common.{◌≡◌, ◌+◌, ℕ, ◌<◌, ◌≤◌, List, ◌∷◌, refl, ap, sym, subst, ◌∙◌, inl, inr, ⊎_elim, length, arith}
use Rattle.std.proofs.lemmas.Bool.{cases_Bool, eq-eqb, eqb-true}
use Rattle.std.specs.Prelude.{◌⊎◌, ◌==◌, Bool, true, false, if◌then◌else◌, Option, Some, None, IsSomeAnd, IsTrue, nat_eq}
use Rattle.std.specs.HashMap.{get}
use Rattle.std.specs.HashSet.{contains}
use Rattle.run_lines.specs.declared.line.Doing.{Doing}
use Rattle.run_lines.specs.declared.line.Doing.TheVariants as doing
use Rattle.run_lines.specs.declared.line.Line.{Line}
use Rattle.run_rules.specs.declared.frame.Frame.{Frame}
use Rattle.run_rules.specs.declared.taking.Resource.TheVariants.{Thing}
use Rattle.run_rules.specs.Legal.{IsLegalSoFar}
use Rattle.run_rules.specs.Stacks.{frame}
use Rattle.run_rules.specs.Takings.{is_taken_by}
use Rattle.run_orders.specs.Forced.{IsForced, at_once, begun_by, through}
use Rattle.run_orders.specs.Joins.{IsOverBefore}
use Rattle.run_orders.specs.Orders.{plain}
use Rattle.run_orders.specs.Trees.{Spot, spot_at, writer}
use Rattle.run_orders.proofs.TreeLemmas.{found, some_same}
use Rattle.run_joins.specs.Notes.{IsGone}
use Rattle.run_joins.proofs.JoiningLemmas.{one_thread}
use Rattle.run_forced.specs.declared.claims.Claims.{Claims}
use Rattle.run_forced.specs.declared.claims.LastClaim.{LastClaim}
use Rattle.run_forced.specs.declared.event.Event.{Event}
use Rattle.run_forced.specs.Claims.{AreClaims, IsFree, IsLastClaim, IsOverAt, is_mixed, last_claim}
use Rattle.run_forced.specs.Events.{IsHere}
use Rattle.run_forced.proofs.ChainLemmas.{when_false, when_true}
use Rattle.run_forced.proofs.EdgeLemmas.{shorter_at}

two : (a b : ℕ) → a < b + 1 → (a < b) ⊎ (a ≡ b)
two a b less = grind (arith)

two_upto : (a b : ℕ) → a ≤ b → (a < b) ⊎ (a ≡ b)
two_upto a b less = grind (arith)

up : {a b : ℕ} → a < b → a < b + 1
up less = omega arith

upto : {a b : ℕ} → a < b → a ≤ b
upto less = omega arith

does_of : (run : List Line) (place : ℕ) (event : Event) → (here : IsHere run place event) → event.note.line.does ≡ here.spot.line.does
does_of run place event here = ap (λ (l : Line). l.does) here.known.note.same

-- a line at the next place is the next line
same_line : (run : List Line) (place at : ℕ) (event : Event) (spot : Spot) → (here : IsHere run place event) → spot_at run at ≡ Some spot
    → at ≡ place → here.spot ≡ spot
same_line run place at event spot here there same =
    some_same here.spot spot (sym here.there ∙ ap (spot_at run) (sym same) ∙ there)

same_thing : (one other : ℕ) → doing.Claim one ≡ doing.Claim other → one ≡ other
same_thing one other e = cc

-- a line that claims nothing
pub claims_stay : (run : List Line) (place : ℕ) (event : Event) (claims : Claims) → IsHere run place event
    → ((thing : ℕ) → event.note.line.does ≡ doing.Claim thing → ⊥) → AreClaims run place claims → AreClaims run (place + 1) claims
claims_stay run place event claims here not are = record {
  none = λ thing none at spot there is less.
      ⊎_elim (λ (before : at < place). are.none thing none at spot there is before)
      (λ (same : at ≡ place). not_here thing at spot there is same) (two at place less);
  lasts = λ thing last is.
      let was = are.lasts thing last is in
      record {
        place = was.place;
        spot = was.spot;
        there = was.there;
        earlier = up was.earlier;
        claims = was.claims;
        writes = was.writes;
        newest = λ at other there is_too less.
            ⊎_elim (λ (before : at < place). was.newest at other there is_too before)
            (λ (same : at ≡ place). absurd (not_here thing at other there is_too same)) (two at place less);
        over = was.over;
      };
  handed = λ thing free at next one other there too is is_too less lines.
      ⊎_elim (λ (before : next < place). are.handed thing free at next one other there too is is_too less before)
      (λ (same : next ≡ place). absurd (not_here thing next other too is_too same)) (two next place lines);
}
  where
    not_here : (thing at : ℕ) (spot : Spot) → spot_at run at ≡ Some spot → spot.line.does ≡ doing.Claim thing → at ≡ place → ⊥
    not_here thing at spot there is same =
        not thing (does_of run place event here ∙ ap (λ (s : Spot). s.line.does) (same_line run place at event spot here there same) ∙ is)

-- what comes before the last claim of a thing is given back before what comes behind it
over_through : (run : List Line) (place middle later thing : ℕ) (one claim : Spot) (over : IsOverAt run thing claim later)
    → spot_at run middle ≡ Some claim → claim.line.does ≡ doing.Claim thing → IsForced run later place
    → IsOverBefore run middle thing one → IsOverBefore run place thing one
over_through run place middle later thing one claim over there claims forced before = record {
  at = before.at;
  later = before.later;
  there = before.there;
  gives = before.gives;
  forced =
      through middle before.forced
      (through later
      (at_once claim over.later there over.there (record {
        earlier = over.gives.behind;
        reason =
            inl (record {
              same = sym over.gives.same;
              plain = ap (λ (d : Doing). begun_by d) claims;
              plain_too = ap (λ (d : Doing). begun_by d) over.plain;
            });
      })) forced);
}

-- all claims are given back before this one
over_here : (run : List Line) (place thing at : ℕ) (claims : Claims) (last : LastClaim) (one : Spot) → AreClaims run place claims
    → is_mixed claims thing ≡ false → last_claim claims thing ≡ Some last → IsSomeAnd last.over (λ over. IsForced run over place)
    → spot_at run at ≡ Some one → one.line.does ≡ doing.Claim thing → at < place → IsOverBefore run place thing one
over_here run place thing at claims last one are free is over there claims_it less = by_over last.over refl over
  where
    was : IsLastClaim run place thing last
    was = are.lasts thing last is

    by_over : (given : Option ℕ) → last.over ≡ given → IsSomeAnd given (λ over. IsForced run over place) → IsOverBefore run place thing one
    by_over None same forced = absurd forced
    by_over (Some later) same forced =
        let gives = was.over later same in
        ⊎_elim
        (λ (before : at < was.place).
        over_through run place was.place later thing one was.spot gives was.there was.claims forced
        (are.handed thing free at was.place one was.spot there was.there claims_it was.claims before was.earlier))
        (λ (same_place : at ≡ was.place).
        let spot : was.spot ≡ one = some_same was.spot one (sym was.there ∙ ap (spot_at run) (sym same_place) ∙ there) in
        subst (λ (s : Spot). IsOverBefore run place thing s) spot
        (record { at = later; later = gives.later; there = gives.there; gives = gives.gives; forced = forced }))
        (two_upto at was.place (was.newest at one there claims_it less))

over_any : (run : List Line) (place thing at : ℕ) (claims : Claims) (last : Option LastClaim) (one : Spot) → AreClaims run place claims
    → is_mixed claims thing ≡ false → last_claim claims thing ≡ last → IsFree run claims thing place → spot_at run at ≡ Some one
    → one.line.does ≡ doing.Claim thing → at < place → IsOverBefore run place thing one
over_any run place thing at claims None one are unmixed is free there claims_it less =
    absurd (are.none thing is at one there claims_it less)
over_any run place thing at claims (Some last) one are unmixed is free there claims_it less =
    over_here run place thing at claims last one are unmixed is (free last is) there claims_it less

not_some : (at : ℕ) → None ≡ Some at → ⊥
not_some at e = cc

-- the next line claims a thing
pub claims_more : (run : List Line) (place thing : ℕ) (event : Event) (old new : Claims) (frame : Frame) → IsHere run place event
    → event.note.line.does ≡ doing.Claim thing → event.note.frame ≡ frame
    → ((other : ℕ) → last_claim new other ≡ (if thing == other then Some (record { frame = frame; over = None }) else last_claim old other))
    → ((other : ℕ) → is_mixed new other ≡ false → is_mixed old other ≡ false) → (is_mixed new thing ≡ false → IsFree run old thing place)
    → AreClaims run place old → AreClaims run (place + 1) new
claims_more run place thing event old new frame here does frame_is is mixed free are = record {
  none = λ other none at spot there claims less.
      ⊎_elim
      (λ (same : (thing == other) ≡ true).
      let no : Some (record { frame = frame; over = None }) ≡ None =
      sym (is other ∙ when_true (thing == other) (Some (record { frame = frame; over = None })) (last_claim old other) same) ∙ none in cc)
      (λ (differs : (thing == other) ≡ false).
      ⊎_elim (λ (before : at < place). are.none other (was other differs ∙ none) at spot there claims before)
      (λ (now : at ≡ place). apart other differs (claimed other at spot there claims now)) (two at place less))
      (cases_Bool (thing == other));
  lasts = λ other last last_is.
      ⊎_elim
      (λ (same : (thing == other) ≡ true).
      let last_here : record { frame = frame; over = None } ≡ last =
      some_same (record { frame = frame; over = None }) last
      (sym (is other ∙ when_true (thing == other) (Some (record { frame = frame; over = None })) (last_claim old other) same) ∙ last_is) in
      subst (λ (l : LastClaim). IsLastClaim run (place + 1) other l) last_here
      (subst (λ (t : ℕ). IsLastClaim run (place + 1) t (record { frame = frame; over = None })) (eqb-true thing other same) here_last))
      (λ (differs : (thing == other) ≡ false).
      let before = are.lasts other last (was other differs ∙ last_is) in
      record {
        place = before.place;
        spot = before.spot;
        there = before.there;
        earlier = up before.earlier;
        claims = before.claims;
        writes = before.writes;
        newest = λ at spot there claims less.
            ⊎_elim (λ (earlier : at < place). before.newest at spot there claims earlier)
            (λ (now : at ≡ place). absurd (apart other differs (claimed other at spot there claims now))) (two at place less);
        over = before.over;
      })
      (cases_Bool (thing == other));
  handed = λ other unmixed at next one later there too claims claims_too less lines.
      ⊎_elim
      (λ (before : next < place). are.handed other (mixed other unmixed) at next one later there too claims claims_too less before)
      (λ (now : next ≡ place).
      let same : thing ≡ other = claimed other next later too claims_too now in
      subst (λ (n : ℕ). IsOverBefore run n other one) (sym now)
      (subst (λ (t : ℕ). IsOverBefore run place t one) same
      (given at one there (claims ∙ ap doing.Claim (sym same)) (subst (λ (n : ℕ). at < n) now less)
      (subst (λ (t : ℕ). is_mixed new t ≡ false) (sym same) unmixed))))
      (two next place lines);
}
  where
    was : (other : ℕ) → (thing == other) ≡ false → last_claim old other ≡ last_claim new other
    was other differs =
        sym (is other ∙ when_false (thing == other) (Some (record { frame = frame; over = None })) (last_claim old other) differs)

    apart : (other : ℕ) → (thing == other) ≡ false → thing ≡ other → ⊥
    apart other differs same = let no : true ≡ false = sym (eq-eqb thing other same) ∙ differs in cc

    here_does : here.spot.line.does ≡ doing.Claim thing
    here_does = sym (does_of run place event here) ∙ does

    claimed : (other at : ℕ) (spot : Spot) → spot_at run at ≡ Some spot → spot.line.does ≡ doing.Claim other → at ≡ place → thing ≡ other
    claimed other at spot there claims now =
        same_thing thing other
        (sym here_does ∙ ap (λ (s : Spot). s.line.does) (same_line run place at event spot here there now) ∙ claims)

    below : {a b : ℕ} → a < b + 1 → a ≤ b
    below less = omega arith

    next_up : (n : ℕ) → n < n + 1
    next_up n = omega arith

    here_last : IsLastClaim run (place + 1) thing (record { frame = frame; over = None })
    here_last = record {
      place = place;
      spot = here.spot;
      there = here.there;
      earlier = next_up place;
      claims = here_does;
      writes = sym here.known.note.writes ∙ frame_is;
      newest = λ at other there claims less. below less;
      over = λ at none. absurd (not_some at none);
    }

    given : (at : ℕ) (one : Spot) → spot_at run at ≡ Some one → one.line.does ≡ doing.Claim thing → at < place
        → is_mixed new thing ≡ false → IsOverBefore run place thing one
    given at one there claims less unmixed =
        over_any run place thing at old (last_claim old thing) one are (mixed thing unmixed) refl (free unmixed) there claims less

-- the next line gives a thing back
pub claims_over : (run : List Line) (place thing : ℕ) (event : Event) (old new : Claims) (last : LastClaim) → IsLegalSoFar plain run
    → IsHere run place event → event.note.line.does ≡ doing.Release thing → IsTrue event.note.gone → last_claim old thing ≡ Some last
    → last.frame ≡ event.note.frame → new.mixed ≡ old.mixed
    → ((other : ℕ) → last_claim new other ≡ (if thing == other then Some (record { frame = last.frame; over = Some place }) else last_claim old other))
    → AreClaims run (place + 1) old → AreClaims run (place + 1) new
claims_over run place thing event old new last legal here does gone last_is frame_is mixed is are = record {
  none = λ other none.
      ⊎_elim
      (λ (same : (thing == other) ≡ true).
      let no : Some (record { frame = last.frame; over = Some place }) ≡ None =
      sym (is other ∙ when_true (thing == other) (Some (record { frame = last.frame; over = Some place })) (last_claim old other) same) ∙ none in cc)
      (λ (differs : (thing == other) ≡ false). are.none other (was other differs ∙ none)) (cases_Bool (thing == other));
  lasts = λ other one one_is.
      ⊎_elim
      (λ (same : (thing == other) ≡ true).
      let last_here : record { frame = last.frame; over = Some place } ≡ one =
      some_same (record { frame = last.frame; over = Some place }) one
      (sym (is other ∙ when_true (thing == other) (Some (record { frame = last.frame; over = Some place })) (last_claim old other) same) ∙ one_is) in
      subst (λ (l : LastClaim). IsLastClaim run (place + 1) other l) last_here
      (subst (λ (t : ℕ). IsLastClaim run (place + 1) t (record { frame = last.frame; over = Some place })) (eqb-true thing other same) here_last))
      (λ (differs : (thing == other) ≡ false). are.lasts other one (was other differs ∙ one_is)) (cases_Bool (thing == other));
  handed = λ other unmixed. are.handed other (ap (λ (m : _). contains nat_eq m other) (sym mixed) ∙ unmixed);
}
  where
    was : (other : ℕ) → (thing == other) ≡ false → last_claim old other ≡ last_claim new other
    was other differs =
        sym (is other ∙ when_false (thing == other) (Some (record { frame = last.frame; over = Some place })) (last_claim old other) differs)

    before : IsLastClaim run (place + 1) thing last
    before = are.lasts thing last last_is

    here_does : here.spot.line.does ≡ doing.Release thing
    here_does = sym (does_of run place event here) ∙ does

    writes : writer here.spot ≡ writer before.spot
    writes = sym here.known.note.writes ∙ sym frame_is ∙ sym before.writes

    not_here : before.place ≡ place → ⊥
    not_here same =
        let spot : here.spot ≡ before.spot = same_line run place before.place event before.spot here before.there same in
        let no : doing.Release thing ≡ doing.Claim thing = sym here_does ∙ ap (λ (s : Spot). s.line.does) spot ∙ before.claims in cc

    less : before.place < place
    less = ⊎_elim (λ l. l) (λ e. absurd (not_here e)) (two before.place place before.earlier)

    on : here.spot.line.thread ≡ before.spot.line.thread
    on = one_thread run legal here.spot before.spot (found run place here.spot here.there).end
        (found run before.place before.spot before.there).end writes

    gone_here : is_taken_by (here.spot.line ∷ here.spot.past) here.spot.line.thread (writer here.spot) (Thing thing) ≡ false
    gone_here =
        subst (λ (d : Doing). IsGone (here.spot.line ∷ here.spot.past) here.spot.line.thread (writer here.spot) d) here_does
        (here.known.note.gone gone)

    here_last : IsLastClaim run (place + 1) thing (record { frame = last.frame; over = Some place })
    here_last = record {
      place = before.place;
      spot = before.spot;
      there = before.there;
      earlier = before.earlier;
      claims = before.claims;
      writes = before.writes;
      newest = before.newest;
      over = λ at given.
          subst (λ (p : ℕ). IsOverAt run thing before.spot p) (some_same place at given)
          (record {
            later = here.spot;
            there = here.there;
            gives = record {
              behind = shorter_at run before.place place before.spot here.spot before.there here.there less;
              same = writes;
              gone =
                  subst (λ (w : Frame). is_taken_by (here.spot.line ∷ here.spot.past) before.spot.line.thread w (Thing thing) ≡ false) writes
                  (subst (λ (t : ℕ). is_taken_by (here.spot.line ∷ here.spot.past) t (writer here.spot) (Thing thing) ≡ false) on gone_here);
            };
            plain = here_does;
          });
    }

pub release_stays : (run : List Line) (place thing : ℕ) (event : Event) (claims : Claims) → IsHere run place event
    → event.note.line.does ≡ doing.Release thing → AreClaims run place claims → AreClaims run (place + 1) claims
release_stays run place thing event claims here does are =
    claims_stay run place event claims here (λ other is. no other (sym does ∙ is)) are
  where
    no : (other : ℕ) → doing.Release thing ≡ doing.Claim other → ⊥
    no other e = cc

pub claims_mixed : (run : List Line) (place thing : ℕ) (event : Event) (old middle new : Claims) → IsHere run place event
    → event.note.line.does ≡ doing.Claim thing → middle.last ≡ old.last
    → ((other : ℕ) → last_claim new other ≡
    (if thing == other then Some (record { frame = event.note.frame; over = None }) else last_claim middle other))
    → ((other : ℕ) → is_mixed new other ≡ false → is_mixed old other ≡ false) → (is_mixed new thing ≡ false → IsFree run old thing place)
    → AreClaims run place old → AreClaims run (place + 1) new
claims_mixed run place thing event old middle new here does same is mixed free are =
    claims_more run place thing event old new event.note.frame here does refl
    (λ other.
    is other
    ∙ ap (λ (m : _). if thing == other then Some (record { frame = event.note.frame; over = None }) else get nat_eq m other) same)
    mixed free are
