use Rattle.std.proofs.Common.{◌≡◌, ℕ, ◌+◌, ◌*◌, ◌<◌, List, [], length, map, get_or, Result, Ok, Err, ◌∙◌}
use Rattle.std.specs.Prelude.{IfOk}
use Rattle.asio_types.specs.declared.failure.NoMemory.{NoMemory}
use Rattle.session_script.specs.Groups.{place_number, numbers_with}
use Rattle.session_script.specs.Layout.{HoldsPlaces}
use Rattle.session_script.specs.Outcome.{entries_of}
use Rattle.session_script.proofs.PlacesLemmas.{numbers_below, holds_places}
use Rattle.session_script.proofs.place.places.Goals as goal

pub of-requires-clause-in_range : goal.of-requires-clause-in_range
of-requires-clause-in_range c i h =
    let e : c.as_slice.result.now ≡ map (λ entry. place_number (length c.args.acts.now) entry.parent) c.args.acts.now =
    c.as_slice.ensures.value ∙ c.in_ok-numbers.ensures.value in
    rw e (numbers_below (length c.args.acts.now) i c.args.acts.now (rw e at h))

pub returns : goal.returns
returns c = by_result c.of.result c.of.ensures.count c.of.ensures.groups
  where
    e : c.as_slice.result.now ≡ map (λ entry. place_number (length c.args.acts.now) entry.parent) c.args.acts.now
    e = c.as_slice.ensures.value ∙ c.in_ok-numbers.ensures.value

    by_result : (r : Result (List (List ℕ)) NoMemory) →
        IfOk r (λ groups. length groups ≡ 3 * length c.args.acts.now + 2) →
        IfOk r (λ groups.
        (key : ℕ) → key < 3 * length c.args.acts.now + 2 →
        get_or groups key [] ≡ numbers_with key 0 c.as_slice.result.now) →
        IfOk r (λ places. HoldsPlaces (entries_of c.args.acts.now) places)
    by_result (Ok groups) count are = holds_places c.args.acts.now groups count (rw e at are)
    by_result (Err missing) count are = tt
