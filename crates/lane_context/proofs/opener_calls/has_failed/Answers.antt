use Rattle.std.proofs.Common.{◌≡◌, ◌<◌, ◌+◌, ◌-◌, ℕ, Some, ap, arith, get_or, length, subst, sym, ◌∙◌}
use Rattle.std.specs.Prelude.{slice_get}
use Rattle.std.proofs.lemmas.Option.{slice_get-get_or}
use Rattle.lane_clock.specs.Seats.{own}
use Rattle.lane_map.specs.LaneNumbers.{reactor_lane}
use Rattle.lane_map.proofs.NumberLemmas.{lane_count as lanes_and_reactor}
use Rattle.lane_logs.specs.Cuts.{NoneStops}
use Rattle.lane_turns.specs.KnownFaults.{SomeStop}
use Rattle.lane_turns.specs.LaneOf.{seat_of}
use Rattle.lane_turns.specs.LaneValues.{terms}
use Rattle.lane_turns.proofs.AllWorkersLemmas.{works_on}
use Rattle.lane_turns.proofs.BenchLemmas.{same_one}
use Rattle.lane_turns.proofs.ReactorFaultLemmas.{failure_drawn}
use Rattle.lane_context.proofs.opener_calls.has_failed.Goals as goal

pub returns-clause-goes_on : goal.returns-clause-goes_on
returns-clause-goes_on g c works one at =
    let t =
    terms g.N.LaneSession.names g.H.CompletionHandler.marks g.X.Reactor.state g.X.Reactor.told g.X.Reactor.faults
    g.N.LaneSession.faults g.N.LaneSession.clock in
    let bench = c.args.bench.now in
    let i : ℕ = length bench - 1 in
    let lane = c.index-bench-last.result in
    let some_lane = lanes_and_reactor g.N.LaneSession.names.script in
    let within : i < length bench = omega (arith, c.requires.lanes.size, some_lane) in
    let here : reactor_lane g.N.LaneSession.names.script ≡ i = omega (arith, c.requires.lanes.size, some_lane) in
    let there : slice_get bench i ≡ Some lane = slice_get-get_or bench i lane within ∙ ap Some (sym c.index-bench-last.is) in
    let same : lane ≡ one = same_one bench i (reactor_lane g.N.LaneSession.names.script) lane one there here at in
    let number : (seat_of lane).number ≡ 0 + i = c.requires.lanes.numbers i lane there in
    let last : (seat_of lane).number ≡ reactor_lane g.N.LaneSession.names.script = omega (arith, number, here) in
    subst (λ v. NoneStops (own (seat_of v))) same
    (works_on t lane c.is_one.ensures (sym c.is_failed.ensures ∙ works) last)

pub returns-clause-stopped : goal.returns-clause-stopped
returns-clause-stopped g c failed one at =
    let t =
    terms g.N.LaneSession.names g.H.CompletionHandler.marks g.X.Reactor.state g.X.Reactor.told g.X.Reactor.faults
    g.N.LaneSession.faults g.N.LaneSession.clock in
    let bench = c.args.bench.now in
    let i : ℕ = length bench - 1 in
    let lane = c.index-bench-last.result in
    let some_lane = lanes_and_reactor g.N.LaneSession.names.script in
    let within : i < length bench = omega (arith, c.requires.lanes.size, some_lane) in
    let here : reactor_lane g.N.LaneSession.names.script ≡ i = omega (arith, c.requires.lanes.size, some_lane) in
    let there : slice_get bench i ≡ Some lane = slice_get-get_or bench i lane within ∙ ap Some (sym c.index-bench-last.is) in
    let same : lane ≡ one = same_one bench i (reactor_lane g.N.LaneSession.names.script) lane one there here at in
    subst (λ v. SomeStop (own (seat_of v))) same
    (failure_drawn t lane c.is_one.ensures (sym c.is_failed.ensures ∙ failed))
