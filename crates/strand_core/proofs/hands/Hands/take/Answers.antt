use Rattle.std.proofs.Common.{◌≡◌, ◌<◌, List, Option, length, IsSome, None, sym, ap, subst, ◌∙◌, arith}
use Rattle.std.specs.Prelude.{slice_set}
use Rattle.std.proofs.lemmas.List.{length-set}
use Rattle.op_handlers.specs.Rack.{handlers_in}
use Rattle.strand_core.specs.Hands.{Held, CallerIsGone, HasInlineOf, KeepsInline, held_at}
use Rattle.strand_core.specs.Placing.{has_place, spread}
use Rattle.strand_core.proofs.SpreadLemmas.{length-spread, none_seen, seen_after, seen_there}
use Rattle.strand_core.proofs.HandLemmas.{inside_taken, is_within, keeps_taken, script_length, taken_none}
use Rattle.strand_core.proofs.hands.Hands.take.Goals as goal

pub returns-in-None-clause-taken : goal.returns-in-None-clause-taken
returns-in-None-clause-taken g c =
    sym (none_seen c.self.inside.script.now c.self.inside.placing (handlers_in c.self.inside.held) c.self.invariant.size
    c.args.op c.in-None.ensures)
    ∙ ap (λ (v : Held g.row.H.Denot). held_at v c.args.op) c.self.view_is

pub returns-in-None-clause-after : goal.returns-in-None-clause-after
returns-in-None-clause-after g c =
    let none : held_at c.args.self.now c.args.op ≡ None =
    ap (λ (v : Held g.row.H.Denot). held_at v c.args.op) (sym c.self.view_is)
    ∙ none_seen c.self.inside.script.now c.self.inside.placing (handlers_in c.self.inside.held) c.self.invariant.size
    c.args.op c.in-None.ensures in
    sym (taken_none c.args.self.now.handlers c.args.op none)

pub returns-in-Some-clause-taken : goal.returns-in-Some-clause-taken
returns-in-Some-clause-taken g c =
    c.take.ensures.taken
    ∙ seen_there c.self.inside.script.now c.self.inside.placing (handlers_in c.self.inside.held) c.self.invariant.size
    c.args.op c.in-Some.place c.in-Some.ensures
    ∙ ap (λ (v : Held g.row.H.Denot). held_at v c.args.op) c.self.view_is

pub returns-in-Some-clause-after : goal.returns-in-Some-clause-after
returns-in-Some-clause-after g c =
    ap (spread (has_place c.self.inside.script.now c.self.inside.placing) (length c.self.inside.script.now.acts))
    c.take.ensures.after
    ∙ sym (seen_after c.self.inside.script.now c.self.inside.placing (handlers_in c.self.inside.held)
    c.self.invariant.size c.args.op c.in-Some.place c.in-Some.ensures)
    ∙ ap (λ (v : Held g.row.H.Denot). slice_set v.handlers c.args.op None) c.self.view_is

pub returns-in-Some-clause-within : goal.returns-in-Some-clause-within
returns-in-Some-clause-within g c some =
    let seen : List (Option g.row.H.Denot) =
    spread (has_place c.self.inside.script.now c.self.inside.placing) (length c.self.inside.script.now.acts)
    (handlers_in c.self.inside.held) in
    let within : c.args.op < length seen =
    is_within seen c.args.op
    (subst IsSome
    (c.take.ensures.taken
    ∙ seen_there c.self.inside.script.now c.self.inside.placing (handlers_in c.self.inside.held) c.self.invariant.size
    c.args.op c.in-Some.place c.in-Some.ensures) some) in
    omega (
      arith,
      within,
      length-spread (has_place c.self.inside.script.now c.self.inside.placing) (length c.self.inside.script.now.acts) (handlers_in c.self.inside.held),
      script_length c.self.view_is,
    )

pub returns-in-Some-clause-inside : goal.returns-in-Some-clause-inside
returns-in-Some-clause-inside g c some =
    let seen : List (Option g.row.H.Denot) =
    spread (has_place c.self.inside.script.now c.self.inside.placing) (length c.self.inside.script.now.acts)
    (handlers_in c.self.inside.held) in
    subst (λ hs. HasInlineOf c.self.inside.script.now hs c.args.op)
    (seen_after c.self.inside.script.now c.self.inside.placing (handlers_in c.self.inside.held) c.self.invariant.size
    c.args.op c.in-Some.place c.in-Some.ensures
    ∙ ap (spread (has_place c.self.inside.script.now c.self.inside.placing) (length c.self.inside.script.now.acts))
    (sym c.take.ensures.after))
    (inside_taken c.self.inside.script.now c.parents_come_first.ensures seen c.args.op c.self.invariant.keeps
    (subst IsSome
    (c.take.ensures.taken
    ∙ seen_there c.self.inside.script.now c.self.inside.placing (handlers_in c.self.inside.held) c.self.invariant.size
    c.args.op c.in-Some.place c.in-Some.ensures) some))

pub invariant_of-self : goal.invariant_of-self
invariant_of-self g c =
    let seen : List (Option g.row.H.Denot) =
    spread (has_place c.self.inside.script.now c.self.inside.placing) (length c.self.inside.script.now.acts)
    (handlers_in c.self.inside.held) in
    let gone : CallerIsGone (record { script = c.self.inside.script.now; handlers = seen }) c.args.op =
    subst (λ v. CallerIsGone v c.args.op) (sym c.self.view_is) c.requires in
    record {
      placed = c.self.invariant.placed;
      size =
          ap length c.take.ensures.after ∙ length-set (handlers_in c.self.inside.held) c.in-Some.place None
          ∙ c.self.invariant.size;
      keeps =
          subst (KeepsInline c.self.inside.script.now)
          (seen_after c.self.inside.script.now c.self.inside.placing (handlers_in c.self.inside.held)
          c.self.invariant.size c.args.op c.in-Some.place c.in-Some.ensures
          ∙ ap (spread (has_place c.self.inside.script.now c.self.inside.placing) (length c.self.inside.script.now.acts))
          (sym c.take.ensures.after))
          (keeps_taken c.self.inside.script.now c.parents_come_first.ensures seen c.args.op c.self.invariant.keeps gone);
    }
