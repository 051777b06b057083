use Rattle.std.proofs.Common.{◌≡◌, ◌++◌, ◌∷◌, [], ap, arith, length, refl, subst, sym, ◌∙◌}
use Rattle.session_orders.specs.Listed.{events_in}
use Rattle.session_orders.specs.Walk.{ArePassed}
use Rattle.session_orders.specs.declared.advance.Move.TheVariants as move
use Rattle.session_orders.proofs.BoundLemmas.{cut_full, seen_entered_more, seen_whole_more}
use Rattle.session_orders.proofs.ComeLemmas.{now_moved, still_all}
use Rattle.session_orders.proofs.listing.list_on.Goals as goal
use Rattle.session_orders.proofs.listing.list_on.Goals.{in-Entered, in-Whole+in_ok-offer-in-Whole+else-not-branch}

pub returns-then-not-branch-clause-cut : goal.returns-then-not-branch-clause-cut
returns-then-not-branch-clause-cut c cut =
    let new = c.advance.new.self in
    let listed = events_in c.beginnings.histories.items in
    let full = c.in_ok-offer-in-Whole.ensures.full c.if-not-branch.true in
    let now = c.in_ok-advance.ensures.passed listed c.beginnings.invariant.passed in
    cut_full c.args.walk.now.script.now new.script.now c.args.bounds new.kind new.path.items new.place listed
    c.offer.new.histories.items
    (ap (λ script. script.now) c.in_ok-advance.ensures.script ∙ c.beginnings.invariant.same_script)
    (c.in_ok-advance.ensures.kind ∙ c.beginnings.invariant.same_kind) full.1 full.0
    (now_moved new.script.now new.kind c.in_ok-advance.field-0 move.Whole new.path.items new.place listed c.in-Whole.is now)

pub returns-in-Over-clause-whole : goal.returns-in-Over-clause-whole
returns-in-Over-clause-whole c all =
    let new = c.advance.new.self in
    let listed = events_in c.beginnings.histories.items in
    still_all c.args.walk.now.script.now new.script.now c.args.bounds.reactor new.kind listed listed
    (ap (λ script. script.now) c.in_ok-advance.ensures.script ∙ c.beginnings.invariant.same_script)
    (c.in_ok-advance.ensures.kind ∙ c.beginnings.invariant.same_kind) refl
    (now_moved new.script.now new.kind c.in_ok-advance.field-0 move.Over new.path.items new.place listed c.in-Over.is
    (c.in_ok-advance.ensures.passed listed c.beginnings.invariant.passed))

pub beginnings-preserved : goal.beginnings-preserved
beginnings-preserved c =
    let new = c.advance.new.self in
    let listed = events_in c.beginnings.histories.items in
    let now = c.in_ok-advance.ensures.passed listed c.beginnings.invariant.passed in
    let seen = c.beginnings.invariant.seen in
    let seen_now = c.in_ok-advance.ensures.seen seen.seen seen.are in
    let longer = c.in_ok-advance.ensures.longer in
    let short = c.beginnings.invariant.short in
    let within = c.beginnings.invariant.within in
    record {
      same_script = ap (λ script. script.now) c.in_ok-advance.ensures.script ∙ c.beginnings.invariant.same_script;
      same_kind = c.in_ok-advance.ensures.kind ∙ c.beginnings.invariant.same_kind;
      come = c.in_ok-advance.ensures.come;
      passed =
          elim c.match-branch-2.branch [
            | in-Entered w ↦
                subst (λ orders. ArePassed new.script.now new.kind new.path.items new.place orders)
                (sym (ap (λ histories. events_in histories.items) w.histories-is))
                (now_moved new.script.now new.kind c.in_ok-advance.field-0 move.Entered new.path.items new.place listed
                w.in-Entered.is now)
            | in-Whole+in_ok-offer-in-Whole+else-not-branch w ↦
                subst (λ orders. ArePassed new.script.now new.kind new.path.items new.place orders)
                (sym (ap (λ histories. events_in histories.items) w.histories-is
                ∙ w.in_ok-offer-in-Whole.ensures.kept w.if-not-branch.false
                ∙ ap (λ path. listed ++ path ∷ []) w.as_slice.ensures.value))
                (now_moved new.script.now new.kind c.in_ok-advance.field-0 move.Whole new.path.items new.place listed
                w.in-Whole.is now)
          ];
      seen =
          elim c.match-branch-2.branch [
            | in-Entered w ↦
                seen_entered_more new.script.now new.kind c.in_ok-advance.field-0 new.path.items new.place
                c.beginnings.count seen.seen w.in-Entered.is seen_now seen.long
            | in-Whole+in_ok-offer-in-Whole+else-not-branch w ↦
                seen_whole_more new.script.now new.kind c.in_ok-advance.field-0 new.path.items new.place
                c.beginnings.count seen.seen w.in-Whole.is seen_now seen.long
          ];
      within =
          elim c.match-branch-2.branch [
            | in-Entered w ↦
                let same = ap (λ histories. length histories.items) w.histories-is in omega (arith, same, within)
            | in-Whole+in_ok-offer-in-Whole+else-not-branch w ↦
                let same = ap (λ histories. length histories.items) w.histories-is in
                let below = w.in_ok-offer-in-Whole.ensures.within in
                omega (arith, same, below)
          ];
      short = omega (arith, longer, short);
    }
