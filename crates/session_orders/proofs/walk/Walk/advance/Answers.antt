use Rattle.std.proofs.Common.{◌≡◌, ◌+◌, List, ap, arith, length, refl, sym, ◌∙◌}
use Rattle.asio_types.specs.declared.event.Event.{Event}
use Rattle.session_orders.specs.Walk.{AreNowPassed, AreNowSeen, ArePassed, AreSeen}
use Rattle.session_orders.proofs.ComeLemmas.{if_ok, passed_same, seen_same}
use Rattle.session_orders.proofs.CountingLemmas.{come_same}
use Rattle.session_orders.proofs.PassedLemmas.{passed_onward, seen_onward}
use Rattle.session_orders.proofs.walk.Walk.advance.Goals as goal

pub returns-in-Some-clause-passed : goal.returns-in-Some-clause-passed
returns-in-Some-clause-passed c =
    let walk = c.args.self.now in
    let back = c.back.self in
    let mid = c.find_next.new.self in
    let new = c.enter.new.self in
    if_ok
    (λ move. (all : List (List Event)) → ArePassed mid.script.now mid.kind mid.path.items mid.place all →
    AreNowPassed new.script.now new.kind move new.path.items new.place all)
    (λ move. (all : List (List Event)) → ArePassed walk.script.now walk.kind walk.path.items walk.place all →
    AreNowPassed new.script.now new.kind move new.path.items new.place all) c.enter.result c.enter.ensures.passed
    (λ move said all before.
    said all
    (passed_same back.script.now mid.script.now back.kind mid.kind back.path.items mid.path.items mid.place all
    (ap (λ w. w.script.now) c.in-Some.ensures.others) (ap (λ w. w.kind) c.in-Some.ensures.others)
    (ap (λ w. w.path.items) c.in-Some.ensures.others)
    (passed_onward back.script.now back.kind back.path.items back.place mid.place all c.in-Some.ensures.onward c.in-Some.ensures.none
    (passed_same walk.script.now back.script.now walk.kind back.kind back.path.items back.path.items back.place all
    (ap (λ script. script.now) c.back.invariant.same_script) c.back.invariant.same_kind refl
    (c.back.invariant.passed all before)))))

pub returns-in-Some-clause-seen : goal.returns-in-Some-clause-seen
returns-in-Some-clause-seen c =
    let walk = c.args.self.now in
    let back = c.back.self in
    let mid = c.find_next.new.self in
    let new = c.enter.new.self in
    if_ok
    (λ move. (all : List (List Event)) → AreSeen mid.script.now mid.kind mid.path.items mid.place all →
    AreNowSeen new.script.now new.kind move new.path.items new.place all)
    (λ move. (all : List (List Event)) → AreSeen walk.script.now walk.kind walk.path.items walk.place all →
    AreNowSeen new.script.now new.kind move new.path.items new.place all) c.enter.result c.enter.ensures.seen
    (λ move said all before.
    said all
    (seen_same back.script.now mid.script.now back.kind mid.kind back.path.items mid.path.items mid.place all
    (ap (λ w. w.script.now) c.in-Some.ensures.others) (ap (λ w. w.kind) c.in-Some.ensures.others)
    (ap (λ w. w.path.items) c.in-Some.ensures.others)
    (seen_onward back.script.now back.kind back.path.items back.place mid.place all c.in-Some.ensures.onward
    (seen_same walk.script.now back.script.now walk.kind back.kind back.path.items back.path.items back.place all
    (ap (λ script. script.now) c.back.invariant.same_script) c.back.invariant.same_kind refl
    (c.back.invariant.seen all before)))))

pub returns-clause-passed : goal.returns-clause-passed
returns-clause-passed c =
    let walk = c.args.self.now in
    let back = c.back.self in
    let new = c.enter_first.new.self in
    if_ok
    (λ move. (all : List (List Event)) → ArePassed back.script.now back.kind back.path.items back.place all →
    AreNowPassed new.script.now new.kind move new.path.items new.place all)
    (λ move. (all : List (List Event)) → ArePassed walk.script.now walk.kind walk.path.items walk.place all →
    AreNowPassed new.script.now new.kind move new.path.items new.place all) c.enter_first.result
    c.enter_first.ensures.passed
    (λ move said all before.
    said all
    (passed_same walk.script.now back.script.now walk.kind back.kind back.path.items back.path.items back.place all
    (ap (λ script. script.now) c.back.invariant.same_script) c.back.invariant.same_kind refl
    (c.back.invariant.passed all before)))

pub returns-clause-seen : goal.returns-clause-seen
returns-clause-seen c =
    let walk = c.args.self.now in
    let back = c.back.self in
    let new = c.enter_first.new.self in
    if_ok
    (λ move. (all : List (List Event)) → AreSeen back.script.now back.kind back.path.items back.place all →
    AreNowSeen new.script.now new.kind move new.path.items new.place all)
    (λ move. (all : List (List Event)) → AreSeen walk.script.now walk.kind walk.path.items walk.place all →
    AreNowSeen new.script.now new.kind move new.path.items new.place all) c.enter_first.result
    c.enter_first.ensures.seen
    (λ move said all before.
    said all
    (seen_same walk.script.now back.script.now walk.kind back.kind back.path.items back.path.items back.place all
    (ap (λ script. script.now) c.back.invariant.same_script) c.back.invariant.same_kind refl
    (c.back.invariant.seen all before)))

pub back-preserved : goal.back-preserved
back-preserved c =
    let walk = c.args.self.now in
    let back = c.back.self in
    let mid = c.find_next.new.self in
    let new = c.leave.new.self in
    let others = c.in-None.ensures.others in
    let script : mid.script.now ≡ walk.script.now =
    ap (λ w. w.script.now) others ∙ ap (λ s. s.now) c.back.invariant.same_script in
    let kind : mid.kind ≡ walk.kind = ap (λ w. w.kind) others ∙ c.back.invariant.same_kind in
    let shorter = c.in_ok-leave-in-None.ensures.shorter in
    let left = c.back.invariant.left in
    let same : length mid.path.items ≡ length back.path.items = ap (λ w. length w.path.items) others in
    record {
      same_script =
          c.in_ok-leave-in-None.ensures.script ∙ ap (λ w. w.script) others ∙ c.back.invariant.same_script;
      same_kind = c.in_ok-leave-in-None.ensures.kind ∙ kind;
      come =
          come_same walk.script.now mid.script.now walk.kind mid.kind new.path.items new.path.items new.replay script kind
          refl c.in_ok-leave-in-None.ensures.come;
      passed =
          λ all before.
          passed_same mid.script.now walk.script.now mid.kind walk.kind new.path.items new.path.items new.place all
          (sym script) (sym kind) refl
          (c.in_ok-leave-in-None.ensures.passed all
          (passed_same back.script.now mid.script.now back.kind mid.kind back.path.items mid.path.items mid.place all
          (ap (λ w. w.script.now) others) (ap (λ w. w.kind) others) (ap (λ w. w.path.items) others)
          (passed_onward back.script.now back.kind back.path.items back.place mid.place all c.in-None.ensures.onward c.in-None.ensures.none
          (passed_same walk.script.now back.script.now walk.kind back.kind back.path.items back.path.items back.place all
          (ap (λ script. script.now) c.back.invariant.same_script) c.back.invariant.same_kind refl
          (c.back.invariant.passed all before)))));
      seen =
          λ all before.
          seen_same mid.script.now walk.script.now mid.kind walk.kind new.path.items new.path.items new.place all
          (sym script) (sym kind) refl
          (c.in_ok-leave-in-None.ensures.seen all
          (seen_same back.script.now mid.script.now back.kind mid.kind back.path.items mid.path.items mid.place all
          (ap (λ w. w.script.now) others) (ap (λ w. w.kind) others) (ap (λ w. w.path.items) others)
          (seen_onward back.script.now back.kind back.path.items back.place mid.place all c.in-None.ensures.onward
          (seen_same walk.script.now back.script.now walk.kind back.kind back.path.items back.path.items back.place all
          (ap (λ script. script.now) c.back.invariant.same_script) c.back.invariant.same_kind refl
          (c.back.invariant.seen all before)))));
      left = omega (arith, shorter, left, same);
    }
