use Rattle.std.proofs.Common.{List, ap, refl, sym}
use Rattle.std.proofs.lemmas.List.{nil_from_length}
use Rattle.asio_types.specs.declared.event.Event.{Event}
use Rattle.session_orders.specs.Walk.{AreNowPassed, ArePassed}
use Rattle.session_orders.proofs.ComeLemmas.{if_ok, now_over, passed_same, still_all}
use Rattle.session_orders.proofs.PassedLemmas.{passed_onward}
use Rattle.session_orders.proofs.walk.Walk.enter_first.Goals as goal

pub returns-in-Some-clause-passed : goal.returns-in-Some-clause-passed
returns-in-Some-clause-passed c =
    let walk = c.args.self.now in
    let mid = c.find_next.new.self in
    let new = c.enter.new.self in
    if_ok
    (λ move. (listed : List (List Event)) → ArePassed mid.script.now mid.kind mid.path.items mid.place listed →
    AreNowPassed new.script.now new.kind move new.path.items new.place listed)
    (λ move. (listed : List (List Event)) → ArePassed walk.script.now walk.kind walk.path.items walk.place listed →
    AreNowPassed new.script.now new.kind move new.path.items new.place listed) c.enter.result c.enter.ensures.passed
    (λ move said listed passed.
    said listed
    (passed_same walk.script.now mid.script.now walk.kind mid.kind walk.path.items mid.path.items mid.place listed
    (ap (λ w. w.script.now) c.in-Some.ensures.others) (ap (λ w. w.kind) c.in-Some.ensures.others)
    (ap (λ w. w.path.items) c.in-Some.ensures.others)
    (passed_onward walk.script.now walk.kind walk.path.items walk.place mid.place listed c.in-Some.ensures.onward
    c.in-Some.ensures.none passed)))

pub returns-in-None-clause-passed : goal.returns-in-None-clause-passed
returns-in-None-clause-passed c listed passed =
    let walk = c.args.self.now in
    let mid = c.find_next.new.self in
    still_all mid.script.now walk.script.now mid.kind walk.kind listed listed
    (sym (ap (λ w. w.script.now) c.in-None.ensures.others)) (sym (ap (λ w. w.kind) c.in-None.ensures.others)) refl
    (now_over walk.script.now walk.kind walk.path.items mid.place listed
    (nil_from_length walk.path.items c.requires.none) c.requires.come.fits c.in-None.ensures.past
    (passed_onward walk.script.now walk.kind walk.path.items walk.place mid.place listed c.in-None.ensures.onward
    c.in-None.ensures.none passed))
