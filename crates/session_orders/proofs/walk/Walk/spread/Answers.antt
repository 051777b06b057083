use Rattle.std.proofs.Common.{◌≡◌, ◌+◌, ap, arith, subst, sym, ◌∙◌}
use Rattle.history_rules.specs.Legal.{state_of}
use Rattle.session_orders.specs.Count.{HasMoved}
use Rattle.session_orders.specs.Place.{places_of}
use Rattle.session_orders.proofs.ComeLemmas.{all_below}
use Rattle.session_orders.proofs.CountLemmas.{moved_more, moved_none, moved_to_end}
use Rattle.session_orders.proofs.CountingLemmas.{come_same, have_same, moved_same, none_same, past_same}
use Rattle.session_orders.proofs.walk.Walk.spread.Goals as goal

pub returns-in_default-clause-moved : goal.returns-in_default-clause-moved
returns-in_default-clause-moved c is =
    let walk = c.args.self.now in
    let back = c.places.self in
    let mid = c.find_next.new.self in
    let script = walk.script.now in
    let kind = walk.kind in
    let path = walk.path.items in
    let s = state_of script kind.told path in
    let fits = c.requires.come.fits in
    let known = c.places.invariant in
    let past =
    past_same script back.script.now kind back.kind mid.place known.same_script known.same_kind
    c.in_default.ensures.past in
    let none =
    none_same script back.script.now kind back.kind path back.path.items back.place mid.place known.same_script
    known.same_kind known.same_path c.in_default.ensures.none in
    moved_to_end script kind s c.args.times c.args.queue.now.items c.places.queue.items 0 (places_of script kind) mid.place
    (all_below script kind path (places_of script kind) fits (omega arith)) (all_below script kind path mid.place fits past)
    (moved_more script kind s c.args.times c.args.queue.now.items c.places.queue.items c.places.queue.items 0 back.place
    mid.place known.moved
    (moved_none script kind s c.args.times c.places.queue.items back.place mid.place c.in_default.ensures.onward none))

pub places-preserved : goal.places-preserved
places-preserved c =
    let walk = c.args.self.now in
    let back = c.places.self in
    let mid = c.find_next.new.self in
    let new = c.follow.new.self in
    let script = walk.script.now in
    let kind = walk.kind in
    let path = walk.path.items in
    let s = state_of script kind.told path in
    let known = c.places.invariant in
    let found = c.in-Some.ensures.others in
    let others = c.in_ok-follow.ensures.others in
    let all = c.if-not-branch.false in
    let same_script : mid.script.now ≡ script = ap (λ w. w.script.now) found ∙ known.same_script in
    let same_kind : mid.kind ≡ kind = ap (λ w. w.kind) found ∙ known.same_kind in
    let same_path : mid.path.items ≡ path = ap (λ w. w.path.items) found ∙ known.same_path in
    let none =
    none_same script back.script.now kind back.kind path back.path.items back.place mid.place known.same_script
    known.same_kind known.same_path c.in-Some.ensures.none in
    let upto =
    moved_more script kind s c.args.times c.args.queue.now.items c.places.queue.items c.places.queue.items 0 back.place
    mid.place known.moved
    (moved_none script kind s c.args.times c.places.queue.items back.place mid.place c.in-Some.ensures.onward none) in
    let one =
    moved_same script mid.script.now kind mid.kind path mid.path.items c.args.times c.places.queue.items
    c.follow.new.queue.items mid.place (mid.place + 1) same_script same_kind same_path
    (c.in_ok-follow.ensures.moved all) in
    record {
      same_script = ap (λ w. w.script.now) others ∙ same_script;
      same_kind = ap (λ w. w.kind) others ∙ same_kind;
      same_path = ap (λ w. w.path.items) others ∙ same_path;
      come =
          come_same new.script.now mid.script.now new.kind mid.kind new.path.items mid.path.items new.replay
          (sym (ap (λ w. w.script.now) others)) (sym (ap (λ w. w.kind) others)) (sym (ap (λ w. w.path.items) others))
          c.in_ok-follow.ensures.come;
      have =
          have_same new.script.now mid.script.now new.kind mid.kind c.follow.new.queue.items
          (sym (ap (λ w. w.script.now) others)) (sym (ap (λ w. w.kind) others)) (c.in_ok-follow.ensures.have all);
      moved =
          subst (λ n. HasMoved script kind s c.args.times c.args.queue.now.items c.follow.new.queue.items 0 n)
          (sym (ap (λ w. w.place) others))
          (moved_more script kind s c.args.times c.args.queue.now.items c.places.queue.items c.follow.new.queue.items 0
          mid.place (mid.place + 1) upto one);
    }
