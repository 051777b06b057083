use Rattle.future_tests.proofs.SeatedLemmas.{none_left, popped}
use Rattle.future_tests.proofs.joined.three_of.Goals as goal

pub returns-clause-all : goal.returns-clause-all
returns-clause-all g c =
    popped c.args.all.items c.pop.new.self.items c.pop-2.new.self.items c.pop-3.new.self.items c.in-Some-pop-2.first
    c.in-Some-pop.second c.in-Some.own c.in-Some.ensures.items c.in-Some-pop.ensures.items
    c.in-Some-pop-2.ensures.items c.requires.three

pub returns-clause-none : goal.returns-clause-none
returns-clause-none g c =
    none_left c.args.all.items c.pop.new.self.items c.pop-2.new.self.items c.pop-3.new.self.items
    c.in-Some-pop-2.first c.in-Some-pop.second c.in-Some.own c.in-Some.ensures.items c.in-Some-pop.ensures.items
    c.in-Some-pop-2.ensures.items c.requires.three
