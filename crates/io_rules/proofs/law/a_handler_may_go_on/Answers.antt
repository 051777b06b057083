use Rattle.io_rules.proofs.RoomLemmas.{places_add_up, numbers_suffice, may_initiate_one}
use Rattle.io_rules.proofs.law.a_handler_may_go_on.Goals as goal

pub returns-clause-places : goal.returns-clause-places
returns-clause-places c = places_add_up

pub returns-clause-numbers : goal.returns-clause-numbers
returns-clause-numbers c = numbers_suffice

pub returns-clause-going_on : goal.returns-clause-going_on
returns-clause-going_on c = may_initiate_one
