use Rattle.history_book.proofs.replay.Replay.is_first_of_lane.Goals as goal

pub returns : goal.returns
returns c = rw (← c.self.view_is) (rw (c.script.ensures, c.works.ensures) at c.is_first_of_lane.ensures)
