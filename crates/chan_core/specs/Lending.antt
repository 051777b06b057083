-- That a channel beside a proactor is lent.
use mir.Syntax.{named}
use Rattle.std.specs.Prelude.{[]}
use Rattle.std.specs.Borrow.{Fml, Lends, MutBor, RattleType}
use Rattle.reactor_trait.specs.declared.reactor.Reactor.{Ghosts}
use Rattle.chan_core.specs.Channel.{Channel}
use Rattle.chan_core.specs.Timed.{TimedView}
use Rattle.chan_core.specs.contracts.channel.ChanCore as channel
use Rattle.chan_core.specs.contracts.timed.TimedChan as timed

-- the channel is as it is left, and the proactor as it was
abbrev pub LendsChan : (X : RattleType) → Ghosts X.Denot → MutBor (TimedView X.Denot) →
    MutBor Channel → Fml
LendsChan X reactor t r =
    Lends (timed.the_row (record { mir = named 1; lft = [] }) X reactor) channel.the_row t r
    (λ left. record t.now { chan = left })
