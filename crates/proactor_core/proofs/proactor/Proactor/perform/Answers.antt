use Rattle.std.proofs.Common.{ap, subst, ◌∙◌, arith}
use Rattle.session_script.specs.WellFormed.{FitsAct, header_of}
use Rattle.history_rules.proofs.LimitLemmas.{time-below}
use Rattle.proactor_core.specs.Proactor.{ProactorView}
use Rattle.proactor_core.proofs.proactor.Proactor.perform.Goals as goal

pub take_expiry-requires-clause-timer : goal.take_expiry-requires-clause-timer
take_expiry-requires-clause-timer g c =
    let script = c.self.inside.script.now in
    let fits =
    subst (FitsAct (header_of script)) c.in-Expires.is (c.acts_fit.ensures c.args.a c.act-act.result.now c.act-act.ensures) in
    let declared = fits.0 in
    let fit = c.requires.sound.turning.room.fit.expiries in
    let same = ap (λ (v : ProactorView g.row.X.Denot). v.script.timers) c.self.view_is in
    omega (arith, declared, fit, same)

pub take_expiry-requires-in-ExpiresAt-clause-timer : goal.take_expiry-requires-in-ExpiresAt-clause-timer
take_expiry-requires-in-ExpiresAt-clause-timer g c =
    let script = c.self.inside.script.now in
    let fits =
    subst (FitsAct (header_of script)) c.in-ExpiresAt.is (c.acts_fit.ensures c.args.a c.act-act.result.now c.act-act.ensures) in
    let declared = fits.0 in
    let fit = c.requires.sound.turning.room.fit.expiries in
    let same = ap (λ (v : ProactorView g.row.X.Denot). v.script.timers) c.self.view_is in
    omega (arith, declared, fit, same)

pub take_cancel-requires-clause-timer : goal.take_cancel-requires-clause-timer
take_cancel-requires-clause-timer g c =
    let script = c.self.inside.script.now in
    let fits =
    subst (FitsAct (header_of script)) c.in-Cancel.is (c.acts_fit.ensures c.args.a c.act-act.result.now c.act-act.ensures) in
    let declared = fits in
    let fit = c.requires.sound.turning.room.fit.expiries in
    let same = ap (λ (v : ProactorView g.row.X.Denot). v.script.timers) c.self.view_is in
    omega (arith, declared, fit, same)

pub take_cancel_one-requires-clause-timer : goal.take_cancel_one-requires-clause-timer
take_cancel_one-requires-clause-timer g c =
    let script = c.self.inside.script.now in
    let fits =
    subst (FitsAct (header_of script)) c.in-CancelOne.is (c.acts_fit.ensures c.args.a c.act-act.result.now c.act-act.ensures) in
    let declared = fits in
    let fit = c.requires.sound.turning.room.fit.expiries in
    let same = ap (λ (v : ProactorView g.row.X.Denot). v.script.timers) c.self.view_is in
    omega (arith, declared, fit, same)

pub take_emit-requires-clause-slot : goal.take_emit-requires-clause-slot
take_emit-requires-clause-slot g c =
    let script = c.self.inside.script.now in
    let fits =
    subst (FitsAct (header_of script)) c.in-Emit.is (c.acts_fit.ensures c.args.a c.act-act.result.now c.act-act.ensures) in
    let declared = fits.0 in
    let fit = c.requires.sound.turning.room.fit.slots in
    let same = ap (λ (v : ProactorView g.row.X.Denot). v.script.slots) c.self.view_is in
    omega (arith, declared, fit, same)

pub take_close-requires-clause-known : goal.take_close-requires-clause-known
take_close-requires-clause-known g c =
    let script = c.self.inside.script.now in
    let fits =
    subst (FitsAct (header_of script)) c.in-Close.is (c.acts_fit.ensures c.args.a c.act-act.result.now c.act-act.ensures) in
    let declared = fits in
    let fit = c.requires.sound.turning.room.fit.streams in
    let same = ap (λ (v : ProactorView g.row.X.Denot). v.script.world.streams) c.self.view_is in
    omega (arith, declared, fit, same)

pub take_release-requires-clause-guard : goal.take_release-requires-clause-guard
take_release-requires-clause-guard g c =
    let script = c.self.inside.script.now in
    let fits =
    subst (FitsAct (header_of script)) c.in-Release.is (c.acts_fit.ensures c.args.a c.act-act.result.now c.act-act.ensures) in
    let declared = fits in
    let fit = c.requires.sound.turning.room.fit.guards in
    let same = ap (λ (v : ProactorView g.row.X.Denot). v.script.guards) c.self.view_is in
    omega (arith, declared, fit, same)

pub overflow_add-expiry : goal.overflow_add-expiry
overflow_add-expiry g c =
    let script = c.self.inside.script.now in
    let fits =
    subst (FitsAct (header_of script)) c.in-Expires.is (c.acts_fit.ensures c.args.a c.act-act.result.now c.act-act.ensures) in
    let least = fits.1 in
    let short = time-below script.version in
    let room = c.requires.sound.turning.room in
    let within = room.within.now in
    let accepted = room.tables.accepted in
    let acts = room.fit.taken in
    let most = room.fit.most in
    let now = c.now.ensures ∙ ap (λ (v : ProactorView g.row.X.Denot). v.tables.time) c.self.view_is in
    omega (arith, least, short, within, accepted, acts, most, now)

pub take_expiry-requires-clause-within : goal.take_expiry-requires-clause-within
take_expiry-requires-clause-within g c =
    let script = c.self.inside.script.now in
    let fits =
    subst (FitsAct (header_of script)) c.in-Expires.is (c.acts_fit.ensures c.args.a c.act-act.result.now c.act-act.ensures) in
    let least = fits.1 in
    let short = time-below script.version in
    let room = c.requires.sound.turning.room in
    let within = room.within.now in
    let accepted = room.tables.accepted in
    let acts = room.fit.taken in
    let most = room.fit.most in
    let now = c.now.ensures ∙ ap (λ (v : ProactorView g.row.X.Denot). v.tables.time) c.self.view_is in
    omega (arith, least, short, within, accepted, acts, most, now)

pub take_expiry-requires-in-ExpiresAt-clause-within : goal.take_expiry-requires-in-ExpiresAt-clause-within
take_expiry-requires-in-ExpiresAt-clause-within g c =
    let script = c.self.inside.script.now in
    let fits =
    subst (FitsAct (header_of script)) c.in-ExpiresAt.is (c.acts_fit.ensures c.args.a c.act-act.result.now c.act-act.ensures) in
    let least = fits.1 in
    let short = time-below script.version in
    let room = c.requires.sound.turning.room in
    let within = room.within.now in
    let accepted = room.tables.accepted in
    let acts = room.fit.taken in
    let most = room.fit.most in
    omega (arith, least, short, within, accepted, acts, most)
