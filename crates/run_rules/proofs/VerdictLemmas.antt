-- A run has one verdict.
use Rattle.std.proofs.Common.{◌≡◌, ℕ, List, [], ◌∷◌, Option, refl, ap, sym, ◌∙◌, ⊎_elim}
use Rattle.run_lines.specs.declared.code.Code.{Code}
use Rattle.run_lines.specs.declared.line.Doing.{Doing}
use Rattle.run_lines.specs.declared.line.Doing.TheVariants as doing
use Rattle.run_lines.specs.declared.line.Line.{Line}
use Rattle.run_lines.specs.declared.word.Word.{Word}
use Rattle.run_rules.specs.declared.level.Level.{Level}
use Rattle.run_rules.specs.declared.rule.Rule.{Rule}
use Rattle.run_rules.specs.declared.rule.Rule.TheVariants as rule
use Rattle.run_rules.specs.declared.verdict.Verdict.{Verdict}
use Rattle.run_rules.specs.declared.verdict.Verdict.TheVariants as verdict
use Rattle.run_rules.specs.Breaks.{BreaksByDoing, BreaksRule, BreaksStrictly}
use Rattle.run_rules.specs.MayCome.{MayCome, MayDo}
use Rattle.run_rules.specs.Strict.{MayDoStrictly}
use Rattle.run_rules.specs.Legal.{IsLegalSoFar}
use Rattle.run_rules.specs.Verdicts.{IsIllegalAt, IsVerdict}

-- a line that breaks a rule may not come
pub broken_not : (level : Level) (past : List Line) (thread : ℕ) (does : Doing) (rule : Rule) →
    BreaksByDoing level past thread does rule → MayDo level past thread does → ⊥
broken_not level past thread (doing.Call op word context strand thing) rule.New broken may = broken may.is_new
broken_not level past thread (doing.Call op word context strand thing) rule.Single broken may = broken.1 may.single
broken_not level past thread (doing.Back op) rule.Returns broken may = broken may.returns
broken_not level past thread (doing.Done op code size) rule.Waiting broken may = broken may.waiting
broken_not level past thread (doing.Done op code size) rule.Asynchronous broken may = may.asynchronous broken.1
broken_not level past thread (doing.Done op code size) rule.DoneOnce broken may = broken.2 may.done_once
broken_not level past thread (doing.Begin op code size) rule.Waiting broken may = broken may.waiting
broken_not level past thread (doing.Begin op code size) rule.Outcome broken may = broken.1 may.outcome
broken_not level past thread (doing.Begin op code size) rule.Free broken may = broken.2 may.free
broken_not level past thread (doing.Begin op code size) rule.First broken may = broken.3 may.first
broken_not level past thread (doing.End op) rule.Innermost broken may = broken may.innermost
broken_not level past thread (doing.End op) rule.Clean broken may = broken.1 may.clean
broken_not level past thread (doing.Throw op) rule.Innermost broken may = broken may.innermost
broken_not level past thread (doing.Throw op) rule.Clean broken may = broken.1 may.clean
broken_not level past thread (doing.Drop op) rule.Waiting broken may = broken may.waiting
broken_not level past thread (doing.Claim thing) rule.Untouched broken may = broken may.untouched
broken_not level past thread (doing.Release thing) rule.Claimed broken may = broken may.claimed
broken_not level past thread (doing.Lock lock) rule.Unlocked broken may = broken may.unlocked
broken_not level past thread (doing.Unlock lock) rule.Locked broken may = broken may.locked
broken_not level past thread (doing.After mark) rule.Marked broken may = broken may.marked
broken_not level past thread _ _ broken may = absurd broken

pub strictly_not : (past : List Line) (thread : ℕ) (does : Doing) (rule : Rule) →
    BreaksStrictly past thread does rule → MayDoStrictly past thread does → ⊥
strictly_not past thread (doing.Begin op code size) rule.Ready broken may = broken may.ready
strictly_not past thread (doing.Begin op code size) rule.Order broken may = broken.1 may.next
strictly_not past thread (doing.Begin op code size) rule.Stopped broken may = broken.2 may.allowed
strictly_not past thread (doing.Begin op code size) rule.Nested broken may = broken.3 may.alone
strictly_not past thread (doing.Begin op code size) rule.Finishing broken may = broken.4 may.going
strictly_not past thread (doing.Begin op code size) _ broken may = absurd broken
strictly_not past thread _ rule.Finishing broken may = broken may
strictly_not past thread _ _ broken may = absurd broken

breaks_not : (level : Level) (past : List Line) (line : Line) (rule : Rule) → BreaksRule level past line rule →
    MayCome level past line → ⊥
breaks_not level past line rule breaks may =
    ⊎_elim (λ broken. broken_not level past line.thread line.does rule broken may.rules)
    (λ broken. strictly_not past line.thread line.does rule broken.breaks (may.strict broken.strict)) breaks

-- lines of which one may not come are no legal ones
pub illegal_not : (level : Level) (past : List Line) (place : ℕ) (rule : Rule) →
    IsIllegalAt level past place rule → IsLegalSoFar level past → ⊥
illegal_not level [] place rule illegal legal = absurd illegal
illegal_not level (line ∷ past) place rule illegal legal =
    ⊎_elim (λ earlier. illegal_not level past place rule earlier legal.0)
    (λ here. breaks_not level past line rule here.1 legal.1) illegal

-- of the rules of one line the first that it doesn't keep is one

one_of_call : (level : Level) (past : List Line) (thread op context : ℕ) (word : Word) (strand thing : Option ℕ)
    (one other : Rule)
    → BreaksByDoing level past thread (doing.Call op word context strand thing) one
    → BreaksByDoing level past thread (doing.Call op word context strand thing) other → one ≡ other
one_of_call level past thread op context word strand thing rule.New rule.New a b = refl
one_of_call level past thread op context word strand thing rule.New rule.Single a b = absurd (a b.0)
one_of_call level past thread op context word strand thing rule.Single rule.New a b = absurd (b a.0)
one_of_call level past thread op context word strand thing rule.Single rule.Single a b = refl
one_of_call level past thread op context word strand thing rule.New _ a b = absurd b
one_of_call level past thread op context word strand thing rule.Single _ a b = absurd b
one_of_call level past thread op context word strand thing _ _ a b = absurd a

one_of_done : (level : Level) (past : List Line) (thread op : ℕ) (code : Code) (size : ℕ) (one other : Rule)
    → BreaksByDoing level past thread (doing.Done op code size) one →
    BreaksByDoing level past thread (doing.Done op code size) other
    → one ≡ other
one_of_done level past thread op code size rule.Waiting rule.Waiting a b = refl
one_of_done level past thread op code size rule.Waiting rule.Asynchronous a b = absurd (a b.0)
one_of_done level past thread op code size rule.Waiting rule.DoneOnce a b = absurd (a b.0)
one_of_done level past thread op code size rule.Asynchronous rule.Waiting a b = absurd (b a.0)
one_of_done level past thread op code size rule.Asynchronous rule.Asynchronous a b = refl
one_of_done level past thread op code size rule.Asynchronous rule.DoneOnce a b = absurd (b.1 a.1)
one_of_done level past thread op code size rule.DoneOnce rule.Waiting a b = absurd (b a.0)
one_of_done level past thread op code size rule.DoneOnce rule.Asynchronous a b = absurd (a.1 b.1)
one_of_done level past thread op code size rule.DoneOnce rule.DoneOnce a b = refl
one_of_done level past thread op code size rule.Waiting _ a b = absurd b
one_of_done level past thread op code size rule.Asynchronous _ a b = absurd b
one_of_done level past thread op code size rule.DoneOnce _ a b = absurd b
one_of_done level past thread op code size _ _ a b = absurd a

one_of_begin : (level : Level) (past : List Line) (thread op : ℕ) (code : Code) (size : ℕ) (one other : Rule)
    → BreaksByDoing level past thread (doing.Begin op code size) one →
    BreaksByDoing level past thread (doing.Begin op code size) other
    → one ≡ other
one_of_begin level past thread op code size rule.Waiting rule.Waiting a b = refl
one_of_begin level past thread op code size rule.Waiting rule.Outcome a b = absurd (a b.0)
one_of_begin level past thread op code size rule.Waiting rule.Free a b = absurd (a b.0)
one_of_begin level past thread op code size rule.Waiting rule.First a b = absurd (a b.0)
one_of_begin level past thread op code size rule.Outcome rule.Waiting a b = absurd (b a.0)
one_of_begin level past thread op code size rule.Outcome rule.Outcome a b = refl
one_of_begin level past thread op code size rule.Outcome rule.Free a b = absurd (a.1 b.1)
one_of_begin level past thread op code size rule.Outcome rule.First a b = absurd (a.1 b.1)
one_of_begin level past thread op code size rule.Free rule.Waiting a b = absurd (b a.0)
one_of_begin level past thread op code size rule.Free rule.Outcome a b = absurd (b.1 a.1)
one_of_begin level past thread op code size rule.Free rule.Free a b = refl
one_of_begin level past thread op code size rule.Free rule.First a b = absurd (a.2 b.2)
one_of_begin level past thread op code size rule.First rule.Waiting a b = absurd (b a.0)
one_of_begin level past thread op code size rule.First rule.Outcome a b = absurd (b.1 a.1)
one_of_begin level past thread op code size rule.First rule.Free a b = absurd (b.2 a.2)
one_of_begin level past thread op code size rule.First rule.First a b = refl
one_of_begin level past thread op code size rule.Waiting _ a b = absurd b
one_of_begin level past thread op code size rule.Outcome _ a b = absurd b
one_of_begin level past thread op code size rule.Free _ a b = absurd b
one_of_begin level past thread op code size rule.First _ a b = absurd b
one_of_begin level past thread op code size _ _ a b = absurd a

one_of_end : (level : Level) (past : List Line) (thread op : ℕ) (one other : Rule)
    → BreaksByDoing level past thread (doing.End op) one → BreaksByDoing level past thread (doing.End op) other → one ≡ other
one_of_end level past thread op rule.Innermost rule.Innermost a b = refl
one_of_end level past thread op rule.Innermost rule.Clean a b = absurd (a b.0)
one_of_end level past thread op rule.Clean rule.Innermost a b = absurd (b a.0)
one_of_end level past thread op rule.Clean rule.Clean a b = refl
one_of_end level past thread op rule.Innermost _ a b = absurd b
one_of_end level past thread op rule.Clean _ a b = absurd b
one_of_end level past thread op _ _ a b = absurd a

-- an exception ends a handler by the same rules
thrown : (level : Level) (past : List Line) (thread op : ℕ) (broken : Rule) →
    BreaksByDoing level past thread (doing.Throw op) broken
    → BreaksByDoing level past thread (doing.End op) broken
thrown level past thread op rule.Innermost breaks = breaks
thrown level past thread op rule.Clean breaks = breaks
thrown level past thread op _ breaks = absurd breaks

-- lines with one rule, or none
one_of_return : (level : Level) (past : List Line) (thread op : ℕ) (broken : Rule)
    → BreaksByDoing level past thread (doing.Back op) broken → broken ≡ rule.Returns
one_of_return level past thread op rule.Returns breaks = refl
one_of_return level past thread op _ breaks = absurd breaks

one_of_drop : (level : Level) (past : List Line) (thread op : ℕ) (broken : Rule)
    → BreaksByDoing level past thread (doing.Drop op) broken → broken ≡ rule.Waiting
one_of_drop level past thread op rule.Waiting breaks = refl
one_of_drop level past thread op _ breaks = absurd breaks

one_of_claim : (level : Level) (past : List Line) (thread thing : ℕ) (broken : Rule)
    → BreaksByDoing level past thread (doing.Claim thing) broken → broken ≡ rule.Untouched
one_of_claim level past thread thing rule.Untouched breaks = refl
one_of_claim level past thread thing _ breaks = absurd breaks

one_of_release : (level : Level) (past : List Line) (thread thing : ℕ) (broken : Rule)
    → BreaksByDoing level past thread (doing.Release thing) broken → broken ≡ rule.Claimed
one_of_release level past thread thing rule.Claimed breaks = refl
one_of_release level past thread thing _ breaks = absurd breaks

one_of_lock : (level : Level) (past : List Line) (thread lock : ℕ) (broken : Rule)
    → BreaksByDoing level past thread (doing.Lock lock) broken → broken ≡ rule.Unlocked
one_of_lock level past thread lock rule.Unlocked breaks = refl
one_of_lock level past thread lock _ breaks = absurd breaks

one_of_unlock : (level : Level) (past : List Line) (thread lock : ℕ) (broken : Rule)
    → BreaksByDoing level past thread (doing.Unlock lock) broken → broken ≡ rule.Locked
one_of_unlock level past thread lock rule.Locked breaks = refl
one_of_unlock level past thread lock _ breaks = absurd breaks

one_of_after : (level : Level) (past : List Line) (thread mark : ℕ) (broken : Rule)
    → BreaksByDoing level past thread (doing.After mark) broken → broken ≡ rule.Marked
one_of_after level past thread mark rule.Marked breaks = refl
one_of_after level past thread mark _ breaks = absurd breaks

one_rule : (level : Level) (past : List Line) (thread : ℕ) (does : Doing) (one other : Rule)
    → BreaksByDoing level past thread does one → BreaksByDoing level past thread does other → one ≡ other
one_rule level past thread (doing.Call op word context strand thing) one other a b =
    one_of_call level past thread op context word strand thing one other a b
one_rule level past thread (doing.Done op code size) one other a b = one_of_done level past thread op code size one other a b
one_rule level past thread (doing.Begin op code size) one other a b = one_of_begin level past thread op code size one other a b
one_rule level past thread (doing.End op) one other a b = one_of_end level past thread op one other a b
one_rule level past thread (doing.Throw op) one other a b =
    one_of_end level past thread op one other (thrown level past thread op one a) (thrown level past thread op other b)
one_rule level past thread (doing.Back op) one other a b =
    one_of_return level past thread op one a ∙ sym (one_of_return level past thread op other b)
one_rule level past thread (doing.Drop op) one other a b =
    one_of_drop level past thread op one a ∙ sym (one_of_drop level past thread op other b)
one_rule level past thread (doing.Claim thing) one other a b =
    one_of_claim level past thread thing one a ∙ sym (one_of_claim level past thread thing other b)
one_rule level past thread (doing.Release thing) one other a b =
    one_of_release level past thread thing one a ∙ sym (one_of_release level past thread thing other b)
one_rule level past thread (doing.Lock lock) one other a b =
    one_of_lock level past thread lock one a ∙ sym (one_of_lock level past thread lock other b)
one_rule level past thread (doing.Unlock lock) one other a b =
    one_of_unlock level past thread lock one a ∙ sym (one_of_unlock level past thread lock other b)
one_rule level past thread (doing.After mark) one other a b =
    one_of_after level past thread mark one a ∙ sym (one_of_after level past thread mark other b)
one_rule level past thread _ one other a b = absurd a

one_of_strict : (past : List Line) (thread op : ℕ) (code : Code) (size : ℕ) (one other : Rule)
    → BreaksStrictly past thread (doing.Begin op code size) one → BreaksStrictly past thread (doing.Begin op code size) other
    → one ≡ other
one_of_strict past thread op code size rule.Ready rule.Ready a b = refl
one_of_strict past thread op code size rule.Ready rule.Order a b = absurd (a b.0)
one_of_strict past thread op code size rule.Ready rule.Stopped a b = absurd (a b.0)
one_of_strict past thread op code size rule.Ready rule.Nested a b = absurd (a b.0)
one_of_strict past thread op code size rule.Ready rule.Finishing a b = absurd (a b.0)
one_of_strict past thread op code size rule.Order rule.Ready a b = absurd (b a.0)
one_of_strict past thread op code size rule.Order rule.Order a b = refl
one_of_strict past thread op code size rule.Order rule.Stopped a b = absurd (a.1 b.1)
one_of_strict past thread op code size rule.Order rule.Nested a b = absurd (a.1 b.1)
one_of_strict past thread op code size rule.Order rule.Finishing a b = absurd (a.1 b.1)
one_of_strict past thread op code size rule.Stopped rule.Ready a b = absurd (b a.0)
one_of_strict past thread op code size rule.Stopped rule.Order a b = absurd (b.1 a.1)
one_of_strict past thread op code size rule.Stopped rule.Stopped a b = refl
one_of_strict past thread op code size rule.Stopped rule.Nested a b = absurd (a.2 b.2)
one_of_strict past thread op code size rule.Stopped rule.Finishing a b = absurd (a.2 b.2)
one_of_strict past thread op code size rule.Nested rule.Ready a b = absurd (b a.0)
one_of_strict past thread op code size rule.Nested rule.Order a b = absurd (b.1 a.1)
one_of_strict past thread op code size rule.Nested rule.Stopped a b = absurd (b.2 a.2)
one_of_strict past thread op code size rule.Nested rule.Nested a b = refl
one_of_strict past thread op code size rule.Nested rule.Finishing a b = absurd (a.3 b.3)
one_of_strict past thread op code size rule.Finishing rule.Ready a b = absurd (b a.0)
one_of_strict past thread op code size rule.Finishing rule.Order a b = absurd (b.1 a.1)
one_of_strict past thread op code size rule.Finishing rule.Stopped a b = absurd (b.2 a.2)
one_of_strict past thread op code size rule.Finishing rule.Nested a b = absurd (b.3 a.3)
one_of_strict past thread op code size rule.Finishing rule.Finishing a b = refl
one_of_strict past thread op code size rule.Ready _ a b = absurd b
one_of_strict past thread op code size rule.Order _ a b = absurd b
one_of_strict past thread op code size rule.Stopped _ a b = absurd b
one_of_strict past thread op code size rule.Nested _ a b = absurd b
one_of_strict past thread op code size rule.Finishing _ a b = absurd b
one_of_strict past thread op code size _ _ a b = absurd a

one_strict_rule : (past : List Line) (thread : ℕ) (does : Doing) (one other : Rule)
    → BreaksStrictly past thread does one → BreaksStrictly past thread does other → one ≡ other
one_strict_rule past thread (doing.Begin op code size) one other a b = one_of_strict past thread op code size one other a b
one_strict_rule past thread _ rule.Finishing rule.Finishing a b = refl
one_strict_rule past thread _ rule.Finishing _ a b = absurd b
one_strict_rule past thread _ _ _ a b = absurd a

one_broken : (level : Level) (past : List Line) (line : Line) (one other : Rule) → BreaksRule level past line one
    → BreaksRule level past line other → one ≡ other
one_broken level past line one other first second =
    ⊎_elim
    (λ a. ⊎_elim (λ b. one_rule level past line.thread line.does one other a b)
    (λ b. absurd (broken_not level past line.thread line.does one a b.may)) second)
    (λ a. ⊎_elim (λ b. absurd (broken_not level past line.thread line.does other b a.may))
    (λ b. one_strict_rule past line.thread line.does one other a.breaks b.breaks) second) first

-- the first line that may not come is one, and so is the rule
pub one_place : (level : Level) (past : List Line) (one other : ℕ) (broken named : Rule) → IsIllegalAt level past one broken
    → IsIllegalAt level past other named → (one ≡ other) × (broken ≡ named)
one_place level [] one other broken named first second = absurd first
one_place level (line ∷ past) one other broken named first second =
    ⊎_elim
    (λ earlier. ⊎_elim (λ too. one_place level past one other broken named earlier too)
    (λ here. absurd (illegal_not level past one broken earlier here.0)) second)
    (λ here. ⊎_elim (λ earlier. absurd (illegal_not level past other named earlier here.0))
    (λ too. (here.2 ∙ sym too.2, one_broken level past line broken named here.1 too.1)) second) first

pub one_verdict : (level : Level) (past : List Line) (one other : Verdict) → IsVerdict level past one →
    IsVerdict level past other → one ≡ other
one_verdict level past verdict.Legal verdict.Legal first second = refl
one_verdict level past verdict.Legal verdict.LegalSoFar first second = absurd (second.1 first.1)
one_verdict level past verdict.Legal (verdict.Illegal place rule) first second =
    absurd (illegal_not level past place rule second first.0)
one_verdict level past verdict.LegalSoFar verdict.Legal first second = absurd (first.1 second.1)
one_verdict level past verdict.LegalSoFar verdict.LegalSoFar first second = refl
one_verdict level past verdict.LegalSoFar (verdict.Illegal place rule) first second =
    absurd (illegal_not level past place rule second first.0)
one_verdict level past (verdict.Illegal place rule) verdict.Legal first second =
    absurd (illegal_not level past place rule first second.0)
one_verdict level past (verdict.Illegal place rule) verdict.LegalSoFar first second =
    absurd (illegal_not level past place rule first second.0)
one_verdict level past (verdict.Illegal place rule) (verdict.Illegal other named) first second =
    let same = one_place level past place other rule named first second in
    ap (λ (n : ℕ). verdict.Illegal n rule) same.0 ∙ ap (λ (r : Rule). verdict.Illegal other r) same.1
