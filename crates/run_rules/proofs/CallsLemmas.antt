-- What is known of an operation stays so.
use Rattle.std.proofs.Common.{◌≡◌, ℕ, ◌<◌, List, ◌∷◌, refl, ap, length, arith, subst, sym}
use Rattle.std.proofs.lemmas.Bool.{ne_eqb}
use Rattle.std.specs.Prelude.{Option, None, IsSome, ◌==◌, false}
use Rattle.std.specs.Option.{option_or, option_and_then}
use Rattle.run_lines.specs.declared.line.Doing.{Doing}
use Rattle.run_lines.specs.declared.line.Doing.TheVariants as doing
use Rattle.run_lines.specs.declared.line.Line.{Line}
use Rattle.run_rules.specs.declared.frame.Frame.{Frame}
use Rattle.run_rules.specs.declared.level.Level.{Level}
use Rattle.run_rules.specs.Stacks.{frame}
use Rattle.run_rules.specs.Calls.{Calling, call_in, call_of, strand_of}
use Rattle.run_rules.specs.MayCome.{MayDo}

-- a line that may come calls no operation that was called before
pub call_in-called : (level : Level) (past : List Line) (caller : Frame) (thread by place op : ℕ)
    (does : Doing) → MayDo level past by does → IsSome (call_of past op) → call_in caller thread place does op ≡ None
call_in-called level past caller thread by place op (doing.Call number word context strand thing) may called =
    let less : op < number = may.is_new op called in
    let apart : (number == op) ≡ false = ne_eqb number op (λ e. omega arith) in
    rw apart refl
call_in-called level past caller thread by place op _ may called = refl

-- the call of an operation stays its call
pub call_of-next : (level : Level) (past : List Line) (line : Line) (op : ℕ) → MayDo level past line.thread line.does →
    IsSome (call_of past op) → call_of (line ∷ past) op ≡ call_of past op
call_of-next level past line op may called =
    ap (λ (o : Option Calling). option_or o (call_of past op))
    (call_in-called level past (frame past line.thread) line.thread line.thread (length past) op line.does may called)

-- so does its strand
pub strand_of-next : (level : Level) (past : List Line) (line : Line) (op : ℕ) → MayDo level past line.thread line.does →
    IsSome (call_of past op) → strand_of (line ∷ past) op ≡ strand_of past op
strand_of-next level past line op may called =
    ap (λ (o : Option Calling). option_and_then (λ (call : Calling). call.strand) o) (call_of-next level past line op may called)

-- what is called stays called
pub called-next : (level : Level) (past : List Line) (line : Line) (op : ℕ) → MayDo level past line.thread line.does →
    IsSome (call_of past op) → IsSome (call_of (line ∷ past) op)
called-next level past line op may called = let P : Option Calling → Type 0 =
    λ o. IsSome o in subst P (sym (call_of-next level past line op may called)) called
