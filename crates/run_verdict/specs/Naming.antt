-- The names of what a line speaks of, as they stand behind it.
use Rattle.std.specs.Prelude.{ℕ, List, [], ◌++◌, Option, Some, None, codes}
use Rattle.run_lines.specs.declared.line.Doing.{Doing}
use Rattle.run_lines.specs.declared.line.Doing.TheVariants as doing
use Rattle.run_lines.specs.declared.line.Line.{Line}
use Rattle.run_lines.specs.declared.name.Kind.{Kind}
use Rattle.run_lines.specs.declared.name.Kind.TheVariants as kind
use Rattle.run_verdict.specs.Numbered.{numbered}

-- which name each thing has, if it has one
abbrev pub Naming : Type 0
Naming = Kind → ℕ → Option (List ℕ)

abbrev pub kind_text : Kind → List ℕ
kind_text kind.Strand = codes " [strand "
kind_text kind.Thing = codes " [thing "
kind_text kind.Op = codes " [op "
kind_text kind.Thread = codes " [thread "
kind_text kind.Context = codes " [context "
kind_text kind.Lock = codes " [lock "
kind_text kind.Mark = codes " [mark "

-- a thing with its name; nothing, where it has none
abbrev pub name_if : Kind → ℕ → Option (List ℕ) → List ℕ
name_if what number None = []
name_if what number (Some text) = (numbered (kind_text what) number (codes " ") ++ text) ++ codes "]"

abbrev pub name_text : Naming → Kind → ℕ → List ℕ
name_text names what number = name_if what number (names what number)

abbrev pub name_some : Naming → Kind → Option ℕ → List ℕ
name_some names what None = []
name_some names what (Some number) = name_text names what number

-- what a line is about
abbrev pub kind_of : Doing → Kind
kind_of (doing.Claim thing) = kind.Thing
kind_of (doing.Release thing) = kind.Thing
kind_of (doing.Lock lock) = kind.Lock
kind_of (doing.Unlock lock) = kind.Lock
kind_of (doing.Mark mark) = kind.Mark
kind_of (doing.After mark) = kind.Mark
kind_of (doing.Cancel thing) = kind.Thing
kind_of (doing.Work context) = kind.Context
kind_of (doing.Stop context) = kind.Context
kind_of (doing.Restart context) = kind.Context
kind_of _ = kind.Op

abbrev pub number_of : Doing → ℕ
number_of (doing.Call op word context strand thing) = op
number_of (doing.Back op) = op
number_of (doing.Done op code size) = op
number_of (doing.Begin op code size) = op
number_of (doing.End op) = op
number_of (doing.Throw op) = op
number_of (doing.Drop op) = op
number_of (doing.Claim thing) = thing
number_of (doing.Release thing) = thing
number_of (doing.Lock lock) = lock
number_of (doing.Unlock lock) = lock
number_of (doing.Mark mark) = mark
number_of (doing.After mark) = mark
number_of (doing.Cancel thing) = thing
number_of (doing.Work context) = context
number_of (doing.Stop context) = context
number_of (doing.Restart context) = context

-- a call speaks of a context too, and of a strand and a thing if it has them
abbrev pub call_names : Naming → Doing → List ℕ
call_names names (doing.Call op word context strand thing) =
    (name_text names kind.Context context ++ name_some names kind.Strand strand) ++ name_some names kind.Thing thing
call_names names _ = []

abbrev pub line_names : Naming → Line → List ℕ
line_names names line =
    (name_text names kind.Thread line.thread ++ name_text names (kind_of line.does) (number_of line.does))
    ++ call_names names line.does
