-- What a handler is seen as.
use Rattle.op_handlers.specs.Marks.{Marks, fixed}
use Rattle.op_handlers.specs.declared.handler.Handler.{Handler}

-- the marks of a handler, whose run mark is one number whatever the call
abbrev pub marks_of : {D : _} {B : _} {g : _} → Handler D B g → Marks
marks_of handler = fixed handler.marked.0
