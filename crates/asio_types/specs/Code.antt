-- The classes of completion codes (Asio reference, error::basic_errors).
use Rattle.asio_types.specs.declared.code.Code.{Code}
use Rattle.asio_types.specs.declared.code.Class.{Class}
use Rattle.asio_types.specs.declared.code.Code.TheVariants as code
use Rattle.asio_types.specs.declared.code.Class.TheVariants as class

-- success and cancellation have their own class
abbrev pub class_of_code : Code → Class
class_of_code code.Ok = class.Ok
class_of_code code.Aborted = class.Abort
class_of_code code.Eof = class.Other
class_of_code code.NotFound = class.Other
class_of_code code.Bad = class.Other
class_of_code code.Broken = class.Other
class_of_code code.Reset = class.Other
