-- What is answered over a script may be answered.
use Rattle.std.proofs.Common.{arith, refl}
use Rattle.std.proofs.lemmas.Bool.Decides.{nat_tests}
use Rattle.std.specs.Prelude.{◌≡◌, ◌<◌, ℕ, ◌==◌, min, Bool, true, false, List, [], ◌∷◌, if◌then◌else◌}
use Rattle.asio_types.specs.declared.code.Code.{Code}
use Rattle.io_reactor.specs.declared.answer.Transferred.TheVariants as transferred
use Rattle.io_reactor.specs.Answers.{MayRead, MayTransfer, MayWrite}
use Rattle.io_reactor.specs.Peer.{answer_over}
use Rattle.io_reactor_memory.specs.Ends.{read_error, write_error}
use Rattle.io_reactor_memory.specs.declared.script.ReadEnd.{ReadEnd}
use Rattle.io_reactor_memory.specs.declared.script.ReadEnd.TheVariants as read_end
use Rattle.io_reactor_memory.specs.declared.script.WriteEnd.{WriteEnd}
use Rattle.io_reactor_memory.specs.declared.script.WriteEnd.TheVariants as write_end

may_by : (errors : Code → Bool) (b : Bool) (size piece : ℕ) → (piece == 0) ≡ b → 0 < size →
    MayTransfer errors size (if b then transferred.WouldBlock else transferred.Bytes (min size piece))
may_by errors true size piece is some = tt
may_by errors false size piece is some =
    let begun : 0 < piece = grind (arith, nat_tests) in (omega (arith, begun, some), omega arith)

pub may_read : (size : ℕ) (pieces : List ℕ) (end : ReadEnd) → 0 < size →
    MayRead size (answer_over size pieces (read_error end))
may_read size [] read_end.Open some = tt
may_read size [] read_end.Eof some = refl
may_read size [] read_end.Reset some = refl
may_read size (piece ∷ rest) end some = may_by _ (piece == 0) size piece refl some

pub may_write : (size : ℕ) (pieces : List ℕ) (end : WriteEnd) → 0 < size →
    MayWrite size (answer_over size pieces (write_error end))
may_write size [] write_end.Full some = tt
may_write size [] write_end.Broken some = refl
may_write size [] write_end.Reset some = refl
may_write size (piece ∷ rest) end some = may_by _ (piece == 0) size piece refl some
