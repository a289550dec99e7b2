-- `utf8::is_ascii` meets its contract. The loop's invariant: the whole is ASCII exactly where the or of the octets passed is in the ASCII range, and
-- what is left is ASCII. Assumes nothing.
use Rattle.std.proofs.Common.{◌≡◌, ◌&&◌, drop}
use Rattle.utf8.specs.Rfc3629.{utf8_1}
use Rattle.utf8.specs.Properties.{ascii}
use Rattle.utf8.proofs.is_ascii.Given as goal

abbrev pub invariant-loop-octet : goal.invariant-loop-octet
invariant-loop-octet l = ascii l.s ≡ (utf8_1 l.all && ascii (drop l.octet-index l.s))
