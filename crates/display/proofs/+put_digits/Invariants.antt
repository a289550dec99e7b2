-- `display::put_digits` meets its contract, as `digits` is defined: the digits of a tenth of the number, then the last. Assumes nothing.
use Rattle.display.proofs.+put_digits.Given as goal

abbrev pub decreases-put_digits : goal.decreases-put_digits
decreases-put_digits l = l.most
