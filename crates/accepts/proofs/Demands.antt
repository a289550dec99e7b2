-- The mission's demands as theorems: a value of each promise's type (rules: `Promises`). They assume nothing.
use Rattle.rules.specs.Promises.{Demand1, NamesWellFormed, AnsweredLonger, Larger, LargerWithoutStatements, NothingAdded, PackagesAlone}
use Rattle.rules.specs.Promises.{StatementsAlone, EachVisitedOnce, FunctionsVisited, ImagePlaceCertain, LibraryPlaceCertain}
use Rattle.tworuns.specs.Longer as L
use Rattle.tworuns.proofs.Larger as M
use Rattle.accepts.proofs.Once as O
use Rattle.accepts.proofs.Alone as A
use Rattle.accepts.proofs.AcceptedInputs.{accepts}
use Rattle.accepts.proofs.Extended.{extends}
use Rattle.accepts.proofs.Table.{table-holds}
use Rattle.accepts.proofs.Certain.{image-place, library-place}
use Rattle.accepts.proofs.NamesWell.{names-read-well}

-- "An input outside document 01's limits gets that paper's refusal, and every lent buffer then holds what its table says."
pub demand_1 : Demand1
unfolding Demand1
demand_1 = table-holds

-- "The offending word is the first at which, reading forward, the fault is certain"
pub image-place_certain : ImagePlaceCertain
unfolding ImagePlaceCertain
image-place_certain = image-place

pub library-place_certain : LibraryPlaceCertain
unfolding LibraryPlaceCertain
library-place_certain = library-place

-- "names are read .. only as UTF-8 well formed by it [RFC 3629]"
pub names-well_formed : NamesWellFormed
unfolding NamesWellFormed
names-well_formed = names-read-well

-- "with longer buffers alone it is answered, alike in every number returned and in every word and byte used"
pub answered-longer : AnsweredLonger
unfolding AnsweredLonger
answered-longer = L.answered-longer accepts

-- "An old function is a visited Fn of the smaller script, its signature its entry in the functions buffer, its place the position there."
pub functions-visited : FunctionsVisited
unfolding FunctionsVisited
functions-visited = M.functions-visited accepts

-- "If the larger case is answered, every node visited before has the same type in both answers, every old function the same signature and
-- place, and every diagnostic comes from the new statements"
pub larger : Larger
unfolding Larger
larger = M.larger accepts extends

-- "so that without new ones there is none"
pub larger-without-statements : LargerWithoutStatements
unfolding LargerWithoutStatements
larger-without-statements = M.larger-without-statements accepts extends

-- "any or all of this": an addition may be of nothing
pub nothing-added : NothingAdded
unfolding NothingAdded
nothing-added = A.nothing-added

-- packages alone, and statements alone
pub packages-alone : PackagesAlone
unfolding PackagesAlone
packages-alone = A.packages-alone

pub statements-alone : StatementsAlone
unfolding StatementsAlone
statements-alone = A.statements-alone

-- no node's rule is entered twice
pub each-visited-once : EachVisitedOnce
unfolding EachVisitedOnce
each-visited-once = O.each-visited-once
