-- The words that visiting some nodes takes are the sum of what each visited node takes by itself. By induction on trees. Assumes nothing.
use Rattle.std.specs.Prelude.{ℕ, ◌*◌, length}
use Rattle.ast.specs.Node.{Node, Atom, Ident, Bin, Unary, Let, Fn, Match, Call, Field, Cast, Import, Extern, Record, Array, Absent}
use Rattle.room_laws.specs.Room.{extern_words, call_room}

-- the words of scratch that a node takes by itself
unfoldable pub own_room : Node → ℕ
own_room (Atom n slot token k) = 0
own_room (Ident n slot name) = 0
own_room (Bin n slot token op l r) = 0
own_room (Unary n slot token op r) = 0
own_room (Let n slot name r) = 2
own_room (Fn n slot name ret args body) = 2 * length args
own_room (Match n slot cs token d) = 0
own_room (Call n slot target args) = call_room args
own_room (Field n slot target name) = 0
own_room (Cast n slot token l t) = 0
own_room (Import n slot token paths) = length paths
own_room (Extern n slot token name fs) = extern_words fs
own_room (Record n slot token fs) = 0
own_room (Array n slot token ms) = 0
own_room (Absent n) = 0
