-- The mission's three demands as statements about `check_of`. Each is a type; its proof is a value of it. Definitions.
use Rattle.std.specs.Prelude.{ℕ, zero, suc, ◌+◌, ◌*◌, ◌≤◌, ◌<◌, true, false, ◌≡◌, List, [], ◌∷◌, ◌++◌, map, length, get_or, take, drop, ltb}
use Rattle.std.proofs.Math.Option.{none}
use Rattle.utf8.specs.Rfc3629.{well_formed}
use Rattle.tok.specs.Text.{Texts, name_bytes}
use Rattle.tok.specs.Step.{Result, ok}
use Rattle.ptype.specs.Ty.{Ty, contains_unknown, contains_slot}
use Rattle.ptype.specs.Words.{ty_of}
use Rattle.library.specs.Package.{pool_of, packages_of}
use Rattle.ast.specs.Image.{node_count, type_count, root_count, slot_count, node_place}
use Rattle.ast.specs.TypeExpr.{Arg, type_of}
use Rattle.ast.specs.Node.{tree_of}
use Rattle.ast.specs.Claims.{twice}
use Rattle.refusals.specs.Inputs.{Inputs, Buffers, texts_in}
use Rattle.refusals.specs.Refusals.{refusal_of}
use Rattle.rules.specs.World.{World}
use Rattle.rules.specs.Walk.{start_of, walk_first, walk_later}
use Rattle.rules.specs.Check.{Ended, zeros, zeroed, end_of, check_of}
use Rattle.rules.specs.Visited.{visited_in, number_of, visited_slots}
use Rattle.rules.specs.Functions.{type_meant, FnHead, fns_in}
use Rattle.rules.specs.Names.{node_names, type_names, word_names, package_names}

-- P holds of each of a list
unfoldable pub Every : {A : Type 0} → (P : A → Type 0) → List A → Type 0
Every P [] = Unit {0}
Every P (x ∷ xs) = P x × Every P xs

-- "Answered means 0 is returned."
abbrev pub Answered : Ended → Type 0
Answered e = e.number ≡ 0

-- ── Demand 1 ──
-- "An input outside document 01's limits gets that paper's refusal, and every lent buffer then holds what its table says."

-- "Returned (counts all 0)"
pub record NoCounts (e : Ended) : Type 0 where
  pub function_words : e.function_words ≡ 0
  pub type_words : e.type_words ≡ 0
  pub diagnostics : e.diagnostics ≡ 0
  pub message_bytes : e.message_bytes ≡ 0

-- "What lies past the used part stays": from word or byte `used` on the buffer is as it was, and as long
pub record StaysPast (used : ℕ) (before after : List ℕ) : Type 0 where
  pub long : length after ≡ length before
  pub fits : used ≤ length before
  pub past : drop used after ≡ drop used before

-- an answer: "the slots buffer is used to V. Scratch is all zero." "At most 8,192 words of the types buffer, 256 diagnostics and 65,536
-- message bytes are used."
pub record AnswerHolds (v : ℕ) (before : Buffers) (e : Ended) : Type 0 where
  pub place : e.place ≡ 0
  pub slots : StaysPast (v + 1) before.slots e.after.slots
  pub functions : StaysPast e.function_words before.functions e.after.functions
  pub types : StaysPast e.type_words before.types e.after.types
  pub diagnostics : StaysPast (6 * e.diagnostics) before.diagnostics e.after.diagnostics
  pub messages : StaysPast e.message_bytes before.messages e.after.messages
  pub scratch : e.after.scratch ≡ zeros before.scratch
  pub most_types : e.type_words ≤ 8192
  pub most_diagnostics : e.diagnostics ≤ 256
  pub most_messages : e.message_bytes ≤ 65536

-- the table of "Answers that end the check", whatever is given
pub record TableHolds (i : Inputs) (b : Buffers) (e : Ended) : Type 0 where
  pub numbers : e.number ≤ 9
  pub answered : Answered e → AnswerHolds (slot_count i.image) b e
  -- 1 to 6: "Left as it was: every buffer"
  pub early : 1 ≤ e.number → e.number ≤ 6 → e.after ≡ b
  -- 7 to 9: "only inputs; all outputs and scratch zero to their ends"
  pub late : 7 ≤ e.number → e.after ≡ zeroed b
  pub counts : 1 ≤ e.number → NoCounts e

unfoldable pub Demand1 : Type 0
Demand1 = (i : Inputs) (b : Buffers) → TableHolds i b (check_of i b)

-- "The offending word is the first at which, reading forward, the fault is certain": the words up to and including it decide refusals 2 and 3,
-- whatever stands after it.

-- the words up to and including word p are the same; where p is the length, all of them
abbrev pub AgreesTo : (p : ℕ) → (words words' : List ℕ) → Type 0
AgreesTo p words words' = take (p + 1) words' ≡ take (p + 1) words

-- the same number and place
pub record RefusedAlike (e e' : Ended) : Type 0 where
  pub number : e'.number ≡ e.number
  pub place : e'.place ≡ e.place

-- 3: of another image nothing else is asked
abbrev pub with_image : Inputs → (image : List ℕ) → Inputs
with_image i image = record { script = i.script; image = image; library_text = i.library_text; library = i.library }

unfoldable pub ImagePlaceCertain : Type 0
ImagePlaceCertain =
    (i : Inputs) (b : Buffers) (image : List ℕ) → (check_of i b).number ≡ 3 → AgreesTo (check_of i b).place i.image image
    → RefusedAlike (check_of i b) (check_of (with_image i image) b)

-- 2: script and image may be any, since the library is asked before them
abbrev pub with_library : Inputs → (script image library : List ℕ) → Inputs
with_library i script image library = record { script = script; image = image; library_text = i.library_text; library = library }

unfoldable pub LibraryPlaceCertain : Type 0
LibraryPlaceCertain =
    (i : Inputs) (b : Buffers) (script image library : List ℕ) → (check_of i b).number ≡ 2 → AgreesTo (check_of i b).place i.library library
    → RefusedAlike (check_of i b) (check_of (with_library i script image library) b)

-- ── Demand 2, its first half ──
-- "names are read, and messages written, only as UTF-8 well formed by it [RFC 3629]"

abbrev pub ReadsWell : Texts → ℕ → Type 0
ReadsWell texts w = well_formed (name_bytes texts w) ≡ true

-- every name and token of every node and type record of the image, visited or not, of the pool and of the packages
pub record NamesReadWell (i : Inputs) : Type 0 where
  pub nodes : (n : ℕ) → n < node_count i.image → Every (ReadsWell (texts_in i)) (node_names (tree_of i.image n))
  pub types : (t : ℕ) → t < type_count i.image → Every (ReadsWell (texts_in i)) (type_names (type_of i.image t))
  pub pool : Every (ReadsWell (texts_in i)) (word_names (pool_of i.library))
  pub packages : Every (ReadsWell (texts_in i)) (package_names (packages_of i.library))

-- inputs that pass refusals 1 to 6, and so all that the walk reads
unfoldable pub NamesWellFormed : Type 0
NamesWellFormed = (i : Inputs) (b : Buffers) → refusal_of i b ≡ none → NamesReadWell i

-- the k-th diagnostic's message and primary message: "message start, message length, length of the primary message, which follows it"
abbrev pub message_of : Ended → (k : ℕ) → List ℕ
message_of e k = take (get_or e.after.diagnostics (6 * k + 4) 0) (drop (get_or e.after.diagnostics (6 * k + 3) 0) e.after.messages)

abbrev pub primary_of : Ended → (k : ℕ) → List ℕ
primary_of e k =
    take (get_or e.after.diagnostics (6 * k + 5) 0)
    (drop (get_or e.after.diagnostics (6 * k + 3) 0 + get_or e.after.diagnostics (6 * k + 4) 0) e.after.messages)

unfoldable pub MessagesWellFormed : Type 0
MessagesWellFormed =
    (i : Inputs) (b : Buffers) → Answered (check_of i b) → (k : ℕ) → k < (check_of i b).diagnostics
    → (well_formed (message_of (check_of i b) k) ≡ true) × (well_formed (primary_of (check_of i b) k) ≡ true)

-- ── Demand 3 ──
-- "Suppose a script is answered with no diagnostic."
pub record AnsweredClean (e : Ended) : Type 0 where
  pub answered : Answered e
  pub clean : e.diagnostics ≡ 0

-- the type recorded in a slot: "Types are compared unfolded, names by bytes"
abbrev pub type_in : Inputs → Ended → (slot : ℕ) → Ty
type_in i e slot = ty_of (texts_in i) e.after.types (get_or e.after.slots slot 0)

-- "a recorded type free of Unknown and of slots": "A recorded type is a slot word other than 0"; "free of a kind means at any depth"
pub record HasConcreteType (i : Inputs) (e : Ended) (slot : ℕ) : Type 0 where
  pub recorded : get_or e.after.slots slot 0 ≡ 0 → ⊥
  pub no_unknown : contains_unknown (type_in i e slot) ≡ false
  pub no_slot : contains_slot (type_in i e slot) ≡ false

-- "Then every visited node has a recorded type free of Unknown and of slots": in each slot that it owns, an Fn's argument slots too
unfoldable pub Clean : Type 0
Clean = (i : Inputs) (b : Buffers) → AnsweredClean (check_of i b) → Every (HasConcreteType i (check_of i b)) (visited_slots i.image)

-- "output buffers or scratch are lengthened, whatever they held": only the lengths are compared
pub record Longer (b b' : Buffers) : Type 0 where
  pub slots : length b.slots ≤ length b'.slots
  pub functions : length b.functions ≤ length b'.functions
  pub types : length b.types ≤ length b'.types
  pub diagnostics : length b.diagnostics ≤ length b'.diagnostics
  pub messages : length b.messages ≤ length b'.messages
  pub scratch : length b.scratch ≤ length b'.scratch

-- "alike in every number returned and in every word and byte used"
pub record Alike (v : ℕ) (e e' : Ended) : Type 0 where
  pub number : e'.number ≡ e.number
  pub place : e'.place ≡ e.place
  pub function_words : e'.function_words ≡ e.function_words
  pub type_words : e'.type_words ≡ e.type_words
  pub diagnostics : e'.diagnostics ≡ e.diagnostics
  pub message_bytes : e'.message_bytes ≡ e.message_bytes
  pub used_slots : take (v + 1) e'.after.slots ≡ take (v + 1) e.after.slots
  pub used_functions : take e.function_words e'.after.functions ≡ take e.function_words e.after.functions
  pub used_types : take e.type_words e'.after.types ≡ take e.type_words e.after.types
  pub used_diagnostics : take (6 * e.diagnostics) e'.after.diagnostics ≡ take (6 * e.diagnostics) e.after.diagnostics
  pub used_messages : take e.message_bytes e'.after.messages ≡ take e.message_bytes e.after.messages

-- "with longer buffers alone it is answered, alike in every number returned and in every word and byte used": of any answer, clean or not
unfoldable pub AnsweredLonger : Type 0
AnsweredLonger = (i : Inputs) (b b' : Buffers) → Longer b b' → Answered (check_of i b) → Alike (slot_count i.image) (check_of i b) (check_of i b')

-- The parts of an image after its four counts: roots, node records, type records.
abbrev pub root_words : List ℕ → List ℕ
root_words image = take (root_count image) (drop 4 image)

abbrev pub node_records : List ℕ → List ℕ
node_records image = drop (4 + root_count image) (take (node_place image (node_count image)) image)

abbrev pub type_records : List ℕ → List ℕ
type_records image = drop (node_place image (node_count image)) image

-- the packages of a library, as words
abbrev pub package_words : List ℕ → List ℕ
package_words library = drop (2 + get_or library 0 0) library

-- "any packages are added after the library's last": "new packages may lengthen the pool and library text at their ends"
pub record MorePackages (i i' : Inputs) : Type 0 where
  pub text : List ℕ
  pub pool : List ℕ
  pub packages : List ℕ
  pub count : ℕ
  pub longer_text : i'.library_text ≡ i.library_text ++ text
  pub longer :
      i'.library
      ≡ (get_or i.library 0 0 + length pool) ∷ (get_or i.library 1 0 + count) ∷ (pool_of i.library ++ pool) ++ (package_words i.library ++ packages)

-- "any statements are added after the script's last": "new statements bring nodes from N, types from T, slots from V, roots and text at the end"
pub record MoreStatements (i i' : Inputs) : Type 0 where
  pub text : List ℕ
  pub more_nodes : ℕ
  pub more_types : ℕ
  pub more_slots : ℕ
  pub roots : List ℕ
  pub nodes : List ℕ
  pub types : List ℕ
  pub longer_text : i'.script ≡ i.script ++ text
  pub longer :
      i'.image
      ≡ (node_count i.image + more_nodes) ∷ (type_count i.image + more_types) ∷ (root_count i.image + length roots) ∷ (slot_count i.image + more_slots)
      ∷ (root_words i.image ++ roots) ++ (node_records i.image ++ nodes) ++ (type_records i.image ++ types)
  -- the words `nodes` are the new node records: the type records begin after them
  pub whole : node_records i'.image ≡ node_records i.image ++ nodes

-- An entry of the functions buffer, unfolded: "functions in order (name, argument count, pairs, return type)"
pub record Parameter : Type 0 where
  pub name : List ℕ
  pub type : Ty

pub record Entry : Type 0 where
  pub place : ℕ
  pub name : List ℕ
  pub parameters : List Parameter
  pub ret : Ty

-- What the entries of Fns say, the first at a place: the next one stands "3 + 2 × arguments" words further on.
unfoldable pub fn_parameters : Texts → List Arg → List Parameter
fn_parameters texts [] = []
fn_parameters texts (a ∷ rest) = record { name = name_bytes texts a.name; type = type_meant texts a.type } ∷ fn_parameters texts rest

unfoldable pub fn_entries : Texts → (place : ℕ) → List FnHead → List Entry
fn_entries texts at [] = []
fn_entries texts at (f ∷ fs) =
    record { place = at; name = name_bytes texts f.name; parameters = fn_parameters texts f.args; ret = type_meant texts f.ret }
    ∷ fn_entries texts (at + 3 + 2 * length f.args) fs

-- "An old function is a visited Fn of the smaller script, its signature its entry in the functions buffer, its place the position there."
unfoldable pub old_functions : Inputs → List Entry
old_functions i = fn_entries (texts_in i) 0 (fns_in i.image)

-- k pairs from word `at` on
unfoldable pub parameters_at : Texts → (types functions : List ℕ) → (at k : ℕ) → List Parameter
parameters_at texts types functions at zero = []
parameters_at texts types functions at (suc k) =
    record { name = name_bytes texts (get_or functions at 0); type = ty_of texts types (get_or functions (at + 1) 0) }
    ∷ parameters_at texts types functions (at + 2) k

-- the entry of k arguments at a word
unfoldable pub entry_at : Texts → (types functions : List ℕ) → (at k : ℕ) → Entry
entry_at texts types functions at k = record {
  place = at;
  name = name_bytes texts (get_or functions at 0);
  parameters = parameters_at texts types functions (at + 2) k;
  ret = ty_of texts types (get_or functions (at + 2 + 2 * k) 0);
}

-- the entries from word `at` to the used part's end; an entry has three words at least, so that `most` of them are enough
unfoldable pub entries_up_to : Texts → (types functions : List ℕ) → (used most at : ℕ) → List Entry
entries_up_to texts types functions used zero at = []
entries_up_to texts types functions used (suc m) at =
    elim (ltb at used) [
      | true ↦
          entry_at texts types functions at (get_or functions (at + 1) 0)
          ∷ entries_up_to texts types functions used m (at + 3 + 2 * get_or functions (at + 1) 0)
      | false ↦ []
    ]

unfoldable pub entries_of : Inputs → Ended → List Entry
entries_of i e = entries_up_to (texts_in i) e.after.types e.after.functions e.function_words e.function_words 0

-- An answer without diagnostics has an entry for each visited Fn, in the order of visits, and no other.
unfoldable pub FunctionsVisited : Type 0
FunctionsVisited = (i : Inputs) (b : Buffers) → AnsweredClean (check_of i b) → entries_of i (check_of i b) ≡ old_functions i

-- "every diagnostic comes from the new statements": "A diagnostic comes from a new statement if the rules raise it in the walk from its
-- root". So the walk of the old roots, in the larger case, raises none, and the larger answer is what the walk of the others makes of its end.
pub record OldRootsSilent (i i' : Inputs) (b' : Buffers) (e' : Ended) : Type 0 where
  pub world : World
  pub walked : walk_first i' (root_count i.image) (start_of i' b') ≡ ok tt world
  pub silent : world.diagnostics.used ≡ 0
  pub others : e' ≡ end_of b' (walk_later i' (root_count i.image) world)

-- both answers, all additions taken together
pub record Kept (i i' : Inputs) (b' : Buffers) (e e' : Ended) : Type 0 where
  -- "every node visited before has the same type in both answers": in each slot that it owns
  pub types : Every (λ slot. type_in i' e' slot ≡ type_in i e slot) (visited_slots i.image)
  -- "every old function the same signature and place"
  -- The smaller answer's entries are those of the old functions; the larger answer's first entries are the same, each at the same place.
  pub old_entries : entries_of i e ≡ old_functions i
  pub functions : take (length (entries_of i e)) (entries_of i' e') ≡ entries_of i e
  pub diagnostics : OldRootsSilent i i' b' e'

-- "Suppose further that any or all of this is done at once: .. If the larger case is answered, .." One claim about both answers.
unfoldable pub Larger : Type 0
Larger =
    (i i' : Inputs) (b b' : Buffers) → MorePackages i i' → MoreStatements i i' → Longer b b'
    → AnsweredClean (check_of i b) → Answered (check_of i' b') → Kept i i' b' (check_of i b) (check_of i' b')

-- "so that without new ones there is none"
unfoldable pub LargerWithoutStatements : Type 0
LargerWithoutStatements =
    (i i' : Inputs) (b b' : Buffers) → MorePackages i i' → (more : MoreStatements i i') → more.roots ≡ [] → Longer b b'
    → AnsweredClean (check_of i b) → Answered (check_of i' b') → (check_of i' b').diagnostics ≡ 0

-- "any or all of this": an addition may be of nothing, so that each alone, and any two, are instances of `Larger`. What passes refusals 1 to 6
-- is itself with no packages, no statements and no words of buffers added.
pub record AddsNothing (i : Inputs) (b : Buffers) : Type 0 where
  pub packages : MorePackages i i
  pub statements : MoreStatements i i
  pub no_roots : statements.roots ≡ []
  pub buffers : Longer b b

unfoldable pub NothingAdded : Type 0
NothingAdded = (i : Inputs) (b : Buffers) → refusal_of i b ≡ none → AddsNothing i b

-- "any packages are added after the library's last", with the same script: then there is no diagnostic still. Of the buffers, here and below,
-- it is enough that none is shorter. (Longer buffers alone: `AnsweredLonger`.)
unfoldable pub PackagesAlone : Type 0
PackagesAlone =
    (i i' : Inputs) (b b' : Buffers) → MorePackages i i' → i'.script ≡ i.script → i'.image ≡ i.image → Longer b b'
    → AnsweredClean (check_of i b) → Answered (check_of i' b') → Kept i i' b' (check_of i b) (check_of i' b') × ((check_of i' b').diagnostics ≡ 0)

-- "any statements are added after the script's last", with the same library
unfoldable pub StatementsAlone : Type 0
StatementsAlone =
    (i i' : Inputs) (b b' : Buffers) → MoreStatements i i' → i'.library_text ≡ i.library_text → i'.library ≡ i.library → Longer b b'
    → AnsweredClean (check_of i b) → Answered (check_of i' b') → Kept i i' b' (check_of i b) (check_of i' b')

-- ── Visited once ──
-- After refusals 1 to 6 no node is visited twice and each owns its slots alone, so that the Rust's `already_checked` never finds anything.
pub record VisitedOnce (image : List ℕ) : Type 0 where
  pub numbers : twice [] (map number_of (visited_in image)) ≡ false
  pub slots : twice [] (visited_slots image) ≡ false

unfoldable pub EachVisitedOnce : Type 0
EachVisitedOnce = (i : Inputs) (b : Buffers) → refusal_of i b ≡ none → VisitedOnce i.image
