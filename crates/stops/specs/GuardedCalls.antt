-- The rules of calls (rules: `Calls`) with every stop of the Rust in its place. Definitions.
use Rattle.std.specs.Prelude.{ℕ, Bool, ◌||◌, List, [], ◌∷◌, length, eqb}
use Rattle.tok.specs.Step.{◌>>=◌, ◌>>◌, return, look, when}
use Rattle.ptype.specs.Ty.{Ty, contains_unknown, contains_slot}
use Rattle.ptype.specs.Slots.{Binding, bind_slots}
use Rattle.err.specs.Message.{pkg_name, call_through_field, missing_package, undefined_in_package, undefined_own, argument_count}
use Rattle.library.specs.Package.{Param, Signature, find_package, find_function, group_of}
use Rattle.rules.specs.declared.Answer.{Answer}
use Rattle.rules.specs.declared.Answer.TheVariants.{Poison}
use Rattle.rules.specs.World.{Ctx, name_in, Walk}
use Rattle.rules.specs.Steps.{skip, on_option, ty, tree, set_known, report, poison}
use Rattle.rules.specs.Calls.{Callee, own_function, package_function, through_field, no_callee, Provided, after_binding, plain_argument, returned, select}
use Rattle.stops.specs.Guards.{stop, expect_all, bindable}

-- 629, `bind_slots`: what contains a Slot is passed over before it (docs/DIFFERENCES.md)
unfoldable pub slotted_or_stop : Ctx → (n : ℕ) → (call_name : List ℕ) → Param → Provided → (word : ℕ) → Ty → List Binding → Walk (List Binding)
slotted_or_stop c n call_name p a w provided bs =
    when (contains_slot provided) (return bs)
    (do
      s ← look
      expected ← tree c p.type
      bindable s.types.words expected w
      after_binding c n call_name p a expected provided (bind_slots c.texts s.types.words expected w bs))

unfoldable pub argument_or_stop : Ctx → (n : ℕ) → (call_name : List ℕ) → (with_slots : Bool) → Param → Provided → List Binding → Walk (List Binding)
argument_or_stop c n call_name with_slots p a bs = do
  w ← ty a.slot
  provided ← tree c w
  when (eqb w 0 || contains_unknown provided) (return bs)
      (when with_slots (slotted_or_stop c n call_name p a w provided bs) (plain_argument c n call_name p a provided bs))

unfoldable pub arguments_or_stop : Ctx → (n : ℕ) → (call_name : List ℕ) → (with_slots : Bool) → List Param → List Provided → List Binding → Walk (List Binding)
arguments_or_stop c n call_name with_slots [] given bs = return bs
arguments_or_stop c n call_name with_slots (p ∷ ps) [] bs = return bs
arguments_or_stop c n call_name with_slots (p ∷ ps) (a ∷ rest) bs = do
  more ← argument_or_stop c n call_name with_slots p a bs
  arguments_or_stop c n call_name with_slots ps rest more

unfoldable pub check_or_stop : Ctx → (n slot token : ℕ) → (call_name : List ℕ) → Signature → List Provided → Walk Answer
check_or_stop c n slot token call_name fun given =
    when (eqb (length given) (length fun.params))
    (do
      bs ← arguments_or_stop c n call_name fun.with_slots fun.params given []
      ret ← returned c n fun bs
      set_known slot ret)
    (do
      report n (argument_count token call_name (length fun.params) (length given))
      when fun.with_slots (return Poison) (set_known slot fun.ret))

unfoldable pub resolve_or_stop : Ctx → (n slot name : ℕ) → List Provided → Walk Answer
resolve_or_stop c n slot name given = do
  s ← look
  on_option (find_function c.texts (name_in c name) s.own)
      (poison n (undefined_own name (name_in c name)))
      (λ fun. check_or_stop c n slot name (name_in c name) fun given)

-- 472, `resolved_arg_ty` of each argument, where none is poisoned
unfoldable pub group_or_stop : Ctx → (n slot name : ℕ) → (call_name : List ℕ) → List Signature → List Provided → (poisoned : Bool) → Walk Answer
group_or_stop c n slot name call_name [] given poisoned = poison n (undefined_in_package name call_name)
group_or_stop c n slot name call_name (f ∷ []) given poisoned = check_or_stop c n slot name call_name f given
group_or_stop c n slot name call_name (f ∷ g ∷ others) given poisoned = do
  when poisoned skip (expect_all 249 given)
  select c n slot name call_name f (g ∷ others) given poisoned

unfoldable pub resolve_pkg_or_stop : Ctx → (n slot pkg name : ℕ) → List Provided → (poisoned : Bool) → Walk Answer
resolve_pkg_or_stop c n slot pkg name given poisoned = do
  s ← look
  on_option (find_package c.texts (name_in c pkg) s.packages)
      (poison n (missing_package pkg (name_in c pkg)))
      (λ p. group_or_stop c n slot name (pkg_name (name_in c pkg) (name_in c name)) (group_of c.texts (name_in c name) p.functions) given poisoned)

-- 963 to 967: match self.ast.node(*target)
unfoldable pub call_or_stop : Ctx → (n slot : ℕ) → Callee → List Provided → (visits : Walk Bool) → Walk Answer
call_or_stop c n slot (own_function name) given visits = do
  _ ← visits
  resolve_or_stop c n slot name given
call_or_stop c n slot (package_function pkg name) given visits = do
  poisoned ← visits
  resolve_pkg_or_stop c n slot pkg name given poisoned
call_or_stop c n slot (through_field name) given visits = poison n (call_through_field name)
call_or_stop c n slot no_callee given visits = stop 10 966
