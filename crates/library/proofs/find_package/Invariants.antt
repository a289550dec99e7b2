-- `library::find_package` meets its contract. The loop's invariant: the name is looked for among the packages that are left. A name is passed
-- where a part of it differs, or where it differs as a whole. Assumes nothing.
use Rattle.std.proofs.Common.{◌≡◌, ◌-◌}
use Rattle.library.specs.Package.{packages_from, packages_of, find_package}
use Rattle.library.proofs.find_package.Given as goal

abbrev pub invariant-loop : goal.invariant-loop
invariant-loop l = find_package l.texts l.name (packages_of l.words) ≡ find_package l.texts l.name (packages_from l.words l.at (l.end - l.counter))
