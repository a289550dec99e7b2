-- The rows end: from each row the next is nearer to the end, so that a loop over the rows ends. Assumes nothing.
use Rattle.std.specs.Prelude.{ℕ, ◌+◌, ◌-◌, ◌*◌, ◌≤◌, ◌<◌, ◌≡◌, refl, Bool, true, false, get_or, ltb, Option, None, Some}
use Rattle.std.proofs.Common.{arith, ltb-true, ltb-false, lt-ltb, le-ltb}
use Rattle.rows_part.specs.declared.Row.{Row}
use Rattle.rows_part.specs.declared.Row.TheVariants.{Slot, Fn, Diag, End, Refused, Input}
use Rattle.rows_part.specs.Printing.{Answer, diag_from, fn_from, next_of, next_in}

-- no more rows than this are left, the row itself among them
unfoldable pub left_at : Answer → Row → ℕ
left_at a (Slot i) = (a.last - i) + 1 + (a.words + 1 + (a.count + 2))
left_at a (Fn at) = (a.words - at) + 1 + (a.count + 2)
left_at a (Diag k) = (a.count - k) + 2
left_at a End = 1
left_at a (Refused number place) = 1
left_at a Input = 1

-- and none behind the last
unfoldable pub left_behind : Answer → Option Row → ℕ
left_behind a None = 0
left_behind a (Some r) = left_at a r

-- below a number, or not
pub by_order : {P : Type 0} (a b : ℕ) → (a < b → P) → (b ≤ a → P) → P
by_order {P} a b f g = go (ltb a b) refl
  where
    go : (t : Bool) → ltb a b ≡ t → P
    go true e = f (ltb-true a b e)
    go false e = g (ltb-false a b e)

diags_left : (a : Answer) (k : ℕ) → left_at a (diag_from a.count k) ≤ (a.count - k) + 2
unfolding left_at diag_from
diags_left a k = by_order k a.count (λ h. rw (lt-ltb k a.count h) (omega arith)) (λ h. rw (le-ltb k a.count h) (omega arith))

-- the diagnostic behind a diagnostic
diag_left : (a : Answer) (k : ℕ) → left_at a (diag_from a.count (k + 1)) < (a.count - k) + 2
unfolding left_at diag_from
diag_left a k =
    by_order (k + 1) a.count
    (λ h. rw (lt-ltb (k + 1) a.count h) (omega arith))
    (λ h. rw (le-ltb (k + 1) a.count h) (omega arith))

fns_left : (a : Answer) (at : ℕ) → left_at a (fn_from a.words a.count at) ≤ (a.words - at) + 1 + (a.count + 2)
unfolding left_at fn_from
fns_left a at =
    by_order at a.words
    (λ h. rw (lt-ltb at a.words h) (omega arith))
    (λ h. rw (le-ltb at a.words h) (omega (arith, diags_left a 0)))

-- the function behind a function, whose entry has three words at least
fn-left : (a : Answer) (at m : ℕ) → left_at a (fn_from a.words a.count (at + 3 + m)) < (a.words - at) + 1 + (a.count + 2)
unfolding left_at fn_from
fn-left a at m =
    by_order (at + 3 + m) a.words
    (λ h. rw (lt-ltb (at + 3 + m) a.words h) (omega arith))
    (λ h. rw (le-ltb (at + 3 + m) a.words h) (omega (arith, diags_left a 0)))

-- Each row brings the end nearer.
pub next_nearer : (a : Answer) (r : Row) → left_behind a (next_in a r) < left_at a r
unfolding left_at left_behind next_of
next_nearer a (Slot i) =
    by_order i a.last
    (λ h. rw (lt-ltb i a.last h) (omega arith))
    (λ h. rw (le-ltb i a.last h) (omega (arith, fns_left a 0)))
next_nearer a (Fn at) = fn-left a at (2 * get_or a.functions (at + 1) 0)
next_nearer a (Diag k) = diag_left a k
next_nearer a End = omega arith
next_nearer a (Refused number place) = omega arith
next_nearer a Input = omega arith
