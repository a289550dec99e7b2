-- A number up to 11 is that of the kind that it numbers. By cases on the number. Assumes nothing.
use Rattle.std.specs.Prelude.{ℕ, zero, suc, ◌≤◌, ◌≡◌, refl}
use Rattle.std.proofs.Common.{arith}
use Rattle.ptype.specs.TypeKind.{kinds_of_types, kind_of_type, number_of_type}

pub kind-numbered : (k : ℕ) → k ≤ 11 → number_of_type (kind_of_type k) ≡ k
unfolding kind_of_type kinds_of_types
kind-numbered zero h = refl
kind-numbered (suc zero) h = refl
kind-numbered (suc (suc zero)) h = refl
kind-numbered (suc (suc (suc zero))) h = refl
kind-numbered (suc (suc (suc (suc zero)))) h = refl
kind-numbered (suc (suc (suc (suc (suc zero))))) h = refl
kind-numbered (suc (suc (suc (suc (suc (suc zero)))))) h = refl
kind-numbered (suc (suc (suc (suc (suc (suc (suc zero))))))) h = refl
kind-numbered (suc (suc (suc (suc (suc (suc (suc (suc zero)))))))) h = refl
kind-numbered (suc (suc (suc (suc (suc (suc (suc (suc (suc zero))))))))) h = refl
kind-numbered (suc (suc (suc (suc (suc (suc (suc (suc (suc (suc zero)))))))))) h = refl
kind-numbered (suc (suc (suc (suc (suc (suc (suc (suc (suc (suc (suc zero))))))))))) h = refl
kind-numbered (suc (suc (suc (suc (suc (suc (suc (suc (suc (suc (suc (suc k)))))))))))) h = absurd (omega arith)
