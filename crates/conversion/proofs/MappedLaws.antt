-- What is known of a result from which another came, which is an error where it is: by its cases.
use Rattle.std.proofs.Common.{◌≡◌, refl, true, false, Result, Ok, Err}
use Rattle.lists.proofs.Cases.{clash}
use Rattle.std.specs.Result.{MatchResult, is_ok}

module _ {T E : Type 0} (P : T → Type 0) (Q : E → Type 0) where
  pub mapped_err : (r : Result T E) → MatchResult r P Q → is_ok r ≡ false → (e : E) × ((r ≡ Err e) × Q e)
  mapped_err (Ok x) h v = clash v
  mapped_err (Err e) h v = (e, (refl, h))

-- the value that was kept is the one that came
pub mapped_ok : {T E F : Type 0} (Q : E → Type 0) {s : Result T F} {x : T} (r : Result T E)
    → MatchResult r (λ y. s ≡ Ok y) Q → true ≡ is_ok r → s ≡ Ok x → r ≡ Ok x
mapped_ok Q (Ok y) h v e = cc (h, e)
mapped_ok Q (Err x) h v e = clash v
