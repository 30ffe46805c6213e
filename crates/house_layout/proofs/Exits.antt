-- What a function returns at the exit of a `?` on another's refusal: that refusal. Assumes nothing.
use Rattle.std.proofs.Common.{◌≡◌, ap, ◌∙◌, Result, Err, IsErrAnd}
use Rattle.std.proofs.lemmas.Result.{err_from_is_err_and}

pub left_with : {T E : Type 0} {x : E} (r : Result T E) → IsErrAnd r (λ y. y ≡ x) → r ≡ Err x
left_with r h = let p = err_from_is_err_and r h in p.1 ∙ ap Err p.2
