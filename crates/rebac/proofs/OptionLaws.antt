-- Whether something was found, as an equation.
use Rattle.std.proofs.Common.{◌≡◌, refl, true, false}
use Rattle.std.proofs.Math.Option.{Option, none, some}
use Rattle.lists.proofs.Cases.{both}
use Rattle.rebac.specs.promises.Options.{is_some}

pub some_of : {A : Type 0} (o : Option A) → is_some o ≡ true → (x : A) × (o ≡ some x)
some_of none e = both {b = false} e refl
some_of (some x) e = (x, refl)

pub none_of : {A : Type 0} (o : Option A) → is_some o ≡ false → o ≡ none
none_of none e = refl
none_of (some x) e = both {b = true} refl e
