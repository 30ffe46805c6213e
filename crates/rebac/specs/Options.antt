-- Results that may be missing.
use Rattle.std.specs.Prelude.{Bool, true, false}
use Rattle.std.proofs.Math.Option.{Option, none}

-- o where the test passes, else none
abbrev pub given : {A : Type 0} → Bool → Option A → Option A
given true o = o
given false o = none
