-- The search with the seen parties kept as marks of any kind, a mask for example; one function for the test and for the least path.
use Rattle.std.specs.Prelude.{◌≡◌, Bool, not, ◌&&◌, List, [], ◌∷◌, ℕ, ◌<◌, eqb}
use Rattle.std.proofs.Math.Option.{Option, none, some}
use Rattle.lists.specs.Lists.{member, range}
use Rattle.rebac.specs.Options.{given}
use Rattle.rebac.specs.promises.Options.{first_some}
use Rattle.rebac.specs.Paths.{Graph}

-- c in front of a continuation
abbrev pub prepend : ℕ → Option (List ℕ) → Option (List ℕ)
prepend c none = none
prepend c (some l) = some (c ∷ l)

-- the marks v say which of the parties 0 to n - 1 stand in the list
abbrev pub PartyMarks : {K : Type 0} → ℕ → (ℕ → K → Bool) → K → List ℕ → Type 0
PartyMarks n seen v past = (c : ℕ) → c < n → seen c v ≡ member c past

-- seen c v: party c is marked in v; mark c v: v with c marked too
module _ {S K : Type 0} (g : Graph S) (seen : ℕ → K → Bool) (mark : ℕ → K → K) where
  -- the parties after a of the least path onward to b along the word
  unfoldable pub least_marked : K → ℕ → ℕ → List S → Option (List ℕ)
  least_marked v a b [] = given (eqb a b) (some [])
  least_marked v a b (s ∷ w) =
      first_some (λ c. given (not (seen c v) && g.edge a c s) (prepend c (least_marked (mark c v) c b w))) (range g.parties)
