-- What `find_map` gives over a range: the first of its numbers at which the closure gives something. Assumes nothing.
use Rattle.std.proofs.Common.{◌≡◌, ℕ, ◌+◌, ◌-◌, ◌≤◌, ◌<◌, arith, Option, None, Some, MatchOption, IsTrue, option_map}
use Rattle.std.specs.Fn.{Called}
use Rattle.std.specs.Iterator.Runs.{Run, ItemsCountUp, CallKeepsClosure, AllItemsGive, IsFirstToGive}
use denote.Param.Members.{Mut}

-- nothing is given at the numbers from a to below b
abbrev pub NoneGiven : {B : Type 0} → (ℕ → Option B → Type 0) → ℕ → ℕ → Type 0
NoneGiven Given a b = (x : ℕ) → a ≤ x → x < b → Given x None

-- r is given at the first number from a to below b at which something is
abbrev pub FirstGiven : {B : Type 0} → (ℕ → Option B → Type 0) → ℕ → ℕ → Option B → Type 0
FirstGiven Given a b r =
    MatchOption r (NoneGiven Given a b) (λ y. (x : ℕ) × (a ≤ x) × (x < b) × Given x (Some y) × NoneGiven Given a x)

same_option : (o : Option ℕ) (x : ℕ) → option_map (λ y. y) o ≡ Some x → o ≡ Some x
same_option None x e = e
same_option (Some y) x e = e

module _ {S F B : Type 0} {steps : S → Option ℕ → S → Type 0} (p : Run steps) (g : Mut F (ℕ × Unit {0}) (Option B)) (f : F)
    (Given : ℕ → Option B → Type 0) (given : (x : ℕ) (r : Option B) (h : F) → Called g f (x, tt) r h → (h ≡ f) × Given x r)
    (a b : ℕ) (up : ItemsCountUp p a b) where
  item : (i : ℕ) → i < p.len → p.at i ≡ Some (a + i)
  item i h = same_option (p.at i) (a + i) (up.3 i h)

  keeps : CallKeepsClosure g f
  keeps x r h e = (given x.0 r h e).0

  none_given : (k : ℕ) → ((i : ℕ) → a + i < k → Called g f (a + i, tt) None f) → NoneGiven Given a k
  none_given k h x low high =
      let e : a + (x - a) ≡ x = omega arith in
      (given x None f (rw e at (h (x - a) (omega arith)))).1

  pub first_given : (r : Option B)
      → MatchOption r (IsTrue p.whole × AllItemsGive p g f None)
      (λ y. (i : ℕ) × (i < p.len) × (p.len ≡ i + 1) × IsFirstToGive p g f (Some y) None i)
      → FirstGiven Given a b r
  first_given None h =
      none_given b (λ i l. let m : i < p.len = omega (arith, up.1 h.0) in rw (item i m) at (h.1 keeps i))
  first_given (Some y) (i, l, e, h) = (
    a + i,
    omega arith,
    omega (arith, up.0),
    (given (a + i) (Some y) f (rw (item i l) at (h keeps).0)).1,
    none_given (a + i) (λ j z. let m : j < p.len = omega arith in rw (item j m) at ((h keeps).1 j (omega arith))),
  )
