-- Entries one after another, written and read back: by induction on their number. Assumes nothing.
use Rattle.std.proofs.Common.{◌≡◌, refl, sym, ap, ◌∙◌, Bool, true, false, List, [], ◌∷◌, ◌++◌, append_assoc}
use Rattle.std.proofs.Common.{ℕ, zero, suc, ◌+◌, arith, length, get_or-append-add}
use mathlib.Core.List.Memᴰ
use mathlib.Core.List.{Memᴰ}
use Rattle.std.proofs.Math.Option.{Option, none, some}
use Rattle.lists.specs.Lists.{flat_map}
use Rattle.lists.proofs.Cases.{by_mem}
use Rattle.rebac.specs.Options.{given}
use Rattle.fields.specs.Numbers.{Bytes}
use Rattle.rule_bytes.specs.ListBytes.{Parsed, parsed, and_then, decode_many}

-- none is not some
pub not_some : {G A : Type 0} {x : A} → none ≡ some x → G
not_some e = let z : ◌≡◌ {A = ℕ} 0 1 = cc in absurd (omega arith)

pub then_some :
    {A B : Type 0} (o : Option (Parsed A)) (k : A → List ℕ → Option B) {y : B} → and_then o k ≡ some y
    → (r : Parsed A) × (o ≡ some r) × (k r.value r.rest ≡ some y)
then_some none k e = not_some e
then_some (some r) k e = (r, refl, e)

pub given_some : {A : Type 0} (b : Bool) (o : Option A) {y : A} → given b o ≡ some y → (b ≡ true) × (o ≡ some y)
given_some true o e = (refl, e)
given_some false o e = not_some e

pub bytes_after : (p q : List ℕ) → Bytes (p ++ q) → Bytes q
bytes_after p q h i = rw (get_or-append-add p q i 0) at (h (length p + i))

-- x was read from s, and stands there by its encoding; r follows
pub record Back {A : Type 0} (e : A → List ℕ) (P : A → Type 0) (s : List ℕ) (x : A) (r : List ℕ) : Type 0 where
  pub bytes : s ≡ e x ++ r
  pub holds : P x

-- many were read
pub record BackMany {A : Type 0} (e : A → List ℕ) (P : A → Type 0) (n : ℕ) (s : List ℕ) (xs : List A) (r : List ℕ) : Type 0 where
  pub bytes : s ≡ flat_map e xs ++ r
  pub number : length xs ≡ n
  pub holds : (x : A) → Memᴰ x xs → P x

moved :
    {A : Type 0} {e : A → List ℕ} {P : A → Type 0} {n : ℕ} {s : List ℕ} {xs ys : List A} {q r : List ℕ} → xs ≡ ys → q ≡ r
    → BackMany e P n s xs q → BackMany e P n s ys r
moved a b k = rw (← a, ← b) k

module _ {A : Type 0} (f : List ℕ → Option (Parsed A)) (e : A → List ℕ) where
  pub many_encode :
      (l : List A) (s : List ℕ) → ((x : A) → Memᴰ x l → (r : List ℕ) → f (e x ++ r) ≡ parsed x r)
      → decode_many f (length l) (flat_map e l ++ s) ≡ parsed l s
  unfolding decode_many flat_map
  many_encode [] s h = refl
  many_encode (x ∷ l) s h =
      let first = h x (Memᴰ.head refl) (flat_map e l ++ s) in
      rw (append_assoc (e x) (flat_map e l) s, first, many_encode l s (λ y m. h y (Memᴰ.tail m)))

  module _ (P : A → Type 0) (back : (s : List ℕ) (r : Parsed A) → Bytes s → f s ≡ some r → Back e P s r.value r.rest) where
    pub many_decode :
        (n : ℕ) (s : List ℕ) (r : Parsed (List A)) → Bytes s → decode_many f n s ≡ some r → BackMany e P n s r.value r.rest
    unfolding decode_many flat_map
    many_decode zero s r h q =
        let a : [] ≡ r.value = cc in
        let b : s ≡ r.rest = cc in
        rw (← a, ← b) (record { bytes = refl; number = refl; holds = λ x m. absurd (Memᴰ.not-nil m) })
    many_decode (suc n) s r h q =
        let u = then_some (f s) _ q in
        let one = back s u.0 h u.1 in
        let v = then_some (decode_many f n u.0.rest) _ u.2 in
        let rest = many_decode n u.0.rest v.0 (bytes_after (e u.0.value) u.0.rest (rw one.bytes at h)) v.1 in
        let a : u.0.value ∷ v.0.value ≡ r.value = cc v.2 in
        let b : v.0.rest ≡ r.rest = cc v.2 in
        let joined = append_assoc (e u.0.value) (flat_map e v.0.value) v.0.rest in
        moved a b (record {
          bytes = one.bytes ∙ ap (λ (z : List ℕ). e u.0.value ++ z) rest.bytes ∙ sym joined;
          number = ap suc rest.number;
          holds = λ x m. by_mem m (λ k. rw k one.holds) (λ k. rest.holds x k);
        })
