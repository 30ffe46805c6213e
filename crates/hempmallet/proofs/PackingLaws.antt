-- Different replies of a call are different numbers: the lowest byte tells the reply's kind, the others its values, each below 256.
-- Every reply of the calls is in range.
use Rattle.std.proofs.Common.{Bool, true, false, Result, Ok, Err, ◌≡◌, refl, ap, List, ℕ, ◌+◌, ◌*◌, ◌<◌, arith, leb, length}
use Rattle.house_layout.specs.declared.reply.Refusal.{Refusal}
use Rattle.std.proofs.Math.Logic.{by_cases}
use Rattle.std.proofs.Math.Decide.{dec_lt}
use Rattle.lists.proofs.Cases.{by_test}
use Rattle.rebac.specs.Verdict.{is_convertible}
use Rattle.rebac.specs.Existence.{problem_of, verdict_of}
use Rattle.house_file.specs.Check.{check_of}
use Rattle.house_layout.specs.Reply.{number_of}
use Rattle.house_layout.specs.declared.reply.Refusal.{Refusal}
use Rattle.graph.specs.FileMatter.{matter_of}
use Rattle.graph.proofs.LoadLaws.{accepted_limits}
use Rattle.mining.specs.declared.build.Pair.{Pair}
use Rattle.conversion.specs.declared.verdict.Verdict.{Verdict}
use Rattle.conversion.specs.declared.verdict.Verdict.TheVariants.{Convertible, NoWord, Rival}
use Rattle.conversion.specs.Calls.{bytes_of, verdict_call, mining_in, mining_call, mining_reply}
use Rattle.house_layout.proofs.RefusalNumbers.{number_apart, number_small}
use Rattle.conversion.proofs.ReplyLaws.{pair_same}
use Rattle.house_layout.proofs.RecordLaws.{by_check}
use Rattle.conversion.proofs.Demand3.{bytes_bound, length_bound, no_word_parties, rival_parties}
use Rattle.hempmallet.specs.Packing.{first_kind, pack_verdict, pack_mining, pack_permit, VerdictInRange, MiningInRange}

-- a byte and what stands above it
byte_apart : (a b x y : ℕ) → a < 256 → b < 256 → a + 256 * x ≡ b + 256 * y → (a ≡ b) × (x ≡ y)
byte_apart a b x y h k e =
    let z : x ≡ y =
    by_cases (dec_lt x y)
    (λ (l : x < y). absurd (omega arith))
    (λ n. by_cases (dec_lt y x) (λ (l : y < x). absurd (omega arith)) (λ m. omega arith)) in
    (omega arith, z)

refusal_below : (x : Refusal) → number_of x < first_kind
refusal_below x = omega (arith, number_small x)

pub verdict_apart : (v w : Result Verdict Refusal) → VerdictInRange v → VerdictInRange w → pack_verdict v ≡ pack_verdict w → v ≡ w
verdict_apart (Err x) (Err y) r s e = ap Err (number_apart x y e)
verdict_apart (Err x) (Ok (Convertible k)) r s e = absurd (omega (arith, refusal_below x))
verdict_apart (Err x) (Ok (NoWord p)) r s e = absurd (omega (arith, refusal_below x))
verdict_apart (Err x) (Ok (Rival p q)) r s e = absurd (omega (arith, refusal_below x))
verdict_apart (Ok (Convertible k)) (Err y) r s e = absurd (omega (arith, refusal_below y))
verdict_apart (Ok (Convertible k)) (Ok (Convertible j)) r s e = let z : k ≡ j = omega arith in ap (λ (n : ℕ). Ok (Convertible n)) z
verdict_apart (Ok (Convertible k)) (Ok (NoWord p)) r s e = absurd (omega arith)
verdict_apart (Ok (Convertible k)) (Ok (Rival p q)) r s e = absurd (omega arith)
verdict_apart (Ok (NoWord p)) (Err y) r s e = absurd (omega (arith, refusal_below y))
verdict_apart (Ok (NoWord p)) (Ok (Convertible k)) r s e = absurd (omega arith)
verdict_apart (Ok (NoWord p)) (Ok (NoWord q)) r s e =
    let a = byte_apart p.first q.first p.second q.second r.0 s.0 (omega arith) in
    ap (λ (x : Pair). Ok (NoWord x)) (pair_same p q a.0 a.1)
verdict_apart (Ok (NoWord p)) (Ok (Rival x y)) r s e = absurd (omega arith)
verdict_apart (Ok (Rival p q)) (Err y) r s e = absurd (omega (arith, refusal_below y))
verdict_apart (Ok (Rival p q)) (Ok (Convertible k)) r s e = absurd (omega arith)
verdict_apart (Ok (Rival p q)) (Ok (NoWord x)) r s e = absurd (omega arith)
verdict_apart (Ok (Rival p q)) (Ok (Rival x y)) r s e =
    let u : ℕ = q.first + 256 * q.second in
    let v : ℕ = y.first + 256 * y.second in
    let a = byte_apart p.first x.first (p.second + 256 * u) (x.second + 256 * v) r.0.0 s.0.0 (omega arith) in
    let b = byte_apart p.second x.second u v r.0.1 s.0.1 a.1 in
    let c = byte_apart q.first y.first q.second y.second r.1.0 s.1.0 b.1 in
    let m : p ≡ x = pair_same p x a.0 b.0 in
    let n : q ≡ y = pair_same q y c.0 c.1 in
    rw (m, n)

pub mining_apart : (v w : Result ℕ Refusal) → MiningInRange v → MiningInRange w → pack_mining v ≡ pack_mining w → v ≡ w
mining_apart (Err x) (Err y) r s e = ap Err (number_apart x y e)
mining_apart (Err x) (Ok k) r s e = absurd (omega (arith, refusal_below x))
mining_apart (Ok k) (Err y) r s e = absurd (omega (arith, refusal_below y))
mining_apart (Ok k) (Ok j) r s e = let z : k ≡ j = omega arith in ap Ok z

pub permit_apart : (v w : Result Bool Refusal) → pack_permit v ≡ pack_permit w → v ≡ w
permit_apart (Err x) (Err y) e = ap Err (number_apart x y e)
permit_apart (Err x) (Ok true) e = absurd (omega (arith, refusal_below x))
permit_apart (Err x) (Ok false) e = absurd (omega (arith, refusal_below x))
permit_apart (Ok true) (Err y) e = absurd (omega (arith, refusal_below y))
permit_apart (Ok true) (Ok true) e = refl
permit_apart (Ok true) (Ok false) e = absurd (omega arith)
permit_apart (Ok false) (Err y) e = absurd (omega (arith, refusal_below y))
permit_apart (Ok false) (Ok true) e = absurd (omega arith)
permit_apart (Ok false) (Ok false) e = refl

accepted_range : (f : List ℕ) → check_of f ≡ Ok tt → (r : Result Verdict Refusal) → verdict_call f ≡ r → VerdictInRange r
accepted_range f e (Err x) v = tt
accepted_range f e (Ok (Convertible k)) v = omega (arith, length_bound f e k v)
accepted_range f e (Ok (NoWord p)) v = let r = no_word_parties f e p v in (omega arith, omega arith)
accepted_range f e (Ok (Rival p q)) v = let r = rival_parties f e p q v in ((omega arith, omega arith), (omega arith, omega arith))

-- every reply of the calls is in range
pub verdict_in_range : (f : List ℕ) → VerdictInRange (verdict_call f)
unfolding verdict_call
verdict_in_range f = by_check (check_of f) (λ e. accepted_range f e (verdict_call f) refl) (λ x e. rw e tt)

pub mining_in_range : (f : List ℕ) (scratch output : ℕ) → MiningInRange (mining_reply (mining_call f scratch output))
unfolding mining_call mining_in
mining_in_range f scratch output =
    by_check (check_of f)
    (λ e. rw e (by_test (leb 1024 scratch)
    (λ a. rw a (by_test (is_convertible (problem_of (matter_of f)) (verdict_of (matter_of f)))
    (λ b. rw b (by_test (leb (length (bytes_of (matter_of f))) output)
    (λ d. rw d (omega (arith, bytes_bound (matter_of f) (accepted_limits f e))))
    (λ d. rw d tt)))
    (λ b. rw b tt)))
    (λ a. rw a tt)))
    (λ x e. rw e tt)

-- so different replies go out as different numbers
pub verdict_numbers : (f g : List ℕ) → pack_verdict (verdict_call f) ≡ pack_verdict (verdict_call g) → verdict_call f ≡ verdict_call g
verdict_numbers f g e = verdict_apart (verdict_call f) (verdict_call g) (verdict_in_range f) (verdict_in_range g) e

pub mining_numbers : (f g : List ℕ) (s o t p : ℕ)
    → pack_mining (mining_reply (mining_call f s o)) ≡ pack_mining (mining_reply (mining_call g t p))
    → mining_reply (mining_call f s o) ≡ mining_reply (mining_call g t p)
mining_numbers f g s o t p e =
    mining_apart (mining_reply (mining_call f s o)) (mining_reply (mining_call g t p)) (mining_in_range f s o) (mining_in_range g t p) e
