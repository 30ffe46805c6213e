-- What a verdict's reply says of the verdict, and that replies are known by their numbers and values: by their cases.
use Rattle.std.proofs.Common.{◌≡◌, refl, ap, ℕ, Result, Ok, Err}
use Rattle.lists.proofs.Cases.{clash}
use Rattle.rebac.specs.Matter.{Pair}
use Rattle.rebac.specs.Verdict.{Verdict, convertible, no_word, rivalled}
use Rattle.house_layout.specs.declared.reply.Refusal.{Refusal}
use Rattle.mining.specs.Values.{pair_value, pair_in}
use Rattle.mining.specs.declared.build.Pair.{Pair as PairValue}
use Rattle.house_layout.proofs.RefusalNumbers.{refusal_said}
use Rattle.conversion.specs.Calls.{verdict_reply, said_verdict, said_mining}
use Rattle.conversion.specs.declared.verdict.Verdict.{Verdict as VerdictValue}
use Rattle.conversion.specs.declared.verdict.Verdict.TheVariants as reply

pub reply_convertible : (size k : ℕ) (v : Verdict Pair) → verdict_reply size v ≡ Ok (reply.Convertible k) → (v ≡ convertible) × (size ≡ k)
reply_convertible size k convertible e = (refl, cc)
reply_convertible size k (no_word p) e = clash (cc e)
reply_convertible size k (rivalled p q) e = clash (cc e)

pub reply_no_word : (size : ℕ) (x : PairValue) (v : Verdict Pair) → verdict_reply size v ≡ Ok (reply.NoWord x) → v ≡ no_word (pair_in x)
reply_no_word size x convertible e = clash (cc e)
reply_no_word size x (no_word p) e = let z : pair_value p ≡ x = cc in rw (← z)
reply_no_word size x (rivalled p q) e = clash (cc e)

pub reply_rival : (size : ℕ) (x y : PairValue) (v : Verdict Pair) → verdict_reply size v ≡ Ok (reply.Rival x y)
    → v ≡ rivalled (pair_in x) (pair_in y)
reply_rival size x y convertible e = clash (cc e)
reply_rival size x y (no_word p) e = clash (cc e)
reply_rival size x y (rivalled p q) e = let a : pair_value p ≡ x = cc in let b : pair_value q ≡ y = cc in rw (← a, ← b)

-- a refusal is no verdict's reply
pub reply_refused : {G : Type 0} (size : ℕ) (x : Refusal) (v : Verdict Pair) → verdict_reply size v ≡ Err x → G
reply_refused size x convertible e = clash (cc e)
reply_refused size x (no_word p) e = clash (cc e)
reply_refused size x (rivalled p q) e = clash (cc e)

-- a pair by its two numbers
pub pair_same : (p q : PairValue) → p.first ≡ q.first → p.second ≡ q.second → p ≡ q
pair_same p q a b = λ i. record { first = a i; second = b i }

-- equal numbers and values mean equal replies
pub verdict_said : (r s : Result VerdictValue Refusal) → said_verdict r ≡ said_verdict s → r ≡ s
verdict_said (Err x) (Err y) e = ap Err (refusal_said e)
verdict_said (Err x) (Ok (reply.Convertible k)) e = clash (cc e)
verdict_said (Err x) (Ok (reply.NoWord p)) e = clash (cc e)
verdict_said (Err x) (Ok (reply.Rival p q)) e = clash (cc e)
verdict_said (Ok (reply.Convertible j)) (Err y) e = clash (cc e)
verdict_said (Ok (reply.Convertible j)) (Ok (reply.Convertible k)) e = ap (λ (i : ℕ). Ok (reply.Convertible i)) (cc e)
verdict_said (Ok (reply.Convertible j)) (Ok (reply.NoWord p)) e = clash (cc e)
verdict_said (Ok (reply.Convertible j)) (Ok (reply.Rival p q)) e = clash (cc e)
verdict_said (Ok (reply.NoWord x)) (Err y) e = clash (cc e)
verdict_said (Ok (reply.NoWord x)) (Ok (reply.Convertible k)) e = clash (cc e)
verdict_said (Ok (reply.NoWord x)) (Ok (reply.NoWord p)) e = ap (λ (y : PairValue). Ok (reply.NoWord y)) (pair_same x p (cc e) (cc e))
verdict_said (Ok (reply.NoWord x)) (Ok (reply.Rival p q)) e = clash (cc e)
verdict_said (Ok (reply.Rival x y)) (Err z) e = clash (cc e)
verdict_said (Ok (reply.Rival x y)) (Ok (reply.Convertible k)) e = clash (cc e)
verdict_said (Ok (reply.Rival x y)) (Ok (reply.NoWord p)) e = clash (cc e)
verdict_said (Ok (reply.Rival x y)) (Ok (reply.Rival p q)) e =
    let a : x ≡ p = pair_same x p (cc e) (cc e) in
    let b : y ≡ q = pair_same y q (cc e) (cc e) in
    rw (a, b) refl

pub mining_said : (r s : Result ℕ Refusal) → said_mining r ≡ said_mining s → r ≡ s
mining_said (Err x) (Err y) e = ap Err (refusal_said e)
mining_said (Err x) (Ok k) e = clash (cc e)
mining_said (Ok j) (Err y) e = clash (cc e)
mining_said (Ok j) (Ok k) e = ap Ok (cc e)
