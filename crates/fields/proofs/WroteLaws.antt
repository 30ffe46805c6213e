-- Pieces written one after another, each where the one before it ends. Assumes nothing.
use Rattle.std.proofs.Common.{◌≡◌, ap, ◌∙◌, List, ◌++◌, ℕ, ◌+◌, ◌≤◌, arith, length, length-append}
use Rattle.fields.specs.promises.Writing.{put, Wrote}
use Rattle.fields.proofs.PutLaws.{put_put, put_length}

pub wrote_length : {b x new : List ℕ} {at end : ℕ} → Wrote b at x new end → at + length x ≤ length b → length new ≡ length b
wrote_length {b} {x} {at} w h = ap length w.bytes ∙ put_length b at x h

pub wrote_two : {b x out y new : List ℕ} {at end last : ℕ} → Wrote b at x out end → Wrote out end y new last
    → at ≤ length b → Wrote b at (x ++ y) new last
wrote_two {b} {x} {y} {at} {end} p q h = record {
  bytes = q.bytes ∙ ap (λ (l : List ℕ). put l end y) p.bytes ∙ ap (λ (k : ℕ). put (put b at x) k y) p.place ∙ put_put b at x y h;
  place = omega (arith, length-append x y);
}

pub wrote_three : {b x o y m z new : List ℕ} {at e d last : ℕ} → Wrote b at x o e → Wrote o e y m d → Wrote m d z new last
    → at + length (x ++ (y ++ z)) ≤ length b → Wrote b at (x ++ (y ++ z)) new last
wrote_three {b} {x} {y} {z} {at} p q r h =
    let n : at + length x ≤ length b = omega (arith, length-append x (y ++ z)) in
    wrote_two p (wrote_two q r (omega (arith, wrote_length p n))) (omega arith)

pub wrote_five : {b x o y m z n u l v new : List ℕ} {at e d c a last : ℕ}
    → Wrote b at x o e → Wrote o e y m d → Wrote m d z n c → Wrote n c u l a → Wrote l a v new last
    → at + length (x ++ (y ++ (z ++ (u ++ v)))) ≤ length b → Wrote b at (x ++ (y ++ (z ++ (u ++ v)))) new last
wrote_five {b} {x} {o} {y} {m} {z} {u} {v} p q r s t h =
    let rest : List ℕ = z ++ (u ++ v) in
    let f : length (x ++ (y ++ rest)) ≡ length x + (length y + length rest) =
    omega (arith, length-append x (y ++ rest), length-append y rest) in
    let g : length o ≡ length b = wrote_length p (omega arith) in
    let k : length m ≡ length o = wrote_length q (omega arith) in
    wrote_three p q (wrote_three r s t (omega arith)) h
