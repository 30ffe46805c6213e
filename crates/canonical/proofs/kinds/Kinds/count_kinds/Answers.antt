-- The places are counted whose kind passes, from 0 on.
use Rattle.std.proofs.Common.{rules, tests, ◌≡◌, ◌∙◌, ℕ, ◌+◌, ◌*◌, cond, get_or, length, arith}
use Rattle.std.proofs.iter.runs.Sources.{range_runs}
use Rattle.masks.specs.promises.Mask.{test_bit}
use Rattle.house_layout.specs.promises.Kinds.{bit_of}
use Rattle.canonical.specs.Canonical.{kind_bytes}
use Rattle.canonical.proofs.CountLaws.{counts_up, kinds_count}
use Rattle.canonical.proofs.kinds.Kinds.count_kinds.Goals as goal

pub returns : goal.returns
returns c =
    let a = c.args in
    let p = c.count.ensures.runs in
    let q = c.filter.ensures.runs p.0 p.0.seen p.1 in
    let w = range_runs q.0 q.0.seen in
    let r = rw q.1 at w in
    let h : ℕ → ℕ → ℕ = λ n x. n + cond (test_bit a.mask (bit_of (get_or (kind_bytes a.self.labels) x 0))) 1 0 in
    let n = q.2.5 h (λ x b f m w. search (rules, tests)) in
    let long : length q.0.items ≡ 2 * a.self.labels + 1 = omega (arith, q.0.long, r.1 (q.2.0 ∙ p.2)) in
    p.3 ∙ n ∙ kinds_count a.self.labels a.mask q.0.items long (counts_up q.0.items q.0.at q.0.len q.0.long q.0.reads r.3)
