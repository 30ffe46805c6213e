-- The counts of the pairs are summed target by target, from 0 on.
use Rattle.std.proofs.Common.{rules, tests, ◌≡◌, ◌∙◌, ℕ, ◌+◌, ap, get_or, length, arith}
use Rattle.std.proofs.iter.runs.Sources.{range_runs}
use Rattle.masks.specs.promises.Table.{no_row, mask_in}
use Rattle.canonical.specs.promises.Masks.{kinds_in}
use Rattle.canonical.proofs.CountLaws.{counts_up, row_to, row_count, row_bounded, row_all}
use Rattle.canonical.proofs.count.count_party.Goals as goal

pub sum-requires-clause-fits : goal.sum-requires-clause-fits
sum-requires-clause-fits c =
    λ p t e.
    let m = c.args.m.now in
    let labels = m.header.labels in
    let row = get_or m.masks.now.rows c.args.u no_row in
    let q = c.map.ensures.runs p t e in
    let w = range_runs q.0 q.0.seen in
    let r = rw q.1 at w in
    let h : ℕ → ℕ → ℕ = λ n v. n + length (kinds_in labels (mask_in row v)) in
    let n = q.2.4 (λ (a y : ℕ). a + y) h 0 (λ x y f a w. search (rules, tests)) in
    let k = row_count labels row c.args.u q.0.items (counts_up q.0.items q.0.at q.0.len q.0.long q.0.reads r.3) in
    omega (arith, n, k, row_bounded labels row c.args.u (omega (arith, m.labels)) (length q.0.items), r.0, q.0.long, m.parties)

pub returns : goal.returns
returns c =
    let m = c.args.m.now in
    let labels = m.header.labels in
    let row = get_or m.masks.now.rows c.args.u no_row in
    let p = c.sum.ensures.runs tt in
    let q = c.map.ensures.runs p.0 p.0.seen p.1 in
    let w = range_runs q.0 q.0.seen in
    let r = rw q.1 at w in
    let h : ℕ → ℕ → ℕ = λ n v. n + length (kinds_in labels (mask_in row v)) in
    let n = q.2.4 (λ (a y : ℕ). a + y) h 0 (λ x y f a w. search (rules, tests)) in
    let k = row_count labels row c.args.u q.0.items (counts_up q.0.items q.0.at q.0.len q.0.long q.0.reads r.3) in
    let long : length q.0.items ≡ m.header.parties = omega (arith, q.0.long, r.1 (q.2.0 ∙ p.2)) in
    p.3 ∙ n ∙ k ∙ ap (λ (v : ℕ). length (row_to labels row c.args.u v)) long ∙ ap length (row_all m.header m.masks.now c.args.u)
