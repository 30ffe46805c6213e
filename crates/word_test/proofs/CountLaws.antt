-- A loop that adds up values below a cap and keeps the greatest of others while the sum is 0: where it stands, and what one turn adds.
-- Assumes nothing.
use Rattle.std.proofs.Common.{◌≡◌, ℕ, ◌+◌, ◌-◌, ◌<◌, ◌≤◌, max, refl, ◌∙◌, arith}
use Rattle.lists.specs.Lists.{range, up_from}
use Rattle.lists.specs.Order.{sum_of, greatest_of}
use Rattle.lists.proofs.ListLaws.{range_in, range_out}
use Rattle.lists.proofs.OrderLaws.{greatest_least, greatest_most}
use Rattle.lists.proofs.Pointwise.{sum_next, greatest_next, sum_longer}
use Rattle.word_test.specs.promises.Backward.{BackAs}
use Rattle.word_test.specs.declared.back.Back.{Back}

-- what the numbers before v add: f to the ways, h to the symbols passed
pub record Counted (f h : ℕ → ℕ) (cap deep passed count depth v : ℕ) : Type 0 where
  pub counted : count ≡ sum_of f (range v)
  pub below : count < cap
  pub reached : count ≡ 0 → depth ≡ max deep (passed + greatest_of h (range v))
  pub start : passed ≤ depth
  pub known : deep ≤ depth
  pub most : depth ≤ max deep (passed + greatest_of h (range v))

module _ (f h : ℕ → ℕ) where
  pub count_start : {cap deep passed depth : ℕ} → 1 ≤ cap → depth ≡ max deep passed → Counted f h cap deep passed 0 depth 0
  unfolding sum_of greatest_of range up_from
  count_start c e = record {
    counted = refl;
    below = c;
    reached = λ z. omega (arith, e);
    start = omega (arith, e);
    known = omega (arith, e);
    most = omega (arith, e);
  }

module _ {f h : ℕ → ℕ} {cap deep passed count depth v : ℕ} (c : Counted f h cap deep passed count depth v) where
  -- one that adds nothing
  pub count_past : f v ≡ 0 → passed + h v ≤ depth → Counted f h cap deep passed count depth (v + 1)
  count_past e l = record {
    counted = omega (arith, c.counted, sum_next f v, e);
    below = c.below;
    reached = λ z. omega (arith, c.reached z, greatest_next h v, l);
    start = c.start;
    known = c.known;
    most = omega (arith, c.most, greatest_next h v);
  }

  -- one that was tried, with what is left of the cap and the depth so far
  module _ {r : Back} (b : BackAs (cap - count) (f v) depth (passed + h v) r) where
    pub count_on : count + r.count < cap → Counted f h cap deep passed (count + r.count) r.depth (v + 1)
    count_on z = record {
      counted = omega (arith, c.counted, sum_next f v, b.count, z);
      below = z;
      reached = λ y. omega (arith, c.reached (omega arith), b.depth (omega arith), greatest_next h v);
      start = omega (arith, c.start, b.known);
      known = omega (arith, c.known, b.known);
      most = omega (arith, c.most, b.most, greatest_next h v);
    }

    -- enough of them: the rest is not counted
    pub count_full : {n : ℕ} → v < n → 1 ≤ cap → cap ≤ count + r.count → (tried : ℕ)
        → BackAs cap (sum_of f (range n)) deep (passed + greatest_of h (range n))
        (record { count = count + r.count; depth = depth; tried = tried })
    count_full {n} l o z tried = record {
      count = omega (arith, z, b.count, c.below, c.counted, sum_next f v, sum_longer f (v + 1) n (omega arith));
      depth = λ y. absurd (omega arith);
      known = c.known;
      most = omega (
        arith,
        c.most,
        greatest_most h (range v) (greatest_of h (range n))
            (λ x m. greatest_least h (range n) (range_in n x (omega (arith, l, range_out v m)))),
      );
    }

  -- after the last
  pub count_end : {n : ℕ} → v ≡ n → (tried : ℕ)
      → BackAs cap (sum_of f (range n)) deep (passed + greatest_of h (range n)) (record { count = count; depth = depth; tried = tried })
  count_end {n} e tried = record {
    count = let k : count ≡ sum_of f (range n) = c.counted ∙ rw e in omega (arith, k, c.below);
    depth = λ y. c.reached y ∙ rw e;
    known = c.known;
    most = rw (← e) c.most;
  }
