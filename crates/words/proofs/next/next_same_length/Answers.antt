use Rattle.std.proofs.Common.{◌≡◌, ℕ, ◌-◌, List, take, drop, refl, sym, ap, ◌∙◌, arith, append-nil, take_all}
use Rattle.std.proofs.Math.Option.{Option}
use Rattle.rebac.specs.promises.Forms.{next_same_length}
use Rattle.rebac.proofs.FormLaws.{same_end}
use Rattle.search.specs.Word.{symbols_in}
use Rattle.search.specs.promises.PairSearch.{graph_of, pair_of}
use Rattle.search.proofs.SearchLaws.{symbols_length, short_fits}
use Rattle.words.proofs.NextLaws.{same_up, raise_next, raise_zero, word_not, word_as}
use Rattle.words.proofs.next.next_same_length.Goals as goal

pub loop-i-init : goal.loop-i-init
loop-i-init c =
    let q = c.args.q.now in
    let len = c.args.w.word.len in
    let w : List ℕ = symbols_in c.args.w.word in
    let size = symbols_length c.args.w.word (short_fits c.args.w.short) in
    let e : len - len ≡ 0 = omega arith in
    record {
      len = refl;
      within = omega arith;
      kept = sym (rw e (append-nil (take len w) ∙ take_all len w (omega (arith, size))));
      passed = λ al A.
          let next : ℕ → Option (List ℕ) = λ j. next_same_length al (graph_of q.graph) (pair_of q) (take j w) (drop j w) in
          ap next (sym size) ∙ same_end al (graph_of q.graph) (pair_of q) w;
    }

pub returns-then-is_some : goal.returns-then-is_some
returns-then-is_some c al A =
    let q = c.args.q.now in
    let w = c.args.w.word in
    let l = c.loop-i in
    let size = symbols_length w (short_fits c.args.w.short) in
    let raised = c.raise_at-raised in
    word_as _ _ raised.result (raise_next l.invariant size c.loop-i-test.true raised.result raised.ensures A)
    (sym c.is_some.ensures ∙ c.if-is_some.true)
    (λ v. same_up al (graph_of q.graph) (pair_of q) (symbols_in w) v (l.i - 1) (omega (arith, size, l.invariant.within)))

pub loop-i-preserved : goal.loop-i-preserved
loop-i-preserved c =
    let size = symbols_length c.args.w.word (short_fits c.args.w.short) in
    let v = c.loop-i.invariant in
    let i = c.loop-i-test.true in
    let raised = c.raise_at-raised in
    let put = c.put-t.ensures in
    record {
      len = put.len ∙ v.len;
      within = omega (arith, v.within);
      kept = raise_zero v size i put.len put.symbols;
      passed = λ al A. word_not _ _ (raise_next v size i raised.result raised.ensures A) (sym c.is_some.ensures ∙ c.if-is_some.false);
    }
