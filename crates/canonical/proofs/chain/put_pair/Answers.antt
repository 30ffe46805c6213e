use Rattle.std.proofs.Common.{sym, ap, ◌∙◌, [], ◌∷◌, ◌++◌, ℕ, ◌+◌, ◌-◌, ◌*◌, ◌≤◌, arith, length, get_or, length-append}
use Rattle.fields.proofs.PutLaws.{put_kept}
use Rattle.canonical.specs.Canonical.{kind_bytes}
use Rattle.canonical.proofs.CountLaws.{kinds_to, kinds_more, kinds_same, kinds_most}
use Rattle.canonical.proofs.WriteLaws.{pair_length, pair_put}
use Rattle.canonical.proofs.chain.put_pair.Goals as goal
use Rattle.canonical.proofs.chain.put_pair.Goals.{then-says_at, else-says_at}

pub loop-place-preserved : goal.loop-place-preserved
loop-place-preserved c =
    let l = c.loop-place in
    let a = c.args in
    let labels = a.chain.kinds.labels in
    let e = c.says_at.ensures in
    let t : l.place ≤ 2 * labels = omega arith in
    let i = l.invariant in
    let ks = kinds_to labels a.mask l.place in
    let more = kinds_to labels a.mask (l.place + 1) in
    elim c.if-says_at.branch [
      | then-says_at w ↦
          let m = kinds_more labels a.mask l.place t (sym e ∙ w.if-says_at.true) in
          let n = ap length m ∙ length-append ks (get_or (kind_bytes labels) l.place 0 ∷ []) in
          let f = kinds_most labels a.mask (l.place + 1) in
          let k = m ∙ ap (λ (k : ℕ). ks ++ (k ∷ [])) (sym w.kind_at.ensures.0) in
          let p =
          pair_put a.chain.end a.out.now l.out a.chain.base a.number a.chain.owner a.target l.next ks more w.kind_at.result w.link_to.result
          (omega arith) (omega arith) i.count k w.link_to.ensures.0 i.bytes in
          let o = w.out-is ∙ w.put_record.ensures ∙ p in
          let g = pair_length a.chain.end a.number a.chain.owner a.target more in
          let s = put_kept a.out.now c.if-says_at.out (a.chain.base + 5 * (a.number - 1)) _ o (omega (arith, f, g)) in
          record { size = s; count = omega (arith, w.next-is, n); bytes = o }
      | else-says_at w ↦
          let m = kinds_same labels a.mask l.place t (sym e ∙ w.if-says_at.false) in
          record {
            size = ap length w.out-is ∙ i.size;
            count = rw m (w.next-is ∙ i.count);
            bytes = rw m (w.out-is ∙ i.bytes);
          }
    ]
