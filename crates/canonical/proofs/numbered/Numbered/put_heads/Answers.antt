use Rattle.std.proofs.Common.{◌∙◌, ◌+◌, arith}
use Rattle.fields.proofs.PutLaws.{put_kept}
use Rattle.canonical.specs.promises.Masks.{numbers_in}
use Rattle.canonical.proofs.LayoutLaws.{heads_size}
use Rattle.canonical.proofs.WriteLaws.{heads_put, firsts_small}
use Rattle.canonical.proofs.numbered.Numbered.put_heads.Goals as goal

pub put_u16-requires : goal.put_u16-requires
put_u16-requires c =
    let q = c.args.self.now in
    let n = firsts_small q.matter q.firsts.now c.loop-u.u q.written (omega arith) in
    (omega (arith, c.link_to.ensures.1), omega (arith, c.loop-u.invariant.size))

pub loop-u-preserved : goal.loop-u-preserved
loop-u-preserved c =
    let l = c.loop-u in
    let a = c.args in
    let k = c.link_to in
    let first = numbers_in a.self.now.firsts.now in
    let p = heads_put first a.out.now l.out l.u k.result (omega arith) k.ensures.0 l.invariant.bytes in
    let o = c.put_u16.ensures ∙ p in
    record {
      size = put_kept a.out.now _ 8 _ o (omega (arith, heads_size first (l.u + 1)));
      bytes = o;
    }
