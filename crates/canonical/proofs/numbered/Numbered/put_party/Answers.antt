use Rattle.std.proofs.Common.{◌≡◌, ◌∙◌, ◌+◌, ◌-◌, ◌*◌, arith, get_or}
use Rattle.masks.specs.promises.Table.{no_row, mask_in}
use Rattle.fields.proofs.PutLaws.{put_kept}
use Rattle.canonical.specs.promises.Masks.{kinds_in, numbers_in}
use Rattle.canonical.proofs.CountLaws.{row_to, row_more, row_step, row_all, row_room}
use Rattle.canonical.proofs.WriteLaws.{chain_length, party_put, party_fits}
use Rattle.canonical.proofs.numbered.Numbered.put_party.Goals as goal

pub put_pair-next-requires : goal.put_pair-next-requires
put_pair-next-requires c =
    let q = c.args.self.now in
    let m = q.matter in
    let u = c.args.u in
    let p = party_fits m q.firsts.now _ u q.written c.requires.room c.requires.party in
    let n = row_step m.header.labels (get_or m.masks.now.rows u no_row) u c.loop-v.v in
    let r = row_room m.header m.masks.now u c.loop-v.v (omega arith) in
    record {
      parties = (omega arith, omega arith);
      first = omega arith;
      kinds = omega (arith, n, r);
      last = omega arith;
      room = omega arith;
    }

pub loop-v-preserved : goal.loop-v-preserved
loop-v-preserved c =
    let l = c.loop-v in
    let a = c.args in
    let q = a.self.now in
    let m = q.matter in
    let p = party_fits m q.firsts.now _ a.u q.written c.requires.room c.requires.party in
    let number = numbers_in q.firsts.now a.u in
    let end = numbers_in q.firsts.now (a.u + 1) in
    let row = get_or m.masks.now.rows a.u no_row in
    let e = c.put_pair-next.ensures in
    let base = 8 + 2 * m.header.parties in
    let es = row_to m.header.labels row a.u l.v in
    let more = row_to m.header.labels row a.u (l.v + 1) in
    let ks = kinds_in m.header.labels (mask_in row l.v) in
    let o =
    e.1
    ∙ party_put end a.out.now l.out base number a.u l.v l.next es more ks
    (omega arith) (omega arith) l.invariant.count (row_more m.header.labels row a.u l.v) l.invariant.bytes in
    let r = row_room m.header m.masks.now a.u l.v (omega arith) in
    let s = put_kept a.out.now _ (base + 5 * (number - 1)) _ o (omega (arith, r, chain_length end number more)) in
    record {
      size = s;
      count = omega (arith, e.0, row_step m.header.labels row a.u l.v);
      bytes = o;
    }

pub returns : goal.returns
returns c =
    let l = c.loop-v in
    let m = c.args.self.now.matter in
    let e : l.v ≡ m.header.parties = omega arith in
    rw (e, row_all m.header m.masks.now c.args.u) at l.invariant.bytes
