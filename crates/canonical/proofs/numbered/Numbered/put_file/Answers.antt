-- Each part begins where the one before it ends, and none changes the output's length.
use Rattle.std.proofs.Common.{◌≡◌, sym, arith}
use Rattle.canonical.specs.Canonical.{header_for, written_edition}
use Rattle.canonical.specs.promises.Masks.{matter_by}
use Rattle.canonical.proofs.EntryLaws.{count_bounded}
use Rattle.canonical.proofs.WriteLaws.{records_to, file_put}
use Rattle.canonical.proofs.numbered.Numbered.put_file.Goals as goal

pub put_header-requires : goal.put_header-requires
put_header-requires c =
    let m = c.args.self.now.matter in
    let p = c.args.self.now.written in
    let n = count_bounded (matter_by m) m.parties m.labels in
    record {
      edition = omega (arith, p.edition);
      parties = omega (arith, m.parties);
      labels = omega (arith, m.labels);
      language = p.language;
      longest = p.longest;
      records = omega arith;
      room = omega arith;
    }

pub returns : goal.returns
unfolding records_to
returns c =
    let q = c.args.self.now in
    let p = q.written in
    let h = q.matter.header in
    let M = matter_by q.matter in
    let e = p.edition in
    let n = p.records in
    let k : header_for written_edition M ≡ h =
    λ j. record {
      edition = sym e j;
      parties = h.parties;
      labels = h.labels;
      language = h.language;
      longest = h.longest;
      records = sym n j;
    } in
    file_put M h q.firsts.now p.firsts k c.args.out.now _ _ _ (omega arith) c.put_header.ensures c.put_heads.ensures c.put_records.ensures
