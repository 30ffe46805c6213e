use Rattle.std.proofs.Common.{◌≡◌, ◌∙◌, ◌+◌, ◌*◌, arith}
use Rattle.fields.proofs.PutLaws.{put_kept}
use Rattle.canonical.specs.promises.Masks.{matter_by}
use Rattle.canonical.proofs.LayoutLaws.{first_most}
use Rattle.canonical.proofs.WriteLaws.{records_to, records_length, records_put}
use Rattle.canonical.proofs.numbered.Numbered.put_records.Goals as goal

pub loop-u-preserved : goal.loop-u-preserved
loop-u-preserved c =
    let l = c.loop-u in
    let m = c.args.self.now.matter in
    let M = matter_by m in
    let first = c.args.self.now.written.firsts l.u (omega arith) in
    let end = c.args.self.now.written.firsts (l.u + 1) (omega arith) in
    let base = 8 + 2 * m.header.parties in
    let p = records_put M c.args.out.now l.out base l.u _ _ (omega arith) first end l.invariant.bytes in
    let o = c.put_party.ensures ∙ p in
    let most = first_most M (l.u + 1) (omega arith) in
    record {
      size = put_kept c.args.out.now _ base _ o (omega (arith, records_length M (l.u + 1), most));
      bytes = o;
    }

pub returns : goal.returns
unfolding records_to
returns c =
    let l = c.loop-u in
    let e : l.u ≡ c.args.self.now.matter.header.parties = omega arith in
    rw e at l.invariant.bytes
