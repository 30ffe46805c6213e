use Rattle.std.proofs.Common.{refl, ◌∙◌, suc, ◌+◌, ◌≤◌, arith, length-set}
use Rattle.canonical.specs.promises.Masks.{matter_by}
use Rattle.canonical.proofs.EntryLaws.{count_bounded}
use Rattle.canonical.proofs.LayoutLaws.{first_step, first_most}
use Rattle.canonical.proofs.CountLaws.{numbered_zero, numbered_step}
use Rattle.canonical.proofs.count.first_numbers.Goals as goal

-- the next party's number is at most that past the last record
bounded : (c : goal.After-count_party-number) → c.loop-u.number + c.count_party-number.result ≤ 17409
bounded c =
    let l = c.loop-u in
    let M = matter_by c.args.m.now in
    let most = first_most M (suc l.u) (omega arith) in
    let n = count_bounded M c.args.m.now.parties c.args.m.now.labels in
    omega (arith, l.invariant.numbered.last, c.count_party-number.ensures, first_step M l.u, most, n)

pub loop-u-init : goal.loop-u-init
loop-u-init c = record { places = refl; numbered = numbered_zero _ _ }

pub overflow_add-number : goal.overflow_add-number
overflow_add-number c = omega (arith, bounded c)

pub loop-u-preserved : goal.loop-u-preserved
loop-u-preserved c =
    let l = c.loop-u in
    let n = c.count_party-number in
    record {
      places = length-set l.numbers _ _ ∙ l.invariant.places;
      numbered = numbered_step _ l.numbers l.number l.u n.result (omega arith) n.ensures l.invariant.numbered;
    }
