-- One chain more at each party; after the last one the reply depends on whether every record was reached.
use Rattle.std.proofs.Common.{◌≡◌, sym, ap, ◌∙◌, Bool, not, List, Ok, ℕ, ◌≤◌}
use Rattle.house_layout.proofs.Exits.{left_with}
use Rattle.std.proofs.Math.ListN.{length-replicate}
use Rattle.masks.specs.declared.Table.{Table}
use Rattle.house_layout.specs.Layout.{header_of, parties_of}
use Rattle.house_layout.specs.Reply.{refuse}
use Rattle.house_layout.specs.declared.header.Header.{Header}
use Rattle.house_layout.specs.declared.reply.Refusal.TheVariants.{Unreached}
use Rattle.house_file.specs.Check.{chains_check, every_reached}
use Rattle.house_file.proofs.DecodeLaws.{Upto, upto_start, upto_refused, upto_next, upto_end}
use Rattle.house_file.proofs.DecodeLaws.{upto_kinds}
use Rattle.house_file.proofs.chain.Frame.read_chains.Goals as goal

-- the file's number of parties
parties : (f : List ℕ) {h : Header} → h ≡ header_of f → h.parties ≡ parties_of f
parties f e = ap (λ (x : Header). x.parties) e

-- after the last chain the reply depends on whether every record was reached
ended : (f : List ℕ) (h : Header) (u : ℕ) {marks : List ℕ} {kinds : Table} {all : Bool} → h ≡ header_of f → h.parties ≤ u
    → (i : Upto f u marks kinds) → all ≡ every_reached h.records i.before → chains_check f ≡ refuse (not all) Unreached (Ok tt)
ended f h u n o i a =
    upto_end _ _ _ _ i (rw (parties _ n) at o)
    ∙ ap (λ (b : Bool). refuse (not b) Unreached (Ok tt)) (sym (rw (ap (λ (x : Header). x.records) n) at a))

pub loop-u-init : goal.loop-u-init
loop-u-init c = record {
  places = length-replicate {A = ℕ} 8928 0;
  upto = upto_start _ 8928 _ c.empty-kinds.ensures;
}

pub returns-in_err-row : goal.returns-in_err-row
returns-in_err-row c =
    let n = c.args.self.now.framed.numbers in
    let i = c.loop-u.invariant.upto in
    rw (left_with c.from_residual.result c.from_residual.ensures.1)
    (upto_refused _ _ _ _ i (rw (parties _ n) at c.loop-u-test.true) _ (c.in_err-row.ensures.read i.before i.marked))

pub loop-u-preserved : goal.loop-u-preserved
loop-u-preserved c =
    let n = c.args.self.now.framed.numbers in
    let i = c.loop-u.invariant.upto in
    let k = c.in_ok-row.ensures.read i.before i.marked in
    let row = c.put_row-kinds.ensures in
    let l = rw (parties _ n) at c.loop-u-test.true in
    record {
      places = c.in_ok-row.ensures.places;
      upto = upto_next _ _ _ _ i l k.chain _ c.in_ok-row.row _ k.followed k.marked k.kinds row.same row.other;
    }

pub returns-then-not-all_reached : goal.returns-then-not-all_reached
returns-then-not-all_reached c =
    let n = c.args.self.now.framed.numbers in
    let i = c.loop-u.invariant.upto in
    ended _ _ _ n c.loop-u-test.false i (c.all_reached.ensures i.before i.marked) ∙ rw c.if-not-all_reached.true

pub returns : goal.returns
returns c =
    let n = c.args.self.now.framed.numbers in
    let i = c.loop-u.invariant.upto in (
      ended _ _ _ n c.loop-u-test.false i (c.all_reached.ensures i.before i.marked) ∙ rw c.if-not-all_reached.false,
      upto_kinds _ _ _ _ i (rw (parties _ n) at c.loop-u-test.false),
    )
