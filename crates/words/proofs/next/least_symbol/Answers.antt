-- The symbols from the floor on are tried one after another (NextLaws).
use Rattle.std.proofs.Common.{◌≡◌, ℕ, ◌+◌, get_or, ap, ◌∙◌, subst, rules, tests}
use Rattle.std.specs.Iterator.Runs.{ItemsCountUp}
use Rattle.std.specs.Range.{range_inclusive_start, range_inclusive_end, range_inclusive_exhausted}
use Rattle.std.proofs.iter.runs.Sources.{inclusive_listed}
use Rattle.lists.proofs.Ranges.{first_given}
use Rattle.words.specs.promises.Next.{SymbolTried}
use Rattle.words.proofs.NextLaws.{least_first}
use Rattle.words.proofs.next.least_symbol.Goals as goal

pub returns : goal.returns
returns c =
    let q = c.args.q.now in
    let w = c.args.w in
    let r = c.find_map.ensures.runs in
    let floor : ℕ = get_or w.word.symbols c.args.at 0 in
    let up = inclusive_listed r.0 r.0.seen in
    let start : up.0 ≡ floor = up.2 ∙ ap range_inclusive_start r.1 ∙ c.new.ensures.start in
    let end : up.1 ≡ 32 = up.3 ∙ ap (λ x. range_inclusive_end x + 1) r.1 ∙ ap (λ x. x + 1) c.new.ensures.end in
    let items = (up.4 (ap range_inclusive_exhausted r.1 ∙ c.new.ensures.exhausted)).0 in
    rw c.unwrap_or.ensures
    (least_first q w c.requires c.find_map.result
    (first_given r.0 _ _ (SymbolTried q w.word c.args.at) (λ x o h e. search (rules, tests)) floor 32
    (subst (λ a. ItemsCountUp r.0 a 32) start (subst (λ b. ItemsCountUp r.0 up.0 b) end items)) c.find_map.result r.2))
