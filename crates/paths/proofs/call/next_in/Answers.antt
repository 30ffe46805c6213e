-- Each refusal has its law; the searches give the next word, whose symbols are the bytes that are copied.
use Rattle.std.proofs.Common.{◌≡◌, refl, sym, ap, ◌∙◌, None, Some, Ok, ℕ, length, arith}
use Rattle.search.specs.Word.{symbols_in}
use Rattle.search.proofs.SearchLaws.{symbols_length, short_fits}
use Rattle.graph.proofs.ShownLaws.{shown_by}
use Rattle.paths.specs.Calls.{found}
use Rattle.paths.proofs.CallLaws.{pair_is, given_next, given_within, next_answer}
use Rattle.paths.proofs.call.next_in.Goals as goal

pub next_word-requires : goal.next_word-requires
next_word-requires c =
    let a = c.args in
    let s = shown_by a.a.now in
    let g = c.in_ok-word.ensures s.0 s.1 in
    record { within = given_within s.0 a.a.now s.1 a.w c.in_ok-word.word g; longest = omega (arith, s.1.longest, s.1.limits.longest.1) }

pub returns-in_default : goal.returns-in_default
returns-in_default c =
    λ M S.
    let a = c.args in
    let given = c.in_ok-pair.ensures in
    let p = pair_is M a.a.now S _ _ given.0 in
    let g = c.in_ok-word.ensures M S in
    let no = given_next M a.a.now S a.w c.in_ok-word.word g _ _ c.in_ok-pair.pair given None c.in_default.ensures in
    rw (next_answer M _ _ a.w (length a.out.now) p g.0 c.if-out-lt-WORD_CAPACITY.false ∙ ap found no) (refl, refl)

pub returns : goal.returns
returns c =
    λ M S.
    let a = c.args in
    let r = c.in-Some.next in
    let given = c.in_ok-pair.ensures in
    let p = pair_is M a.a.now S _ _ given.0 in
    let g = c.in_ok-word.ensures M S in
    let n = given_next M a.a.now S a.w c.in_ok-word.word g _ _ c.in_ok-pair.pair given (Some r) c.in-Some.ensures in
    let size : length (symbols_in r.word) ≡ r.word.len = symbols_length r.word (short_fits r.short) in
    let o : c.copy_from_slice.new.self ≡ symbols_in r.word = c.copy_from_slice.ensures.after in
    rw (next_answer M _ _ a.w (length a.out.now) p g.0 c.if-out-lt-WORD_CAPACITY.false ∙ ap found n)
    (ap (λ (n : ℕ). Ok (Some n)) (sym size), rw (o, size) refl)
