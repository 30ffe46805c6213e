-- The file's refusals come first; an accepted file's archive stands for its matter, and its verdict and list are the matter's.
use Rattle.std.proofs.Common.{◌≡◌, ◌∙◌, arith, Ok}
use Rattle.conversion.specs.Calls.{verdict_call}
use Rattle.conversion.specs.declared.verdict.Verdict.TheVariants.{Convertible}
use Rattle.conversion.proofs.AnswerLaws.{verdict_shown, bytes_shown, list_taken}
use Rattle.conversion.proofs.verdict.convert.Goals as goal

-- the reply is the call's
pub returns-in-Ok : goal.returns-in-Ok
unfolding verdict_call
returns-in-Ok c =
    let loaded = c.in_ok-a.ensures in
    let J = c.in-Ok.ensures in
    let judged : Ok (Convertible c.in-Ok.j.size) ≡ verdict_call c.args.file.now = rw loaded.0 (J.0 ∙ verdict_shown _ loaded.1) in (
      judged,
      λ k v h.
          let z : Ok (Convertible c.in-Ok.j.size) ≡ Ok (Convertible k) = judged ∙ v in
          let same : c.in-Ok.j.size ≡ k = cc z in
          rw same at (list_taken _ J.0 (J.1 (omega (arith, same)))) ∙ bytes_shown _ loaded.1,
    )
