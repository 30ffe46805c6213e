-- The text of the bytes that were read is that of the input: they are its first bytes, as many as are looked at.
use Rattle.std.proofs.Common.{◌≡◌, ℕ, ◌≤◌, List, length, take, ap, ◌∙◌, subst, OnOk, IfOk, IfSome, arith, Option, Result, Some, None, Ok}
use Rattle.std.proofs.Common.{Err}
use Rattle.std.proofs.lemmas.Grind.{common_steps}
use Rattle.std.specs.Io.{ReadsAtMost}
use Rattle.std.specs.Io.KnownBytes.{Appends, Consumes}
use Rattle.reading.specs.promises.Filling.{EndsIfShort}
use Rattle.report.specs.Report.{file_text, report_text}
use Rattle.report.proofs.ReportLaws.{read_text}

-- bytes that stand before the rest of the input, where fewer than there is room for have no rest
pub start : (n : ℕ) (l xs : List ℕ) (left : Option (List ℕ)) → n ≤ length l → Consumes (Some xs) left (take n l) → EndsIfShort left l n
    → take n l ≡ take (length l) xs
start n l xs None inside e ends = absurd e
start n l xs (Some ys) inside e ends = grind (arith, common_steps)

start_text : (n : ℕ) (l xs : List ℕ) → length l ≡ 44713 → take n l ≡ take (length l) xs → file_text (take n l) ≡ report_text xs
start_text n l xs long e = ap file_text (e ∙ ap (λ (k : ℕ). take k xs) long) ∙ read_text xs

pub reported : {T E F : Type 0} (r : Result T E) (s : Result ℕ F) (input left old new : Option (List ℕ)) (n : ℕ) (l : List ℕ)
    → length l ≡ 44713 → s ≡ Ok n → ReadsAtMost s l → IfOk s (λ n. Consumes input left (take n l)) → IfOk s (EndsIfShort left l)
    → OnOk r (Appends old new (file_text (take n l))) → OnOk r (IfSome input (λ xs. Appends old new (report_text xs)))
reported (Err x) s input left old new n l long is bound bytes ends a = tt
reported (Ok x) s None left old new n l long is bound bytes ends a = tt
reported (Ok x) s (Some xs) left old new n l long is bound bytes ends a =
    let part = start n l xs left (rw is at bound).0 (rw is at bytes) (rw is at ends) in
    subst (Appends old new) (start_text n l xs long part) a
