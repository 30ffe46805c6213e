-- What an accepted file's decoded form holds stands for its matter: its kinds are those recorded. And how the writer's
-- call opens, as `CallLaws` of graph says it of a call that loads. Assumes nothing.
use Rattle.std.proofs.Common.{◌≡◌, sym, ap, ◌∙◌, List, ℕ}
use Rattle.std.specs.Prelude.{⊤, Result, Ok, Err}
use Rattle.house_layout.specs.declared.header.Header.{Header}
use Rattle.house_layout.specs.declared.reply.Refusal.{Refusal}
use Rattle.house_file.specs.Check.{check_of}
use Rattle.house_file.specs.promises.Decoded.{Decoded, ReadAs}
use Rattle.house_file.specs.declared.decode.House.{House}
use Rattle.graph.specs.FileMatter.{matter_of}
use Rattle.graph.proofs.CallLaws.{reply_check, checked_as}
use Rattle.canonical.specs.promises.Masks.{Stands}
use Rattle.canonical.proofs.FileLaws.{matter_says, accepted_matter}

module _ (f : List ℕ) (e : check_of f ≡ Ok tt) where
  pub decoded_stands : (x : House) → Decoded f x → Stands (matter_of f) x.header x.kinds
  unfolding matter_of
  decoded_stands x d = record {
    limits = accepted_matter f e;
    parties = ap (λ (h : Header). h.parties) d.header;
    labels = ap (λ (h : Header). h.labels) d.header;
    language = ap (λ (h : Header). h.language) d.header;
    longest = ap (λ (h : Header). h.longest) d.header;
    kinds = λ u v b h. d.kinds u v b h ∙ sym (matter_says f e u v b h);
  }

module _ (f : List ℕ) (r : Result House Refusal) (l : ReadAs f r) where
  -- either reply: what the check is
  pub read_check : {c : Result ⊤ Refusal} → reply_check r ≡ c → check_of f ≡ c
  read_check e = checked_as (ReadAs f) f (λ h q. q.0) (λ x q. q) r l ∙ e

  pub read_stands : {h : House} → r ≡ Ok h → Stands (matter_of f) h.header h.kinds
  read_stands {h} e = let read : ReadAs f (Ok h) = rw e at l in decoded_stands f read.0 h read.1
