-- The permit call step by step: pair, list, answer; over the masks that stand for the matter. Assumes nothing.
use Rattle.std.proofs.Common.{◌≡◌, refl, sym, ap, ◌∙◌, Bool, true, false, List, ℕ, ◌≤◌, arith, Result, Ok, Err}
use Rattle.std.proofs.Math.Option.{Option, some}
use Rattle.lists.specs.Lists.{all_of}
use Rattle.lists.proofs.ListLaws.{any_same}
use Rattle.rebac.specs.Matter.{Matter, pair}
use Rattle.rebac.specs.Paths.{Graph, has}
use Rattle.rebac.specs.Existence.{has_all, permits_pair}
use Rattle.rebac.specs.promises.Options.{is_some}
use Rattle.house_layout.specs.declared.reply.Refusal.{Refusal}
use Rattle.house_layout.specs.declared.reply.Refusal.TheVariants.{RuleList, PartyPair}
use Rattle.graph.specs.promises.Archive.{Shows}
use Rattle.graph.specs.declared.archive.Archive.{Archive}
use Rattle.paths.proofs.CallLaws.{shown_graph}
use Rattle.fields.specs.Numbers.{Bytes}
use Rattle.rule_bytes.specs.ListBytes.{decode_list}
use Rattle.rule_bytes.specs.promises.Reading.{IsList, SomeList}
use Rattle.rules.specs.Permit.{said_permit, yes_or_no, answer_by, permit_in}
use Rattle.rules.specs.promises.Meets.{meets_term, meets_list}
use Rattle.graph.specs.Legal.{is_pair}
use Rattle.house_layout.proofs.RefusalNumbers.{refusal_said}
use Rattle.house_layout.proofs.Exits.{left_with}
use Rattle.lists.proofs.Cases.{clash}
use Rattle.rule_bytes.proofs.RoundTrip.{encode_decode}
use Rattle.rule_bytes.proofs.PlaceLaws.{list_legal_fits}
use Rattle.rebac.proofs.OptionLaws.{some_of, none_of}

-- bytes that decode are those of a list that fits
pub list_is : (labels language longest : ℕ) → labels ≤ 8 → longest ≤ 31 → (b : List ℕ) → Bytes b → (l : List (List (List ℕ)))
    → decode_list labels language longest b ≡ some l → IsList b l
list_is labels language longest bounded short b h l e =
    let k = encode_decode labels language longest b h l e in
    record { bytes = sym k.bytes; fits = list_legal_fits labels language longest bounded short l k.legal }

-- the list that the bytes are for an archive
abbrev pub archive_list : Archive → List ℕ → Option (List (List (List ℕ)))
archive_list a list = decode_list a.words.labels a.words.language a.words.longest list

-- bytes that passed an archive's check decode to a list, and are that list's
pub record Checked (a : Archive) (list : List ℕ) : Type 0 where
  pub listed : List (List (List ℕ))
  pub decodes : archive_list a list ≡ some listed
  pub is : IsList list listed

pub checked : (M : Matter) (a : Archive) → Shows M a → (list : List ℕ) → Bytes list → is_some (archive_list a list) ≡ true → Checked a list
checked M a h list bytes e =
    let o = some_of (archive_list a list) e in
    let bounded : a.words.labels ≤ 8 = omega (arith, h.labels, h.limits.labels.1) in
    let short : a.words.longest ≤ 31 = omega (arith, h.longest, h.limits.longest.1) in
    record { listed = o.0; decodes = o.1; is = list_is a.words.labels a.words.language a.words.longest bounded short list bytes o.0 o.1 }

pub checked_list : (M : Matter) (a : Archive) → Shows M a → (list : List ℕ) → Bytes list → is_some (archive_list a list) ≡ true
    → SomeList list
checked_list M a h list bytes e = let k = checked M a h list bytes e in (k.listed, k.is)

module _ (M : Matter) (a : Archive) (h : Shows M a) where
  -- the masks and the matter give the same answers
  pub same_answer : (first second : ℕ) (l : List (List (List ℕ)))
      → meets_list a.graph.parties a.graph.table first second l ≡ permits_pair M l (pair first second)
  unfolding meets_list meets_term permits_pair has_all
  same_answer first second l =
      any_same (meets_term a.graph.parties a.graph.table first second) (has_all M (pair first second)) l
      (λ t m. ap (λ (g : Graph ℕ). all_of (has g (pair first second)) t) (shown_graph M a h))

  module _ (list : List ℕ) (first second : ℕ) where
    pub no_pair : is_pair a.graph.parties first second ≡ false → permit_in M list first second ≡ Err PartyPair
    unfolding permit_in
    no_pair e = rw (← h.parties, e)

    module _ (p : is_pair a.graph.parties first second ≡ true) where
      in_pair : permit_in M list first second ≡ answer_by M (pair first second) (archive_list a list)
      unfolding permit_in
      in_pair = rw (← h.parties, p, ← h.labels, ← h.language, ← h.longest)

      pub no_list : is_some (archive_list a list) ≡ false → permit_in M list first second ≡ Err RuleList
      no_list e = in_pair ∙ rw (none_of (archive_list a list) e)

      module _ (bytes : Bytes list) (e : is_some (archive_list a list) ≡ true) where
        pub the_answer :
            (r : Bool) → ((l : List (List (List ℕ))) → IsList list l → r ≡ meets_list a.graph.parties a.graph.table first second l)
            → permit_in M list first second ≡ yes_or_no r
        the_answer r k =
            let o = checked M a h list bytes e in
            in_pair ∙ rw o.decodes (ap yes_or_no (sym (k o.listed o.is ∙ same_answer first second o.listed)))

-- by these the goals of refusals in `permit_in` are found
pub ruleset refusal_laws = (left_with, no_pair, no_list)

-- equal numbers and values mean equal replies
pub permit_said : (r s : Result Bool Refusal) → said_permit r ≡ said_permit s → r ≡ s
permit_said (Err x) (Err y) e = ap Err (refusal_said e)
permit_said (Err x) (Ok true) e = clash (cc e)
permit_said (Err x) (Ok false) e = clash (cc e)
permit_said (Ok true) (Err y) e = clash (cc e)
permit_said (Ok true) (Ok true) e = refl
permit_said (Ok true) (Ok false) e = clash (cc e)
permit_said (Ok false) (Err y) e = clash (cc e)
permit_said (Ok false) (Ok true) e = clash (cc e)
permit_said (Ok false) (Ok false) e = refl
