-- The house that was read of an accepted file stands for the file's matter, so its enlarged graph does too.
use Rattle.std.proofs.Common.{refl, ap}
use Rattle.house_layout.specs.declared.header.Header.{Header}
use Rattle.graph.specs.FileMatter.{matter_of}
use Rattle.graph.proofs.LoadLaws.{accepted_shown, accepted_limits}
use Rattle.graph.proofs.ShownLaws.{shown_own}
use Rattle.graph.proofs.file.load.Goals as goal

pub invariant_of-words : goal.invariant_of-words
unfolding matter_of
invariant_of-words c =
    let w = c.in_ok-house.ensures in
    record { known = rw (ap (λ (x : Header). x.language) w.1.header) (accepted_limits _ w.0).language }

pub enlarge-requires : goal.enlarge-requires
unfolding matter_of
enlarge-requires c =
    let w = c.in_ok-house.ensures in
    let m = accepted_limits _ w.0 in
    record {
      parties = rw (ap (λ (x : Header). x.parties) w.1.header) m.parties.1;
      labels = rw (ap (λ (x : Header). x.labels) w.1.header) m.labels.1;
    }

pub invariant_of-graph : goal.invariant_of-graph
unfolding matter_of
invariant_of-graph c =
    let w = c.in_ok-house.ensures in
    record { within = rw (ap (λ (x : Header). x.parties) w.1.header) (accepted_limits _ w.0).parties.1 }

pub invariant_of-result : goal.invariant_of-result
invariant_of-result c =
    let w = c.in_ok-house.ensures in
    record { shown = shown_own (accepted_shown _ w.0 _ w.1 _ _ refl refl refl refl c.enlarge.ensures) }

pub returns : goal.returns
returns c =
    let w = c.in_ok-house.ensures in
    (w.0, accepted_shown _ w.0 _ w.1 _ _ refl refl refl refl c.enlarge.ensures)
