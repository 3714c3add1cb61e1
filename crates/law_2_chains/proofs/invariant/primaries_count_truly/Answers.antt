use Rattle.std.proofs.Common.{ℕ}
use Rattle.vr_header.specs.declared.header.Header.{Header}
use Rattle.law_1_machine.specs.Group.{Group}
use Rattle.law_1_machine.specs.History.{History}
use Rattle.law_1_machine.specs.Invariant.{Invariant}
use Rattle.law_1_machine.proofs.Moves.{vouched_of}
use Rattle.law_2_chains.specs.Chains.{Setup}
use Rattle.law_2_chains.specs.Reflecting.{entries_by}
use Rattle.law_2_chains.specs.Tables.{HasVouchedAt}
use Rattle.law_2_chains.specs.Counted.{HasVouched}
use Rattle.law_2_chains.proofs.invariant.primaries_count_truly.Goals as goal

of_log : (u : Setup) (g : History Header) (s : Group Header) → Invariant u.quorums (entries_by u.hash u.cluster) g s
    → (view k j : ℕ) → HasVouchedAt u s view k j → HasVouched u g s view k j
of_log u g s y view k j v = (v.0, v.1, (vouched_of u.quorums (entries_by u.hash u.cluster) g s y j view k v.0 v.1).1)

pub returns : goal.returns
returns _ = λ u x s g bridge y i m r at runs warm leads.
    let t = ((bridge.members i m at).running r runs).tables warm in
    record {
      others = λ k j above counted. of_log u g s y r.view k j (t.acks leads k j above counted).2;
      own = λ k h above here. of_log u g s y r.view k i (t.own leads k h above here);
    }
