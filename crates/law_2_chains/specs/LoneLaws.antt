-- The laws of a group of one; those of vouching and of requests hold of a group of any size.
use Rattle.std.specs.Prelude.{ℕ, ◌≡◌, ◌<◌, ◌≤◌, true, is_some}
use Rattle.vr_header.specs.declared.header.Header.{Header}
use Rattle.vr_msg.specs.declared.event.Event.{Event}
use Rattle.vr_msg.specs.declared.event.Event.TheVariants as event
use Rattle.vr_msg.specs.declared.frame.Frame.TheVariants as frame
use Rattle.vr_msg.specs.declared.request.RequestFields.{RequestFields}
use Rattle.vr_rules.specs.Replica.{Replica, head, header_at, last_view, replication}
use Rattle.vr_rules.specs.Steps.{Setting}
use Rattle.vr_rules.specs.Rules.{on_request, react}
use Rattle.vr_rules.specs.Laws.{HasNames, IsMessage}
use Rattle.law_1_machine.specs.Group.{Group}
use Rattle.law_2_chains.specs.Local.{Local}
use Rattle.law_2_chains.specs.Chains.{Setup, Mid, Every, AsksNothing}
use Rattle.law_2_chains.specs.ChainLaws.{MayArrive}
use Rattle.law_2_chains.specs.Tables.{Fits, HasTables, Tables}
use Rattle.law_2_chains.specs.Lone.{LoneChooses, Vouched}

-- In the middle of a step that has said nothing that asks something, a replica may vouch for what it has stored; and the step can go on
-- from there.
abbrev pub LoneReplicasVouch : Type 0
LoneReplicasVouch =
    (u : Setup) (start s : Group Header) (i : ℕ) (r : Replica) (l : Local) → Mid u start i r l s → Every AsksNothing l.said
    → (b : Group Header) × Mid u b i r l b × Vouched i r s b

-- A request that arrives at a group of any size whose quorum a column gives, also where that is one: its handling is a chain in two parts,
-- in which the entry that it made counts by itself.
abbrev pub RequestsAreLoneChains : Type 0 → Type 0
RequestsAreLoneChains F =
    (u : Setup) (start : Group Header) (i : ℕ) (t : Setting F) (r : Replica) (f : F) (l : Local) (q : RequestFields) → replication u.quorums.n ≡ u.quorums.replication → Mid u start i r l start → Tables u start i r
    → t.hash ≡ u.hash → r.cluster ≡ u.cluster → HasNames t → r.view ≤ last_view → (0 < head r → is_some (header_at r (head r)) ≡ true) → Every AsksNothing l.said → IsMessage (frame.Request q)
    → LoneChooses u start i l (event.Request q) r (on_request q t r f)

-- Each step of a replica that is a group by itself is such a chain.
abbrev pub LoneStepsAreChains : Type 0 → Type 0
LoneStepsAreChains F =
    (u : Setup) (start : Group Header) (i : ℕ) (t : Setting F) (r : Replica) (f : F) (l : Local) (e : Event) → Fits u → u.quorums.n ≡ 1 → Mid u start i r l start → HasTables u start i r
    → t.hash ≡ u.hash → r.cluster ≡ u.cluster → HasNames t → (0 < head r → is_some (header_at r (head r)) ≡ true) → Every AsksNothing l.said → MayArrive u start e
    → LoneChooses u start i l e r (react e t r f)
