-- Visits of running replicas find what doesn't read, in every run of a group.
use Rattle.std.specs.Prelude.{ℕ, ◌^◌, ◌<◌, ◌≤◌, ◌≡◌, List, All, slice_get, Some}
use Rattle.vr_base.specs.declared.kind.Kind.{Kind}
use Rattle.vr_rules.specs.Opening.{AreKinds}
use Rattle.vr_disk.specs.DiskState.{IsFace}
use Rattle.vr_msg.specs.declared.event.Event.{Event}
use Rattle.vr_world.specs.Group.{Group, Member, Played, Run, fresh_group}
use Rattle.vr_world.specs.GroupFit.{IsFitMove}
use Rattle.vr_rules.specs.Laws.{IsEvent}
use Rattle.vr_world.specs.Lying.{Lying, lying}
use Rattle.vr_rules.specs.Replica.{Replica, version}
use Rattle.vr_rules.specs.Words.{places}
use Rattle.law_4_disks.specs.Worlds.{IsOfBytes}
use Rattle.law_repair.specs.Cover.{KnowsFaults, visits_made}
use Rattle.law_repair.specs.Latest.{latest}
use Rattle.law_repair.specs.Visits.{after_events}

-- Each running replica, from any sectors of bytes that may lie, of a file that takes what it writes: after events, one after the other with no
-- fault between, in which its checkpoint stayed and at least as many visits were made as there are places, it knows what doesn't read.
abbrev pub AllCover : Group → Type 0
AllCover g =
    (at : ℕ) (m : Member) (r : Replica) (es : List Event) (d : Lying) → slice_get g.members at ≡ Some m → m.replica ≡ Some r → IsFace d.face → version r ≤ latest d.version → All IsEvent es
    → let end = after_events lying es r d in
    end.replica.checkpoint ≡ r.checkpoint → places end.replica ≤ visits_made lying es r d → KnowsFaults lying (λ x. x.face) end.replica end.disk

-- before and after each move of a run of a fresh group, on disks of bytes
abbrev pub GroupsCover : Type 0
GroupsCover =
    (kinds : ℕ → Kind) (cluster n : ℕ) (run : List Played) → AreKinds kinds n → cluster < 2 ^ 64 → 1 ≤ n → n ≤ 6 → All (λ p. IsFitMove p.move) run → All (λ p. IsOfBytes p.move) run
    → Run (fresh_group kinds cluster n) run → All (λ p. AllCover p.before × AllCover p.moved.group) run
