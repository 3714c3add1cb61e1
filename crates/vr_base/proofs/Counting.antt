-- Counts of faults at the end of a run.
use Rattle.std.proofs.Common.{◌≡◌, ℕ, refl}
use Rattle.vr_base.specs.Counts.{links_after}
use Rattle.vr_base.specs.declared.status.Status.{Status}
use Rattle.vr_base.specs.declared.status.Status.TheVariants.{Done, Usage, Refused, SessionLost, ReadFault, WriteFault, DiskFault, LinkFault, SuperLost, OtherMember, NoMemory, Occupied, NoAnswer, SpawnFault}

-- an end that is none of the link's leaves its count
pub links_kept : (s : Status) (before now : ℕ) → now ≡ before → (s ≡ LinkFault → ⊥) → now ≡ links_after s before
links_kept Done before now same other = same
links_kept Usage before now same other = same
links_kept (Refused k) before now same other = same
links_kept SessionLost before now same other = same
links_kept ReadFault before now same other = same
links_kept WriteFault before now same other = same
links_kept DiskFault before now same other = same
links_kept LinkFault before now same other = absurd (other refl)
links_kept SuperLost before now same other = same
links_kept (OtherMember x y) before now same other = same
links_kept NoMemory before now same other = same
links_kept Occupied before now same other = same
links_kept NoAnswer before now same other = same
links_kept SpawnFault before now same other = same
