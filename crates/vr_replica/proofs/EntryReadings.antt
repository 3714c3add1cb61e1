-- What reading an entry gives.
use Rattle.std.proofs.Common.{ℕ, ◌≡◌, Option}
use Rattle.std.specs.Prelude.{IfSome}
use Rattle.vr_disk.specs.DiskState.{Disk}
use Rattle.vr_header.specs.declared.header.Header.{Header}
use Rattle.vr_header.specs.declared.part.Part.TheVariants.{Here}
use Rattle.vr_header.specs.Made.{Whole}
use Rattle.vr_rules.specs.Words.{entry_of}
use Rattle.vr_rules.specs.Does.{Finds}
use Rattle.vr_replica.specs.Entries.{entry_by}

pub found : (v : ℕ) (h : Header) (d d' : Option Disk) (e : Option Whole) → Finds v (entry_of h) d d' e → IfSome d (λ x. e ≡ entry_by v (Here h) x.face)
found v h d d' e f = f.value
