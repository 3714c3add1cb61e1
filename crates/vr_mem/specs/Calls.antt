-- What becomes of the calls of a disk in memory, and the name by which it was attached.
use Rattle.std.specs.Prelude.{if◌then◌else◌, ℕ, List, Option, Some, None}
use Rattle.vr_disk.specs.DiskState.{Fate, Fuse, CallVerdict, Goes, Fails, Cuts}
use Rattle.vr_mem.specs.declared.fate.MemFuse.{MemFuse}
use Rattle.vr_mem.specs.declared.fate.MemFate.{MemFate}
use Rattle.vr_mem.specs.declared.fate.MemVerdict.{MemVerdict}
use Rattle.vr_mem.specs.declared.fate.MemVerdict.TheVariants as v
use Rattle.vr_mem.specs.declared.name.DiskName.{DiskName}

abbrev pub fuse_of : Option MemFuse → Option Fuse
fuse_of None = None
fuse_of (Some u) = Some (record { calls = u.calls; code = u.code })

abbrev pub fate_of : MemFate → Fate
fate_of t = record { fuse = fuse_of t.fuse; made = t.made; failing = t.failing.items; dead = t.dead }

abbrev pub call_verdict : MemVerdict → CallVerdict
call_verdict v.Goes = Goes
call_verdict v.Fails = Fails
call_verdict (v.Cuts code) = Cuts code

-- the name by which it was attached last
abbrev pub name_given : DiskName → Option (List ℕ)
name_given n = if n.is_given then Some n.bytes.items else None
