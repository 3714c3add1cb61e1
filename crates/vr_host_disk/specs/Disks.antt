-- The disk of a member, which lies.
use Rattle.std.specs.Prelude.{ℕ, ◌≡◌, Bool, false, List, [], Option, Some, None, IfSome, Result, if◌then◌else◌, is_ok}
use Rattle.vr_base.specs.Causes.{HasCause}
use Rattle.vr_disk.specs.DiskState.{Disk, Fate, IsFace, reads}
use Rattle.vr_lie.specs.Told as lie
use Rattle.vr_lie.specs.Told.{version_by}
use Rattle.vr_lie.specs.declared.fault.Fault.{Fault}
use Rattle.vr_lie.specs.declared.fault.Faulted.{Faulted}
use Rattle.vr_lie.specs.declared.fault.Faulted.TheVariants.{Done, KeptOut}
use Rattle.vr_world.specs.Lying.{Lying, blank_lying, in_edition, unless_kept_out}
use Rattle.vr_host_disk.specs.Told.{IsTold, lying_in, slots}
use Rattle.vr_host_disk.specs.declared.disk.HostDisk.{HostDisk}

abbrev pub told_by : HostDisk → Disk
told_by m = record (lie.told_by m.lie) { beside = slots (version_by m.lie) (lie.held_by m.lie) (lie.told_by m.lie).beside.name }

pub told_is_whole : (m : HostDisk) → IfSome (Some (told_by m)) (λ d. IsFace d.face)
told_is_whole m = lie.told_is_whole m.lie

-- as the definitions have it, of the version of the file on it
abbrev pub lying_of : HostDisk → Lying
lying_of m = lying_in (version_by m.lie) (told_by m)

-- no call is to fail, and none was cut
abbrev pub calm : Fate
calm = record { fuse = None; made = 0; failing = []; dead = false }

-- ---- what its functions promise

-- it is one of zeros for a file of this version, and no call of it is to fail
pub record IsNew (v : ℕ) (m : HostDisk) : Type 0 where
  pub lying : lying_of m ≡ blank_lying v
  pub fate : (told_by m).fate ≡ calm
  pub told : IsTold v (told_by m)
  pub faults : m.lie.disk.faults ≡ 0
  pub read_faults : m.lie.read_faults ≡ 0

-- it tells this now; its version stays, and no call failed
pub record Tells (d : Disk) (m m' : HostDisk) : Type 0 where
  pub told : told_by m' ≡ d
  pub version : version_by m'.lie ≡ version_by m.lie
  pub faults : m'.lie.disk.faults ≡ m.lie.disk.faults
  pub read_faults : m'.lie.read_faults ≡ m.lie.read_faults

-- the file on it is one of this version now
pub record TakesVersion (v : ℕ) (m m' : HostDisk) : Type 0 where
  pub lying : lying_of m' ≡ in_edition v (lying_of m)
  pub version : version_by m'.lie ≡ v
  pub told : (before : ℕ) → IsTold before (told_by m) → IsTold v (told_by m')
  pub fate : (told_by m').fate ≡ (told_by m).fate
  pub faults : m'.lie.disk.faults ≡ m.lie.disk.faults
  pub read_faults : m'.lie.read_faults ≡ m.lie.read_faults

-- the fault is done where the definitions do it, and kept out where they keep it out
pub record TriesFault (x : Fault) (m m' : HostDisk) (result : Faulted) : Type 0 where
  pub done : result ≡ Done → unless_kept_out (lying_of m) x ≡ Some (lying_of m')
  pub kept_out : result ≡ KeptOut → unless_kept_out (lying_of m) x ≡ None
  pub kept : result ≡ KeptOut → lying_of m' ≡ lying_of m
  pub fate : (told_by m').fate ≡ (told_by m).fate
  pub told : (v : ℕ) → IsTold v (told_by m) → IsTold v (told_by m')
  pub version : version_by m'.lie ≡ version_by m.lie
  pub faults : m'.lie.disk.faults ≡ m.lie.disk.faults
  pub read_faults : m'.lie.read_faults ≡ m.lie.read_faults

-- a read of a sector gives these bytes after an Ok, and changes nothing that is told
pub record Reads {T E : Type 0} (i : ℕ) (given : List ℕ) (m m' : HostDisk) (result : Result T E) : Type 0 where
  pub told : told_by m' ≡ told_by m
  pub bytes : reads (told_by m).face i ≡ (if is_ok result then Some given else None)
  pub cause : HasCause m.lie.read_faults m'.lie.read_faults result
  pub others : m'.lie.disk.faults ≡ m.lie.disk.faults
  pub version : version_by m'.lie ≡ version_by m.lie

-- a call of attach, write or sync leaves this of what is told; its fault alone is counted, and its version stays
pub record Calls {T E : Type 0} (leaves : Option Disk → Option Disk → Bool → Type 0) (m m' : HostDisk) (result : Result T E) : Type 0 where
  pub told : leaves (Some (told_by m)) (Some (told_by m')) (is_ok result)
  pub cause : HasCause m.lie.disk.faults m'.lie.disk.faults result
  pub others : m'.lie.read_faults ≡ m.lie.read_faults
  pub version : version_by m'.lie ≡ version_by m.lie
