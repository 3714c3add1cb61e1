-- What a call that may end in several ways does to the count of failed calls.
use Rattle.std.specs.Prelude.{ℕ, ◌≤◌, ◌≡◌, ◌≢◌, Result, Err, IfErr, OnOk}
use Rattle.vr_base.specs.Causes.{one_more}
use Rattle.vr_disk.specs.declared.fault.Halt.{Halt}
use Rattle.vr_disk.specs.declared.fault.Halt.TheVariants.{DiskFault, NoMemory}

-- this fault adds exactly one to the count; an Ok and every other fault leave it
pub record CountsFault {T E : Type 0} (fault : E) (before now : ℕ) (result : Result T E) : Type 0 where
  pub later : before ≤ now
  pub kept : OnOk result (now ≡ before)
  pub failed : IfErr result (λ e. e ≡ fault → now ≡ one_more before)
  pub spared : IfErr result (λ e. e ≢ fault → now ≡ before)

-- a disk fault adds exactly one to the disk's count of failed writes and syncs; an Ok and want of memory leave it
pub record Caused {T : Type 0} (before now : ℕ) (result : Result T Halt) : Type 0 where
  pub later : before ≤ now
  pub kept : OnOk result (now ≡ before)
  pub failed : result ≡ Err DiskFault → now ≡ one_more before
  pub wanted : result ≡ Err NoMemory → now ≡ before
