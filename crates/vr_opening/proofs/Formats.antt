-- The calls that format a disk, and stops among them.
use Rattle.vr_base.specs.declared.kind.Kind.{Kind}
use Rattle.std.proofs.Common.{ℕ, ◌≡◌, sym, subst, append_assoc, Bool, true, false, List, [], ◌∷◌, ◌++◌, Option}
use Rattle.vr_disk.specs.DiskState.{Call, Sync, Disk, Runs}
use Rattle.vr_disk.proofs.Running.{Runs_then, Runs_stopped}
use Rattle.vr_super.specs.Calls.{save_from}
use Rattle.vr_super.specs.Copies.{SuperValue, copy_bytes}
use Rattle.vr_rules.specs.Formatting.{format_calls, reserved_headers, zero_prepares}
use Rattle.vr_rules.specs.Opening.{first_value}

module _ (kind : Kind) (cluster n index : ℕ) where
  abbrev copies : List Call
  copies = save_from 0 4 (copy_bytes (first_value kind cluster n index))

  abbrev synced : List Call
  synced = Sync ∷ copies

  abbrev zeros : List Call
  zeros = zero_prepares kind.version

  abbrev reserved : List Call
  reserved = reserved_headers kind.version cluster

  abbrev headers : List Call
  headers = reserved ++ synced

  calls_are : format_calls kind cluster n index ≡ zeros ++ headers
  unfolding format_calls
  calls_are = append_assoc zeros reserved synced

  as_calls : (ok : Bool) (a b : Option Disk) → Runs (zeros ++ headers) a b ok → Runs (format_calls kind cluster n index) a b ok
  as_calls ok a b = subst (λ cs. Runs cs a b ok) (sym calls_are)

  pub zeros_stopped : (a b : Option Disk) → Runs zeros a b false → Runs (format_calls kind cluster n index) a b false
  zeros_stopped a b h = as_calls false a b (Runs_stopped zeros headers a b h)

  pub headers_stopped : (a b c : Option Disk) → Runs zeros a b true → Runs reserved b c false → Runs (format_calls kind cluster n index) a c false
  headers_stopped a b c h i = as_calls false a c (Runs_then zeros headers a b c false h (Runs_stopped reserved synced b c i))

  pub sync_stopped : (a b c d : Option Disk) → Runs zeros a b true → Runs reserved b c true → Runs (Sync ∷ []) c d false → Runs (format_calls kind cluster n index) a d false
  sync_stopped a b c d h i j = as_calls false a d (Runs_then zeros headers a b d false h (Runs_then reserved synced b c d false i (Runs_stopped (Sync ∷ []) copies c d j)))

  pub all_formatted : (v : SuperValue) (ok : Bool) (a b c d e : Option Disk) → v ≡ first_value kind cluster n index → Runs zeros a b true → Runs reserved b c true → Runs (Sync ∷ []) c d true
      → Runs (save_from 0 4 (copy_bytes v)) d e ok → Runs (format_calls kind cluster n index) a e ok
  all_formatted v ok a b c d e is h i j k =
      as_calls ok a e (Runs_then zeros headers a b e ok h (Runs_then reserved synced b c e ok i (Runs_then (Sync ∷ []) copies c d e ok j (rw is at k))))
