-- What is read of an op.
use Rattle.std.specs.Prelude.{ℕ, ◌≡◌, List, Option, Some, None, Result, Ok}
use Rattle.vr_disk.specs.DiskState.{Disk, Face}
use Rattle.vr_header.specs.Made.{Whole}
use Rattle.vr_msg.specs.declared.output.Output.{Output}
use Rattle.vr_rules.specs.Replica.{Replica}
use Rattle.vr_rules.specs.Steps.{Word}
use Rattle.vr_rules.specs.Words.{with_entry_at}
use Rattle.vr_disk.specs.declared.fault.Halt.{Halt}
use Rattle.vr_rules.specs.Does.{Does}

-- The entry of an op was read, or there was none to be had: what a word does with it then, it does with the entry of that op.
pub record Reads (op : ℕ) (r q : Replica) (d d' : Option Disk) (found : Option Whole) : Type 0 where
  pub some : (w : Whole → Word Face) (e : Whole) (r' : Replica) (d'' : Option Disk) (o o' : List Output) (result : Result (Unit {0}) Halt) → found ≡ Some e → Does (w e) q r' d' d'' o o' result
      → Does (with_entry_at op w) r r' d d'' o o' result
  pub none : (w : Whole → Word Face) (o : List Output) → found ≡ None → Does (with_entry_at op w) r q d d' o o (Ok tt)
