-- What every run of a group gives its replies.
use Rattle.std.specs.Prelude.{ℕ, ◌^◌, ◌<◌, ◌≡◌, List, slice_get, Some}
use Rattle.vr_header.specs.declared.header.Header.{Header}
use Rattle.vr_header.specs.NoCollision.{NoCollision}
use Rattle.vr_disk.specs.DiskState.{Face}
use Rattle.vr_state.specs.StateTexts.{FitsPayloads}
use Rattle.vr_state.specs.declared.texts.Texts.{Texts}
use Rattle.vr_ckpt.specs.Loads.{loaded}
use Rattle.vr_ckpt.specs.Saves.{saved_checkpoint}
use Rattle.vr_ckpt.specs.declared.found.Load.TheVariants.{Loaded}
use Rattle.vr_ckpt.specs.declared.table.PayloadTable.{PayloadTable}
use Rattle.vr_world.specs.Group.{Played}
use Rattle.vr_world.specs.Safe.{IsHashed}
use Rattle.law_2_chains.specs.Chains.{Setup}
use Rattle.law_2_chains.specs.Bridge.{Bridges}
use Rattle.law_3_outputs.specs.Followed.{IsFollowed}
use Rattle.law_3_outputs.specs.Replied.{IsReplied}
use Rattle.law_6_one_log.specs.Hashed.{IsTable, IsWrittenOut, ReadsHashed}

-- Where names don't collide in a run: on any disk whose blocks were hashed in it, what loads under the root's name of a checkpoint that
-- was written in it are the texts that this was made of, and the table that it left.
abbrev pub CheckpointsLoad : Type 0
CheckpointsLoad =
    (run : List Played) (h : Header) → NoCollision (IsHashed run h) → (f : Face) → ReadsHashed (IsHashed run h) f
    → (cluster op : ℕ) (texts : Texts) (old : PayloadTable) → op < 2 ^ 64 → FitsPayloads texts → IsTable (IsHashed run h) old → IsWrittenOut (IsHashed run h) cluster texts op old
    → (found : Texts) (table : PayloadTable) → loaded f (saved_checkpoint cluster texts op old).root ≡ Loaded found table
    → (found ≡ texts) × (table ≡ (saved_checkpoint cluster texts op old).table) × IsTable (IsHashed run h) table

-- a followed run, whose groups the machine's groups stand for, gives what its replies ask for
abbrev pub RunsReply : Type 0
RunsReply =
    (cluster n : ℕ) (u : Setup) (run : List Played) (x : IsFollowed cluster n u run)
    → ((t : ℕ) (p : Played) → slice_get run t ≡ Some p → Bridges u p.before (x.group t)) → IsReplied cluster n u run x
