-- A log that is taken over with a later checkpoint, place by place.
use Rattle.std.specs.Prelude.{ℕ, ◌+◌, ◌-◌, ◌<◌, ◌≤◌, List, drop, length, map, replicate, max, ◌++◌, nat_le, nat_lt, slice_index_or, ◌≡◌, true, if◌then◌else◌}
use Rattle.std.specs.List.{range_with_len}
use Rattle.std.specs.Option.{option_map_or}
use Rattle.vr_base.specs.Bytes.{name_of}
use Rattle.vr_base.specs.Replicas.{no_replicas}
use Rattle.vr_header.specs.declared.part.Part.{Part}
use Rattle.vr_header.specs.declared.part.Part.TheVariants.{Lost, Nothing}
use Rattle.vr_msg.specs.declared.frame.SyncView.{SyncView}
use Rattle.vr_msg.specs.Numbers.{IsNumber}
use Rattle.vr_rules.specs.Replica.{Replica}
use Rattle.vr_rules.specs.Words.{is_chain, log_header, replaced_by, sync_log}

-- what is known of an op then, by what was known of it
abbrev pub jumped_by : SyncView → ℕ → ℕ → ℕ → Part → Part
jumped_by v commit log_view k p =
    if nat_le k v.body.lo then (if nat_le k commit then p else Nothing)
    else (if nat_le k v.checkpoint then option_map_or Lost (log_header (sync_log v) k) Nothing
    else (if nat_le k v.head then option_map_or (λ e. replaced_by e p) (log_header (sync_log v) k) p
    else (if nat_lt log_view v.view then Nothing else p)))

-- the Part at a place of a list that begins with this op
abbrev pub jumped_at : SyncView → ℕ → ℕ → ℕ → List Part → ℕ → Part
jumped_at v commit log_view first ps i = jumped_by v commit log_view (first + i) (slice_index_or ps i Nothing)

-- the log is taken over at the first i places
unfoldable pub jumped_to : SyncView → ℕ → Replica → Replica
jumped_to v i r = record r { parts = map (jumped_at v r.commit r.log_view r.first r.parts) (range_with_len 0 i) ++ drop i r.parts }

-- the first op whose Part is kept, where the log's head is the head
abbrev pub first_then : SyncView → Replica → ℕ
first_then v r = max r.first (v.head - 63)

-- the lists with their later ends, before the log is taken over
unfoldable pub moved_to : SyncView → Replica → Replica
moved_to v r =
    let parts : List Part = drop (first_then v r - r.first) r.parts in
    record r {
      first = first_then v r;
      parts = parts ++ replicate (v.checkpoint + 65 - first_then v r - length parts) Nothing;
      ackers = drop (first_then v r - r.first) r.ackers ++ replicate (v.checkpoint + 65 - first_then v r - length parts) no_replicas;
    }

-- the checkpoint is a later one, and stands within the log, whose headers are a chain that begins at most 64 ops below its head
pub record MayJump (v : SyncView) (r : Replica) : Type 0 where
  pub above : r.checkpoint < v.checkpoint
  pub lo : v.body.lo < v.checkpoint
  pub within : v.checkpoint ≤ v.commit
  pub commit : v.commit ≤ v.head
  pub short : v.head ≤ v.body.lo + 64
  pub count : v.body.lo + length v.body.headers ≡ v.head
  pub chain : is_chain name_of v.body.headers ≡ true
  pub number : IsNumber v.head
