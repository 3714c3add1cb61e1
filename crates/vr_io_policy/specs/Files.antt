-- A file below a program, the disk above it, and how the cache stands between them.
use Rattle.std.specs.Prelude.{ℕ, ◌<◌, ◌≡◌, ◌==◌, ◌&&◌, ◌⊎◌, Bool, true, false, nat_le, nat_lt, if◌then◌else◌, List, [], ◌∷◌, Option, Some, None, replicate}
use Rattle.vr_disk.specs.DiskState.{damaged}
use Rattle.vr_disk.specs.Sectors.{has}
use Rattle.vr_disk.specs.declared.sector.Sector.{Sector}
use Rattle.vr_io_policy.specs.declared.cached.Cached.{Cached}
use Rattle.vr_io_policy.specs.declared.cached.Cached.TheVariants.{Unknown, Unread, Held}
use Rattle.vr_io_policy.specs.Caches.{Cache, IsBlank, IsCache, IsReady, cached, flushed, forgot, is_clean, is_held, joins, learnt, new_cache, pages_end, pages_first, put, stands_for, waits}

-- ---- a disk or a file: what becomes of each sector

-- what a read gives (None: it fails), what it gave when all was synced last, and what was written to it since then in the place of something else
pub record Spot : Type 0 where
  pub now : Option (List ℕ)
  pub synced : Option (List ℕ)
  pub since : List (List ℕ)

-- a sector is written; where it has these bytes already nothing of it changes, and a stop tears nothing of it
abbrev pub over : Spot → List ℕ → Spot
over s bytes = if has bytes s.now then s else record { now = Some bytes; synced = s.synced; since = bytes ∷ s.since }

-- these bytes were written
abbrev pub IsAmong : List ℕ → List (List ℕ) → Type 0
IsAmong bytes [] = ⊥
IsAmong bytes (b ∷ bs) = (bytes ≡ b) ⊎ IsAmong bytes bs

-- it was written since, and a stop leaves it so, or damaged
pub record Wrote (since : List (List ℕ)) (left : Option (List ℕ)) : Type 0 where
  pub bytes : List ℕ
  pub among : IsAmong bytes since
  pub whole : (left ≡ Some bytes) ⊎ (left ≡ Some (damaged bytes))

-- what a stop may leave of it: what was synced, or what was written since, or that damaged
abbrev pub Leaves : Spot → Option (List ℕ) → Type 0
Leaves s left = (left ≡ s.synced) ⊎ Wrote s.since left

-- it was synced, or a stop left it so
abbrev pub settled_as : Option (List ℕ) → Spot
settled_as reading = record { now = reading; synced = reading; since = [] }

-- ---- calls, each sector by itself

-- a sector of a disk is written
abbrev pub sector_written : (ℕ → Spot) → ℕ → List ℕ → ℕ → Spot
sector_written d i bytes j = if j == i then over (d j) bytes else d j

-- what was written stays
abbrev pub synced : (ℕ → Spot) → ℕ → Spot
synced d j = settled_as (d j).now

abbrev pub in_pages : Cache → ℕ → Bool
in_pages c j = nat_le (pages_first c) j && nat_lt j (pages_end c)

-- the pages in which some sectors wait are written to the file, each sector as it is known
abbrev pub pages_written : (ℕ → Spot) → Cache → ℕ → Spot
pages_written f c j = if in_pages c j then over (f j) (stands_for (cached c j)) else f j

-- those that wait are written to the file, and no other
abbrev pub waiting_written : (ℕ → Spot) → Cache → ℕ → Spot
waiting_written f c j = if waits c j then over (f j) (stands_for (cached c j)) else f j

-- what the file couldn't read of the pages gets bytes of 255
abbrev pub lost : Spot → Cached → Spot
lost s Unknown = s
lost s Unread = over s (replicate 512 255)
lost s (Held h) = s

abbrev pub neighbors_lost : (ℕ → Spot) → Cache → ℕ → Spot
neighbors_lost d c j = if in_pages c j then lost (d j) (cached c j) else d j

-- ---- how the cache stands between

-- what a read gives of a sector that is known so, over what the file gives
abbrev pub seen : Cached → Option (List ℕ) → Option (List ℕ)
seen Unknown now = now
seen Unread now = now
seen (Held s) now = Some s.bytes

-- the file has already what waits, or it was written to the disk since it was synced last
abbrev pub IsPending : Spot → Spot → Type 0
IsPending f d = (f.now ≡ d.now) ⊎ ((bytes : List ℕ) × (d.now ≡ Some bytes) × IsAmong bytes d.since)

-- one sector: whether it waits, how it is known, the file's and the disk's
pub record StandsAt (waiting : Bool) (k : Cached) (f d : Spot) : Type 0 where
  pub now : d.now ≡ seen k f.now
  pub file : waiting ≡ false → seen k f.now ≡ f.now
  pub held : waiting ≡ true → is_held k ≡ true
  pub unread : k ≡ Unread → (f.now ≡ None) ⊎ (f.now ≡ Some (replicate 512 255))
  pub pending : waiting ≡ true → IsPending f d
  pub stops : (left : Option (List ℕ)) → Leaves f left → Leaves d left

-- each sector
pub record Stands (c : Cache) (f d : ℕ → Spot) : Type 0 where
  pub at : (j : ℕ) → StandsAt (waits c j) (cached c j) (f j) (d j)

-- ---- the law: a file that does what it says, below the cache, is a disk

pub record IsADisk : Type 0 where
  -- a new cache over any file that was synced
  pub begins : (now : ℕ → Option (List ℕ)) → Stands new_cache (λ j. settled_as (now j)) (λ j. settled_as (now j))
  -- and one that forgot what it knew of another file, once nothing waited
  pub anew : (c : Cache) (now : ℕ → Option (List ℕ)) → IsBlank c → Stands c (λ j. settled_as (now j)) (λ j. settled_as (now j))
  -- a read of a sector that is known gives what the disk has, and so does the file's, of another
  pub recalls : (c : Cache) (f d : ℕ → Spot) (i : ℕ) (s : Sector) → Stands c f d → cached c i ≡ Held s → (d i).now ≡ Some s.bytes
  pub reads : (c : Cache) (f d : ℕ → Spot) (i : ℕ) → Stands c f d → is_held (cached c i) ≡ false → (d i).now ≡ (f i).now
  -- what the file gave is noted
  pub notes : (c : Cache) (f d : ℕ → Spot) (i : ℕ) (s : Sector) → IsCache c → i < 3984 → Stands c f d → (f i).now ≡ Some s.bytes → Stands (learnt c i (Held s)) f d
  pub fails : (c : Cache) (f d : ℕ → Spot) (i : ℕ) → IsCache c → i < 3984 → Stands c f d → (f i).now ≡ None → Stands (learnt c i Unread) f d
  -- a write, whose file may get it later
  pub writes : (c : Cache) (f d : ℕ → Spot) (i : ℕ) (s : Sector) → IsCache c → i < 3984 → joins c i ≡ true → Stands c f d → Stands (put c i s) f (sector_written d i s.bytes)
  -- pages go to the file: of the disk nothing changes but what couldn't be read
  pub pages : (c : Cache) (f d : ℕ → Spot) → IsCache c → IsReady c → Stands c f d → Stands (flushed c) (pages_written f c) (neighbors_lost d c)
  pub spares : (c : Cache) (f d : ℕ → Spot) (j : ℕ) → Stands c f d → ((d j).now ≡ (neighbors_lost d c j).now) ⊎ ((d j).now ≡ None)
  -- those that wait go to the file alone: of the disk nothing changes
  pub alone : (c : Cache) (f d : ℕ → Spot) → Stands c f d → Stands (flushed c) (waiting_written f c) d
  -- at a sync of the file, once nothing waits, the disk is synced
  pub syncs : (c : Cache) (f d : ℕ → Spot) → is_clean c ≡ true → Stands c f d → Stands c (synced f) (synced d)
  pub forgets : (c : Cache) (f d : ℕ → Spot) (now : ℕ) → IsCache c → Stands c f d → Stands (forgot c now) f d
  -- what a stop leaves of the file it may leave of the disk
  pub stops : (c : Cache) (f d : ℕ → Spot) (left : ℕ → Option (List ℕ)) → Stands c f d → ((j : ℕ) → Leaves (f j) (left j)) → (j : ℕ) → Leaves (d j) (left j)
  -- also where it comes in the midst of a write of pages
  pub tears : (c : Cache) (f d : ℕ → Spot) (left : ℕ → Option (List ℕ)) → IsCache c → IsReady c → Stands c f d → ((j : ℕ) → Leaves (f j) (left j) ⊎ Leaves (pages_written f c j) (left j))
      → (j : ℕ) → Leaves (neighbors_lost d c j) (left j)
  pub tears_alone : (c : Cache) (f d : ℕ → Spot) (left : ℕ → Option (List ℕ)) → Stands c f d → ((j : ℕ) → Leaves (f j) (left j) ⊎ Leaves (waiting_written f c j) (left j))
      → (j : ℕ) → Leaves (d j) (left j)
