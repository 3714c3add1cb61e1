-- What a program has in memory of its file: sectors that are known, and those that wait to be written.
use Rattle.std.specs.Prelude.{ℕ, ◌+◌, ◌-◌, ◌*◌, ◌/◌, ◌≤◌, ◌<◌, ◌≡◌, ◌==◌, ◌&&◌, ◌||◌, Bool, true, false, max, nat_le, nat_lt, if◌then◌else◌, List, ◌++◌, flat_map, length, replicate, slice_index_or, slice_set}
use Rattle.std.specs.List.{between, count_by}
use Rattle.vr_disk.specs.declared.sector.Sector.{Sector}
use Rattle.vr_io_policy.specs.declared.cache.Next.{Next}
use Rattle.vr_io_policy.specs.declared.cache.Next.TheVariants.{Nothing, Read, WriteAlone, Write}
use Rattle.vr_io_policy.specs.declared.cached.Cached.{Cached}
use Rattle.vr_io_policy.specs.declared.cached.Cached.TheVariants.{Unknown, Unread, Held}

-- each sector as it is known; those from `first` on, up to the one before `end`, wait to be written, and couldn't be written alone where `tried` is true;
-- in the millisecond `forgotten` all others were forgotten last
pub record Cache : Type 0 where
  pub sectors : List Cached
  pub first : ℕ
  pub end : ℕ
  pub tried : Bool
  pub forgotten : ℕ

-- 3,984 sectors, of which at most 64 wait
pub record IsCache (c : Cache) : Type 0 where
  pub size : length c.sectors ≡ 3984
  pub order : c.first ≤ c.end
  pub within : c.end ≤ 3984
  pub most : c.end ≤ c.first + 64

abbrev pub new_cache : Cache
new_cache = record { sectors = replicate 3984 Unknown; first = 0; end = 0; tried = false; forgotten = 0 }

abbrev pub cached : Cache → ℕ → Cached
cached c i = slice_index_or c.sectors i Unknown

abbrev pub is_held : Cached → Bool
is_held Unknown = false
is_held Unread = false
is_held (Held s) = true

-- it is to be read before it is written with others
abbrev pub is_unknown : Cached → Bool
is_unknown Unknown = true
is_unknown Unread = false
is_unknown (Held s) = false

abbrev pub waits : Cache → ℕ → Bool
waits c i = nat_le c.first i && nat_lt i c.end

-- none waits
abbrev pub is_clean : Cache → Bool
is_clean c = c.first == c.end

-- none is known, and none waits
pub record IsBlank (c : Cache) : Type 0 where
  pub clean : is_clean c ≡ true
  pub each : (i : ℕ) → cached c i ≡ Unknown

-- it couldn't be read
abbrev pub is_unread : Cached → Bool
is_unread Unknown = false
is_unread Unread = true
is_unread (Held s) = false

-- ---- a write

-- a sector may wait with those that do: none does, or it does, or it is the next one after them and they aren't 64
abbrev pub joins : Cache → ℕ → Bool
joins c i = is_clean c || (waits c i || (i == c.end && nat_lt (c.end - c.first) 64))

-- it waits, with what is written to it
abbrev pub put : Cache → ℕ → Sector → Cache
put c i s =
    if is_clean c then record { sectors = slice_set c.sectors i (Held s); first = i; end = i + 1; tried = false; forgotten = c.forgotten }
    else record { sectors = slice_set c.sectors i (Held s); first = c.first; end = max c.end (i + 1); tried = c.tried; forgotten = c.forgotten }

-- ---- a read

-- what the file gave of a sector; one that is known, as each that waits, stays what it is
abbrev pub learnt : Cache → ℕ → Cached → Cache
learnt c i found = if is_held (cached c i) then c else record { sectors = slice_set c.sectors i found; first = c.first; end = c.end; tried = c.tried; forgotten = c.forgotten }

-- ---- what waits is written, in whole pages of eight sectors

abbrev pub pages_first : Cache → ℕ
pages_first c = 8 * (c.first / 8)

abbrev pub pages_end : Cache → ℕ
pages_end c = 8 * ((c.end + 7) / 8)

-- the sectors of the pages in which some wait
abbrev pub pages : Cache → List Cached
pages c = between (pages_first c) (pages_end c) c.sectors

-- each of them was read, or it was tried
pub record IsReady (c : Cache) : Type 0 where
  pub waiting : is_clean c ≡ false
  pub each : (i : ℕ) → pages_first c ≤ i → i < pages_end c → is_unknown (cached c i) ≡ false

-- it is to be read first
pub record IsWanted (c : Cache) (i : ℕ) : Type 0 where
  pub waiting : is_clean c ≡ false
  pub from : pages_first c ≤ i
  pub below : i < pages_end c
  pub within : i < 3984
  pub unknown : is_unknown (cached c i) ≡ true

-- those that wait are to be written alone, since some neighbor couldn't be read: it may be that no more than the read failed
pub record IsAlone (c : Cache) (i : ℕ) : Type 0 where
  pub first : i ≡ c.first
  pub ready : IsReady c
  pub untried : c.tried ≡ false
  pub neighbor : ℕ
  pub from : pages_first c ≤ neighbor
  pub below : neighbor < pages_end c
  pub unread : is_unread (cached c neighbor) ≡ true

-- the pages are to be written whole: each neighbor could be read, or those that wait couldn't be written alone
pub record IsWritten (c : Cache) (i : ℕ) : Type 0 where
  pub first : i ≡ pages_first c
  pub ready : IsReady c
  pub alone : c.tried ≡ false → (j : ℕ) → pages_first c ≤ j → j < pages_end c → is_unread (cached c j) ≡ false

-- what is to be done next so that nothing waits: nothing, a read of that sector, or a write from that one on, of those that wait or of their pages
abbrev pub IsNext : Cache → Next → Type 0
IsNext c Nothing = is_clean c ≡ true
IsNext c (Read i) = IsWanted c i
IsNext c (WriteAlone i) = IsAlone c i
IsNext c (Write i) = IsWritten c i

-- at most so many calls are left until nothing waits: a read of each sector that isn't known, and a write of those that wait alone, or of their pages
abbrev pub calls_left : Cache → ℕ
calls_left c = count_by is_unknown c.sectors + (if is_clean c then 0 else (if c.tried then 1 else 2))

-- what is written to a sector: where it couldn't be read, bytes that no reader takes for anything
abbrev pub stands_for : Cached → List ℕ
stands_for Unknown = replicate 512 255
stands_for Unread = replicate 512 255
stands_for (Held s) = s.bytes

-- those that wait
abbrev pub waiting : Cache → List Cached
waiting c = between c.first c.end c.sectors

abbrev pub bytes_of : List Cached → List ℕ
bytes_of sectors = flat_map stands_for sectors

-- each is written as the bytes of one sector
pub record AreWhole (sectors : List Cached) : Type 0 where
  pub each : (k : ℕ) → k < length sectors → length (stands_for (slice_index_or sectors k Unknown)) ≡ 512

-- the file has what waited
abbrev pub flushed : Cache → Cache
flushed c = record { sectors = c.sectors; first = c.end; end = c.end; tried = false; forgotten = c.forgotten }

-- they couldn't be written alone
abbrev pub not_alone : Cache → Cache
not_alone c = record { sectors = c.sectors; first = c.first; end = c.end; tried = true; forgotten = c.forgotten }

-- ---- forgetting

-- those are known that wait
abbrev pub waiting_alone : Cache → List Cached
waiting_alone c = replicate c.first Unknown ++ (between c.first c.end c.sectors ++ replicate (length c.sectors - c.end) Unknown)

-- a minute has passed since it was forgotten last
abbrev pub is_old : Cache → ℕ → Bool
is_old c now = nat_le 60000 (now - c.forgotten)

abbrev pub forgot : Cache → ℕ → Cache
forgot c now = record { sectors = waiting_alone c; first = c.first; end = c.end; tried = c.tried; forgotten = now }
