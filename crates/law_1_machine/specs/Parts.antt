-- What a member knows of its own copy of each log entry.
-- Storage may lose what was written, so a member tells apart an entry that it may once have had (and so may have vouched for)
-- from one that it surely never had. Only the second is a denial in a view change.
use Rattle.std.specs.Prelude.{ℕ, zero, suc, List, [], ◌∷◌, Bool, true, false, Option, None, Some}

-- a member's own copy of one entry
pub data Part (H : Type 0) : Type 0 where
  Here : (h : H) → Part H  -- the entry is on the disk
  Lost : (h : H) → Part H  -- its header is known; the entry may have been on the disk, and doesn't read
  Wanted : (h : H) → Part H  -- its header is known; the entry was never on the disk
  Unknown : Part H  -- something may have been there, and nothing reads
  Nothing : Part H  -- nothing was ever there

-- the known header
abbrev pub header : {H : Type 0} → Part H → Option H
header (Here h) = Some h
header (Lost h) = Some h
header (Wanted h) = Some h
header Unknown = None
header Nothing = None

-- the member says that it never had an entry there
abbrev pub denied : {H : Type 0} → Part H → Bool
denied (Here h) = false
denied (Lost h) = false
denied (Wanted h) = true
denied Unknown = false
denied Nothing = true

-- the entries of a log from 1 to k, the newest first: what a state comes from
abbrev pub entries : {H : Type 0} → (ℕ → H) → ℕ → List H
entries l zero = []
entries l (suc k) = l (suc k) ∷ entries l k
