-- The disk above a file and the sectors in memory.
use Rattle.std.specs.Prelude.{ℕ, ◌≡◌, ◌⊎◌, Bool, true, false, List, [], ◌∷◌, Option, None, Some, replicate, if◌then◌else◌}
use Rattle.vr_disk.specs.declared.sector.Sector.{Sector}
use Rattle.vr_io_policy.specs.Caches.{Cache, IsBlank, cached, forgot, is_clean, is_held, is_old}
use Rattle.vr_io_policy.specs.declared.cached.Cached.TheVariants.{Held}
use Rattle.vr_io_policy.specs.Files.{Stands, over}
use Rattle.vr_file.specs.Calls.{Made, Makes, ReadsAgain, Renewed, Spots, Told}
use Rattle.vr_file.specs.declared.kept.Kept.{Kept}

-- there are sectors in memory, and this one is known so
abbrev pub Knows : Option Kept → ℕ → Sector → Type 0
Knows None i s = ⊥
Knows (Some k) i s = cached k.cache i ≡ Held s

-- there are, and none waits
abbrev pub NoneWaits : Option Kept → Type 0
NoneWaits None = ⊥
NoneWaits (Some k) = is_clean k.cache ≡ true

-- there are, none is known, and none waits
abbrev pub NoneIsKnown : Option Kept → Type 0
NoneIsKnown None = ⊥
NoneIsKnown (Some k) = IsBlank k.cache

-- the time was taken: once a minute has passed those are forgotten that don't wait, and the file is to be read anew
pub record Refreshes (c e : Cache) (old new : Option (List Made)) : Type 0 where
  pub now : ℕ
  pub cache : e ≡ (if is_old c now then forgot c now else c)
  pub made : Makes (Told now ∷ (if is_old c now then Renewed ∷ [] else [])) old new

-- a read: the time was taken first, and a call was made only for a sector that wasn't known then
pub record ReadsFresh (i : ℕ) (ok : Bool) (c : Cache) (old new : Option (List Made)) : Type 0 where
  pub fresh : Cache
  pub between : Option (List Made)
  pub first : Refreshes c fresh old between
  pub known : is_held (cached fresh i) ≡ true → new ≡ between
  pub unknown : is_held (cached fresh i) ≡ false → ReadsAgain i (0 ∷ (5 ∷ (5 ∷ []))) ok between new

-- this disk is what a cache makes of a file that tells; no disk is said to be above one that doesn't
abbrev pub IsAbove : Cache → Option Spots → Spots → Type 0
IsAbove c None d = ⊥
IsAbove c (Some f) d = Stands c f d

-- nothing of a disk changed, but that sectors that couldn't be read may have bytes of 255
pub record Spared (d e : Spots) : Type 0 where
  pub at : (j : ℕ) → (e j ≡ d j) ⊎ (((d j).now ≡ None) × (e j ≡ over (d j) (replicate 512 255)))

-- after a call the disk has taken this step, and nothing else of it changed
pub record Goes (c : Cache) (told : Option Spots) (step : Spots → Spots) (d : Spots) : Type 0 where
  pub disk : Spots
  pub spared : Spared d disk
  pub above : IsAbove c told (step disk)
