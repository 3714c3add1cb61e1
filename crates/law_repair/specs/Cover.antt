-- After as many visits as there are places, what doesn't read is known.
use Rattle.std.specs.Prelude.{ℕ, ◌+◌, ◌<◌, ◌≤◌, ◌≡◌, ◌≢◌, ◌==◌, ◌⊎◌, true, List, [], ◌∷◌, All, Contains, Some, if◌then◌else◌}
use Rattle.vr_ckpt.specs.Places.{grid_size}
use Rattle.vr_state.specs.declared.texts.Texts.{Texts}
use Rattle.vr_ckpt.specs.declared.found.Load.TheVariants.{Loaded}
use Rattle.vr_disk.specs.DiskState.{Face, IsFace}
use Rattle.vr_ckpt.specs.declared.name.Name.{Name}
use Rattle.vr_header.specs.declared.header.Header.{Header}
use Rattle.vr_header.specs.Made.{Whole}
use Rattle.vr_msg.specs.declared.event.Event.{Event}
use Rattle.vr_super.specs.Laws.{AllRead}
use Rattle.vr_rules.specs.Laws.{IsEvent}
use Rattle.vr_rules.specs.Replica.{Replica, header_at, is_absent, part_at, version}
use Rattle.vr_rules.specs.Rules.{react}
use Rattle.vr_rules.specs.Sound.{IsSavable, IsSound}
use Rattle.vr_rules.specs.Steps.{Setting, after_all}
use Rattle.vr_rules.specs.Words.{blocks_of, entry_of, places}
use Rattle.law_repair.specs.Latest.{latest}
use Rattle.law_repair.specs.Visits.{after_events}

-- no two of these blocks stand at one address, and each stands in the grid
pub record StandApart (names : List Name) : Type 0 where
  pub grid : All (λ (m : Name). m.address < grid_size) names
  pub own : (a b : Name) → Contains names a → Contains names b → a.address ≡ b.address → a ≡ b

-- The blocks of its checkpoint stand apart, once it has them, and those that have gone bad are among them. While it misses some, none is
-- known to have gone bad.
pub record IsLaidOut (r : Replica) : Type 0 where
  pub apart : r.missing ≡ [] → StandApart (blocks_of r)
  pub worn : All (Contains (blocks_of r)) r.worn
  pub none : r.missing ≢ [] → r.worn ≡ []

-- Steps keep a replica laid out while its checkpoint stays, and the blocks of each checkpoint that loads stand apart.
pub record LaysOut {F : Type 0} (s : Setting F) : Type 0 where
  pub steps : (e : Event) (r : Replica) (f : F) → IsSound r → IsEvent e → IsLaidOut r → let x = react e s r f in x.replica.checkpoint ≡ r.checkpoint → IsLaidOut x.replica
  pub loads : (r : Replica) (f : F) (texts : Texts) → s.loaded f r.root ≡ Loaded texts r.table → StandApart (blocks_of r)

-- how many of these steps made a visit: nothing else moves the cursor
unfoldable pub visits_made : {F : Type 0} → Setting F → List Event → Replica → F → ℕ
visits_made s [] r f = 0
visits_made s (e ∷ es) r f =
    let x = react e s r f in
    (if x.replica.cursor == r.cursor then 0 else 1) + visits_made s es x.replica (after_all s f x.script)

-- It knows what doesn't read. Of the header sectors of slots nothing is said.
pub record KnowsFaults {F : Type 0} (s : Setting F) (face : F → Face) (r : Replica) (f : F) : Type 0 where
  -- of each op above the checkpoint whose header is known the entry reads, or it is lost or wanted
  pub entries : (k : ℕ) (h : Header) → r.checkpoint < k → header_at r k ≡ Some h → ((e : Whole) × (entry_of h s f ≡ Some e)) ⊎ (is_absent (part_at r k) ≡ true)
  -- each copy of the superblock reads as the value that was saved last
  pub superblock : AllRead (face f) r.saved
  -- each block of the checkpoint reads, or has gone bad
  pub blocks : (name : Name) → Contains (blocks_of r) name → ((block : List ℕ) × (s.block f name ≡ Some block)) ⊎ Contains r.worn name

-- On sectors of the program, of a file that takes what the replica writes: after events, one after the other with no fault between, in which the
-- checkpoint stayed and at least as many visits were made as there are places.
abbrev pub VisitsCover : {F : Type 0} → Setting F → (F → Face) → (F → ℕ) → Type 0
VisitsCover s face file =
    (es : List Event) (r : Replica) (f : _) → IsFace (face f) → version r ≤ latest (file f) → IsSound r → IsSavable r → IsLaidOut r → All IsEvent es
    → let end = after_events s es r f in
    end.replica.checkpoint ≡ r.checkpoint → places end.replica ≤ visits_made s es r f → KnowsFaults s face end.replica end.disk
