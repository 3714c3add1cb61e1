-- What rules do where their words are easily read otherwise: for a checkpoint of the view that is taken over, and for visits of the disk.
use Rattle.std.proofs.Common.{ℕ, ◌≡◌, List, [], ◌∷◌, ◌++◌, length, map, replicate, codes, refl, true}
use Rattle.vr_header.specs.declared.part.Part.{Part}
use Rattle.vr_header.specs.declared.part.Part.TheVariants.{Here, Lost, Wanted, Unknown, Nothing}
use Rattle.vr_header.specs.Names.{no_name}
use Rattle.vr_msg.specs.declared.event.Event.TheVariants.{Tick}
use Rattle.vr_ckpt.specs.declared.name.Name.{Name}
use Rattle.vr_rules.specs.Replica.{Replica}
use Rattle.rows_computed.proofs.Acting.{header, h1, h2, with_parts, in_view, backup, changing, at_checkpoint}
use Rattle.rows_computed.proofs.ActingOn.{get_sync, give_block, h33, holder, keeping, logs_end, root, start_view, sync_view}
use Rattle.rows_computed.proofs.Doing.{both, both_of, letters, parts_of, said, script, step}
use Rattle.rows_computed.proofs.Plain.{Plain, after_fresh, damaged, bare_at, root_block}

-- ---- a checkpoint is asked for and given

asks : both_of both backup (start_view 2 2 65 1 []) ≡ (codes "send 0 1 2 get_sync view 2" ∷ [], codes "s")
unfolding after_fresh
asks = refl

gives : both_of both (holder 0) (get_sync 0 1 0) ≡ (codes "send 0 0 1 sync_view view 0 op 32 commit 32 checkpoint 32" ∷ [], codes "s")
unfolding after_fresh
gives = refl

-- ---- it is taken over: what is known up to the own commit number stays, which is 1; above it up to the log's beginning nothing is
-- known any more; up to the checkpoint all is lost; above it it is as with a log that is taken over

abbrev nothings : ℕ → List Part
nothings count = replicate count Nothing

abbrev knowing : Part → Replica
knowing p = with_parts (Here h1 ∷ Here h2 ∷ nothings 30 ++ p ∷ []) backup

jumps : map (λ p. letters both (knowing p) (sync_view 2 2 logs_end)) (Here h33 ∷ Lost h33 ∷ Here (header 0 0 33 no_name) ∷ Unknown ∷ Nothing ∷ [])
    ≡ map (λ c. codes "h" ++ replicate 30 110 ++ codes "l" ++ c) (codes "h" ∷ codes "l" ∷ codes "w" ∷ codes "l" ∷ codes "w" ∷ [])
unfolding after_fresh
jumps = refl

-- past the end of a later view's log nothing is known; in a view that is started it stays
abbrev beyond : Replica
beyond = with_parts (Here h1 ∷ nothings 32 ++ Here (header 0 0 34 no_name) ∷ []) backup

jumps_past : map (λ r. letters both r (sync_view 2 2 logs_end)) (beyond ∷ in_view 2 2 beyond ∷ [])
    ≡ map (λ c. codes "h" ++ replicate 30 110 ++ codes "lw" ++ c) ([] ∷ codes "h" ∷ [])
unfolding after_fresh
jumps_past = refl

-- the log is saved, and then what is stored above the commit number is acknowledged
acknowledges : both_of both (knowing (Here h33)) (sync_view 2 2 logs_end) ≡ (codes "send 0 1 2 prepare_ok view 2 op 33 made 0" ∷ [], codes "Ss")
unfolding after_fresh
acknowledges = refl

-- the window stands above the checkpoint, all up to it counts as applied, and its root is missing
abbrev numbers : Replica → List ℕ
numbers r = r.view ∷ r.log_view ∷ r.checkpoint ∷ r.commit ∷ r.applied ∷ r.first ∷ length r.parts ∷ length r.ackers ∷ []

jumped : numbers (step both backup (sync_view 2 2 logs_end)).replica ≡ 2 ∷ 2 ∷ 32 ∷ 32 ∷ 32 ∷ 1 ∷ 96 ∷ 96 ∷ []
unfolding after_fresh
jumped = refl

misses : (step both (record backup { worn = root ∷ root ∷ [] }) (sync_view 2 2 logs_end)).replica.missing ≡ root ∷ []
unfolding after_fresh
misses = refl

-- ---- a tick visits a place of the disk: slot 2 has op 2

abbrev visiting : ℕ → Replica
visiting place = record backup { cursor = place }

-- a slot that reads; one whose header sector doesn't; one whose entry doesn't, which is asked for in the same tick
visits_slot : map (λ f. both_of f (visiting 2) Tick) (both ∷ damaged 82 both ∷ damaged 152 both ∷ [])
    ≡ ([], []) ∷ ([], codes "r") ∷ (codes "send 0 1 2 get_prepare op 2 made 0" ∷ [], codes "s") ∷ []
unfolding after_fresh
visits_slot = refl

loses : map (λ f. letters f (visiting 2) Tick) (both ∷ damaged 82 both ∷ damaged 152 both ∷ damaged 148 both ∷ []) ≡ codes "hh" ∷ codes "hh" ∷ codes "hl" ∷ codes "hh" ∷ []
unfolding after_fresh
loses = refl

-- nothing is looked at for an op whose entry isn't stored; the superblock is mended
visits_others : script (damaged 82 both) (record (with_parts (Here h1 ∷ Wanted h2 ∷ []) backup) { cursor = 2 }) Tick ∷ script both (visiting 64) Tick ∷ [] ≡ codes "s" ∷ codes "M" ∷ []
unfolding after_fresh
visits_others = refl

-- one place after the other, and then from the front; also where there are fewer than before
abbrev next_place : ℕ → ℕ
next_place place = (step both (visiting place) Tick).replica.cursor

goes_round : map next_place (0 ∷ 63 ∷ 64 ∷ 65 ∷ []) ≡ 1 ∷ 64 ∷ 0 ∷ 1 ∷ []
unfolding after_fresh
goes_round = refl

-- ---- the checkpoint's root has place 65

abbrev with_root : ℕ → Replica
with_root place = record (at_checkpoint 32 [] 1) { root = root; cursor = place }

abbrev bad : Plain
bad = record keeping { is_bad = true }

-- it reads, or it has gone bad, and is asked for
visits_root : map (λ f. both_of f (with_root 65) Tick) (keeping ∷ bad ∷ []) ≡ ([], []) ∷ (codes "send 0 1 2 get_block 64" ∷ [], codes "s") ∷ []
unfolding after_fresh
visits_root = refl

abbrev worn_after : Replica → List Name
worn_after r = (step bad r Tick).replica.worn

-- it is told once
worn_once : map worn_after (with_root 65 ∷ record (with_root 65) { worn = root ∷ [] } ∷ with_root 64 ∷ []) ≡ (root ∷ []) ∷ (root ∷ []) ∷ [] ∷ []
unfolding after_fresh
worn_once = refl

-- what is missing is asked for first, and while a block is missing nothing is visited
asks_missing : said bad (record (with_root 65) { missing = root ∷ [] }) Tick ≡ codes "send 0 1 2 get_block 64" ∷ []
unfolding after_fresh
asks_missing = refl

stands_still : (λ (r : Replica). r.cursor ∷ length r.worn ∷ []) (step bad (record (with_root 65) { missing = root ∷ [] }) Tick).replica ≡ 65 ∷ 0 ∷ []
unfolding after_fresh
stands_still = refl

-- an entry above the applied ones comes before a worn block, and one of the window that is applied does too
abbrev lacking : Part → Replica
lacking p = record (with_parts (p ∷ []) (with_root 0)) { worn = root ∷ []; commit = 33 }

asks_worn_last : map (λ r. said keeping r Tick) (lacking (Lost h33) ∷ record (lacking (Lost h33)) { applied = 33 } ∷ lacking Nothing ∷ [])
    ≡ (codes "send 0 1 2 get_prepare op 33 made 0" ∷ []) ∷ (codes "send 0 1 2 get_prepare op 33 made 0" ∷ []) ∷ (codes "send 0 1 2 get_block 64" ∷ []) ∷ []
unfolding after_fresh
asks_worn_last = refl

-- the block comes: it is written, and nothing is loaded
mends : both_of bad (record (with_root 0) { worn = root ∷ [] }) (give_block 0 2 64 (root_block (bare_at 32))) ≡ ([], codes "B")
unfolding after_fresh
mends = refl

not_worn : (step bad (record (with_root 0) { worn = root ∷ [] }) (give_block 0 2 64 (root_block (bare_at 32)))).replica.worn ≡ []
unfolding after_fresh
not_worn = refl

-- in a view that hasn't begun, too
changing_visits : parts_of (damaged 152 both) (record changing { cursor = 2 }) Tick
    ≡ (
      codes "send 0 1 0 start_view_change view 2"
          ∷ codes "send 1 1 2 start_view_change view 2"
          ∷ codes "send 2 1 2 do_view_change view 2 log 0 commit 1 head 2 parts h"
          ∷ codes "send 3 1 2 get_prepare op 2 made 0"
          ∷ [],
      codes "hl",
    )
unfolding after_fresh
changing_visits = refl

-- with the view left nothing is visited
leaving : (step (damaged 152 both) (record (visiting 2) { idle = 4 }) Tick).replica.cursor ≡ 2
unfolding after_fresh
leaving = refl
