-- Visits find the entries that don't read.
use Rattle.std.specs.Prelude.{ℕ, ◌+◌, ◌%◌, ◌<◌, ◌≤◌, ◌≡◌, ◌==◌, ◌&&◌, ◌||◌, not, Bool, true, List, [], ◌∷◌, All, Some}
use Rattle.vr_disk.specs.DiskState.{Face, IsFace}
use Rattle.vr_header.specs.declared.header.Header.{Header}
use Rattle.vr_header.specs.declared.part.Part.TheVariants.{Here}
use Rattle.vr_header.specs.Made.{Whole}
use Rattle.vr_msg.specs.declared.event.Event.{Event}
use Rattle.vr_rules.specs.Laws.{IsEvent}
use Rattle.vr_rules.specs.Replica.{Replica, part_at, version}
use Rattle.vr_rules.specs.Rules.{react}
use Rattle.vr_rules.specs.Sound.{IsSound}
use Rattle.vr_rules.specs.Steps.{Setting, after_all}
use Rattle.vr_rules.specs.Words.{entry_of}
use Rattle.law_repair.specs.Latest.{latest}

-- of the ops above the checkpoint whose slots were seen, each entry that is here reads
abbrev pub AreRead : {F : Type 0} → Setting F → (ℕ → Bool) → Replica → F → Type 0
AreRead s seen r f = (k : ℕ) (h : Header) → r.checkpoint < k → seen (k % 64) ≡ true → part_at r k ≡ Here h → (e : Whole) × (entry_of h s f ≡ Some e)

-- the slot that a step visits: nothing but a visit moves the cursor, and that of a slot moves it to the next number
abbrev pub visited : Replica → Replica → ℕ → Bool
visited r q slot = not (q.cursor == r.cursor) && (q.cursor == slot + 1)

-- what a replica and its disk are after events, one after the other, with no fault between
pub record Stood (F : Type 0) : Type 0 where
  pub replica : Replica
  pub disk : F

unfoldable pub after_events : {F : Type 0} → Setting F → List Event → Replica → F → Stood F
after_events s [] r f = record { replica = r; disk = f }
after_events s (e ∷ es) r f = let x = react e s r f in after_events s es x.replica (after_all s f x.script)

-- the slots that they have visited, and some that were seen before
unfoldable pub seen_after : {F : Type 0} → Setting F → List Event → (ℕ → Bool) → Replica → F → (ℕ → Bool)
seen_after s [] seen r f = seen
seen_after s (e ∷ es) seen r f =
    let x = react e s r f in
    seen_after s es (λ slot. seen slot || visited r x.replica slot) x.replica (after_all s f x.script)

-- Each entry of the window that is here, and whose slot was visited, reads: one that doesn't was found lost. On sectors of the program,
-- of a file that takes what the replica writes, whatever comes and whatever the replica does.
abbrev pub VisitsFind : {F : Type 0} → Setting F → (F → Face) → (F → ℕ) → Type 0
VisitsFind s face file =
    (es : List Event) (seen : ℕ → Bool) (r : Replica) (f : _) → IsFace (face f) → version r ≤ latest (file f) → IsSound r → All IsEvent es → AreRead s seen r f
    → AreRead s (seen_after s es seen r f) (after_events s es r f).replica (after_events s es r f).disk
