-- Copies of the entries that a replica lacks complete it.
use Rattle.std.specs.Prelude.{ℕ, ◌+◌, ◌-◌, ◌^◌, ◌<◌, ◌≤◌, ◌≡◌, ◌≢◌, true, List, [], ◌∷◌, map, filter, Some}
use Rattle.vr_disk.specs.DiskState.{Face, IsFace}
use Rattle.vr_header.specs.declared.header.Header.{Header}
use Rattle.vr_header.specs.declared.part.Part.TheVariants.{Here}
use Rattle.vr_header.specs.Made.{Whole}
use Rattle.vr_msg.specs.declared.event.Event.TheVariants as event
use Rattle.vr_msg.specs.declared.frame.Frame.TheVariants as frame
use Rattle.vr_msg.specs.declared.frame.GivePrepare.{GivePrepare}
use Rattle.vr_msg.specs.Choice.{ops}
use Rattle.vr_rings.specs.Slots.{IsWhole}
use Rattle.vr_rules.specs.Replica.{Replica, header_at, is_absent, last_view, part_at, version}
use Rattle.vr_rules.specs.Rules.{react}
use Rattle.vr_rules.specs.Sound.{IsCaughtUp, IsSound}
use Rattle.vr_rules.specs.Steps.{Setting, after_all}
use Rattle.vr_rules.specs.Words.{entry_of}
use Rattle.law_repair.specs.Latest.{latest}

-- the ops that are committed and not applied, whose entry is known and not here, in order
unfoldable pub absent_ops : Replica → List ℕ
absent_ops r = filter (λ k. is_absent (part_at r k)) (ops r.applied r.commit)

-- a copy of the entry that is named for an op, in a message of the replica's version, from another member of the group
pub record IsCopy (r : Replica) (op : ℕ) (g : GivePrepare) : Type 0 where
  pub entry : IsWhole g.entry
  pub named : header_at r op ≡ Some g.entry.header
  pub version : g.version ≡ version r
  pub member : g.replica < r.n
  pub other : g.replica ≢ r.index

-- copies that are delivered one after the other, and nothing else
unfoldable pub after_copies : {F : Type 0} → Setting F → List GivePrepare → Replica → F → Replica
after_copies s [] r f = r
after_copies s (g ∷ gs) r f =
    let x = react (event.Deliver (frame.GivePrepare g)) s r f in
    after_copies s gs x.replica (after_all s f x.script)

-- each entry that is committed, not applied, and here, reads
abbrev pub AllRead : {F : Type 0} → Setting F → Replica → F → Type 0
AllRead s r f = (k : ℕ) (h : Header) → r.applied < k → k ≤ r.commit → part_at r k ≡ Here h → (e : Whole) × (entry_of h s f ≡ Some e)

-- It lacks nothing but entries, and neither views nor sequence numbers end: each op that is applied saves at most once.
pub record LacksEntries {F : Type 0} (s : Setting F) (r : Replica) (f : F) : Type 0 where
  pub sound : IsSound r
  pub loaded : r.missing ≡ []
  pub reads : AllRead s r f
  pub views : r.view ≤ last_view
  pub room : r.saved.fields.sequence + (r.commit - r.applied) ≤ 2 ^ 64 - 256

-- On sectors of the program, of a file that takes what the replica writes: where a copy comes of each op that it lacks, it has then applied all
-- that was committed.
abbrev pub CopiesComplete : {F : Type 0} → Setting F → (F → Face) → (F → ℕ) → Type 0
CopiesComplete s face file =
    (r : Replica) (f : _) (copy : ℕ → GivePrepare) → IsFace (face f) → version r ≤ latest (file f) → LacksEntries s r f → IsCaughtUp r
    → ((k : ℕ) → r.applied < k → k ≤ r.commit → is_absent (part_at r k) ≡ true → IsCopy r k (copy k))
    → r.commit ≤ (after_copies s (map copy (absent_ops r)) r f).applied
