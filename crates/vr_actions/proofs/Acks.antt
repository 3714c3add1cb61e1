-- Entries that are stored are acknowledged.
use Rattle.std.proofs.Common.{ℕ, ◌≡◌, ◌≤◌, ◌<◌, ◌+◌, ◌-◌, refl, ap, subst, List, ◌++◌, Option, Ok, append-nil}
use Rattle.vr_base.specs.Bytes.{name_of}
use Rattle.vr_disk.specs.DiskState.{Disk, Face}
use Rattle.vr_header.specs.declared.header.Header.{Header}
use Rattle.vr_header.specs.declared.part.Part.{Part}
use Rattle.vr_header.specs.declared.part.Part.TheVariants.{Here, Lost, Wanted, Unknown, Nothing}
use Rattle.vr_header.specs.Made.{IsEntryHeader}
use Rattle.vr_msg.specs.declared.output.Output.{Output}
use Rattle.vr_header.specs.Parts.{header_of}
use Rattle.vr_rules.specs.Replica.{Replica, part_at}
use Rattle.vr_rules.specs.Rules.{acknowledge_stored}
use Rattle.vr_rules.specs.Steps.{Word}
use Rattle.vr_rules.specs.Does.{Does}
use Rattle.vr_rules.proofs.Stepping.{does_by, does_quiet, says_by}
use Rattle.vr_volatile.specs.Ready.{IsReady}
use Rattle.vr_actions.specs.Acks.{ack_of, stored_ack}
use Rattle.vr_actions.specs.Telling.{Tells, each_to}
use Rattle.vr_actions.proofs.Goes.{GoesOver, over_begins, over_goes, over_ends}

-- the header of a stored entry
pub here_entry : (op : ℕ) (h : Header) (r : Replica) → part_at r op ≡ Here h → IsReady r → IsEntryHeader h
unfolding IsReady
here_entry op h r e ready = (ready.sound.entries.each op h (ap header_of e)).1.entry

part_acked : (p : Part) (op : ℕ) (r : Replica) (d : Option Disk) (o o' : List Output) → part_at r op ≡ p → o' ≡ o ++ ack_of p r → Does (acknowledge_stored name_of op) r r d d o o' (Ok tt)
unfolding acknowledge_stored
part_acked (Here h) op r d o o' e i = does_by _ r r d d o o' (Ok tt) (rw e (says_by _ r d o o' i))
part_acked (Lost h) op r d o o' e i = does_by _ r r d d o o' (Ok tt) (rw (e, i, append-nil o) (does_quiet r d o))
part_acked (Wanted h) op r d o o' e i = does_by _ r r d d o o' (Ok tt) (rw (e, i, append-nil o) (does_quiet r d o))
part_acked Unknown op r d o o' e i = does_by _ r r d d o o' (Ok tt) (rw (e, i, append-nil o) (does_quiet r d o))
part_acked Nothing op r d o o' e i = does_by _ r r d d o o' (Ok tt) (rw (e, i, append-nil o) (does_quiet r d o))

-- in the middle of acknowledging the ops above c up to h
pub record Acking (c h i : ℕ) (r : Replica) (o o' : List Output) : Type 0 where
  pub every : (d : Option Disk) → GoesOver (acknowledge_stored name_of) c h i r r d d o o'

pub acking_begins : (c h : ℕ) (r : Replica) (o : List Output) → Acking c h 0 r o o
acking_begins c h r o = record { every = λ d. over_begins (acknowledge_stored name_of) c h r d o }

pub acking_goes : (c h i op : ℕ) (r : Replica) (o o' o'' : List Output) → Acking c h i r o o' → i < h - c → op ≡ c + 1 + i → o'' ≡ o' ++ stored_ack op r → Acking c h (i + 1) r o o''
acking_goes c h i op r o o' o'' g l e k = record {
  every = λ d. over_goes (acknowledge_stored name_of) c h i op r r r d d d o o' o'' (g.every d) l e (part_acked (part_at r op) op r d o' o'' refl k);
}

pub acking_ends : (c h i top : ℕ) (r : Replica) (o o' : List Output) → Acking c h i r o o' → h - c ≤ i → c ≡ r.commit → h ≡ top → Tells (each_to (acknowledge_stored name_of) top) r o o'
acking_ends c h i top r o o' g l b t = record { every = λ d. over_ends (acknowledge_stored name_of) c h i top r r d d o o' (g.every d) l b t }

pub ruleset acks = (acking_begins, acking_goes, acking_ends)

pub told : (w : Word Face) (r : Replica) (d : Option Disk) (o o' : List Output) → Tells w r o o' → Does w r r d d o o' (Ok tt)
told w r d o o' t = t.every d

-- what is told up to a log's head
pub told_to : (w : ℕ → Word Face) (h top : ℕ) (r : Replica) (d : Option Disk) (o o' : List Output) → h ≡ top → Tells (each_to w h) r o o' → Does (each_to w top) r r d d o o' (Ok tt)
told_to w h top r d o o' e t = subst (λ (x : ℕ). Does (each_to w x) r r d d o o' (Ok tt)) e (t.every d)
