-- Every step of every replica is a chain of the machine's moves.
use Rattle.std.specs.Prelude.{ℕ, ◌+◌, ◌<◌, ◌≤◌, ◌≡◌, ⊤, true, is_some, List, ◌++◌, length, take}
use Rattle.vr_header.specs.declared.header.Header.{Header}
use Rattle.vr_msg.specs.declared.event.Event.{Event}
use Rattle.vr_msg.specs.declared.event.Event.TheVariants as event
use Rattle.vr_msg.specs.declared.frame.Frame.TheVariants as frame
use Rattle.vr_rules.specs.Replica.{Replica, head, header_at}
use Rattle.vr_rules.specs.Steps.{Effect, Setting, outputs}
use Rattle.vr_super.specs.Copies.{SuperValue}
use Rattle.vr_rules.specs.Rules.{react}
use Rattle.vr_rules.specs.Opening.{blank, mending}
use Rattle.vr_rules.specs.Laws.{IsMessage, HasNames}
use Rattle.vr_world.specs.Group.{carried_out, cut_after, made_in}
use Rattle.law_1_machine.specs.Group.{Group}
use Rattle.law_2_chains.specs.Local.{Local, carried, WhereverCut}
use Rattle.law_2_chains.specs.Chains.{Setup, Every, AsksNothing, Mid, Stopped, WasSent}
use Rattle.law_2_chains.specs.Tables.{Fits, HasTables}
use Rattle.law_2_chains.specs.Choices.{ChainChooses}
use Rattle.law_2_chains.specs.Openings.{MayBegin, Opens, resumed}

-- an event that may come: what is delivered was sent in the machine
abbrev pub MayArrive : Setup → Group Header → Event → Type 0
MayArrive u start (event.Request q) = IsMessage (frame.Request q)
MayArrive u start (event.Deliver m) = IsMessage m × WasSent u start.sent m
MayArrive u start event.Tick = ⊤

-- Member i of the machine's group, one of several, stands for the replica and its disk. Then its step, with whatever it reads, can be carried out in the
-- machine to its end, where all that it put out is true; and so can what is left of it, wherever it is cut. Nothing is made in it but an
-- entry that it then writes first; at the end the replica's tables are true again; and each choose line is of a choice that the machine
-- made in it.
abbrev pub StepsAreChains : Type 0 → Type 0
StepsAreChains F =
    (u : Setup) (start : Group Header) (i : ℕ) (t : Setting F) (r : Replica) (f : F) (l : Local) (e : Event) → Fits u → 2 ≤ u.quorums.n → Mid u start i r l start → HasTables u start i r
    → t.hash ≡ u.hash → r.cluster ≡ u.cluster → HasNames t → (0 < head r → is_some (header_at r (head r)) ≡ true) → Every AsksNothing l.said → MayArrive u start e
    → ChainChooses u start i l e r (react e t r f)

-- From every value as which the superblock of a stopped member may open, with whatever is found that is sound: the opening can be carried
-- out in the machine, in its two parts and wherever it is cut, and at its end the replica's tables are true.
abbrev pub OpeningsAreChains : Type 0 → Type 0
OpeningsAreChains F =
    (u : Setup) (start : Group Header) (i : ℕ) (l : Local) (made : List Header) (v : SuperValue) (t : Setting F) (f : F) → MayBegin u start i l made v t f
    → Opens u start i v l (mending v t (blank v) f) (resumed t f (mending v t (blank v) f))

-- what a script leaves is what the group's moves leave
pub record Leaves (es : List Effect) (l : Local) : Type 0 where
  pub member : (carried es l).member ≡ carried_out es l.member
  pub made : (carried es l).made ≡ l.made ++ made_in es
  pub said : (carried es l).said ≡ l.said ++ outputs es

-- and so is what a cut leaves
pub record CutAt (P : Local → Type 0) (es : List Effect) (l : Local) (n : ℕ) : Type 0 where
  pub left : Local
  pub holds : P left
  pub member : left.member ≡ cut_after n es l.member
  pub made : left.made ≡ l.made ++ made_in (take (n + 1) es)

abbrev pub ScriptsAgree : Type 0
ScriptsAgree =
    ((es : List Effect) (l : Local) → Leaves es l)
    × ((u : Setup) (start : Group Header) (i : ℕ) (es : List Effect) (l : Local) (n : ℕ) → n < length es → WhereverCut (Stopped u start i) es l → CutAt (Stopped u start i) es l n)
