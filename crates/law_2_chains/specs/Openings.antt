-- An opening as a chain of the machine's moves, in its two parts.
use Rattle.std.specs.Prelude.{ℕ, ◌+◌, ◌≡◌, List, Contains, None}
use Rattle.vr_header.specs.declared.header.Header.{Header}
use Rattle.vr_super.specs.Copies.{IsGood, SuperValue}
use Rattle.vr_rules.specs.Replica.{parts_from}
use Rattle.vr_rules.specs.Steps.{Setting, Step, after_all}
use Rattle.vr_rules.specs.Opening.{blank, mending, resuming}
use Rattle.vr_rules.specs.Laws.{ReadsHeaders}
use Rattle.vr_world.specs.Group.{AreSound, MayOpen, keeps_all, kept_at}
use Rattle.law_1_machine.specs.Group.{Group}
use Rattle.law_2_chains.specs.Local.{Local, carried, WhereverCut}
use Rattle.law_2_chains.specs.Reflecting.{IsDisk}
use Rattle.law_2_chains.specs.Chains.{Setup, IsReached, Every, AsksNothing, WasMade, Stopped}
use Rattle.law_2_chains.specs.Tables.{HasTables}
use Rattle.law_2_chains.specs.Finished.{Finishes}

-- Member i of the machine's group is stopped and stands for this member, whose superblock opens as a good value of its
-- own; and on the disk sound Parts are found.
pub record MayBegin {F : Type 0} (u : Setup) (start : Group Header) (i : ℕ) (l : Local) (made : List Header) (v : SuperValue) (t : Setting F) (f : F) : Type 0 where
  pub reached : IsReached u start
  pub disk : IsDisk l.member (start.members i)
  pub still : (start.members i).memory ≡ None
  pub written : Every (WasMade start.made) l.made
  pub value : MayOpen l.member v
  pub good : IsGood v
  pub place : v.fields.replica ≡ i
  pub size : v.fields.n ≡ u.quorums.n
  pub reads : ReadsHeaders t f
  pub sound : AreSound v (kept_at l.member) made (mending v t (blank v) f).replica
  pub were_made : (h : Header) → Contains made h → WasMade start.made h
  pub silent : Every AsksNothing l.said

-- what is found stored is kept from then on
abbrev pub keeping : SuperValue → Step → Local → Local
keeping v x l = record { member = keeps_all (parts_from x.replica (v.fields.checkpoint + 1)) l.member; made = l.made; said = l.said }

-- What is mended can be cut; then what comes of it can be carried out to its end, and cut.
pub record Opens (u : Setup) (start : Group Header) (i : ℕ) (v : SuperValue) (l : Local) (x y : Step) : Type 0 where
  pub mends : WhereverCut (Stopped u start i) x.script l
  pub finishes : Finishes u start i (keeping v x (carried x.script l)) y
  pub tables : HasTables u finishes.after i y.replica

-- the second part of an opening, after the first
abbrev pub resumed : {F : Type 0} → Setting F → F → Step → Step
resumed t f x = resuming t x.replica (after_all t f x.script)
