-- A group of the host's as a world, and what happens to it.
use Rattle.std.specs.Prelude.{ℕ, ◌+◌, ◌-◌, ◌≡◌, ◌<◌, ◌≤◌, ⊤, List, [], ◌∷◌, ◌++◌, length, map}
use Rattle.std.specs.List.{range_with_len}
use Rattle.vr_world.specs.Lying.{Lying, hazards}
use Rattle.vr_world.specs.World.{Acted, Arrives, Happened, Happening, Host, Ticks, World, at_member, happen}
use Rattle.vr_msg.specs.declared.output.Output.{Output}
use Rattle.vr_msg.specs.declared.output.Output.TheVariants as output
use Rattle.vr_text.specs.Text.{line_text}
use Rattle.vr_embed.specs.Members.{Shows}
use Rattle.vr_embed.specs.Told.{told_by}
use Rattle.vr_embed.specs.declared.group.Group.{Group}
use Rattle.vr_embed.specs.declared.member.Member.{Member}

-- each is the member of its number
abbrev pub ShowAll : List Member → List (Host Lying) → Type 0
ShowAll [] [] = ⊤
ShowAll (m ∷ ms) (h ∷ hs) = Shows m.replica (told_by m.disk) h × ShowAll ms hs
ShowAll _ _ = ⊥

pub record ShowsWorld (g : Group) (w : World Lying) : Type 0 where
  pub n : w.n ≡ 3
  pub members : ShowAll g.members.items w.members
  pub sent : g.link.letters ≡ w.sent

-- they are the members of the world that an act leaves, and what was put out is what the act puts out
pub record ShowActed (h : Happened Lying) (ms : List Member) (out : List Output) : Type 0 where
  pub members : ShowAll ms h.world.members
  pub outputs : out ≡ h.outputs

-- whichever members of a world they were, the one of this number did what that member does; nothing happened where there is none
abbrev pub ActsAt : (ℕ → Host Lying → Acted Lying) → ℕ → List Member → List Member → List Output → Type 0
ActsAt act index old new out = (w : World Lying) → ShowAll old w.members → ShowActed (at_member w index act) new out

-- the lines of all that is put out but letters
abbrev pub told_line : Output → List ℕ
told_line (output.Send letter) = []
told_line o = line_text 0 o

unfoldable pub told_lines : List Output → List ℕ
told_lines [] = []
told_lines (o ∷ os) = told_line o ++ told_lines os

-- it is the world that what happens leaves, and has told what that puts out
pub record HasHappened (h : Happened Lying) (old new : Group) : Type 0 where
  pub world : ShowsWorld new h.world
  pub text : new.text ≡ old.text ++ told_lines h.outputs

-- whichever world it was, this happened to it
abbrev pub Goes : List Happening → Group → Group → Type 0
Goes xs old new = (w : World Lying) → ShowsWorld old w → HasHappened (happen hazards w xs) old new

-- the letters from one number on up to another, in the order in which they were sent
abbrev pub letters : ℕ → ℕ → List Happening
letters from to = map Arrives (range_with_len from (to - from))

abbrev pub ticks : List Happening
ticks = Ticks 0 ∷ Ticks 1 ∷ Ticks 2 ∷ []

-- this happened, and then letters reached their members, from this number on, and those that were sent then: all, or a thousand
pub record GoesOn (xs : List Happening) (kept : ℕ) (old new : Group) : Type 0 where
  pub goes : Goes (xs ++ letters kept new.link.next) old new
  pub least : kept ≤ new.link.next
  pub most : new.link.next ≤ kept + 1000
  pub all : new.link.next < kept + 1000 → length new.link.letters ≤ new.link.next

-- the same after a letter that is lost, if there is one
pub record GoesOnBehind (xs : List Happening) (old new : Group) : Type 0 where
  pub kept : ℕ
  pub least : old.link.next ≤ kept
  pub lost : kept ≤ old.link.next + 1
  pub goes : GoesOn xs kept old new
