-- Each file that members leave opens as a value of its version.
use Rattle.std.proofs.Common.{◌≡◌, refl, sym, ap, ◌∙◌, subst, length, Option, Some, None}
use Rattle.vr_super.specs.Copies.{SuperValue}
use Rattle.vr_super.specs.Opens.{opens}
use Rattle.vr_rules.specs.Replica.{Replica}
use Rattle.vr_world.specs.Group.{Member, fresh_group}
use Rattle.vr_world.specs.Lying.{Lying}
use Rattle.vr_world.specs.World.{Happened, Host}
use Rattle.law_4_disks.specs.Worlds.{AreBeside, Stands, left}
use Rattle.law_7_members.specs.Deeds.{config_at}
use Rattle.law_7_members.specs.Ends.{OpensAsOwn}
use Rattle.law_7_members.specs.Files.{all_lines}
use Rattle.law_7_members.specs.Left.{FilesOpenAsOwn, NextMigrationsAreActs, NextRunsAreActs}
use Rattle.law_7_members.specs.Whole.{world_of}
use Rattle.law_7_members.proofs.Begun.{begin_new, begun_happen, begun_run}
use Rattle.law_7_members.proofs.Files.{scheduled}
use Rattle.law_7_members.proofs.Halting.{migrations_are_acts}
use Rattle.law_7_members.proofs.Keeping.{few_lines}
use Rattle.law_7_members.proofs.Running.{node_runs_are_acts}

-- one that opens as this value of its version opens as no other
own_value : (file : Lying) (v : SuperValue) → opens file.face ≡ Some v → file.version ≡ v.fields.version → OpensAsOwn file
own_value file v is of u opened = let same : v ≡ u = some_value v u (sym is ∙ opened) in sym (of ∙ ap (λ (x : SuperValue). x.fields.version) same) where
  some_value : (a b : SuperValue) → Some a ≡ Some b → a ≡ b
  some_value a b e = cc

-- so does the file of a member beside the group's, while it runs and while it is stopped
stands_own : (m : Host Lying) (q : Member) → Stands m q → OpensAsOwn m.disk
stands_own m q s = by m.replica refl where
  by : (o : Option Replica) → m.replica ≡ o → OpensAsOwn m.disk
  by (Some r) e = let on = (s.running r e).0 in own_value m.disk q.last on.value on.file
  by None e = let off = s.stopped e in own_value m.disk off.0 off.1.value off.1.file

pub files_open_as_own : FilesOpenAsOwn
files_open_as_own kinds cluster n first xs at file l =
    let new = begin_new kinds cluster n first xs l.are l.number l.few l.many l.runs in
    let w = world_of first n in
    let s = scheduled cluster w xs l.work.left (begun_run kinds cluster n first new l.are l.number l.few l.many) l.work.work in
    let room_left = few_lines cluster (length (all_lines xs)) (length xs) l.short s.few in
    let m = begun_happen kinds cluster n first new l.are l.number l.few l.many (all_lines xs) room_left s.lines l.names in
    let beside = subst (λ (h : Happened Lying). AreBeside h.world (left (fresh_group kinds cluster n) m.0.run)) s.is m.2.unforged.beside in
    let y = beside.each at l.member l.there in
    subst OpensAsOwn l.is (stands_own l.member y.0 y.2)

pub next_runs_are_acts : NextRunsAreActs
next_runs_are_acts kinds cluster n first xs at file l name peers turns o o' before now s tells ends =
    node_runs_are_acts (config_at cluster n at) name peers turns o o' before now s file tells (files_open_as_own kinds cluster n first xs at file l) ends

pub next_migrations_are_acts : NextMigrationsAreActs
next_migrations_are_acts kinds cluster n first xs at file l name d d' s tells ends =
    migrations_are_acts (config_at cluster n at) name file d d' s tells (files_open_as_own kinds cluster n first xs at file l) ends
