-- What befalls members of a group keeps one log, and a member is found again on its file.
use Rattle.vr_base.specs.declared.kind.Kind.{Kind}
use Rattle.std.proofs.Common.{ℕ, zero, suc, ◌*◌, ◌^◌, ◌<◌, ◌≤◌, ◌≡◌, arith, refl, sym, ap, ◌∙◌, subst, List, [], length, map, Some}
use Rattle.std.specs.List.{range_with_len}
use Rattle.std.proofs.lemmas.List.FromFn.{get_or-map-range_with_len, length-map-range_with_len}
use Rattle.std.proofs.lemmas.Option.{slice_get_within, slice_get-get_or}
use Rattle.vr_disk.specs.DiskState.{Face, IsFace}
use Rattle.vr_super.specs.Copies.{SuperValue}
use Rattle.vr_super.specs.Opens.{opens}
use Rattle.vr_world.specs.Group.{AreSound, Played, fresh_group, kept_at, recovered}
use Rattle.vr_world.specs.Lying.{Lying, hazards, lying}
use Rattle.vr_rules.specs.Opening.{blank, first_value, fresh, mending}
use Rattle.vr_rules.specs.Sectors.{sectors_by}
use Rattle.vr_rules.specs.Steps.{Mend, Step}
use Rattle.vr_world.specs.World.{Happened, Host, Starts, happen}
use Rattle.law_4_disks.specs.Beside.{AreMade}
use Rattle.law_4_disks.specs.Worlds.{IsMatched, first_host, first_world, left}
use Rattle.law_4_disks.proofs.Fresh.{some_world}
use Rattle.law_4_disks.proofs.Opening.{openings_find}
use Rattle.vr_host_disk.proofs.Versions.{blank_by}
use Rattle.vr_host_disk.proofs.Words.{Alike, a_does, a_parts, a_then}
use Rattle.law_6_one_log.specs.ScheduleLaws.{LeavesUnforged}
use Rattle.law_6_one_log.specs.Schedules.{room}
use Rattle.law_6_one_log.proofs.Fresh.{worlds_are_runs}
use Rattle.law_6_one_log.proofs.UnforgedLines.{line_unforged}
use Rattle.law_6_one_log.specs.Laws.{KeepsLog}
use Rattle.law_6_one_log.proofs.Known.{one_log}
use Rattle.law_6_one_log.proofs.Traces.{keeps_log}
use Rattle.law_7_members.specs.Deeds.{opened_on}
use Rattle.law_7_members.specs.Files.{all_lines}
use Rattle.law_7_members.specs.Laws.{AreFound, MembersAreFound, NodesAreFound, NodesKeepOneLog}
use Rattle.law_7_members.proofs.Files.{AllRunOn, RunsOn, scheduled, some_runs}
use Rattle.law_7_members.proofs.Values.{opens_value}

-- ---- found again

a_mending : (v : SuperValue) → Alike (mending v) (mending v)
a_mending v = a_then (a_does (λ r. Mend v)) (a_parts v)

-- what is found depends on the sectors and on the version of their file alone
same_found : (v : SuperValue) (a b : Lying) → a.version ≡ b.version → a.face ≡ b.face → recovered v a ≡ recovered v b
same_found v a b n e =
    let faces = ap (λ (f : Face). mending v (sectors_by a.version) (blank v) f) e ∙ ap (λ k. mending v (sectors_by k) (blank v) b.face) n in
    ap (λ (s : Step). s.replica) ((a_mending v).each (blank v) a ∙ (faces ∙ sym ((a_mending v).each (blank v) b)))

pub members_are_found : MembersAreFound
members_are_found cluster w g u few at m d there stopped tells =
    let made = u.few in
    let low : length u.bridged.machine.made < room cluster = omega (arith, made, few) in
    let y = u.beside.each at m there in
    let q = y.0 in
    let o = y.2.stopped stopped in
    let v = o.0 in
    let off = o.1 in
    let unforged : AreMade g.made v (lying.after m.disk (Mend v)) = line_unforged w g u.beside u.fit u.stock u.bridged low u.sealed (Starts at) m v there stopped off.value in
    let f = openings_find m.disk q v g.made off unforged in
    record {
      member = q;
      value = v;
      there = y.1;
      stopped = y.2.replica ∙ stopped;
      may = record {
        face = subst IsFace (sym tells) off.calm.face;
        value = opens_value d.face v (ap opens tells ∙ off.value);
        may = off.may;
        sound = subst (AreSound v (kept_at q) g.made) (same_found v m.disk (opened_on v d) off.file (sym tells)) f.sound;
      };
    }

-- ---- one log

-- one that was just made runs on a file of its version
pub fresh_runs : (kind : Kind) (cluster n i : ℕ) (file : Lying) → file.version ≡ kind.version → RunsOn (Some (fresh kind cluster n i)) file
fresh_runs kind cluster n i file of = some_runs (fresh kind cluster n i) file (blank_by kind.version (first_value kind cluster n i) refl ∙ sym of)

first_run : (kinds : ℕ → Kind) (cluster n : ℕ) → AllRunOn (first_world kinds cluster n)
unfolding first_world
first_run kinds cluster n i m e =
    let f : ℕ → Host Lying = first_host kinds cluster n in
    let size = length-map-range_with_len f 0 n in
    let within = slice_get_within (map f (range_with_len 0 n)) i m e in
    let l : i < n = omega (arith, size, within) in
    let is : m ≡ f i = some_world m (f i) (sym e ∙ (slice_get-get_or (map f (range_with_len 0 n)) i m within ∙ ap Some (get_or-map-range_with_len f 0 n i i m l (omega arith)))) in
    subst (λ (h : Host Lying). RunsOn h.replica h.disk) (sym is) (fresh_runs (kinds i) cluster n i (f i).disk refl)

pub few_lines : (cluster n k : ℕ) → k < 2 ^ 46 → n ≤ 2 * k → n < room cluster
few_lines zero n k l m = omega (arith, l, m)
few_lines (suc cluster) n k l m = omega (arith, l, m)

pub nodes_keep_one_log : NodesKeepOneLog
nodes_keep_one_log kinds cluster n xs h are number few many short work never =
    let w = first_world kinds cluster n in
    let s = scheduled cluster w xs h (first_run kinds cluster n) work in
    let m = worlds_are_runs kinds cluster n (all_lines xs) are number few many (few_lines cluster (length (all_lines xs)) (length xs) short s.few) s.lines never in
    subst (KeepsLog kinds cluster n) s.is (keeps_log kinds cluster n are number few many (one_log cluster n) (happen hazards w (all_lines xs)) m.0 m.1)

-- what happened, as a run of the group, leaves no file forged
found_of : (kinds : ℕ → Kind) (cluster n bound : ℕ) (h : Happened Lying) (m : IsMatched (fresh_group kinds cluster n) h) → LeavesUnforged cluster h.world (fresh_group kinds cluster n) [] m.run → length m.run ≤ bound → bound < room cluster → AreFound kinds cluster n h
found_of kinds cluster n bound h m u size few =
    let led = ap (λ (ps : List Played). length ps) u.led in
    record { matched = m; each = members_are_found cluster h.world (left (fresh_group kinds cluster n) m.run) u.unforged (omega (arith, led, size, few)) }

pub nodes_are_found : NodesAreFound
nodes_are_found kinds cluster n xs h are number few many short work never =
    let w = first_world kinds cluster n in
    let s = scheduled cluster w xs h (first_run kinds cluster n) work in
    let room_left = few_lines cluster (length (all_lines xs)) (length xs) short s.few in
    let m = worlds_are_runs kinds cluster n (all_lines xs) are number few many room_left s.lines never in
    subst (AreFound kinds cluster n) s.is (found_of kinds cluster n (length (all_lines xs)) (happen hazards w (all_lines xs)) m.0 m.2 m.3 room_left)
