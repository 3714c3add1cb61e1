-- What befalls a member is a line or two of a schedule.
use Rattle.std.proofs.Common.{ℕ, zero, suc, ◌+◌, ◌-◌, ◌*◌, ◌%◌, ◌<◌, ◌≤◌, ◌≡◌, arith, refl, sym, ap, ◌∙◌, subst, Bool, true, false, cond, inl, inr, List, [], ◌∷◌, ◌++◌, length, set, Option, Some, None}
use Rattle.std.specs.Prelude.{slice_get, Ok}
use Rattle.std.specs.List.{AllByRecursion}
use Rattle.std.specs.Option.{option_and_then, option_map, option_map_or}
use Rattle.std.proofs.lemmas.Bool.{cases_eq, eq-eqb, lt-leb}
use Rattle.std.proofs.lemmas.List.{append-nil, append_assoc, length-append}
use Rattle.std.proofs.lemmas.Nat.{mod-mul-add}
use Rattle.std.proofs.lemmas.Option.{slice_get_within}
use Rattle.vr_base.specs.declared.table.Config.{Config}
use Rattle.vr_disk.specs.DiskState.{Disk, Face, Fuse}
use Rattle.vr_msg.specs.declared.event.Event.{Event}
use Rattle.vr_msg.specs.declared.event.Event.TheVariants as event
use Rattle.vr_msg.specs.declared.output.Output.{Output}
use Rattle.vr_msg.specs.declared.output.Output.TheVariants as output
use Rattle.vr_msg.specs.declared.output.Sent.{Sent}
use Rattle.vr_super.specs.Copies.{SuperValue}
use Rattle.vr_world.specs.Group.{Arrival, Asked, Message, Time, opening_script, resumed}
use Rattle.vr_world.specs.Lying.{Lying, after_calls, cut_calls, hazards, keeps_premise, lied_to, lying, settled, unless_kept_out}
use Rattle.vr_rules.specs.Opening.{blank, opened, opening}
use Rattle.vr_rules.specs.Replica.{Replica, version}
use Rattle.vr_rules.specs.Rules.{react}
use Rattle.vr_rules.specs.Sectors.{script_calls, sectors_by}
use Rattle.vr_rules.specs.Steps.{Step, after_all, outputs}
use Rattle.vr_world.specs.World as world
use Rattle.vr_world.specs.World.{Acted, Happened, Happening, Host, World, Fuses, Lies, Migrates, Starts, Stops, acts, at_member, delivered, handles, happen, happens, if_first, lied, migrated_or_halted, migrates, movable, nothing, starts, stays, stops, with_member}
use Rattle.vr_rules.specs.Migrating.{migration_calls}
use Rattle.vr_rules.specs.Outputs.{messages}
use Rattle.vr_lie.specs.declared.fault.Fault.{Fault}
use Rattle.vr_lie.specs.Faults.{faulted}
use Rattle.vr_world.proofs.FitLies.{same_version}
use Rattle.law_4_disks.specs.Worlds.{IsLine}
use Rattle.law_4_disks.proofs.Lines.{other_place, own_place, some_member}
use Rattle.law_4_disks.proofs.Starts.{opening_is}
use Rattle.vr_host_disk.proofs.Rules.{a_react}
use Rattle.vr_host_disk.proofs.Versions.{blank_by, opens_by}
use Rattle.vr_host_disk.proofs.Words.{a_opening}
use Rattle.vr_serve.specs.Runs.{Did}
use Rattle.vr_rules.specs.Does.{Does, LeftBy}
use Rattle.vr_node.specs.Opening.{Opens}
use Rattle.vr_node.specs.Steps.{steps}
use Rattle.vr_node.specs.declared.node.Node.{Node}
use Rattle.law_7_members.specs.Deeds.{config_at}
use Rattle.law_7_members.specs.Files as files
use Rattle.law_7_members.specs.Files.{Act, ActBy, AtWork, Becomes, Befalls, Brings, Comes, all_lines, cut_in, file_after, left_at, line_of, lines_of, on_file, puts_out}
use Rattle.law_7_members.proofs.Values.{same_value}

-- ---- lines one after the other

pub happen_both : (xs ys : List Happening) (w : World Lying) → happen hazards w (xs ++ ys) ≡ world.later (happen hazards w xs).outputs (happen hazards (happen hazards w xs).world ys)
unfolding happen
happen_both [] ys w = refl
happen_both (x ∷ xs) ys w =
    let one = happens hazards w x in
    let first = happen hazards one.world xs in
    let rest = happen hazards first.world ys in
    ap (world.later one.outputs) (happen_both xs ys one.world) ∙ ap (λ (os : List Output). let y : Happened Lying = record { world = rest.world; outputs = os } in y) (sym (append_assoc one.outputs first.outputs rest.outputs))

one_line : (w : World Lying) (x : Happening) (h : Happened Lying) → happens hazards w x ≡ h → happen hazards w (x ∷ []) ≡ h
unfolding happen
one_line w x h e = ap (λ (y : Happened Lying). let z : Happened Lying = record { world = y.world; outputs = y.outputs ++ [] } in z) e ∙ ap (λ (os : List Output). let z : Happened Lying = record { world = h.world; outputs = os } in z) (append-nil h.outputs)

two_lines : (w v : World Lying) (x y : Happening) (h : Happened Lying) → happens hazards w x ≡ nothing v → happens hazards v y ≡ h → happen hazards w (x ∷ y ∷ []) ≡ h
unfolding happen
two_lines w v x y h e k = ap (λ (z : Happened Lying). world.later z.outputs (happen hazards z.world (y ∷ []))) e ∙ one_line v y h k

-- ---- at a member

module _ (w : World Lying) (at : ℕ) (m : Host Lying) (there : slice_get w.members at ≡ Some m) where
  at_one : (act : ℕ → Host Lying → Acted Lying) (a : Acted Lying) → act at m ≡ a → at_member w at act ≡ with_member w at a
  unfolding at_member
  at_one act a e = ap (λ (o : Option (Host Lying)). option_map_or (λ m. with_member w at (act at m)) o (nothing w)) there ∙ ap (λ (a : Acted Lying). with_member w at a) e

  -- it is left with a fuse
  abbrev fused : ℕ → ℕ → Host Lying
  fused made code = record { replica = m.replica; disk = m.disk; fuse = Some (record { calls = made; code = code }) }

  abbrev with_fuse : ℕ → ℕ → World Lying
  with_fuse made code = record { n = w.n; members = set w.members at (fused made code); sent = w.sent }

  fuse_line : (made code : ℕ) → happens hazards w (Fuses at made code) ≡ nothing (with_fuse made code)
  unfolding messages
  fuse_line made code =
      at_one (world.fused made code) (stays (fused made code)) refl
      ∙ ap (λ (s : List Sent). let v : World Lying = record { n = w.n; members = set w.members at (fused made code); sent = s } in nothing v) (append-nil w.sent)

set_again : {X : Type 0} (xs : List X) (i : ℕ) (x y : X) → set (set xs i x) i y ≡ set xs i y
set_again [] i x y = refl
set_again (z ∷ xs) zero x y = refl
set_again (z ∷ xs) (suc i) x y = ap (λ zs. z ∷ zs) (set_again xs i x y)

-- ---- an event that comes

small_mod : (a n : ℕ) → a < n → a % n ≡ a
small_mod a n l = let e : a ≡ 0 * n + a = omega arith in ap (λ (k : ℕ). k % n) e ∙ mod-mul-add 0 n a l

arrived : (w : World Lying) (number : ℕ) (s : Sent) → slice_get w.sent number ≡ Some s → happens hazards w (world.Arrives number) ≡ at_member w s.to (handles hazards (event.Deliver s.message))
arrived w number s e =
    let within = slice_get_within w.sent number s e in
    ap (λ (k : ℕ). delivered hazards w (slice_get w.sent k)) (small_mod number (length w.sent) within) ∙ ap (λ (o : Option Sent). delivered hazards w o) e

event_line : (w : World Lying) (at : ℕ) (arrival : Arrival) (e : Event) → Comes w.sent at arrival e → happens hazards w (line_of arrival at) ≡ at_member w at (handles hazards e)
event_line w at (Asked q) e c = ap (λ (e : Event). at_member w at (handles hazards e)) (sym c.2)
event_line w at (Message number) e c =
    arrived w number c.0 c.1 ∙ (ap (λ (i : ℕ). at_member w i (handles hazards (event.Deliver c.0.message))) c.2 ∙ ap (λ (e : Event). at_member w at (handles hazards e)) (sym c.3))
event_line w at Time e c = ap (λ (e : Event). at_member w at (handles hazards e)) (sym c)

event_is_line : (sent : List Sent) (at : ℕ) (arrival : Arrival) (e : Event) → Comes sent at arrival e → IsLine (line_of arrival at)
event_is_line sent at (Asked q) e c = (c.0, c.1)
event_is_line sent at (Message number) e c = tt
event_is_line sent at Time e c = tt

-- ---- work that is done, and work that is cut

acts_cut : (at made code : ℕ) (o : Option Replica) (file : Lying) (s : Step) → made < length (script_calls file.version s.script file.face)
    → (let m : Host Lying = record { replica = o; disk = file; fuse = Some (record { calls = made; code = code }) } in acts hazards at m s ≡ record { member = on_file None (cut_in file s.script made code); outputs = output.Halted at ∷ [] })
acts_cut at made code o file s l =
    let u : Fuse = record { calls = made; code = code } in
    let m : Host Lying = record { replica = o; disk = file; fuse = Some u } in
    let rest : Fuse = record { calls = made - length (script_calls file.version s.script file.face); code = code } in
    ap (λ (t : Bool). cond t (world.went hazards m s (Some rest)) (world.halted hazards at m s u)) (lt-leb (length (script_calls file.version s.script file.face)) made l)

-- the opening of a file that opens as a value
abbrev pub whole : SuperValue → Lying → Step
whole v file = record { replica = (resumed v file).replica; script = opening_script v file }

opened_is : (v : SuperValue) (file : Lying) → (sectors_by file.version).opens file.face ≡ Some v → opened lying file ≡ Some (whole v file)
unfolding opened
opened_is v file o =
    let is : lying.opens file ≡ Some v = o in
    ap (option_map (λ (v : SuperValue). opening v lying (blank v) file)) is ∙ ap Some (opening_is v file)

starts_as : (at : ℕ) (fuse : Option Fuse) (file : Lying) (v : SuperValue) (a : Acted Lying) → (sectors_by file.version).opens file.face ≡ Some v
    → (let h : Host Lying = record { replica = None; disk = file; fuse = fuse } in acts hazards at h (whole v file) ≡ a → starts hazards at h ≡ a)
starts_as at fuse file v a o e =
    let h : Host Lying = record { replica = None; disk = file; fuse = fuse } in
    ap (λ (x : Option Step). option_map_or (acts hazards at h) x (stays h)) (opened_is v file o) ∙ e

module _ (w : World Lying) (at : ℕ) (o : Option Replica) (file : Lying) (there : slice_get w.members at ≡ Some (on_file o file)) where
  cut_left : (made code : ℕ) (left : Lying) → with_member (with_fuse w at (on_file o file) there made code) at (record { member = on_file None left; outputs = output.Halted at ∷ [] })
      ≡ left_at w at None left (output.Halted at ∷ [])
  cut_left made code left =
      let a : Host Lying = on_file None left in
      let os : List Output = output.Halted at ∷ [] in
      ap (λ (xs : List (Host Lying)). let h : Happened Lying = record { world = record { n = w.n; members = xs; sent = w.sent ++ messages os }; outputs = os } in h) (set_again w.members at (fused w at (on_file o file) there made code) a)

  -- two lines: a fuse, and what it cuts
  cut_lines : (made code : ℕ) (left : Lying) (y : Happening) (act : ℕ → Host Lying → Acted Lying) → happens hazards (with_fuse w at (on_file o file) there made code) y ≡ at_member (with_fuse w at (on_file o file) there made code) at act
      → act at (fused w at (on_file o file) there made code) ≡ record { member = on_file None left; outputs = output.Halted at ∷ [] }
      → happen hazards w (Fuses at made code ∷ y ∷ []) ≡ left_at w at None left (output.Halted at ∷ [])
  cut_lines made code left y act line acted =
      let v = with_fuse w at (on_file o file) there made code in
      let f = fused w at (on_file o file) there made code in
      let here : slice_get v.members at ≡ Some f = own_place w.members at (on_file o file) f there in
      two_lines w v (Fuses at made code) y _ (fuse_line w at (on_file o file) there made code) (line ∙ (at_one v at f here act _ acted ∙ cut_left made code left))

-- an event is handled
handled_told : (w : World Lying) (at : ℕ) (file : Lying) (e : Event) (d : Disk) (did : Did Node) (node : Node) → slice_get w.members at ≡ Some (on_file (Some node.replica.memory) file) → version node.replica.memory ≡ file.version → d.face ≡ file.face → steps node (Some d) e did.outputs did.after did.disk
    → at_member w at (handles hazards e) ≡ left_at w at (Some did.after.replica.memory) (file_after file node.replica.memory e) did.outputs
handled_told w at file e d did node there own tells does =
    let r = node.replica.memory in
    let left : LeftBy file.version (react e (sectors_by file.version) r d.face) did.after.replica.memory d did.disk [] did.outputs (Ok tt) =
    subst (λ n. LeftBy n (react e (sectors_by n) r d.face) did.after.replica.memory d did.disk [] did.outputs (Ok tt)) own (does.1.told d refl) in
    let y : Step = react e (sectors_by file.version) r file.face in
    let same : react e lying r file ≡ y = (a_react e).each r file in
    let from : react e (sectors_by file.version) r d.face ≡ y = ap (react e (sectors_by file.version) r) tells in
    let replica_is : y.replica ≡ did.after.replica.memory = sym (left.0 ∙ ap (λ (s : Step). s.replica) from) in
    let outputs_is : outputs y.script ≡ did.outputs = sym (left.1 ∙ ap (λ (s : Step). outputs s.script) from) in
    at_one w at (on_file (Some r) file) there (handles hazards e) _ refl
    ∙ (ap (λ (s : Step). left_at w at (Some s.replica) (after_all lying file s.script) (outputs s.script)) same
    ∙ (ap (λ (q : Replica). left_at w at (Some q) (after_all lying file y.script) (outputs y.script)) replica_is
    ∙ ap (left_at w at (Some did.after.replica.memory) (after_all lying file y.script)) outputs_is))

-- a member is found again
found_told : (c : Config) (w : World Lying) (at : ℕ) (file : Lying) (v : SuperValue) (d : Disk) (after : Option Disk) (first : List Output) (r : Replica) → slice_get w.members at ≡ Some (on_file None file) → d.face ≡ file.face → (sectors_by file.version).opens d.face ≡ Some v → Opens None c (Some d) after first r
    → at_member w at (starts hazards) ≡ left_at w at (Some r) (after_all lying file (opening_script v file)) first
found_told c w at file v d after first r there tells o opens_as =
    let n = file.version in
    let is = same_value n d.face v opens_as.value o opens_as.opens in
    let left : LeftBy n (opening v (sectors_by n) (blank v) d.face) r d after [] first (Ok tt) =
    subst (λ n. LeftBy n (opening v (sectors_by n) (blank v) d.face) r d after [] first (Ok tt)) (blank_by n v (opens_by n d.face v o))
    ((subst (λ (u : SuperValue). Does (opening u) (blank u) r (Some d) after [] first (Ok tt)) (sym is) opens_as.step).told d refl) in
    let same : opening v (sectors_by n) (blank v) d.face ≡ whole v file = ap (opening v (sectors_by n) (blank v)) tells ∙ (sym ((a_opening v).each (blank v) file) ∙ opening_is v file) in
    let there_after = after_all lying file (opening_script v file) in
    let replica_is : (whole v file).replica ≡ r = sym (left.0 ∙ ap (λ (z : Step). z.replica) same) in
    let first_is : outputs (opening_script v file) ≡ first = sym (left.1 ∙ ap (λ (z : Step). outputs z.script) same) in
    at_one w at (on_file None file) there (starts hazards) _ (starts_as at None file v _ (sym (ap (λ (f : Face). (sectors_by file.version).opens f) tells) ∙ o) refl)
    ∙ (ap (λ (q : Replica). left_at w at (Some q) there_after (outputs (opening_script v file))) replica_is ∙ ap (left_at w at (Some r) there_after) first_is)

-- a file of version 1 is migrated
movable_is : (fuse : Option Fuse) (file : Lying) (v : SuperValue) → (sectors_by file.version).opens file.face ≡ Some v → v.fields.version ≡ 1 → movable hazards (record { replica = None; disk = file; fuse = fuse }) ≡ Some v
movable_is fuse file v o first = ap (option_and_then if_first) o ∙ ap (λ (t : Bool). cond t (Some v) None) (eq-eqb v.fields.version 1 first)

moves_as : (at : ℕ) (fuse : Option Fuse) (file : Lying) (v : SuperValue) (a : Acted Lying) → (sectors_by file.version).opens file.face ≡ Some v → v.fields.version ≡ 1
    → (let h : Host Lying = record { replica = None; disk = file; fuse = fuse } in migrated_or_halted hazards at h v fuse ≡ a → migrates hazards at h ≡ a)
moves_as at fuse file v a o first e =
    let h : Host Lying = record { replica = None; disk = file; fuse = fuse } in
    ap (λ (x : Option SuperValue). option_map_or (λ v. migrated_or_halted hazards at h v fuse) x (stays h)) (movable_is fuse file v o first) ∙ e

move_is_cut : (at made code : ℕ) (file : Lying) (v : SuperValue) → made < length (migration_calls v file.face)
    → (let u : Fuse = record { calls = made; code = code } in let m : Host Lying = record { replica = None; disk = file; fuse = Some u } in
    migrated_or_halted hazards at m v (Some u) ≡ record { member = on_file None (settled (cut_calls made code file (migration_calls v file.face))); outputs = output.Halted at ∷ [] })
move_is_cut at made code file v l =
    let u : Fuse = record { calls = made; code = code } in
    let m : Host Lying = record { replica = None; disk = file; fuse = Some u } in
    let rest : Fuse = record { calls = made - length (migration_calls v file.face); code = code } in
    ap (λ (t : Bool). cond t (world.migrated_with hazards at m v (Some rest)) (world.migration_halted hazards at m v u)) (lt-leb (length (migration_calls v file.face)) made l)

-- ---- what befalls a member

-- a replica runs on a file of its version
abbrev pub RunsOn : Option Replica → Lying → Type 0
RunsOn o file = (r : Replica) → o ≡ Some r → version r ≡ file.version

becomes_lines : (c : Config) (w : World Lying) (at : ℕ) (act : Act) (o : Option Replica) (file : Lying) (next : Option Replica) (left : Lying) → slice_get w.members at ≡ Some (on_file o file) → RunsOn o file → Brings w.sent at act → Becomes c o file act next left
    → happen hazards w (lines_of at act) ≡ left_at w at next left (puts_out at act)
becomes_lines c w at _ _ _ _ _ there own comes (files.handles file arrival did node d tells does) =
    one_line w (line_of arrival at) _ (event_line w at arrival did.come.event comes ∙ handled_told w at file did.come.event d did node there (own node.replica.memory refl) tells does)
becomes_lines c w at _ _ _ _ _ there own comes (files.breaks file arrival e made code r within) =
    let y : Step = react e (sectors_by file.version) r file.face in
    let v = with_fuse w at (on_file (Some r) file) there made code in
    let f = fused w at (on_file (Some r) file) there made code in
    let same : react e lying r file ≡ y = (a_react e).each r file in
    cut_lines w at (Some r) file there made code (cut_in file y.script made code) (line_of arrival at) (handles hazards e) (event_line v at arrival e comes) (ap (λ (s : Step). acts hazards at f s) same ∙ acts_cut at made code (Some r) file y within)
becomes_lines c w at _ _ _ _ _ there own comes (files.ends file o) = one_line w (Stops at) _ (at_one w at (on_file o file) there stops _ refl)
becomes_lines c w at _ _ _ _ _ there own comes (files.finds file d v after first r tells o opened) = one_line w (Starts at) _ (found_told c w at file v d after first r there tells o opened)
becomes_lines c w at _ _ _ _ _ there own comes (files.half_finds file v made code o within) =
    let f = fused w at (on_file None file) there made code in
    cut_lines w at None file there made code (cut_in file (opening_script v file) made code) (Starts at) (starts hazards) refl (starts_as at f.fuse file v _ o (acts_cut at made code None file (whole v file) within))
becomes_lines c w at _ _ _ _ _ there own comes (files.moves file v o first) = one_line w (Migrates at) _ (at_one w at (on_file None file) there (migrates hazards) _ (moves_as at None file v _ o first refl))
becomes_lines c w at _ _ _ _ _ there own comes (files.half_moves file v made code o first within) =
    let f = fused w at (on_file None file) there made code in
    cut_lines w at None file there made code (settled (cut_calls made code file (migration_calls v file.face))) (Migrates at) (migrates hazards) refl (moves_as at f.fuse file v _ o first (move_is_cut at made code file v within))
becomes_lines c w at _ _ _ _ _ there own comes (files.decays file o fault left within keeps) = one_line w (Lies at fault) _ (at_one w at (on_file o file) there (world.lies hazards fault) _ (ap (λ (x : Option Lying). lied (on_file o file) x) keeps))

becomes_are_lines : (c : Config) (sent : List Sent) (at : ℕ) (act : Act) (o : Option Replica) (file : Lying) (next : Option Replica) (left : Lying) → Brings sent at act → Becomes c o file act next left
    → AllByRecursion IsLine (lines_of at act) × (length (lines_of at act) ≤ 2)
becomes_are_lines c sent at _ _ _ _ _ comes (files.handles file arrival did node d tells does) = ((event_is_line sent at arrival did.come.event comes, tt), omega arith)
becomes_are_lines c sent at _ _ _ _ _ comes (files.breaks file arrival e made code r within) = ((tt, (event_is_line sent at arrival e comes, tt)), omega arith)
becomes_are_lines c sent at _ _ _ _ _ comes (files.ends file o) = ((tt, tt), omega arith)
becomes_are_lines c sent at _ _ _ _ _ comes (files.finds file d v after first r tells o opened) = ((tt, tt), omega arith)
becomes_are_lines c sent at _ _ _ _ _ comes (files.half_finds file v made code o within) = ((tt, (tt, tt)), omega arith)
becomes_are_lines c sent at _ _ _ _ _ comes (files.moves file v o first) = ((tt, tt), omega arith)
becomes_are_lines c sent at _ _ _ _ _ comes (files.half_moves file v made code o first within) = ((tt, (tt, tt)), omega arith)
becomes_are_lines c sent at _ _ _ _ _ comes (files.decays file o fault left within keeps) = ((within, tt), omega arith)

-- ---- replicas go on running on files of their versions

-- a fault changes no version of a file
lied_version : (file left : Lying) (fault : Fault) → unless_kept_out file fault ≡ Some left → left.version ≡ file.version
unfolding unless_kept_out
lied_version file left fault e =
    let x : Lying = lied_to file (faulted file.face fault) in
    elim (keeps_premise file (faulted file.face fault)) as (λ t. cond t (Some x) None ≡ Some left → left.version ≡ file.version) [
      | true ↦ λ e. (let same : x ≡ left = cc in ap (λ (y : Lying). y.version) (sym same))
      | false ↦ λ e. absurd cc
    ] e

pub none_runs : (file : Lying) → RunsOn None file
none_runs file r e = absurd cc

pub some_runs : (q : Replica) (file : Lying) → version q ≡ file.version → RunsOn (Some q) file
some_runs q file own r e = let same : q ≡ r = cc in subst (λ (x : Replica). version x ≡ file.version) same own

-- one that is opened is of the version of its file
pub opened_runs : (c : Config) (file : Lying) (d : Disk) (v : SuperValue) (after : Option Disk) (first : List Output) (r : Replica) → (sectors_by file.version).opens d.face ≡ Some v → Opens None c (Some d) after first r → version r ≡ file.version
opened_runs c file d v after first r o opened =
    let of = opens_by file.version d.face v o in
    let is = same_value file.version d.face v opened.value o opened.opens in
    opened.step.same refl ∙ blank_by file.version opened.value (ap (λ (x : SuperValue). x.fields.version) (sym is) ∙ of)

pub runs_on : (c : Config) (act : Act) (o : Option Replica) (file : Lying) (next : Option Replica) (left : Lying) → RunsOn o file → Becomes c o file act next left → RunsOn next left
runs_on c _ _ _ _ _ own (files.handles file arrival did node d tells does) =
    some_runs did.after.replica.memory (file_after file node.replica.memory did.come.event)
    (does.1.same refl ∙ own node.replica.memory refl ∙ sym (same_version (react did.come.event (sectors_by file.version) node.replica.memory file.face).script file))
runs_on c _ _ _ _ _ own (files.breaks file arrival e made code r within) = none_runs (cut_in file (react e (sectors_by file.version) r file.face).script made code)
runs_on c _ _ _ _ _ own (files.ends file o) = none_runs file
runs_on c _ _ _ _ _ own (files.finds file d v after first r tells o opened) =
    some_runs r (after_all lying file (opening_script v file)) (opened_runs c file d v after first r o opened ∙ sym (same_version (opening_script v file) file))
runs_on c _ _ _ _ _ own (files.half_finds file v made code o within) = none_runs (cut_in file (opening_script v file) made code)
runs_on c _ _ _ _ _ own (files.moves file v o first) = none_runs (settled (after_calls file (migration_calls v file.face)))
runs_on c _ _ _ _ _ own (files.half_moves file v made code o first within) = none_runs (settled (cut_calls made code file (migration_calls v file.face)))
runs_on c _ _ _ _ _ own (files.decays file o fault left within keeps) = λ r e. own r e ∙ sym (lied_version file left fault keeps)

abbrev pub AllRunOn : World Lying → Type 0
AllRunOn w = (i : ℕ) (m : Host Lying) → slice_get w.members i ≡ Some m → RunsOn m.replica m.disk

all_next : (w : World Lying) (at : ℕ) (m : Host Lying) (next : Option Replica) (left : Lying) (os : List Output) → slice_get w.members at ≡ Some m → RunsOn next left → AllRunOn w → AllRunOn (left_at w at next left os).world
all_next w at m next left os there own all i x e =
    let a : Host Lying = on_file next left in
    elim (cases_eq at i) [
      | inl same ↦
          let own_is : slice_get (set w.members at a) at ≡ Some x = subst (λ (j : ℕ). slice_get (set w.members at a) j ≡ Some x) (sym same) e in
          let is : a ≡ x = some_member a x (sym (own_place w.members at m a there) ∙ own_is) in
          subst (λ (h : Host Lying). RunsOn h.replica h.disk) is own
      | inr other ↦ all i x (sym (other_place w.members at i a other) ∙ e)
    ]

befallen : (cluster : ℕ) (w : World Lying) (x : ActBy) (h : Happened Lying) → AllRunOn w → Befalls cluster w x h → happen hazards w (lines_of x.at x.act) ≡ h
befallen cluster w x h all b =
    becomes_lines (config_at cluster w.n x.at) w x.at x.act b.replica b.file b.next b.left b.there (all x.at (on_file b.replica b.file) b.there) b.brings b.becomes ∙ sym b.is

all_on : (cluster : ℕ) (w : World Lying) (x : ActBy) (h : Happened Lying) → AllRunOn w → Befalls cluster w x h → AllRunOn h.world
all_on cluster w x h all b =
    let own = runs_on (config_at cluster w.n x.at) x.act b.replica b.file b.next b.left (all x.at (on_file b.replica b.file) b.there) b.becomes in
    subst (λ (h : Happened Lying). AllRunOn h.world) (sym b.is) (all_next w x.at (on_file b.replica b.file) b.next b.left (puts_out x.at x.act) b.there own all)

-- ---- one after the other

lines_both : (xs ys : List Happening) → AllByRecursion IsLine xs → AllByRecursion IsLine ys → AllByRecursion IsLine (xs ++ ys)
lines_both [] ys a b = b
lines_both (x ∷ xs) ys a b = (a.0, lines_both xs ys a.1 b)

-- all of it, as the lines of a schedule
pub record Scheduled (w : World Lying) (xs : List ActBy) (h : Happened Lying) : Type 0 where
  pub is : happen hazards w (all_lines xs) ≡ h
  pub lines : AllByRecursion IsLine (all_lines xs)
  pub few : length (all_lines xs) ≤ 2 * length xs

pub scheduled : (cluster : ℕ) (w : World Lying) (xs : List ActBy) (h : Happened Lying) → AllRunOn w → AtWork cluster w xs h → Scheduled w xs h
unfolding happen
scheduled cluster _ _ _ all (files.rests v) = record { is = refl; lines = tt; few = omega arith }
scheduled cluster _ _ _ all (files.goes_on v x xs one rest b more) =
    let is = befallen cluster v x one all b in
    let l = becomes_are_lines (config_at cluster v.n x.at) v.sent x.at x.act b.replica b.file b.next b.left b.brings b.becomes in
    let s = scheduled cluster one.world xs rest (all_on cluster v x one all b) more in
    let size = length-append (lines_of x.at x.act) (all_lines xs) in
    let first = l.1 in
    let later = s.few in
    record {
      is = happen_both (lines_of x.at x.act) (all_lines xs) v ∙ (ap (λ (h : Happened Lying). world.later h.outputs (happen hazards h.world (all_lines xs))) is ∙ ap (world.later one.outputs) s.is);
      lines = lines_both (lines_of x.at x.act) (all_lines xs) l.0 s.lines;
      few = omega (arith, size, first, later);
    }
