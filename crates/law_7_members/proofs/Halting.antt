-- Runs that found no member, and migrations: each is an act of a stopped member, or none.
use Rattle.std.proofs.Common.{ℕ, ◌≡◌, ◌≢◌, ◌⊎◌, inl, inr, refl, sym, ap, ◌∙◌, subst, true, false, cond, eqb, List, [], ◌∷◌, ◌++◌, append-nil, drop, get_or, Option, Some, None}
use Rattle.std.specs.Prelude.{Err}
use Rattle.std.specs.Option.{option_and_then, option_map}
use Rattle.std.proofs.lemmas.Bool.{cases_eq, eq-eqb}
use Rattle.vr_base.specs.declared.table.Config.{Config}
use Rattle.vr_disk.specs.DiskState as disk
use Rattle.vr_disk.specs.DiskState.{Attaches, Call, Disk, Face, Runs, Sync, after, attach_fails, attached, attached_as, runs}
use Rattle.vr_disk.proofs.Running.{Runs_stopped, after_is, front}
use Rattle.vr_header.specs.declared.header.Header.{Header}
use Rattle.vr_super.specs.Calls.{mend_calls, write_calls}
use Rattle.vr_super.specs.Copies.{SuperValue, count_at, fields_at, first_op, is_sealed, list_at, value_of}
use Rattle.vr_super.specs.declared.fields.Fields.{Fields}
use Rattle.vr_super.specs.Opens.{good_copies, opened, opens}
use Rattle.vr_world.specs.Group.{opening_script, resumed}
use Rattle.vr_world.specs.Lying.{Lying, after_calls, cut_calls, lying, settled}
use Rattle.vr_rules.specs.Opening.{blank, opening, recover_parts}
use Rattle.vr_rules.specs.Steps.{Mend, Step, after_all, does, ◌⨾◌}
use Rattle.vr_rules.specs.Migrating.{migrated, migration_calls, slot_calls}
use Rattle.vr_rules.specs.Replica.{version}
use Rattle.vr_rules.specs.Sectors.{script_calls, sectors_by}
use Rattle.vr_node.specs.Moving.{MigrationEnds, MovesFile}
use Rattle.vr_disk.specs.declared.fault.Halt as replica
use Rattle.vr_disk.specs.declared.fault.Halt.TheVariants as halt
use Rattle.vr_opening.specs.Migration.{StopsMigrating, StopsMigration}
use Rattle.vr_opening.specs.Recovering.{DoesTo, IsOther, StopsAsked, StopsMending, config_of}
use Rattle.vr_base.specs.declared.status.Status.{Status}
use Rattle.vr_base.specs.declared.status.Status.TheVariants as status
use Rattle.law_4_disks.proofs.Starts.{opening_is}
use Rattle.vr_host_disk.proofs.Versions.{blank_by}
use Rattle.vr_host_disk.proofs.Words.{a_opening}
use Rattle.law_7_members.specs.Ends.{IsAttached, IsHalfFound, IsMoving, LeavesBy, MigrationsAreActs, OpeningsHalt, OpensAsOwn, TellsAgain}
use Rattle.law_7_members.specs.Files as files
use Rattle.law_7_members.specs.Files.{Act, cut_in}
use Rattle.law_7_members.proofs.Cuts.{HasStopped, failed_stopped, front_stopped, rested}
use Rattle.law_7_members.proofs.Ending.{halt_left, same_again}
use Rattle.law_7_members.proofs.Files.{whole}
use Rattle.law_7_members.proofs.Resting.{migration_rests}
use Rattle.law_7_members.proofs.Values.{opens_value, some_is}

-- ---- values and members

cases_config : (a b : Config) → (a ≡ b) ⊎ (a ≢ b)
cases_config a b =
    elim (cases_eq a.cluster b.cluster) [
      | inr other ↦ inr (λ e. other (ap (λ (c : Config). c.cluster) e))
      | inl one ↦ elim (cases_eq a.replica b.replica) [
        | inr other ↦ inr (λ e. other (ap (λ (c : Config). c.replica) e))
        | inl two ↦ elim (cases_eq a.n b.n) [
          | inr other ↦ inr (λ e. other (ap (λ (c : Config). c.n) e))
          | inl three ↦ inl
              (ap (λ k. let c : Config = record { cluster = k; replica = a.replica; n = a.n } in c) one
              ∙ (ap (λ k. let c : Config = record { cluster = b.cluster; replica = k; n = a.n } in c) two ∙ ap (λ k. let c : Config = record { cluster = b.cluster; replica = b.replica; n = k } in c) three))
        ]
      ]
    ]

-- a value that opens is of version 1 or 2
fields_of : (b : List ℕ) (v : SuperValue) (o : Option (List Header)) → option_map (λ (hs : List Header). let w : SuperValue = record { fields = fields_at b; headers = hs } in w) o ≡ Some v → v.fields ≡ fields_at b
fields_of b v None e = absurd cc
fields_of b v (Some hs) e =
    let w : SuperValue = record { fields = fields_at b; headers = hs } in
    let same : w ≡ v = cc in
    ap (λ (u : SuperValue). u.fields) (sym same)

value_fields : (b : List ℕ) (v : SuperValue) → value_of b ≡ Some v → v.fields ≡ fields_at b
unfolding value_of
value_fields b v e =
    let hs = list_at (fields_at b) (first_op (fields_at b) (count_at b)) (count_at b) (drop 128 b) in
    let o = option_map (λ (hs : List Header). let w : SuperValue = record { fields = fields_at b; headers = hs } in w) hs in
    elim (is_sealed b) as (λ t. cond t o None ≡ Some v → v.fields ≡ fields_at b) [ true ↦ fields_of b v hs | false ↦ λ e. absurd cc ] e

abbrev IsEither : ℕ → Type 0
IsEither n = (n ≡ 1) ⊎ (n ≡ 2)

fields_version : (b : List ℕ) → IsEither (fields_at b).version
unfolding fields_at
fields_version b = elim (eqb (get_or b 92 0) 2) as (λ t. IsEither (cond t 2 1)) [ true ↦ inr refl | false ↦ inl refl ]

some_value : (o : Option (List ℕ)) (v : SuperValue) → option_and_then value_of o ≡ Some v → IsEither v.fields.version
some_value None v e = absurd cc
some_value (Some b) v e = subst (λ (f : Fields). IsEither f.version) (sym (value_fields b v e)) (fields_version b)

either_version : (f : Face) (v : SuperValue) → opens f ≡ Some v → (v.fields.version ≡ 1) ⊎ (v.fields.version ≡ 2)
unfolding opens
either_version f v e = some_value (opened (good_copies f)) v e

-- ---- nothing, or an opening that was cut

so_weaker : (c : Config) (file : Lying) (P Q : Option Act → Type 0) (d' : Option Disk) → ((a : Option Act) → P a → Q a) → LeavesBy c file P d' → LeavesBy c file Q d'
so_weaker c file P Q d' h x = record { act = x.act; is = h x.act x.is; next = x.next; passes = x.passes; again = x.again }

-- the calls of an opening begin with those that mend the value
abbrev opening_calls : SuperValue → Lying → List Call
opening_calls v file = script_calls file.version (opening_script v file) file.face

behind_mending : (v : SuperValue) (file : Lying) → (rest : List Call) × (opening_calls v file ≡ mend_calls v file.face ++ rest)
unfolding ◌⨾◌ does script_calls
behind_mending v file =
    (script_calls file.version ((recover_parts v lying (blank v) (after_all lying file (Mend v ∷ []))).script ++ (resumed v file).script) (disk.after_all file.face (mend_calls v file.face)), refl)

module _ (c : Config) (file : Lying) (d : Disk) (at : IsAttached d file) where
  quiet_file : file.face.waiting ≡ []
  quiet_file = ap (λ (f : Face). f.waiting) (sym at.tells) ∙ at.rests

  unmoved : (d' : Option Disk) → d' ≡ Some d → LeavesBy c file (λ (a : Option Act). a ≡ None) d'
  unmoved d' same = record { act = None; is = refl; next = file; passes = refl; again = same_again file d' (d, same, at.tells) quiet_file }

  unmoved_half : (d' : Option Disk) → d' ≡ Some d → LeavesBy c file IsHalfFound d'
  unmoved_half d' same = so_weaker c file (λ (a : Option Act). a ≡ None) IsHalfFound d' (λ a none. subst IsHalfFound (sym none) tt) (unmoved d' same)

  -- with this value
  module _ (v : SuperValue) (is : opens d.face ≡ Some v) where
    here : opens file.face ≡ Some v
    here = ap opens (sym at.tells) ∙ is

    own : v.fields.version ≡ file.version
    own = at.own v here

    opened_here : (sectors_by file.version).opens file.face ≡ Some v
    opened_here = subst (λ n. (sectors_by n).opens file.face ≡ Some v) own (opens_value file.face v here)

    half : (d' : Option Disk) → HasStopped (opening_calls v file) file.face d' → LeavesBy c file IsHalfFound d'
    half d' x =
        elim x.left [
          | inl cut ↦ record {
            act = Some (files.HalfFinds cut.made cut.code);
            is = (cut.made, cut.code, refl);
            next = cut_in file (opening_script v file) cut.made cut.code;
            passes = files.half_finds file v cut.made cut.code opened_here cut.within;
            again = record { disk = x.disk; told = x.told; face = cut.is };
          }
          | inr none ↦ record { act = None; is = tt; next = file; passes = refl; again = same_again file d' (x.disk, x.told, none.1) quiet_file }
        ]

    -- the value was mended, and no more; or not wholly
    half_mended : (d' : Option Disk) → Runs (mend_calls v d.face) (Some d) d' true → LeavesBy c file IsHalfFound d'
    half_mended d' r =
        let m = behind_mending v file in
        let here = subst (λ (f : Face). Runs (mend_calls v f) (Some d) d' true) at.tells r in
        let all = subst (λ (f : Face). HasStopped (mend_calls v file.face ++ m.0) f d') at.tells (front_stopped (mend_calls v file.face ++ m.0) d d' at.rests (front (mend_calls v file.face) m.0 (Some d) d' here)) in
        half d' (subst (λ (cs : List Call). HasStopped cs file.face d') (sym m.1) all)

    half_failed : (d' : Option Disk) → Runs (mend_calls v d.face) (Some d) d' false → LeavesBy c file IsHalfFound d'
    half_failed d' r =
        let m = behind_mending v file in
        let here = subst (λ (f : Face). Runs (mend_calls v f) (Some d) d' false) at.tells r in
        let all = subst (λ (f : Face). HasStopped (mend_calls v file.face ++ m.0) f d') at.tells (failed_stopped (mend_calls v file.face ++ m.0) d d' at.rests (Runs_stopped (mend_calls v file.face) m.0 (Some d) d' here)) in
        half d' (subst (λ (cs : List Call). HasStopped cs file.face d') (sym m.1) all)

    unmended : (d' : Option Disk) (h : replica.Halt) → StopsMending v (Some d) d' h → LeavesBy c file IsHalfFound d'
    unmended d' halt.DiskFault x = half_failed d' x
    unmended d' halt.NoMemory x = unmoved_half d' x

    -- the opening itself stopped
    half_opened : (d' : Option Disk) (h : replica.Halt) → DoesTo (opening v) (blank v) (Some d) d' [] [] (Err h) → LeavesBy c file IsHalfFound d'
    half_opened d' h x =
        let n = version (blank v) in
        let made = halt_left n (opening v (sectors_by n) (blank v) d.face) (blank v) d d' h at.rests (x.told d refl) in
        let numbered = subst (λ n. HasStopped (script_calls n (opening v (sectors_by n) (blank v) d.face).script d.face) d.face d') (blank_by file.version v own) made in
        let there = subst (λ (f : Face). HasStopped (script_calls file.version (opening v (sectors_by file.version) (blank v) f).script f) f d') at.tells numbered in
        let same : opening v (sectors_by file.version) (blank v) file.face ≡ whole v file = sym ((a_opening v).each (blank v) file) ∙ opening_is v file in
        half d' (subst (λ (s : Step). HasStopped (script_calls file.version s.script file.face) file.face d') same there)

  halted : (d' : Option Disk) (h : replica.Halt) → StopsAsked c (Some d) d' [] [] h → LeavesBy c file IsHalfFound d'
  halted d' h s =
      let is = some_is (opens d.face) s.value s.opens in
      elim (cases_config (config_of s.value) c) [ inl own ↦ half_opened s.value is d' h (s.step own) | inr other ↦ unmended s.value is d' h (s.other other) ]

  other_found : (found : Config) (d' : Option Disk) → IsOther c found (Some d) d' → LeavesBy c file IsHalfFound d'
  other_found found d' o = let m = o.mended.told d refl in half_mended o.value (some_is (opens d.face) o.value m.0) d' m.1

pub openings_halt : OpeningsHalt
openings_halt c file d d' status.SuperLost at n = unmoved c file d at d' (n.1.told d refl).1
openings_halt c file d d' (status.OtherMember found asked) at n = other_found c file d at found d' n.1
openings_halt c file d d' status.DiskFault at n = halted c file d at d' halt.DiskFault n
openings_halt c file d d' status.NoMemory at n = halted c file d at d' halt.NoMemory n
openings_halt c file d d' status.Done at n = absurd n
openings_halt c file d d' status.LinkFault at n = absurd n
openings_halt c file d d' status.WriteFault at n = absurd n
openings_halt c file d d' status.Usage at n = absurd n
openings_halt c file d d' (status.Refused line) at n = absurd n
openings_halt c file d d' status.SessionLost at n = absurd n
openings_halt c file d d' status.ReadFault at n = absurd n
openings_halt c file d d' status.Occupied at n = absurd n
openings_halt c file d d' status.NoAnswer at n = absurd n
openings_halt c file d d' status.SpawnFault at n = absurd n

-- ---- migrations

-- of a file of version 2: its value is mended alone
mends_alone : (v : SuperValue) (f : Face) → v.fields.version ≡ 2 → migration_calls v f ≡ mend_calls v f
mends_alone v f two =
    let g = disk.after_all f (mend_calls v f) in
    let rest = slot_calls g ++ write_calls v (migrated v) (disk.after_all g (slot_calls g)) in
    ap (λ t. mend_calls v f ++ cond t [] rest) (eq-eqb v.fields.version 2 two) ∙ append-nil (mend_calls v f)

module _ (c : Config) (file : Lying) (d : Disk) (at : IsAttached d file) (v : SuperValue) (is : opens d.face ≡ Some v) where
  abbrev calls : List Call
  calls = migration_calls v file.face

  moved_on : (d' : Option Disk) → Runs (migration_calls v d.face) (Some d) d' true → v.fields.version ≡ 1 → LeavesBy c file (IsMoving file status.Done) d'
  moved_on d' r one =
      let rests = rested (disk.after_all file.face calls) (migration_rests v file.face (quiet_file c file d at)) in
      let left = after_is (migration_calls v d.face) d (sym r.1) ∙ ap (λ (f : Face). disk.after_all f (migration_calls v f)) at.tells in
      record {
        act = Some files.Moves;
        is = (v, here c file d at v is, inl (one, refl));
        next = settled (after_calls file calls);
        passes = files.moves file v (opened_here c file d at v is) one;
        again = record { disk = (runs (migration_calls v d.face) d).disk; told = r.0; face = rests ∙ ap (λ (f : Face). after f Sync) (sym left) };
      }

  moved : (d' : Option Disk) → Runs (migration_calls v d.face) (Some d) d' true → LeavesBy c file (IsMoving file status.Done) d'
  moved d' r =
      elim (either_version d.face v is) [
        | inl one ↦ moved_on d' r one
        | inr two ↦
            let mended = subst (λ (cs : List Call). Runs cs (Some d) d' true) (mends_alone v d.face two) r in
            so_weaker c file IsHalfFound (IsMoving file status.Done) d' (λ a h. (v, here c file d at v is, inr (two, h))) (half_mended c file d at v is d' mended)
      ]

  half_moved : (d' : Option Disk) → HasStopped calls file.face d' → v.fields.version ≡ 1 → LeavesBy c file (IsMoving file status.DiskFault) d'
  half_moved d' x one =
      elim x.left [
        | inl cut ↦ record {
          act = Some (files.HalfMoves cut.made cut.code);
          is = inl (cut.made, cut.code, refl);
          next = settled (cut_calls cut.made cut.code file calls);
          passes = files.half_moves file v cut.made cut.code (opened_here c file d at v is) one cut.within;
          again = record { disk = x.disk; told = x.told; face = cut.is };
        }
        | inr none ↦ record { act = None; is = inr tt; next = file; passes = refl; again = same_again file d' (x.disk, x.told, none.1) (quiet_file c file d at) }
      ]

  mended_half : (d' : Option Disk) → LeavesBy c file IsHalfFound d' → LeavesBy c file (IsMoving file status.DiskFault) d'
  mended_half d' x = so_weaker c file IsHalfFound (IsMoving file status.DiskFault) d' (λ a h. inr h) x

  unmoved_by : (d' : Option Disk) → Runs (migration_calls v d.face) (Some d) d' false → LeavesBy c file (IsMoving file status.DiskFault) d'
  unmoved_by d' r =
      elim (either_version d.face v is) [
        | inl one ↦ half_moved d' (subst (λ (f : Face). HasStopped (migration_calls v f) f d') at.tells (failed_stopped (migration_calls v d.face) d d' at.rests r)) one
        | inr two ↦ mended_half d' (half_failed c file d at v is d' (subst (λ (cs : List Call). Runs cs (Some d) d' false) (mends_alone v d.face two) r))
      ]

  wanted_memory : (d' : Option Disk) → StopsMigration v (Some d) d' halt.NoMemory → LeavesBy c file IsHalfFound d'
  wanted_memory d' (inl same) = unmoved_half c file d at d' same
  wanted_memory d' (inr mended) = half_mended c file d at v is d' mended

failed_moving : (c : Config) (file : Lying) (d : Disk) (d' : Option Disk) → IsAttached d file → StopsMigrating c (Some d) d' halt.DiskFault → LeavesBy c file (IsMoving file status.DiskFault) d'
failed_moving c file d d' at s =
    let is = some_is (opens d.face) s.value s.opens in
    elim (cases_config (config_of s.value) c) [
      | inl own ↦ unmoved_by c file d at s.value is d' (s.step own)
      | inr other ↦ mended_half c file d at s.value is d' (unmended c file d at s.value is d' halt.DiskFault (s.other other))
    ]

short_moving : (c : Config) (file : Lying) (d : Disk) (d' : Option Disk) → IsAttached d file → StopsMigrating c (Some d) d' halt.NoMemory → LeavesBy c file IsHalfFound d'
short_moving c file d d' at s =
    let is = some_is (opens d.face) s.value s.opens in
    elim (cases_config (config_of s.value) c) [ inl own ↦ wanted_memory c file d at s.value is d' (s.step own) | inr other ↦ unmended c file d at s.value is d' halt.NoMemory (s.other other) ]

moves_file : (c : Config) (file : Lying) (d : Disk) (d' : Option Disk) (s : Status) → IsAttached d file → MovesFile c (Some d) d' s → LeavesBy c file (IsMoving file s) d'
moves_file c file d d' status.Done at m = moved c file d at m.value (some_is (opens d.face) m.value m.opens) d' m.ran
moves_file c file d d' status.SuperLost at m = unmoved c file d at d' (m.1.told d refl).1
moves_file c file d d' (status.OtherMember found asked) at m = other_found c file d at found d' m.1
moves_file c file d d' status.DiskFault at m = failed_moving c file d d' at m
moves_file c file d d' status.NoMemory at m = short_moving c file d d' at m
moves_file c file d d' status.LinkFault at m = absurd m
moves_file c file d d' status.WriteFault at m = absurd m
moves_file c file d d' status.Usage at m = absurd m
moves_file c file d d' (status.Refused line) at m = absurd m
moves_file c file d d' status.SessionLost at m = absurd m
moves_file c file d d' status.ReadFault at m = absurd m
moves_file c file d d' status.Occupied at m = absurd m
moves_file c file d d' status.NoAnswer at m = absurd m
moves_file c file d d' status.SpawnFault at m = absurd m

-- ---- an attach

pub attached_face : (name : List ℕ) (d : Disk) → (attached name d).ok ≡ true → (attached name d).disk.face ≡ after d.face Sync
unfolding attached
attached_face name d h =
    elim (attach_fails name d) as (λ t. (attached_as name d t).ok ≡ true → (attached_as name d t).disk.face ≡ after d.face Sync) [ true ↦ λ h. absurd cc | false ↦ λ h. refl ] h

pub unattached_face : (name : List ℕ) (d : Disk) → (attached name d).ok ≡ false → (attached name d).disk.face ≡ d.face
unfolding attached
unattached_face name d h =
    elim (attach_fails name d) as (λ t. (attached_as name d t).ok ≡ false → (attached_as name d t).disk.face ≡ d.face) [ true ↦ λ h. refl | false ↦ λ h. absurd cc ] h

-- a file that is attached again is attached
pub attached_again : (name : List ℕ) (file : Lying) (d : Disk) → file.face ≡ after d.face Sync → OpensAsOwn file → (attached name d).ok ≡ true → IsAttached (attached name d).disk file
attached_again name file d face own ok =
    let is = attached_face name d ok in
    record { tells = is ∙ sym face; rests = ap (λ (f : Face). f.waiting) is; own = own }

-- and where that fails it tells what it did
pub unattached : (name : List ℕ) (file : Lying) (d : Disk) (d' : Option Disk) → file.face ≡ after d.face Sync → Attaches name (Some d) d' false → TellsAgain d' file
unattached name file d d' face a = record { disk = (attached name d).disk; told = a.0; face = face ∙ ap (λ (f : Face). after f Sync) (sym (unattached_face name d (sym a.1))) }

migration_ends : (c : Config) (name : List ℕ) (file : Lying) (d : Disk) (d' : Option Disk) (s : Status) → file.face ≡ after d.face Sync → OpensAsOwn file → MigrationEnds c name (Some d) d' s → LeavesBy c file (IsMoving file s) d'
migration_ends c name file d d' s face as_own (inl h) =
    let x : LeavesBy c file (IsMoving file status.DiskFault) d' = record { act = None; is = inr tt; next = file; passes = refl; again = unattached name file d d' face h.1 } in
    subst (λ (s : Status). LeavesBy c file (IsMoving file s) d') (sym h.0) x
migration_ends c name file d d' s face as_own (inr h) =
    let moves = subst (λ (o : Option Disk). MovesFile c o d' s) h.1.0 h.2 in
    moves_file c file (attached name d).disk d' s (attached_again name file d face as_own (sym h.1.1)) moves

pub migrations_are_acts : MigrationsAreActs
migrations_are_acts c name file d d' s tells own ends =
    migration_ends c name file tells.disk d' s tells.face own (subst (λ (o : Option Disk). MigrationEnds c name o d' s) tells.told ends)
