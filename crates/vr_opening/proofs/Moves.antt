-- A file becomes one of version 2.
use Rattle.std.proofs.Common.{ℕ, ◌≡◌, inl, inr, sym, ap, ◌∙◌, Bool, true, false, cond, eqb, List, [], Option, Some, None, Ok, Err, subst}
use Rattle.vr_base.specs.declared.table.Config.{Config}
use Rattle.vr_disk.specs.DiskState.{Call, Disk, Face, Runs, RunsFrom}
use Rattle.vr_disk.proofs.Running.{RunsFrom_then, RunsFrom_stopped, runs_nothing}
use Rattle.vr_disk.proofs.Telling.{runs_const}
use Rattle.vr_super.specs.Calls.{mend_calls, write_calls}
use Rattle.vr_header.specs.declared.header.Header.{Header}
use Rattle.vr_super.specs.Copies.{SuperValue, IsGood}
use Rattle.vr_super.specs.declared.fields.Fields.{Fields}
use Rattle.vr_disk.specs.declared.fault.Halt.{Halt}
use Rattle.vr_disk.specs.declared.fault.Halt.TheVariants.{DiskFault, NoMemory}
use Rattle.vr_rules.proofs.Migrating.{migrated_good}
use Rattle.vr_rules.specs.Migrating.{migrated, migration_calls, slot_calls}
use Rattle.vr_opening.specs.declared.reopen.NoValue.{NoValue}
use Rattle.vr_opening.specs.declared.reopen.NoValue.TheVariants as none
use Rattle.vr_opening.specs.declared.reopen.Refusal.{Refusal}
use Rattle.vr_opening.specs.Recovering.{FindsValue, MendsValue, StopsMending, config_of, IsRefusal}
use Rattle.vr_opening.specs.Migration.{IsMigrated, IsMigratedAny, Migrated, MigratedAny, MovesOver, StopsMigrating, StopsMigratingAny, StopsMigration, moving_calls, over_calls}
use Rattle.vr_opening.proofs.Recovers.{opens_of, runs_of}

-- the value that is saved in the end makes a good copy
pub saved_good : (v : SuperValue) (f : Fields) (hs : List Header) → IsGood v → f ≡ (migrated v).fields → hs ≡ v.headers → IsGood (record { fields = f; headers = hs })
saved_good v f hs h e k = rw (e, k) (migrated_good v h)

-- ---- the calls after the mending

pub moved_then : (old new : SuperValue) (a b c : Option Disk) (ok : Bool) → RunsFrom slot_calls a b true → RunsFrom (write_calls old new) b c ok → RunsFrom (moving_calls old new) a c ok
moved_then old new a b c ok h k = RunsFrom_then slot_calls (write_calls old new) a b c ok h k

pub moved_stopped : (old new : SuperValue) (a b : Option Disk) → RunsFrom slot_calls a b false → RunsFrom (moving_calls old new) a b false
moved_stopped old new a b h = RunsFrom_stopped slot_calls (write_calls old new) a b h

same_calls : (cs ds : Face → List Call) (a b : Option Disk) (ok : Bool) → ((f : Face) → cs f ≡ ds f) → RunsFrom cs a b ok → RunsFrom ds a b ok
same_calls cs ds None b ok e r = r
same_calls cs ds (Some d) b ok e r = subst (λ cs. Runs cs (Some d) b ok) (e d.face) r

-- a file of version 1
over_first : (v : SuperValue) (f : Face) → eqb v.fields.version 2 ≡ false → moving_calls v (migrated v) f ≡ over_calls v f
over_first v f e = ap (λ (t : Bool). cond t [] (moving_calls v (migrated v) f)) (sym e)

over_second : (v : SuperValue) (f : Face) → eqb v.fields.version 2 ≡ true → [] ≡ over_calls v f
over_second v f e = ap (λ (t : Bool). cond t [] (moving_calls v (migrated v) f)) (sym e)

pub over_moved : (v new : SuperValue) (a b : Option Disk) (ok : Bool) → eqb v.fields.version 2 ≡ false → new ≡ migrated v → RunsFrom (moving_calls v new) a b ok → RunsFrom (over_calls v) a b ok
over_moved v new a b ok e n r =
    let r' : RunsFrom (moving_calls v (migrated v)) a b ok = subst (λ (x : SuperValue). RunsFrom (moving_calls v x) a b ok) n r in
    same_calls (moving_calls v (migrated v)) (over_calls v) a b ok (λ f. over_first v f e) r'

pub over_nothing : (v : SuperValue) (a : Option Disk) → eqb v.fields.version 2 ≡ true → RunsFrom (over_calls v) a a true
over_nothing v a e = same_calls (λ f. []) (over_calls v) a a true (λ f. over_second v f e) (runs_const [] a a true (runs_nothing a))

-- ---- with the mending before it

mended_then : (v : SuperValue) (a b c : Option Disk) (ok : Bool) → RunsFrom (mend_calls v) a b true → RunsFrom (over_calls v) b c ok → RunsFrom (migration_calls v) a c ok
mended_then v a b c ok h k = RunsFrom_then (mend_calls v) (over_calls v) a b c ok h k

stops : (v : SuperValue) (a b c : Option Disk) (halt : Halt) → RunsFrom (mend_calls v) a b true → MovesOver v b c (Err halt) → StopsMigration v a c halt
stops v a b c DiskFault h m = mended_then v a b c false h m
stops v a b c NoMemory h m = inr (subst (λ d. RunsFrom (mend_calls v) a d true) (sym m) h)

-- a stop in the mending is one of the whole migration
stops_mending : (v : SuperValue) (a b : Option Disk) (halt : Halt) → StopsMending v a b halt → StopsMigration v a b halt
stops_mending v a b DiskFault h = RunsFrom_stopped (mend_calls v) (over_calls v) a b h
stops_mending v a b NoMemory h = inl h

pub migrated_well : (asked found : Config) (v : SuperValue) (d d1 d2 : Option Disk) → found ≡ config_of v → found ≡ asked → MendsValue None v d d1 → MovesOver v d1 d2 (Ok tt) → IsMigrated asked d d2
migrated_well asked found v d d1 d2 e i m h = record { value = v; named = sym e ∙ i; opens = opens_of None v d d1 m; ran = mended_then v d d1 d2 true (runs_of None v d d1 m) h }

pub migration_halted : (asked found : Config) (v : SuperValue) (d d1 d2 : Option Disk) (halt : Halt) → found ≡ config_of v → found ≡ asked → MendsValue None v d d1 → MovesOver v d1 d2 (Err halt) → StopsMigrating asked d d2 halt
migration_halted asked found v d d1 d2 halt e i m h = record {
  value = v;
  opens = opens_of None v d d1 m;
  step = λ x. stops v d d1 d2 halt (runs_of None v d d1 m) h;
  other = λ not. absurd (not (sym e ∙ i));
}

pub migration_refused : (asked : Config) (d d' : Option Disk) (x : NoValue) (y : Refusal) → IsRefusal x y → FindsValue None d d' (Err x) → Migrated asked d d' (Err y)
migration_refused asked d d' (none.Lost vs) y e h = rw e h
migration_refused asked d d' none.OtherVersion y e h = absurd e
migration_refused asked d d' (none.Halted halt) y e h =
    let stops : StopsMigrating asked d d' halt = record { value = h.value; opens = h.opens; step = λ e. stops_mending h.value d d' halt h.stops; other = λ not. h.stops } in
    rw e stops

-- ---- of any member

pub any_well : (v : SuperValue) (d d1 d2 : Option Disk) → MendsValue (Some 1) v d d1 → MovesOver v d1 d2 (Ok tt) → IsMigratedAny d d2
any_well v d d1 d2 m h = record { value = v; opens = opens_of (Some 1) v d d1 m; ran = mended_then v d d1 d2 true (runs_of (Some 1) v d d1 m) h }

pub any_halted : (v : SuperValue) (d d1 d2 : Option Disk) (halt : Halt) → MendsValue (Some 1) v d d1 → MovesOver v d1 d2 (Err halt) → StopsMigratingAny d d2 halt
any_halted v d d1 d2 halt m h = record { value = v; opens = opens_of (Some 1) v d d1 m; step = stops v d d1 d2 halt (runs_of (Some 1) v d d1 m) h }

unfound : (d d' : Option Disk) (x : NoValue) → FindsValue (Some 1) d d' (Err x) → MigratedAny d d' (Err x)
unfound d d' (none.Lost vs) h = h
unfound d d' none.OtherVersion h = h
unfound d d' (none.Halted halt) h = record { value = h.value; opens = h.opens; step = stops_mending h.value d d' halt h.stops }

pub any_refused : (n : ℕ) (d d' : Option Disk) (x : NoValue) → n ≡ 1 → FindsValue (Some n) d d' (Err x) → MigratedAny d d' (Err x)
any_refused n d d' x i h = unfound d d' x (subst (λ k. FindsValue (Some k) d d' (Err x)) i h)
