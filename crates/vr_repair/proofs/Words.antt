-- Words of repair by what their code does.
use Rattle.std.proofs.Common.{arith, ◌≡◌, refl, ◌<◌, ◌+◌, ◌^◌, ◌++◌, cond, Bool, true, false, ℕ, List, [], ◌∷◌, Option, Some, None, Result, Ok, Err, slice_get}
use Rattle.std.specs.Prelude.{nat_lt, ◌&&◌, if◌then◌else◌}
use Rattle.vr_base.specs.Bytes.{name_of}
use Rattle.vr_disk.specs.DiskState.{Disk, Face}
use Rattle.vr_ckpt.specs.declared.name.Name.{Name}
use Rattle.vr_header.specs.declared.header.Header.{Header}
use Rattle.vr_header.specs.Made.{Whole}
use Rattle.vr_actions.specs.Effects.{puts}
use Rattle.vr_volatile.specs.Ready.{IsReady, MayLoad}
use Rattle.vr_volatile.proofs.Memory.{window_of}
use Rattle.vr_volatile.proofs.Repairs.{ready_dropped}
use Rattle.vr_msg.specs.declared.output.Output.{Output}
use Rattle.vr_repair.specs.Repairs.{loads_whole}
use Rattle.vr_rules.specs.Outputs.{get_block, get_prepare, prepare, prepare_ok, send_to_all, to_primary}
use Rattle.vr_rules.specs.Replica.{Replica, is_alone, is_primary, is_started}
use Rattle.vr_rules.specs.Rules.{mend_found, not_worn, put_block, without}
use Rattle.vr_rules.specs.Steps.{PutBlock, Word, change, says}
use Rattle.vr_rules.specs.Words.{ask, ask_for, ask_peer, is_loaded, least_absent, load, resend}
use Rattle.vr_disk.specs.declared.fault.Halt.{Halt}
use Rattle.vr_disk.specs.declared.fault.Halt.TheVariants.{DiskFault, NoMemory}
use Rattle.vr_rules.specs.Does.{Does, Performs}
use Rattle.vr_rules.proofs.Stepping.{change_by_then, does_by, does_change, does_naming, does_no_memory, does_quiet, effect_stopped, effect_then, says_by}

-- want of memory, where the disk is as it was
pub wanted : (w : Word Face) (r q : Replica) (d d' : Option Disk) (o o' : List Output) → d' ≡ d → Does w r q d d' o o' (Err NoMemory)
wanted w r q d d' o o' e = rw e (does_no_memory w r q d o o')

-- ---- entries that are told of again

either : (b : Bool) (x y : Replica → List Output) (r : Replica) (d : Option Disk) (o o' : List Output) → o' ≡ o ++ cond b (x r) (y r) → Does (cond b (says x) (says y)) r r d d o o' (Ok tt)
either true x y r d o o' e = says_by x r d o o' e
either false x y r d o o' e = says_by y r d o o' e

module _ (e : Whole) (r : Replica) (d : Option Disk) where
  pub resent : (o o' : List Output) → (is_started r && nat_lt r.commit e.header.op) ≡ true
      → o' ≡ o ++ (if is_primary r then send_to_all (prepare e) r else to_primary (prepare_ok name_of e.header) r) → Does (resend e) r r d d o o' (Ok tt)
  unfolding resend
  resent o o' t said =
      does_naming _ r r d d o o' (Ok tt) (does_by _ r r d d o o' (Ok tt) (rw t (either (is_primary r) (send_to_all (prepare e)) (to_primary (prepare_ok name_of e.header)) r d o o' said)))

  pub not_resent : (o : List Output) → (is_started r && nat_lt r.commit e.header.op) ≡ false → Does (resend e) r r d d o o (Ok tt)
  unfolding resend
  not_resent o t = does_naming _ r r d d o o (Ok tt) (does_by _ r r d d o o (Ok tt) (rw t (does_quiet r d o)))

-- ---- what is asked for

-- the op above the checkpoint is a number
pub checkpoint_fits : (r : Replica) → IsReady r → r.checkpoint + 1 < 2 ^ 64
checkpoint_fits r h = let w = window_of r h in let n = w.number in omega arith

module _ (r q : Replica) (d d' : Option Disk) (o o' : List Output) (result : Result (Unit {0}) Halt) where
  first_asked : (names : List Name) (name : Name) (absent : Option Header) (worn : List Name) → slice_get names 0 ≡ Some name → Does (ask_peer (get_block name)) r q d d' o o' result
      → Does (ask_for names absent worn) r q d d' o o' result
  first_asked [] name absent worn e h = absurd cc
  first_asked (n ∷ names) name absent worn e h = let same : n ≡ name = cc in rw same h

  no_block : (names : List Name) (absent : Option Header) (worn : List Name) → slice_get names 0 ≡ None → Does (ask_for [] absent worn) r q d d' o o' result → Does (ask_for names absent worn) r q d d' o o' result
  no_block [] absent worn e h = h
  no_block (n ∷ names) absent worn e h = absurd cc

  pub asked_worn : (worn : List Name) (name : Name) → slice_get worn 0 ≡ Some name → Does (ask_peer (get_block name)) r q d d' o o' result → Does (ask_for [] None worn) r q d d' o o' result
  asked_worn [] name e h = absurd cc
  asked_worn (n ∷ names) name e h = let same : n ≡ name = cc in rw same h

  some_asked : is_alone r ≡ false → Does (ask_for r.missing (least_absent r) r.worn) r q d d' o o' result → Does ask r q d d' o o' result
  unfolding ask
  some_asked e h = does_by _ r q d d' o o' result (rw e h)

  pub asked_block : (name : Name) → is_alone r ≡ false → slice_get r.missing 0 ≡ Some name → Does (ask_peer (get_block name)) r q d d' o o' result → Does ask r q d d' o o' result
  asked_block name e f h = some_asked e (first_asked r.missing name (least_absent r) r.worn f h)

  pub asked_absent : is_alone r ≡ false → slice_get r.missing 0 ≡ None → Does (ask_for [] (least_absent r) r.worn) r q d d' o o' result → Does ask r q d d' o o' result
  asked_absent e f h = some_asked e (no_block r.missing (least_absent r) r.worn f h)

  pub asked_entry : (absent : Option Header) (worn : List Name) (h : Header) → absent ≡ Some h → Does (ask_peer (get_prepare name_of h)) r q d d' o o' result → Does (ask_for [] absent worn) r q d d' o o' result
  asked_entry absent worn h e k = rw e (does_naming _ r q d d' o o' result k)

  pub asked_none : (absent : Option Header) (worn : List Name) → absent ≡ None → Does (ask_for [] None worn) r q d d' o o' result → Does (ask_for [] absent worn) r q d d' o o' result
  asked_none absent worn e h = rw e h

pub none_worn : (worn : List Name) (r : Replica) (d : Option Disk) (o : List Output) → slice_get worn 0 ≡ None → Does (ask_for [] None worn) r r d d o o (Ok tt)
none_worn [] r d o e = does_quiet r d o
none_worn (n ∷ names) r d o e = absurd cc

-- where there is no peer nothing is asked
pub none_asked : (r : Replica) (d : Option Disk) (o : List Output) → is_alone r ≡ true → Does ask r r d d o o (Ok tt)
unfolding ask
none_asked r d o e = does_by _ r r d d o o (Ok tt) (rw e (does_quiet r d o))

-- ---- a block is put

pub may_ready : (r : Replica) → MayLoad r → IsReady r
unfolding MayLoad
may_ready r h = h.ready

pub may_dropped : (name : Name) (r q : Replica) → q ≡ without name r → MayLoad r → MayLoad q
unfolding MayLoad
may_dropped name r q e h = let ready : IsReady q = ready_dropped name r q e h.ready in rw e (record { ready = rw e at ready; applied = h.applied })

pub loaded_whole : (r q : Replica) (d d' : Option Disk) (o o' : List Output) (result : Result (Unit {0}) Halt) → is_loaded r ≡ true → Does load r q d d' o o' result → Does loads_whole r q d d' o o' result
unfolding loads_whole
loaded_whole r q d d' o o' result t h = does_by _ r q d d' o o' result (rw t h)

pub loaded_not : (r : Replica) (d : Option Disk) (o : List Output) → is_loaded r ≡ false → Does loads_whole r r d d o o (Ok tt)
unfolding loads_whole
loaded_not r d o t = does_by _ r r d d o o (Ok tt) (rw t (does_quiet r d o))

module _ (name : Name) (block : List ℕ) (r q : Replica) (d d' : Option Disk) where
  pub put_then : (r2 : Replica) (d2 : Option Disk) (o o2 : List Output) (result : Result (Unit {0}) Halt) → Performs (puts name block) r d d' true → q ≡ without name r → Does loads_whole q r2 d' d2 o o2 result
      → Does (put_block name block) r r2 d d2 o o2 result
  unfolding put_block puts loads_whole
  put_then r2 d2 o o2 result p e h = effect_then (λ x. PutBlock name block) _ r r2 d d' d2 o o2 result p (change_by_then (without name) _ r q r2 d' d2 o o2 result e refl h)

  pub put_stopped : (o o2 : List Output) → Performs (puts name block) r d d' false → Does (put_block name block) r q d d' o o2 (Err DiskFault)
  unfolding put_block puts
  put_stopped o o2 p = effect_stopped (λ x. PutBlock name block) _ r q d d' o o2 p

-- ---- a block that has gone bad is put

module _ (name : Name) (block : List ℕ) (r q : Replica) (d d' : Option Disk) where
  pub mended_then : (o : List Output) → Performs (puts name block) r d d' true → q ≡ not_worn name r → Does (mend_found block (Some name)) r q d d' o o (Ok tt)
  unfolding puts
  mended_then o p e = effect_then (λ x. PutBlock name block) (change (not_worn name)) r q d d' d' o o (Ok tt) p (rw e (does_change (not_worn name) r d' o refl))

  pub mended_stopped : (o o2 : List Output) → Performs (puts name block) r d d' false → Does (mend_found block (Some name)) r q d d' o o2 (Err DiskFault)
  unfolding puts
  mended_stopped o o2 p = effect_stopped (λ x. PutBlock name block) (change (not_worn name)) r q d d' o o2 p
