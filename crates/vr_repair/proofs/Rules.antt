-- Rules of repair by what their tables say.
use Rattle.std.proofs.Common.{◌≡◌, ◌≤◌, ◌+◌, ◌++◌, refl, sym, subst, arith, add-one, cond, Bool, true, false, ℕ, zero, suc, length, drop, List, [], ◌∷◌, Option, Some, None, Result, Ok, is_some}
use Rattle.std.specs.Prelude.{find, nat_lt, ◌||◌, ◌==◌, if◌then◌else◌}
use Rattle.std.specs.List.{list_any}
use Rattle.std.proofs.lemmas.Bool.{and_parts, cond_both, ltb-true}
use Rattle.std.proofs.lemmas.List.{drop_all}
use Rattle.vr_base.specs.Bytes.{name_of}
use Rattle.vr_disk.specs.DiskState.{Disk, Face}
use Rattle.vr_ckpt.specs.Blocks.{named}
use Rattle.vr_ckpt.specs.declared.name.Name.{Name}
use Rattle.vr_header.specs.Made.{Whole}
use Rattle.vr_volatile.specs.Ready.{IsReady, MayLoad, MayStore}
use Rattle.vr_msg.specs.declared.frame.GetBlock.{GetBlock}
use Rattle.vr_msg.specs.declared.frame.GetPrepare.{GetPrepare}
use Rattle.vr_msg.specs.declared.frame.GiveBlock.{GiveBlock}
use Rattle.vr_msg.specs.declared.frame.GivePrepare.{GivePrepare}
use Rattle.vr_msg.specs.declared.output.Output.{Output}
use Rattle.vr_repair.specs.declared.deciding.Repair.{Repair}
use Rattle.vr_repair.specs.declared.deciding.Repair.TheVariants as repair
use Rattle.vr_actions.specs.Reads.{Reads}
use Rattle.vr_repair.specs.Repairs.{found_at, gives, is_block, rule_of}
use Rattle.vr_rules.specs.Deciding.{first_of, get_block_table, get_prepare_table, give_block_table, give_prepare_table, is_known, is_wanted}
use Rattle.vr_rules.specs.declared.rule.Rule.TheVariants.{Ignored, BlockMended, BlockTaken}
use Rattle.vr_rules.specs.Outputs.{give_block, give_prepare, send_to}
use Rattle.vr_rules.specs.Replica.{Replica, version}
use Rattle.vr_rules.specs.Rules.{asked_block, block_at, give_read, obey_get_block, obey_get_prepare, obey_give_block, obey_give_prepare, on_get_block, on_get_prepare, mend_found, on_give_block, on_give_prepare, put_found, test_of}
use Rattle.vr_rules.specs.Sectors.{sectors_by}
use Rattle.vr_rules.specs.Steps.{◌⨾◌, by, quiet, reading}
use Rattle.vr_rules.specs.Words.{apply, resend, with_entry_at, write}
use Rattle.vr_rules.proofs.Ruling.{may_store_given}
use Rattle.vr_rules.proofs.Storing.{MayStore as May}
use Rattle.vr_disk.specs.declared.fault.Halt.{Halt}
use Rattle.vr_rules.specs.Does.{Does, Finds, LeftBy}
use Rattle.vr_rules.proofs.Stepping.{does_by, does_naming, does_quiet, does_reading, says_by}

-- ---- get_prepare

module _ (g : GetPrepare) (x : Repair) (r r' : Replica) (d d' : Option Disk) (o o' : List Output) (result : Result (Unit {0}) Halt) where
  get_prepare_obeyed : first_of (get_prepare_table name_of g r) ≡ rule_of x → Does (obey_get_prepare g (rule_of x)) r r' d d' o o' result → Does (on_get_prepare g) r r' d d' o o' result
  unfolding on_get_prepare
  get_prepare_obeyed e h = does_naming _ r r' d d' o o' result (does_by _ r r' d d' o o' result (subst (λ y. Does (obey_get_prepare g y) r r' d d' o o' result) (sym e) h))

  pub entry_given : first_of (get_prepare_table name_of g r) ≡ rule_of x → x ≡ repair.EntryGiven → Does (with_entry_at g.op (gives g.replica)) r r' d d' o o' result → Does (on_get_prepare g) r r' d d' o o' result
  entry_given e is h = get_prepare_obeyed e (rw is h)

get_prepare_quiet : (g : GetPrepare) (x : Repair) (r : Replica) (d : Option Disk) (o : List Output) → (x ≡ repair.EntryGiven → ⊥) → Does (obey_get_prepare g (rule_of x)) r r d d o o (Ok tt)
get_prepare_quiet g repair.Ignored r d o n = does_quiet r d o
get_prepare_quiet g repair.EntryGiven r d o n = absurd (n refl)
get_prepare_quiet g repair.EntryTaken r d o n = does_quiet r d o
get_prepare_quiet g repair.BlockGiven r d o n = does_quiet r d o
get_prepare_quiet g (repair.BlockTaken name) r d o n = does_quiet r d o
get_prepare_quiet g (repair.BlockMended name) r d o n = does_quiet r d o

pub get_prepare_ignored : (g : GetPrepare) (x : Repair) (r : Replica) (d : Option Disk) (o : List Output) → first_of (get_prepare_table name_of g r) ≡ rule_of x → (x ≡ repair.EntryGiven → ⊥) → Does (on_get_prepare g) r r d d o o (Ok tt)
get_prepare_ignored g x r d o e n = get_prepare_obeyed g x r r d d o o (Ok tt) e (get_prepare_quiet g x r d o n)

module _ (op to : ℕ) (r q : Replica) (d d' : Option Disk) (found : Option Whole) (reads : Reads op r q d d' found) where
  pub given_read : (e : Whole) (o o' : List Output) → found ≡ Some e → o' ≡ o ++ send_to to (give_prepare e q) q → Does (with_entry_at op (gives to)) r q d d' o o' (Ok tt)
  given_read e o o' is said = reads.some (gives to) e q d' o o' (Ok tt) is (says_by (λ x. send_to to (give_prepare e x) x) q d' o o' said)

  pub given_none : (o : List Output) → found ≡ None → Does (with_entry_at op (gives to)) r q d d' o o (Ok tt)
  given_none o is = reads.none (gives to) o is

-- ---- give_prepare

-- an entry of the header that is known may be stored
pub may_take : (e : Whole) (r : Replica) → IsReady r → nat_lt r.checkpoint e.header.op ≡ true → is_known e.header e.header.op r ≡ true → MayStore e r
unfolding IsReady MayStore
may_take e r h above known =
    let may : May e r = may_store_given e r h.sound (ltb-true r.checkpoint e.header.op above) known in
    record { above = may.above; window = may.window; header = may.header; is_entry = may.is_entry }

-- it was made in no later view
pub entry_made : (e : Whole) (r : Replica) → IsReady r → MayStore e r → e.header.view ≤ r.view
unfolding IsReady MayStore
entry_made e r h m = let made = m.is_entry.made in let views = h.sound.order.views in omega arith

module _ (g : GivePrepare) (x : Repair) (r r' : Replica) (d d' : Option Disk) (o o' : List Output) (result : Result (Unit {0}) Halt) where
  give_prepare_obeyed : first_of (give_prepare_table g r) ≡ rule_of x → Does (obey_give_prepare g (rule_of x)) r r' d d' o o' result → Does (on_give_prepare g) r r' d d' o o' result
  unfolding on_give_prepare
  give_prepare_obeyed e h = does_by _ r r' d d' o o' result (subst (λ y. Does (obey_give_prepare g y) r r' d d' o o' result) (sym e) h)

  pub entry_taken : first_of (give_prepare_table g r) ≡ rule_of x → x ≡ repair.EntryTaken → Does (write g.entry ⨾ resend g.entry ⨾ apply) r r' d d' o o' result → Does (on_give_prepare g) r r' d d' o o' result
  entry_taken e is h = give_prepare_obeyed e (rw is h)

give_prepare_quiet : (g : GivePrepare) (x : Repair) (r : Replica) (d : Option Disk) (o : List Output) → (x ≡ repair.EntryTaken → ⊥) → Does (obey_give_prepare g (rule_of x)) r r d d o o (Ok tt)
give_prepare_quiet g repair.Ignored r d o n = does_quiet r d o
give_prepare_quiet g repair.EntryGiven r d o n = does_quiet r d o
give_prepare_quiet g repair.EntryTaken r d o n = absurd (n refl)
give_prepare_quiet g repair.BlockGiven r d o n = does_quiet r d o
give_prepare_quiet g (repair.BlockTaken name) r d o n = does_quiet r d o
give_prepare_quiet g (repair.BlockMended name) r d o n = does_quiet r d o

pub give_prepare_ignored : (g : GivePrepare) (x : Repair) (r : Replica) (d : Option Disk) (o : List Output) → first_of (give_prepare_table g r) ≡ rule_of x → (x ≡ repair.EntryTaken → ⊥) → Does (on_give_prepare g) r r d d o o (Ok tt)
give_prepare_ignored g x r d o e n = give_prepare_obeyed g x r r d d o o (Ok tt) e (give_prepare_quiet g x r d o n)

-- ---- get_block

module _ (g : GetBlock) (r : Replica) (d d' : Option Disk) (name : Name) (found : Option (List ℕ)) (read : (v : ℕ) → Finds v (block_at name) d d' found) (asked : name ≡ asked_block g) where
  pub block_read : (b : List ℕ) (o o' : List Output) → found ≡ Some b → o' ≡ o ++ send_to g.replica (give_block g.address b r) r → Does (reading (block_at (asked_block g)) (give_read g)) r r d d' o o' (Ok tt)
  block_read b o o' is said =
      let k : Finds (version r) (block_at (asked_block g)) d d' (Some b) = rw (asked, is) at (read (version r)) in
      does_reading (block_at (asked_block g)) (give_read g) (Some b) r r d d' d' o o' (Ok tt) k (says_by (λ x. send_to g.replica (give_block g.address b x) x) r d' o o' said)

  pub block_unread : (o : List Output) → found ≡ None → Does (reading (block_at (asked_block g)) (give_read g)) r r d d' o o (Ok tt)
  block_unread o is =
      let k : Finds (version r) (block_at (asked_block g)) d d' None = rw (asked, is) at (read (version r)) in
      does_reading (block_at (asked_block g)) (give_read g) None r r d d' d' o o (Ok tt) k (does_quiet r d' o)

abbrev pub DecidesBlock : GetBlock → Repair → Replica → Type 0
DecidesBlock g x r = (reads : Bool) → first_of (get_block_table reads g r) ≡ (if reads then rule_of x else Ignored)

-- the word of a block, or of none, as the table has it
gives_as : (g : GetBlock) (r : Replica) (block : Option (List ℕ)) → DecidesBlock g repair.BlockGiven r → obey_get_block {F = Face} g block (first_of (get_block_table (is_some block) g r)) ≡ give_read g block
gives_as g r None e = rw (e false) refl
gives_as g r (Some b) e = rw (e true) refl

ignores_as : (g : GetBlock) (x : Repair) (r : Replica) (block : Option (List ℕ)) → DecidesBlock g x r → (x ≡ repair.BlockGiven → ⊥) → obey_get_block {F = Face} g block (first_of (get_block_table (is_some block) g r)) ≡ quiet
ignores_as g x r None e n = rw (e false) refl
ignores_as g repair.Ignored r (Some b) e n = rw (e true) refl
ignores_as g repair.EntryGiven r (Some b) e n = rw (e true) refl
ignores_as g repair.EntryTaken r (Some b) e n = rw (e true) refl
ignores_as g repair.BlockGiven r (Some b) e n = absurd (n refl)
ignores_as g (repair.BlockTaken name) r (Some b) e n = rw (e true) refl
ignores_as g (repair.BlockMended name) r (Some b) e n = rw (e true) refl

pub block_given : (g : GetBlock) (x : Repair) (r r' : Replica) (d d' : Option Disk) (o o' : List Output) (result : Result (Unit {0}) Halt) → DecidesBlock g x r → x ≡ repair.BlockGiven
    → Does (reading (block_at (asked_block g)) (give_read g)) r r' d d' o o' result → Does (on_get_block g) r r' d d' o o' result
unfolding on_get_block reading by
block_given g x r r' d d' o o' result e is h =
    let k : DecidesBlock g repair.BlockGiven r = rw is at e in
    record {
      untold = h.untold;
      told = λ y i. subst (λ w. LeftBy (version r) (w (sectors_by (version r)) r y.face) r' y d' o o' result) (sym (gives_as g r (block_at (asked_block g) (sectors_by (version r)) y.face) k)) (h.told y i);
      same = h.same;
    }

pub get_block_ignored : (g : GetBlock) (x : Repair) (r : Replica) (d : Option Disk) (o : List Output) → DecidesBlock g x r → (x ≡ repair.BlockGiven → ⊥) → Does (on_get_block g) r r d d o o (Ok tt)
unfolding on_get_block reading by
get_block_ignored g x r d o e n =
    let h = does_quiet r d o in
    record {
      untold = h.untold;
      told = λ y i. subst (λ w. LeftBy (version r) (w (sectors_by (version r)) r y.face) r y d o o (Ok tt)) (sym (ignores_as g x r (block_at (asked_block g) (sectors_by (version r)) y.face) e n)) (h.told y i);
      same = h.same;
    }

-- ---- give_block

pub found_more : {X : Type 0} (p : X → Bool) (xs : List X) (i : ℕ) → found_at p xs i ≡ None → find p (drop i xs) ≡ find p (drop (i + 1) xs)
found_more p [] zero e = refl
found_more p [] (suc i) e = rw add-one refl
found_more p (x ∷ xs) zero e = elim (p x) as (λ b. cond b (Some x) None ≡ None → cond b (Some x) (find p xs) ≡ find p xs) [ true ↦ λ k. absurd cc | false ↦ λ k. refl ] e
found_more p (x ∷ xs) (suc i) e = rw add-one (rw add-one at (found_more p xs i e))

pub found_here : {X : Type 0} (p : X → Bool) (xs : List X) (i : ℕ) (y : X) → found_at p xs i ≡ Some y → find p (drop i xs) ≡ Some y
found_here p [] zero y e = absurd cc
found_here p [] (suc i) y e = absurd cc
found_here p (x ∷ xs) zero y e = elim (p x) as (λ b. cond b (Some x) None ≡ Some y → cond b (Some x) (find p xs) ≡ Some y) [ true ↦ λ k. k | false ↦ λ k. absurd cc ] e
found_here p (x ∷ xs) (suc i) y e = found_here p xs i y e

pub found_past : {X : Type 0} (p : X → Bool) (xs : List X) (i : ℕ) → length xs ≤ i → find p (drop i xs) ≡ None
found_past p xs i l = rw (drop_all i xs l) refl

pub wanted_some : {X : Type 0} (p : X → Bool) (xs : List X) (y : X) → find p xs ≡ Some y → list_any p xs ≡ true
wanted_some p [] y e = absurd cc
wanted_some p (x ∷ xs) y e = elim (p x) as (λ b. cond b (Some x) (find p xs) ≡ Some y → (b || list_any p xs) ≡ true) [ true ↦ λ k. refl | false ↦ λ k. wanted_some p xs y k ] e

pub wanted_none : {X : Type 0} (p : X → Bool) (xs : List X) → find p xs ≡ None → list_any p xs ≡ false
wanted_none p [] e = refl
wanted_none p (x ∷ xs) e = elim (p x) as (λ b. cond b (Some x) (find p xs) ≡ None → (b || list_any p xs) ≡ false) [ true ↦ λ k. absurd cc | false ↦ λ k. wanted_none p xs k ] e

-- what is found passes the test
passes : {X : Type 0} (p : X → Bool) (xs : List X) (y : X) → find p xs ≡ Some y → p y ≡ true
passes p [] y e = absurd cc
passes p (x ∷ xs) y e =
    cond_both (p x) (Some x) (find p xs) (λ o. o ≡ Some y → p y ≡ true) (λ t k. let same : x ≡ y = cc in subst (λ z. p z ≡ true) same t) (λ f k. passes p xs y k) e

pub is_put : (g : GiveBlock) (xs : List Name) (name : Name) → find (is_wanted is_block g) xs ≡ Some name → is_some (named name g.block) ≡ true
is_put g xs name e = (and_parts (name.address == g.address) (is_some (named name g.block)) (passes (is_wanted is_block g) xs name e)).1

pub may_put : (p : Name → Bool) (name : Name) (r : Replica) → IsReady r → find p r.missing ≡ Some name → MayLoad r
unfolding IsReady MayLoad
may_put p name r h e = record { ready = h; applied = h.sound.waits (λ n. let none : None ≡ Some name = rw n at e in absurd cc) }

tested : (v : ℕ) (d : Option Disk) → Finds v test_of d d is_block
tested v None = record { same = refl; value = tt }
tested v (Some y) = record { same = refl; value = refl }

tests : (g : GiveBlock) (r r' : Replica) (d d' : Option Disk) (o o' : List Output) (result : Result (Unit {0}) Halt) → Does (obey_give_block is_block g (first_of (give_block_table is_block g r))) r r' d d' o o' result
    → Does (on_give_block g) r r' d d' o o' result
unfolding on_give_block
tests g r r' d d' o o' result h = does_reading test_of _ is_block r r' d d d' o o' result (tested (version r) d) (does_by _ r r' d d' o o' result h)

pub block_taken : (g : GiveBlock) (x : Repair) (name : Name) (r r' : Replica) (d d' : Option Disk) (o o' : List Output) (result : Result (Unit {0}) Halt) → first_of (give_block_table is_block g r) ≡ rule_of x
    → x ≡ repair.BlockTaken name → find (is_wanted is_block g) r.missing ≡ Some name → Does (put_found g.block (Some name)) r r' d d' o o' result → Does (on_give_block g) r r' d d' o o' result
block_taken g x name r r' d d' o o' result e is found h =
    let t : first_of (give_block_table is_block g r) ≡ BlockTaken = rw is at e in
    tests g r r' d d' o o' result (rw t (does_by _ r r' d d' o o' result (rw found h)))

pub block_mended : (g : GiveBlock) (x : Repair) (name : Name) (r r' : Replica) (d d' : Option Disk) (o o' : List Output) (result : Result (Unit {0}) Halt) → first_of (give_block_table is_block g r) ≡ rule_of x
    → x ≡ repair.BlockMended name → find (is_wanted is_block g) r.worn ≡ Some name → Does (mend_found g.block (Some name)) r r' d d' o o' result → Does (on_give_block g) r r' d d' o o' result
block_mended g x name r r' d d' o o' result e is found h =
    let t : first_of (give_block_table is_block g r) ≡ BlockMended = rw is at e in
    tests g r r' d d' o o' result (rw t (does_by _ r r' d d' o o' result (rw found h)))

give_block_quiet : (g : GiveBlock) (x : Repair) (r : Replica) (d : Option Disk) (o : List Output) → ((name : Name) → x ≡ repair.BlockTaken name → ⊥) → ((name : Name) → x ≡ repair.BlockMended name → ⊥)
    → Does (obey_give_block is_block g (rule_of x)) r r d d o o (Ok tt)
give_block_quiet g repair.Ignored r d o n m = does_quiet r d o
give_block_quiet g repair.EntryGiven r d o n m = does_quiet r d o
give_block_quiet g repair.EntryTaken r d o n m = does_quiet r d o
give_block_quiet g repair.BlockGiven r d o n m = does_quiet r d o
give_block_quiet g (repair.BlockTaken name) r d o n m = absurd (n name refl)
give_block_quiet g (repair.BlockMended name) r d o n m = absurd (m name refl)

pub give_block_ignored : (g : GiveBlock) (x : Repair) (r : Replica) (d : Option Disk) (o : List Output) → first_of (give_block_table is_block g r) ≡ rule_of x → ((name : Name) → x ≡ repair.BlockTaken name → ⊥)
    → ((name : Name) → x ≡ repair.BlockMended name → ⊥) → Does (on_give_block g) r r d d o o (Ok tt)
give_block_ignored g x r d o e n m = tests g r r d d o o (Ok tt) (rw e (give_block_quiet g x r d o n m))

-- no missing block is wanted: the rule is that of the blocks that have gone bad
pub mended_some : (g : GiveBlock) (r : Replica) (y : Name) → find (is_wanted is_block g) r.worn ≡ Some y → (if list_any (is_wanted is_block g) r.worn then BlockMended else Ignored) ≡ BlockMended
mended_some g r y e = rw (wanted_some (is_wanted is_block g) r.worn y e) refl

pub mended_none : (g : GiveBlock) (r : Replica) → find (is_wanted is_block g) r.worn ≡ None → (if list_any (is_wanted is_block g) r.worn then BlockMended else Ignored) ≡ Ignored
mended_none g r e = rw (wanted_none (is_wanted is_block g) r.worn e) refl
