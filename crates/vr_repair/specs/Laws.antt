-- What a copy that comes makes good in that very step, on a disk on which nothing waits.
use Rattle.std.specs.Prelude.{ℕ, ◌%◌, ◌≡◌, true, [], ◌∷◌, List, Some, None, find, is_some, ◌==◌}
use Rattle.vr_msg.specs.declared.frame.GiveBlock.{GiveBlock}
use Rattle.vr_msg.specs.declared.frame.GivePrepare.{GivePrepare}
use Rattle.vr_repair.specs.Repairs.{is_block}
use Rattle.vr_rules.specs.Deciding.{first_of, give_block_table, give_prepare_table, is_wanted}
use Rattle.vr_rules.specs.declared.rule.Rule.TheVariants.{BlockTaken, EntryTaken}
use Rattle.vr_disk.specs.DiskState.{Face, IsFace}
use Rattle.vr_ckpt.specs.Blocks.{named}
use Rattle.vr_ckpt.specs.declared.name.Name.{Name}
use Rattle.vr_header.specs.declared.part.Part.TheVariants.{Here}
use Rattle.vr_header.specs.Made.{Whole}
use Rattle.vr_volatile.specs.Ready.{IsReady, MayStore}
use Rattle.vr_rings.specs.Slots.{IsWhole}
use Rattle.vr_rules.specs.Replica.{Replica, part_at, version}
use Rattle.vr_rules.specs.Rules.{on_give_block, on_give_prepare, without}
use Rattle.vr_rules.specs.Sectors.{sectors_by}
use Rattle.vr_rules.specs.Steps.{Effect, PutBlock, after_all}
use Rattle.vr_rules.specs.Words.{write}

-- an entry that is stored is known to be, and its slot reads as it, on a file of the replica's version
pub record EntryRepaired (e : Whole) (r : Replica) (f : Face) : Type 0 where
  pub here : part_at (write e (sectors_by (version r)) r f).replica e.header.op ≡ Here e.header
  pub reads : (sectors_by (version r)).entry (after_all (sectors_by (version r)) f (write e (sectors_by (version r)) r f).script) (e.header.op % 64) ≡ Some e

abbrev pub EntriesAreRepaired : Type 0
EntriesAreRepaired = (e : Whole) (r : Replica) (f : Face) → IsReady r → MayStore e r → IsWhole e → IsFace f → f.waiting ≡ [] → EntryRepaired e r f

-- a block that is put isn't missing any more, and reads under its name
pub record BlockRepaired (name : Name) (block : List ℕ) (r : Replica) (f : Face) : Type 0 where
  pub gone : find (λ m. m.address == name.address) (without name r).missing ≡ None
  pub reads : (sectors_by (version r)).block (after_all (sectors_by (version r)) f (PutBlock name block ∷ [])) name ≡ Some block

abbrev pub BlocksAreRepaired : Type 0
BlocksAreRepaired = (name : Name) (block : List ℕ) (r : Replica) (f : Face) → is_some (named name block) ≡ true → IsFace f → f.waiting ≡ [] → BlockRepaired name block r f

-- ---- the whole step of a message

-- an entry that comes and is taken: at the end of the step, whatever was applied after it, its slot reads as it
abbrev pub TakenEntriesRead : Type 0
TakenEntriesRead =
    (g : GivePrepare) (r : Replica) (f : Face) → IsReady r → IsWhole g.entry → IsFace f → f.waiting ≡ [] → first_of (give_prepare_table g r) ≡ EntryTaken
    → (sectors_by (version r)).entry (after_all (sectors_by (version r)) f (on_give_prepare g (sectors_by (version r)) r f).script) (g.entry.header.op % 64) ≡ Some g.entry

-- a block that comes and is taken: it is put first, and reads under its name before anything is loaded or applied
pub record TakenBlock (g : GiveBlock) (name : Name) (r : Replica) (f : Face) : Type 0 where
  pub rest : List Effect
  pub first : (on_give_block g (sectors_by (version r)) r f).script ≡ PutBlock name g.block ∷ rest
  pub reads : (sectors_by (version r)).block (after_all (sectors_by (version r)) f (PutBlock name g.block ∷ [])) name ≡ Some g.block

abbrev pub TakenBlocksRead : Type 0
TakenBlocksRead =
    (g : GiveBlock) (name : Name) (r : Replica) (f : Face) → IsFace f → f.waiting ≡ [] → first_of (give_block_table is_block g r) ≡ BlockTaken → find (is_wanted is_block g) r.missing ≡ Some name
    → TakenBlock g name r f
