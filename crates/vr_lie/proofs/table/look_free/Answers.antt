use Rattle.std.proofs.Common.{◌∙◌, ap, cond, None, Some, List, ℕ}
use Rattle.std.proofs.lemmas.List.{take_at}
use Rattle.vr_mem.specs.Cells.{disk_of}
use Rattle.vr_rings.specs.Slots.{in_front}
use Rattle.vr_lie.proofs.Ending.{still_free, unread_looked}
use Rattle.vr_lie.proofs.table.look_free.Goals as goal

pub returns-then-not-read_first-clause-value : goal.returns-then-not-read_first-clause-value
returns-then-not-read_first-clause-value c = still_free c.args.held.now.some _ _ c.requires.free ∙ unread_looked c.args.version (disk_of c.args.disk.now).face c.args.slot c.if-not-read_first.ensures.value

pub look_long-requires-clause-free : goal.look_long-requires-clause-free
look_long-requires-clause-free c = still_free c.args.held.now.some _ _ c.requires.free

pub returns-then-u32_at-le-SECTOR_SIZE-clause-value : goal.returns-then-u32_at-le-SECTOR_SIZE-clause-value
returns-then-u32_at-le-SECTOR_SIZE-clause-value c =
    ap (λ (p : List ℕ). cond c.is_short-held.result (Some (in_front p)) None) (take_at c.read_first.new.to c.split_at_mut-first.result.1.now 512 c.read_first.ensures.size) ∙ c.is_short-held.ensures.value
