-- The rule that a message of repair leads to is the one of that name; and the words of repair with names.
use Rattle.std.specs.Prelude.{ℕ, Bool, List, Option, None, Some, is_some, slice_get, if◌then◌else◌}
use Rattle.std.specs.Option.{option_and_then}
use Rattle.vr_ckpt.specs.Blocks.{named}
use Rattle.vr_ckpt.specs.declared.name.Name.{Name}
use Rattle.vr_header.specs.Made.{Whole}
use Rattle.vr_rules.specs.declared.rule.Rule.{Rule}
use Rattle.vr_rules.specs.declared.rule.Rule.TheVariants.{Ignored, EntryGiven, EntryTaken, BlockGiven, BlockTaken, BlockMended}
use Rattle.vr_rules.specs.Outputs.{give_prepare, send_to}
use Rattle.vr_rules.specs.Steps.{Word, by, says, when}
use Rattle.vr_rules.specs.Words.{is_loaded, load}
use Rattle.vr_repair.specs.declared.deciding.Repair.{Repair}
use Rattle.vr_repair.specs.declared.deciding.Repair.TheVariants as repair

abbrev pub rule_of : Repair → Rule
rule_of repair.Ignored = Ignored
rule_of repair.EntryGiven = EntryGiven
rule_of repair.EntryTaken = EntryTaken
rule_of repair.BlockGiven = BlockGiven
rule_of (repair.BlockTaken name) = BlockTaken
rule_of (repair.BlockMended name) = BlockMended

-- these bytes are the whole block of this name
abbrev pub is_block : Name → List ℕ → Bool
is_block name bytes = is_some (named name bytes)

-- an entry that is given to one replica
abbrev pub gives : {F : Type 0} → ℕ → Whole → Word F
gives to e = says (λ r. send_to to (give_prepare e r) r)

-- the item at a place, where it passes a test
abbrev pub found_at : {X : Type 0} → (X → Bool) → List X → ℕ → Option X
found_at p xs i = option_and_then (λ x. if p x then Some x else None) (slice_get xs i)

-- the checkpoint is loaded where none of its blocks is missing
unfoldable pub loads_whole : {F : Type 0} → Word F
loads_whole = by (λ r. when (is_loaded r) load)
