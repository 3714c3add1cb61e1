-- Entries that are kept as their bytes.
use Rattle.std.proofs.Common.{ℕ, ◌≡◌, true, ap, List, Some}
use Rattle.std.specs.Prelude.{is_some}
use Rattle.std.specs.Option.{option_map_or}
use Rattle.vr_header.specs.Made.{Whole, entry_of}
use Rattle.vr_header.specs.Names.{root_header}
use Rattle.vr_header.specs.declared.operation.Operation.TheVariants.{Register}
use Rattle.vr_msg.specs.declared.frame.Prepare.{Prepare}
use Rattle.vr_group.specs.Letters.{entry_in}

-- the entry that is read is the one in the bytes
pub entry_there : (bytes : List ℕ) (e : Whole) → entry_of bytes ≡ Some e → entry_in bytes ≡ e
unfolding entry_in
entry_there bytes e p = ap (λ o. option_map_or (λ (e : Whole). e) o (record { header = root_header 0; operation = Register })) p

pub prepare_there : (p : Prepare) (bytes : List ℕ) → entry_of bytes ≡ Some p.entry → record p { entry = entry_in bytes } ≡ p
prepare_there p bytes e = ap (λ (w : Whole). let q : Prepare = record p { entry = w } in q) (entry_there bytes p.entry e)

pub bytes_there : (bytes : List ℕ) (e : Whole) → entry_of bytes ≡ Some e → is_some (entry_of bytes) ≡ true
bytes_there bytes e p = ap is_some p
