use Rattle.std.proofs.Common.{◌≡◌, sym, ap, ◌∙◌, drop, Some}
use Rattle.std.specs.Option.{option_map}
use Rattle.vr_header.specs.Views.{operation_seen}
use Rattle.vr_header.specs.Bodies.{operation_of}
use Rattle.vr_header.proofs.EntryLaws.{entry_made, entry_operation, some_seen}
use Rattle.vr_header.proofs.view.entry_at.Goals as goal

pub unwrap-operation-requires : goal.unwrap-operation-requires
unwrap-operation-requires c =
    some_seen c.read_operation.result (rw (c.read_operation.ensures, c.split_at.ensures.back) (entry_operation c.args.bytes.now c.decoded_header-header.result c.requires c.decoded_header-header.ensures.exact))

pub returns : goal.returns
returns c =
    let seen = c.unwrap-operation.result in
    let operation : operation_of c.decoded_header-header.result.version (drop 128 c.args.bytes.now) ≡ Some (operation_seen seen) =
    sym (ap (operation_of c.decoded_header-header.result.version) c.split_at.ensures.back) ∙ (sym c.read_operation.ensures ∙ ap (option_map operation_seen) c.unwrap-operation.ensures) in
    entry_made c.args.bytes.now c.decoded_header-header.result (operation_seen seen) c.requires c.decoded_header-header.ensures.exact operation
