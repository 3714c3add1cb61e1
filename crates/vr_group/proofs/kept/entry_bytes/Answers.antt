use Rattle.std.proofs.Common.{◌++◌, ◌∙◌, ap}
use Rattle.vr_header.specs.Made.{entry_bytes, entry_of}
use Rattle.vr_header.proofs.EntryLaws.{entry_again}
use Rattle.vr_group.proofs.kept.entry_bytes.Goals as goal

pub returns : goal.returns
returns c =
    let e = c.args.entry.now in
    ap entry_of (c.from_vec.ensures ∙ (c.in_ok-write.ensures.ok ∙ ap (λ bytes. bytes ++ entry_bytes e) c.in_ok-bytes.ensures.items)) ∙ entry_again e c.header.ensures.entry c.in_ok-write.ensures.header
