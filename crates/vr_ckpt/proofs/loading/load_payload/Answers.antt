use Rattle.std.proofs.Common.{◌≡◌, ◌∙◌, ap, sym}
use Rattle.std.specs.Prelude.{IfOk}
use Rattle.vr_disk.specs.DiskState.{Disk}
use Rattle.vr_disk.proofs.Telling.{if_some, some_if}
use Rattle.vr_ckpt.specs.Blocks.{Content, named}
use Rattle.vr_ckpt.specs.Grid.{IsWhole, named_at}
use Rattle.vr_ckpt.specs.Loads.{data_at, data_of}
use Rattle.vr_ckpt.proofs.Gathering.{data_is, if_ok}
use Rattle.vr_ckpt.proofs.loading.load_payload.Goals as goal

pub returns-in-Ok-clause-value : goal.returns-in-Ok-clause-value
returns-in-Ok-clause-value g c =
    let told = g.D.SectorDisk.told c.args.disk.now in
    let name = c.args.name.now in
    let size = c.args.size in
    let b = c.as_slice.result.now in
    let same : b ≡ c.read_block.new.to = c.as_slice.ensures.bytes in
    let w : IsWhole name b c.in-Ok.found = rw same c.in-Ok.ensures.whole in
    let kind = some_if (λ (x : Content). c.view_of.result.kind ≡ x.kind) (named name b) w.content c.view_of.ensures.kind w.named in
    let payload = some_if (λ (x : Content). c.view_of.result.payload.now ≡ x.payload) (named name b) w.content c.view_of.ensures.payload w.named in
    if_some (λ (d : Disk). IfOk c.data_of.result (λ x. x ≡ data_at d.face name size)) told (λ d e.
    let reads : named_at d.face name ≡ named name b = some_if (λ (d : Disk). named_at d.face name ≡ named name c.read_block.new.to) told d c.in-Ok.ensures.exact e ∙ ap (named name) (sym same) in
    if_ok (λ x. x ≡ data_of size w.content) (λ x. x ≡ data_at d.face name size) c.data_of.result (λ x h. h ∙ sym (data_is d.face name b size w.content reads w.named)) (c.data_of.ensures w.content (sym kind) (sym payload)))
