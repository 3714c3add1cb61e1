use Rattle.std.proofs.Common.{◌≡◌, ◌∙◌, ap, sym}
use Rattle.std.specs.Prelude.{IfOk}
use Rattle.vr_disk.specs.DiskState.{Disk}
use Rattle.vr_disk.proofs.Telling.{if_some, some_if}
use Rattle.vr_ckpt.specs.Blocks.{Content, named}
use Rattle.vr_ckpt.specs.Grid.{IsWhole, named_at}
use Rattle.vr_ckpt.specs.declared.name.Name.{Name}
use Rattle.vr_ckpt.proofs.Contents.{named_found}
use Rattle.vr_ckpt.specs.Loads.{read_root, root_at}
use Rattle.vr_ckpt.proofs.Gathering.{if_ok, root_is}
use Rattle.vr_ckpt.proofs.loading.load_root.Goals as goal

pub returns-in-Ok-clause-value : goal.returns-in-Ok-clause-value
returns-in-Ok-clause-value g c =
    let told = g.D.SectorDisk.told c.args.disk.now in
    let name = c.args.name.now in
    let b = c.as_slice.result.now in
    let same : b ≡ c.read_block.new.to = c.as_slice.ensures.bytes in
    let w : IsWhole name b c.in-Ok.size = rw same c.in-Ok.ensures.whole in
    let op = some_if (λ (x : Content). c.view_of.result.op ≡ x.op) (named name b) w.content c.view_of.ensures.op w.named in
    let kind = some_if (λ (x : Content). c.view_of.result.kind ≡ x.kind) (named name b) w.content c.view_of.ensures.kind w.named in
    let payload = some_if (λ (x : Content). c.view_of.result.payload.now ≡ x.payload) (named name b) w.content c.view_of.ensures.payload w.named in
    let address : w.content.address ≡ name.address = ap (λ (n : Name). n.address) (named_found name b w.content w.named).1 in
    if_some (λ (d : Disk). IfOk c.read_root.result (λ x. x ≡ root_at d.face name)) told (λ d e.
    let reads : named_at d.face name ≡ named name b = some_if (λ (d : Disk). named_at d.face name ≡ named name c.read_block.new.to) told d c.in-Ok.ensures.exact e ∙ ap (named name) (sym same) in
    if_ok (λ x. x ≡ read_root w.content) (λ x. x ≡ root_at d.face name) c.read_root.result (λ x h. h ∙ sym (root_is d.face name b w.content reads w.named)) (c.read_root.ensures w.content address (sym op) (sym kind) (sym payload)))
