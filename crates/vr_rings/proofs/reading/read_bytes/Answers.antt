use Rattle.std.proofs.Common.{◌-◌, ◌*◌, ◌≡◌, ◌∙◌, ap, length, length-drop, rules}
use Rattle.std.specs.Prelude.{replicate}
use Rattle.vr_rings.proofs.Spelling.{filled}
use Rattle.vr_rings.proofs.reading.read_bytes.Goals as goal

pub returns : goal.returns
returns g c =
    let count = c.prepare_sectors-count.result in
    let long : length c.split_at_mut-front.result.1.now ≡ 4096 - 512 * count = ap length c.split_at_mut-front.ensures.back ∙ (length-drop (512 * count) c.args.to.now ∙ ap (λ n. n - 512 * count) c.requires.size) in
    record {
      told = search rules;
      faults = search rules;
      size = search rules;
      value = filled c.args.version c.args.slot c.prepare_place.result count (g.D.SectorDisk.told c.args.disk.now) c.read_sectors.result c.read_sectors.new.to c.fill.new.self c.prepare_place.ensures.place c.prepare_sectors-count.ensures.count c.read_sectors.ensures.value (c.fill.ensures.after (λ y e. e) ∙ ap (λ n. replicate n 0) long);
    }
