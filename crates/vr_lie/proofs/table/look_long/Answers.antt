use Rattle.std.proofs.Common.{◌++◌, ◌-◌, ◌≡◌, ◌∙◌, None, Some, List, ℕ, ap, arith, cond, length}
use Rattle.std.specs.Prelude.{is_some, replicate}
use Rattle.vr_mem.specs.Cells.{disk_of}
use Rattle.vr_rings.specs.Slots.{in_front, whole_of}
use Rattle.vr_lie.proofs.Early.{free_found, front_held, none_looked, some_map, whole_looked}
use Rattle.vr_lie.proofs.Ending.{still_free}
use Rattle.vr_lie.proofs.table.look_long.Goals as goal

pub returns-then-read_front-clause-value : goal.returns-then-read_front-clause-value
returns-then-read_front-clause-value c =
    let b = c.read_front.new.to in
    let z = c.fill.new.self in
    let s = c.is_some-held.result in
    let zeros : z ≡ replicate (length c.split_at_mut-front.result.1.now) 0 = c.fill.ensures.after (λ y e. e) in
    let long : length c.split_at_mut-front.result.1.now ≡ 4096 - length b = (let l = c.split_at_mut-front.ensures.back_len in let n = c.read_front.ensures.size in let k = c.prepare_sectors-count.ensures.count in omega (arith, l, n, k)) in
    let same : b ++ z ≡ in_front b = front_held b z (length c.split_at_mut-front.result.1.now) zeros long in
    let whole = c.is_some-held.ensures ∙ (ap is_some c.whole_front.ensures.value ∙ some_map _ (whole_of (in_front b))) in
    whole_looked c.args.version (disk_of c.args.disk.now).face c.args.slot (in_front b) None (cond s (Some (b ++ z)) None) c.requires.own c.if-read_front.ensures.value
    (ap (λ (p : List ℕ). cond s (Some p) None) same ∙ free_found s (in_front b) whole)

pub returns-else-read_front-clause-value : goal.returns-else-read_front-clause-value
returns-else-read_front-clause-value c =
    still_free c.args.held.now.some _ _ c.requires.free ∙ none_looked c.args.version (disk_of c.args.disk.now).face c.args.slot None c.if-read_front.ensures.value
