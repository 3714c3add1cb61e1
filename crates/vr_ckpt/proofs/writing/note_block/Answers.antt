use Rattle.std.proofs.Common.{arith}
use Rattle.vr_ckpt.proofs.Sealed.{header_kept, payload_kept, sealed}
use Rattle.vr_ckpt.proofs.writing.note_block.Goals as goal

pub u32_at-end-requires : goal.u32_at-end-requires
u32_at-end-requires g c = let s = (sealed c.args.block.now c.requires).size in omega arith

pub sum_at-header-requires : goal.sum_at-header-requires
sum_at-header-requires g c = let s = (sealed c.args.block.now c.requires).size in omega arith

pub sum_at-payload-requires : goal.sum_at-payload-requires
sum_at-payload-requires g c = let s = (sealed c.args.block.now c.requires).size in omega arith

pub slice_bounds-keep_name-end : goal.slice_bounds-keep_name-end
slice_bounds-keep_name-end g c = let s = (sealed c.args.block.now c.requires).size in omega arith

pub keep_name-requires : goal.keep_name-requires
keep_name-requires g c = header_kept c.args.block.now c.sum_at-header.result.0 (sealed c.args.block.now c.requires) c.sum_at-header.ensures

pub slice_bounds-keep_name-count-2 : goal.slice_bounds-keep_name-count-2
slice_bounds-keep_name-count-2 g c =
    let l = (sealed c.args.block.now c.requires).least in
    let e = c.u32_at-end.ensures in
    omega arith

pub slice_bounds-keep_name-start-2 : goal.slice_bounds-keep_name-start-2
slice_bounds-keep_name-start-2 g c =
    let l = (sealed c.args.block.now c.requires).least in
    let e = c.u32_at-end.ensures in
    omega arith

pub slice_bounds-keep_name-end-2 : goal.slice_bounds-keep_name-end-2
slice_bounds-keep_name-end-2 g c =
    let s = (sealed c.args.block.now c.requires).size in
    let m = (sealed c.args.block.now c.requires).most in
    let e = c.u32_at-end.ensures in
    omega arith

pub keep_name-requires-2 : goal.keep_name-requires-2
keep_name-requires-2 g c =
    payload_kept c.args.block.now c.sum_at-payload.result.0 c.u32_at-end.result (sealed c.args.block.now c.requires) c.u32_at-end.ensures c.sum_at-payload.ensures
