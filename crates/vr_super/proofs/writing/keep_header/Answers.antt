use Rattle.std.proofs.Common.{◌≡◌, ◌∙◌, ◌+◌, ◌-◌, ◌*◌, sym, ap, arith, take, drop}
use Rattle.vr_base.specs.Bytes.{name_of, piece}
use Rattle.vr_super.proofs.Shared.{header_named, listed_within}
use Rattle.vr_super.proofs.writing.keep_header.Goals as goal

pub overflow_mul-start : goal.overflow_mul-start
overflow_mul-start g c = let l = listed_within c.args.value.now c.args.at c.text-text.ensures.good c.requires in omega arith

pub overflow_add-start : goal.overflow_add-start
overflow_add-start g c = let l = listed_within c.args.value.now c.args.at c.text-text.ensures.good c.requires in omega arith

pub overflow_add-start-2 : goal.overflow_add-start-2
overflow_add-start-2 g c = let l = listed_within c.args.value.now c.args.at c.text-text.ensures.good c.requires in omega arith

pub overflow_add-start-3 : goal.overflow_add-start-3
overflow_add-start-3 g c = let l = listed_within c.args.value.now c.args.at c.text-text.ensures.good c.requires in omega arith

pub slice_bounds-keep_name-end : goal.slice_bounds-keep_name-end
slice_bounds-keep_name-end g c =
    let l = listed_within c.args.value.now c.args.at c.text-text.ensures.good c.requires in
    let n = c.text-text.ensures.size in
    omega arith

pub keep_name-requires : goal.keep_name-requires
unfolding piece
keep_name-requires g c =
    let at = c.args.at in
    let start = 112 + 128 * at in
    let e = c.text-text.ensures.text in
    let named = ap (λ t. name_of (piece (start + 16) 112 t)) (sym e) in
    let size : (start + 128) - (start + 16) ≡ 112 = omega arith in
    c.sum_at.ensures
    ∙ (ap (piece start 16) e ∙ (header_named c.args.value.now at c.text-text.ensures.good c.requires ∙ (named ∙ ap (λ n. name_of (take n (drop (start + 16) c.text-text.result.now))) (sym size))))
