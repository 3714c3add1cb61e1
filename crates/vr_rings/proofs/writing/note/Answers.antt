use Rattle.std.proofs.Common.{ℕ, ap, arith, length, refl, sym, ◌∙◌, take}
use Rattle.vr_base.specs.declared.sum.Sum.{Sum}
use Rattle.vr_base.specs.Bytes.{name_of}
use Rattle.vr_header.specs.declared.header.Header.{Header}
use Rattle.vr_rings.specs.Slots.{prepare_bytes}
use Rattle.vr_rings.proofs.Spelling.{body_behind, fits, front_whole, named_front}
use Rattle.vr_rings.proofs.writing.note.Goals as goal

pub keep_name-requires : goal.keep_name-requires
keep_name-requires g c =
    let size = c.get.ensures.value ∙ ap (λ (h : Header). h.size) c.header-header.ensures.value in
    let whole = front_whole (length c.args.bytes.now) c.args.entry.now.header.size (prepare_bytes c.args.entry.now) c.args.bytes.now c.split_at.result.0.now (fits c.args.entry.now c.args.bytes.now c.requires.whole c.requires.size) c.requires.bytes (c.split_at.ensures.front ∙ ap (λ (n : ℕ). take n c.args.bytes.now) size) in
    let named = named_front c.args.entry.now (prepare_bytes c.args.entry.now) c.split_at.result.0.now c.split_at-2.result.0.now c.split_at-3.result.1.now c.requires.whole refl whole c.split_at-2.ensures.front c.split_at-3.ensures.back in
    ap (λ (s : Sum). s.0) c.name.ensures ∙ ap name_of (sym named)

pub keep_name-requires-2 : goal.keep_name-requires-2
keep_name-requires-2 g c =
    let size = c.get.ensures.value ∙ ap (λ (h : Header). h.size) c.header-header.ensures.value in
    let whole = front_whole (length c.args.bytes.now) c.args.entry.now.header.size (prepare_bytes c.args.entry.now) c.args.bytes.now c.split_at.result.0.now (fits c.args.entry.now c.args.bytes.now c.requires.whole c.requires.size) c.requires.bytes (c.split_at.ensures.front ∙ ap (λ (n : ℕ). take n c.args.bytes.now) size) in
    let body = body_behind c.args.entry.now (prepare_bytes c.args.entry.now) c.split_at.result.0.now c.split_at-2.result.1.now c.requires.whole refl whole c.split_at-2.ensures.back in
    ap (λ (h : Header). h.body.0) c.header-header.ensures.value ∙ (c.requires.whole.entry.body.name ∙ ap name_of (sym body))

pub split_at-requires : goal.split_at-requires
split_at-requires g c =
    let size = c.get.ensures.value ∙ ap (λ (h : Header). h.size) c.header-header.ensures.value in
    let l = fits c.args.entry.now c.args.bytes.now c.requires.whole c.requires.size in
    omega (arith, size, l)
