use Rattle.std.proofs.Common.{◌≡◌, ◌∙◌, ◌+◌, ◌<◌, ap, false, true, length, get_or, arith, rules}
use Rattle.std.specs.Prelude.{string_bytes}
use Rattle.vr_edge.proofs.Copying.{copied_more}
use Rattle.vr_edge.proofs.Taking.{fits_at, texts_count, took_more}
use Rattle.vr_edge.proofs.stock.TextStock.copy_all.Goals as goal

pub returns-in_err-copy-clause-kept : goal.returns-in_err-copy-clause-kept
returns-in_err-copy-clause-kept c f =
    let k = c.loop-word.invariant.kept f in
    let b : c.loop-word.word-index < length c.args.words.now.items = search (rules) in
    let e : c.as_bytes.result.now ≡ string_bytes (get_or c.args.words.now.items c.loop-word.word-index c.word-item.result) = search (rules) in
    let one = c.in_err-copy.ensures.kept (fits_at c.args.words.now.items c.args.self.now c.loop-word.self c.loop-word.word-index c.word-item.result c.as_bytes.result.now f k.2 b e) in
    absurd (let no = one.0 in cc)

pub returns-in_err-ok-clause-kept : goal.returns-in_err-ok-clause-kept
returns-in_err-ok-clause-kept c f =
    let k = c.loop-word.invariant.kept f in
    let b : c.loop-word.word-index < length c.args.words.now.items = search (rules) in
    let room = k.0 in
    let so_far = k.1 in
    let items = f.items in
    let count = texts_count c.args.words.now.items in
    let well = c.push.ensures.succeeds (omega (arith, b, room, so_far, items, count)) in
    absurd (let no : false ≡ true = c.in_err-ok.ensures.variant ∙ well in cc)

pub loop-word-preserved : goal.loop-word-preserved
loop-word-preserved c =
    let b : c.loop-word.word-index < length c.args.words.now.items = search (rules) in
    let e : c.as_bytes.result.now ≡ string_bytes (get_or c.args.words.now.items c.loop-word.word-index c.word-item.result) = search (rules) in record {
      copies = rw (c.push.ensures.items, ← c.in_ok-ok.ensures.variant)
          (copied_more c.loop-word.copies.items c.in_ok-copy.copy c.args.words.now.items c.loop-word.word-index c.word-item.result b c.loop-word.invariant.copies (c.in_ok-copy.ensures.copy ∙ e));
      kept = λ f.
          let k = c.loop-word.invariant.kept f in
          let one = c.in_ok-copy.ensures.kept (fits_at c.args.words.now.items c.args.self.now c.loop-word.self c.loop-word.word-index c.word-item.result c.as_bytes.result.now f k.2 b e) in
          let room = k.0 in
          let kept = c.push.ensures.capacity in
          (omega (arith, room, kept), rw (c.push.ensures.len, ← c.in_ok-ok.ensures.variant) (ap (λ n. n + 1) k.1), took_more _ _ _ _ k.2 one.1);
    }
