use Rattle.std.proofs.Common.{length, refl, subst, sym}
use Rattle.vr_edge.specs.Stocks.{FitsOne}
use Rattle.vr_edge.proofs.Taking.{fits_first, fits_rest, took_both}
use Rattle.vr_edge.proofs.attach.attach_entry.Goals as goal

pub returns-in_err-copy_all-clause-kept : goal.returns-in_err-copy_all-clause-kept
returns-in_err-copy_all-clause-kept g c f =
    let first = c.in_ok-copy.ensures.kept (subst (λ t. FitsOne (length t) c.args.stock.now) (sym c.as_bytes.ensures.value) (fits_first c.args.own.now _ c.args.stock.now f)) in
    let rest = c.in_err-copy_all.ensures.kept (fits_rest c.args.own.now _ c.args.stock.now c.copy.new.self f first.1) in
    absurd (let no = rest.0 in cc)

pub returns-clause-kept : goal.returns-clause-kept
returns-clause-kept g c f =
    let first = c.in_ok-copy.ensures.kept (subst (λ t. FitsOne (length t) c.args.stock.now) (sym c.as_bytes.ensures.value) (fits_first c.args.own.now _ c.args.stock.now f)) in
    let rest = c.in_ok-copy_all.ensures.kept (fits_rest c.args.own.now _ c.args.stock.now c.copy.new.self f first.1) in
    (refl, took_both _ _ _ _ _ first.1 rest.1)
