-- The entry of a header, as it is found.
use Rattle.std.proofs.Common.{◌≡◌, Option, Some, None, Result, Ok, Err}
use Rattle.std.specs.Prelude.{IfOk, IfSome}
use Rattle.vr_header.specs.declared.header.Header.{Header}
use Rattle.vr_header.specs.Made.{Whole}
use Rattle.vr_rings.specs.Slots.{IsWhole}

some_header : (h : Header) (found : Option Whole) → IfSome found (λ e. (e.header ≡ h) × IsWhole e) → IfSome found (λ e. e.header ≡ h)
some_header h None w = tt
some_header h (Some e) w = w.0

pub header_found : {E : Type 0} (h : Header) (result : Result (Option Whole) E) → IfOk result (λ found. IfSome found (λ e. (e.header ≡ h) × IsWhole e)) → IfOk result (λ found. IfSome found (λ e. e.header ≡ h))
header_found h (Ok found) w = some_header h found w
header_found h (Err fault) w = tt
