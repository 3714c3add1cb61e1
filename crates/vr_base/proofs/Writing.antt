-- What writes leave: into the midst of bytes, and at their end.
use Rattle.std.proofs.Common.{◌≡◌, ℕ, List, ◌++◌, length, take, drop, refl, sym, ap, ◌∙◌, append_assoc, subst}
use Rattle.std.proofs.lemmas.List.{take-append-drop, take_at}
use Rattle.vr_base.specs.Bytes.{KeepsFront}
use Rattle.std.proofs.lemmas.Slice.{take-put_mid, drop-put_mid}

pub ruleset puts = (take-put_mid, drop-put_mid)

-- what keeps a front keeps a shorter one
pub kept_before : (before more now : List ℕ) → KeepsFront (before ++ more) now → KeepsFront before now
kept_before before more now e =
    let rest = drop (length (before ++ more)) now in
    let whole : before ++ (more ++ rest) ≡ now = sym (append_assoc before more rest) ∙ (ap (λ t. t ++ rest) (sym e) ∙ take-append-drop (length (before ++ more)) now) in
    subst (λ t. take (length before) t ≡ before) whole (take_at before (more ++ rest) (length before) refl)
