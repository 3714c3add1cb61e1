-- The lines that are judged when more bytes have come.
use Rattle.std.proofs.Common.{◌≡◌, ℕ, List, [], ◌∷◌, ◌++◌, ap, ◌∙◌, append_assoc}
use Rattle.vr_lines.specs.Cuts.{Cut, cut, whole_lines}
use Rattle.vr_lines.proofs.Cutting.{extended, cut_append, cut_line, cut_part}
use Rattle.cmd_replay.specs.Playing.{heard, if_too_long}

pub heard_append : (xs ys : List ℕ) → heard (xs ++ ys) ≡ whole_lines xs ++ heard ((cut xs).last ++ ys)
unfolding heard extended
heard_append xs ys =
    ap (λ (c : Cut). c.lines ++ if_too_long c.last) (cut_append xs ys)
    ∙ append_assoc (cut xs).lines (cut ((cut xs).last ++ ys)).lines (if_too_long (cut ((cut xs).last ++ ys)).last)

pub heard_line : (p ys : List ℕ) → whole_lines p ≡ [] → heard (p ++ 10 ∷ ys) ≡ p ∷ heard ys
unfolding heard
heard_line p ys h = ap (λ (c : Cut). c.lines ++ if_too_long c.last) (cut_line p ys h)

pub heard_part : (p : List ℕ) → whole_lines p ≡ [] → heard p ≡ if_too_long p
unfolding heard
heard_part p h = ap (λ (c : Cut). c.lines ++ if_too_long c.last) (cut_part p h)
