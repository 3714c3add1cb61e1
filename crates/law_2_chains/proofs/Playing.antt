-- What a script leaves, and what its cuts leave, as the group's moves say.
use Rattle.std.proofs.Common.{ℕ, zero, suc, ◌+◌, ◌<◌, ◌≡◌, ◌∙◌, arith, refl, sym, ap, List, [], ◌∷◌, ◌++◌, length, take}
use Rattle.std.proofs.lemmas.List.{append_assoc, append-nil}
use Rattle.vr_header.specs.declared.header.Header.{Header}
use Rattle.vr_rules.specs.Steps.{Effect, outputs, output_of}
use Rattle.vr_world.specs.Group.{carried_out, made_in, made_by_effect}
use Rattle.law_2_chains.specs.Local.{Local, begun, through, WhereverCut}
use Rattle.law_2_chains.specs.ChainLaws.{Leaves, CutAt}

pub leaves : (es : List Effect) (l : Local) → Leaves es l
unfolding carried_out made_in outputs
leaves [] l = record { member = refl; made = sym (append-nil l.made); said = sym (append-nil l.said) }
leaves (e ∷ es) l =
    let rest = leaves es (through e l) in
    record {
      member = rest.member;
      made = rest.made ∙ append_assoc l.made (made_by_effect e) (made_in es);
      said = rest.said ∙ append_assoc l.said (output_of e) (outputs es);
    }

pub cut_at : (P : Local → Type 0) (es : List Effect) (l : Local) (n : ℕ) → n < length es → WhereverCut P es l → CutAt P es l n
unfolding carried_out made_in
cut_at P [] l n a h = absurd (omega arith)
cut_at P (e ∷ es) l zero a h = record { left = begun e l; holds = h.0; member = refl; made = ap (λ (hs : List Header). l.made ++ hs) (sym (append-nil (made_by_effect e))) }
cut_at P (e ∷ es) l (suc n) a h =
    let rest = cut_at P es (through e l) n (omega arith) h.1 in
    let next : suc (n + 1) ≡ suc n + 1 = omega arith in
    record {
      left = rest.left;
      holds = rest.holds;
      member = rest.member;
      made = rest.made ∙ (append_assoc l.made (made_by_effect e) (made_in (take (n + 1) es)) ∙ ap (λ (m : ℕ). l.made ++ made_in (take m (e ∷ es))) next);
    }
