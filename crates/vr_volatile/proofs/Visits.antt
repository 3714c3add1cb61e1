-- The places of a disk, and blocks found bad.
use Rattle.std.proofs.Common.{◌^◌, ◌≡◌, ◌≤◌, ◌∙◌, sym, ap, cond, Bool, true, false, [], ◌∷◌, ◌++◌}
use Rattle.vr_rules.specs.Replica.{Replica}
use Rattle.vr_rules.specs.Words.{with_worn}
use Rattle.vr_ckpt.specs.declared.name.Name.{Name}
use Rattle.vr_volatile.specs.Ready.{IsReady}
use Rattle.vr_volatile.specs.Worn.{is_new}

pub number_fits : (r : Replica) → IsReady r → r.checkpoint ≤ 2 ^ 62
unfolding IsReady
number_fits r h = h.sound.order.number

pub worn_new : (name : Name) (r q : Replica) (b : Bool) → b ≡ is_new name r → b ≡ true → q ≡ record r { worn = r.worn ++ name ∷ [] } → q ≡ with_worn name r
worn_new name r q b e t i = i ∙ ap (λ (c : Bool). record r { worn = cond c (r.worn ++ name ∷ []) r.worn }) (sym t ∙ e)

pub worn_old : (name : Name) (r : Replica) (b : Bool) → b ≡ is_new name r → b ≡ false → r ≡ with_worn name r
worn_old name r b e t = ap (λ (c : Bool). record r { worn = cond c (r.worn ++ name ∷ []) r.worn }) (sym t ∙ e)
