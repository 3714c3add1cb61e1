-- An opening in two: what it mends and finds, and what comes of it.
use Rattle.std.proofs.Common.{◌≡◌, sym, ap, refl, List, [], ◌∷◌, ◌++◌}
use Rattle.std.proofs.lemmas.List.{append_assoc}
use Rattle.vr_super.specs.Copies.{SuperValue}
use Rattle.vr_rules.specs.Replica.{Replica}
use Rattle.vr_rules.specs.Steps.{Effect, Mend, Setting, Word, ◌⨾◌, after_all, does}
use Rattle.vr_rules.specs.Opening.{mending, opening, recover_parts, resuming}

pub after_both : {F : Type 0} (s : Setting F) (f : F) (a b : List Effect) → after_all s f (a ++ b) ≡ after_all s (after_all s f a) b
unfolding after_all
after_both s f [] b = refl
after_both s f (e ∷ es) b = after_both s (s.after f e) es b

-- one word after two
pub regrouped : {F : Type 0} (v x w : Word F) (s : Setting F) (r : Replica) (f : F) → ((v ⨾ x) ⨾ w) s r f ≡ (v ⨾ (x ⨾ w)) s r f
unfolding ◌⨾◌
regrouped v x w s r f =
    let a = v s r f in
    let b = x s a.replica (after_all s f a.script) in
    rw (after_both s f a.script b.script) (ap (λ (y : List Effect). record { replica = (w s b.replica (after_all s (after_all s f a.script) b.script)).replica; script = y }) (append_assoc a.script b.script (w s b.replica (after_all s (after_all s f a.script) b.script)).script))

pub openings_go_on : {F : Type 0} (s : Setting F) (f : F) (v : SuperValue) (r : Replica) → opening v s r f ≡ (mending v ⨾ resuming) s r f
unfolding opening
openings_go_on s f v r = sym (regrouped (does (λ q. Mend v)) (recover_parts v) resuming s r f)
