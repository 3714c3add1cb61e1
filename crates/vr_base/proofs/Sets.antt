-- Sets of replicas.
use Rattle.std.proofs.Common.{◌≡◌, ◌⊎◌, inl, inr, ℕ, Bool, true, false, cond, eqb, ltb, refl, sym, ◌∙◌}
use Rattle.std.specs.Prelude.{slice_set}
use Rattle.std.proofs.lemmas.Bool.{eqb-true, eq-eqb}
use Rattle.std.proofs.lemmas.List.{get_or-set_other}
use Rattle.vr_base.specs.declared.replicas.Replicas.{Replicas}
use Rattle.vr_base.specs.Replicas.{with_replica, has_replica}

has_other : (s : Replicas) (i r : ℕ) → (r ≡ i → ⊥) → has_replica (with_replica s i) r ≡ true → has_replica s r ≡ true
has_other s i r other h =
    let cases : (b : Bool) → has_replica (cond b (record { 0 = slice_set s.0 i true }) s) r ≡ true → has_replica s r ≡ true =
    elim [ true ↦ λ k. sym (get_or-set_other s.0 i r true false other) ∙ k | false ↦ λ k. k ] in
    cases (ltb i 6) h

-- a member of a set with one more is that one, or was in it
pub has_with : (s : Replicas) (i r : ℕ) → has_replica (with_replica s i) r ≡ true → (r ≡ i) ⊎ (has_replica s r ≡ true)
has_with s i r h =
    let cases : (b : Bool) → eqb r i ≡ b → (r ≡ i) ⊎ (has_replica s r ≡ true) =
    elim [ true ↦ λ e. inl (eqb-true r i e) | false ↦ λ e. inr (has_other s i r (λ z. let t = eq-eqb r i z in absurd (cc)) h) ] in
    cases (eqb r i) refl
