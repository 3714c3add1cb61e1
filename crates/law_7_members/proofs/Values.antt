-- The value that a member's program finds on its disk.
use Rattle.std.proofs.Common.{ℕ, ◌≡◌, ◌∙◌, sym, ap, refl, true, false, cond, Option, Some, None}
use Rattle.std.specs.Prelude.{◌==◌}
use Rattle.std.specs.Option.{option_and_then}
use Rattle.std.proofs.lemmas.Bool.{eq-eqb}
use Rattle.vr_disk.specs.DiskState.{Face}
use Rattle.vr_super.specs.Copies.{SuperValue}
use Rattle.vr_super.specs.Opens.{opens}
use Rattle.vr_rules.specs.Sectors.{of_version, sectors_by}

version_is : (n : ℕ) (o : Option SuperValue) (v : SuperValue) → option_and_then (of_version n) o ≡ Some v → o ≡ Some v
version_is n None v e = absurd cc
version_is n (Some w) v e =
    elim (w.fields.version == n) as (λ t. cond t (Some w) None ≡ Some v → Some w ≡ Some v) [ true ↦ λ e. e | false ↦ λ e. absurd cc ] e

pub some_is : (o : Option SuperValue) (v : SuperValue) → option_and_then Some o ≡ Some v → o ≡ Some v
some_is None v e = absurd cc
some_is (Some u) v e = e

-- what a file of any version opens as is what the program finds
pub same_value : (n : ℕ) (f : Face) (v u : SuperValue) → (sectors_by n).opens f ≡ Some v → option_and_then Some (opens f) ≡ Some u → v ≡ u
same_value n f v u a b =
    let both : Some v ≡ Some u = sym (version_is n (opens f) v a) ∙ some_is (opens f) u b in
    cc

-- a file opens as the value that two good copies agree on
pub opens_value : (f : Face) (v : SuperValue) → opens f ≡ Some v → (sectors_by v.fields.version).opens f ≡ Some v
opens_value f v e = ap (option_and_then (of_version v.fields.version)) e ∙ ap (λ t. cond t (Some v) None) (eq-eqb v.fields.version v.fields.version refl)
