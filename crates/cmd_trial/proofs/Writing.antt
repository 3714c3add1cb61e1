-- Lines that are written, whole or not.
use Rattle.std.proofs.Common.{◌≡◌, ℕ, List, [], Option, refl, inl, inr, subst, arith}
use Rattle.std.proofs.KnownBytes.{Appends-nil}
use Rattle.vr_base.specs.Causes.{Rose, one_more}
use Rattle.vr_edge.specs.Told.{AppendsFront}
use Rattle.vr_base.specs.declared.status.Status.TheVariants.{NoMemory, WriteFault}
use Rattle.cmd_trial.specs.Run.{IsCut}

-- there was no memory for it
pub cut_none : (line : List ℕ) (t : Option (List ℕ)) (before now : ℕ) → IsCut line t t before now NoMemory
cut_none line t before now = record { front = ([], line, Appends-nil t, refl); cause = inl refl }

pub rose_one : (before now : ℕ) → now ≡ one_more before → Rose before now
rose_one before now e = omega (arith, e)

-- its write failed
pub cut_write : (line text : List ℕ) (t t' : Option (List ℕ)) (before now : ℕ)
    → text ≡ line → AppendsFront t t' text → now ≡ one_more before → IsCut line t t' before now WriteFault
cut_write line text t t' before now same front e = record {
  front = subst (λ x. AppendsFront t t' x) same front;
  cause = inr (refl, rose_one before now e);
}
