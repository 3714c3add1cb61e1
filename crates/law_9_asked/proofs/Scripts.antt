-- What a script writes, and what it says.
use Rattle.std.proofs.Common.{ℕ, zero, suc, ◌-◌, ◌≡◌, inl, inr, refl, sym, ap, subst, Bool, true, false, List, [], ◌∷◌, length, take, Option, Some, None}
use Rattle.std.specs.Prelude.{if◌then◌else◌, nat_lt}
use Rattle.vr_disk.specs.DiskState.{Face, Fuse}
use Rattle.vr_disk.specs.DiskState as disk
use Rattle.vr_header.specs.Made.{Whole}
use Rattle.vr_header.specs.declared.header.Header.{Header}
use Rattle.vr_msg.specs.declared.output.Output.{Output}
use Rattle.vr_msg.specs.declared.output.Output.TheVariants as output
use Rattle.vr_msg.specs.declared.output.Sent.{Sent}
use Rattle.vr_rules.specs.Outputs.{messages}
use Rattle.vr_rules.specs.Sectors.{calls_by}
use Rattle.vr_rules.specs.Steps.{Effect, Write, Rewrite, Save, Mend, Checkpoint, PutBlock, Say, outputs}
use Rattle.vr_world.specs.Group.{made_by_effect, made_in}
use Rattle.vr_world.specs.Lying.{Lying}
use Rattle.law_1_machine.specs.Basics.{In}
use Rattle.law_3_outputs.proofs.Sets.{in_left, in_right}
use Rattle.law_3_outputs.proofs.Traces.{in_either}
use Rattle.law_4_disks.specs.Beside.{begun_before}
use Rattle.law_4_disks.specs.Worlds.{begun_by}

-- ---- parts of a list

pub in_take : {X : Type 0} (k : ℕ) (xs : List X) (x : X) → In x (take k xs) → In x xs
in_take zero [] x i = i
in_take (suc k) [] x i = i
in_take zero (y ∷ xs) x i = absurd i
in_take (suc k) (y ∷ xs) x (inl e) = inl e
in_take (suc k) (y ∷ xs) x (inr i) = inr (in_take k xs x i)

-- ---- effects that were begun

in_if : (b : Bool) (xs : List Effect) (x : Effect) → In x (if b then [] else xs) → In x xs
in_if true xs x i = absurd i
in_if false xs x i = i

in_before : (v : ℕ) (es : List Effect) (f : Face) (j : ℕ) (x : Effect) → In x (begun_before v es f j) → In x es
in_before v [] f j x i = i
in_before v (e ∷ es) f j x (inl same) = inl same
in_before v (e ∷ es) f j x (inr i) =
    let n = length (calls_by v e f) in
    let rest = begun_before v es (disk.after_all f (calls_by v e f)) (j - n) in
    inr (in_before v es (disk.after_all f (calls_by v e f)) (j - n) x (in_if (nat_lt j n) rest x i))

pub in_begun : (fuse : Option Fuse) (es : List Effect) (d : Lying) (x : Effect) → In x (begun_by fuse es d) → In x es
in_begun None es d x i = i
in_begun (Some u) es d x i = in_before d.version es d.face u.calls x i

-- a header that was made is that of an entry that was written
pub record IsWritten (es : List Effect) (h : Header) : Type 0 where
  pub again : Bool
  pub entry : Whole
  pub among : In (Write again entry) es
  pub is : entry.header ≡ h

written_by : (e : Effect) (h : Header) → In h (made_by_effect e) → IsWritten (e ∷ []) h
written_by (Write again w) h (inl e) = record { again = again; entry = w; among = inl refl; is = sym e }
written_by (Write again w) h (inr none) = absurd none
written_by (Rewrite x) h i = absurd i
written_by (Save old new) h i = absurd i
written_by (Mend v) h i = absurd i
written_by (Checkpoint cluster texts op old) h i = absurd i
written_by (PutBlock name block) h i = absurd i
written_by (Say o) h i = absurd i

pub written_in : (es : List Effect) (h : Header) → In h (made_in es) → IsWritten es h
unfolding made_in
written_in [] h i = absurd i
written_in (e ∷ es) h i =
    elim (in_either (made_by_effect e) (made_in es) h i) [
      | inl here ↦ let y = written_by e h here in record { again = y.again; entry = y.entry; among = elim y.among [ inl same ↦ inl same | inr none ↦ absurd none ]; is = y.is }
      | inr later ↦ let y = written_in es h later in record { again = y.again; entry = y.entry; among = inr y.among; is = y.is }
    ]

pub made_of_write : (es : List Effect) (again : Bool) (v : Whole) → In (Write again v) es → In v.header (made_in es)
unfolding made_in
made_of_write (e ∷ es) again v (inl same) = in_left (made_by_effect e) (made_in es) v.header (subst (λ (x : Effect). In v.header (made_by_effect x)) same (inl refl))
made_of_write (e ∷ es) again v (inr i) = in_right (made_by_effect e) (made_in es) v.header (made_of_write es again v i)
made_of_write [] again v i = absurd i

-- ---- what is said

pub said_in : (es : List Effect) (o : Output) → In o (outputs es) → In (Say o) es
unfolding outputs
said_in [] o i = absurd i
said_in (Say x ∷ es) o (inl e) = inl (ap Say e)
said_in (Say x ∷ es) o (inr i) = inr (said_in es o i)
said_in (Write again w ∷ es) o i = inr (said_in es o i)
said_in (Rewrite h ∷ es) o i = inr (said_in es o i)
said_in (Save old new ∷ es) o i = inr (said_in es o i)
said_in (Mend v ∷ es) o i = inr (said_in es o i)
said_in (Checkpoint cluster texts op old ∷ es) o i = inr (said_in es o i)
said_in (PutBlock name block ∷ es) o i = inr (said_in es o i)

pub in_said : (es : List Effect) (o : Output) → In (Say o) es → In o (outputs es)
unfolding outputs
in_said [] o i = absurd i
in_said (Say x ∷ es) o (inl e) = inl cc
in_said (Say x ∷ es) o (inr i) = inr (in_said es o i)
in_said (Write again w ∷ es) o (inl e) = absurd cc
in_said (Write again w ∷ es) o (inr i) = in_said es o i
in_said (Rewrite h ∷ es) o (inl e) = absurd cc
in_said (Rewrite h ∷ es) o (inr i) = in_said es o i
in_said (Save old new ∷ es) o (inl e) = absurd cc
in_said (Save old new ∷ es) o (inr i) = in_said es o i
in_said (Mend v ∷ es) o (inl e) = absurd cc
in_said (Mend v ∷ es) o (inr i) = in_said es o i
in_said (Checkpoint cluster texts op old ∷ es) o (inl e) = absurd cc
in_said (Checkpoint cluster texts op old ∷ es) o (inr i) = in_said es o i
in_said (PutBlock name block ∷ es) o (inl e) = absurd cc
in_said (PutBlock name block ∷ es) o (inr i) = in_said es o i

-- a message among outputs was sent by one of them
pub sent_in : (os : List Output) (s : Sent) → In s (messages os) → In (output.Send s) os
unfolding messages
sent_in [] s i = absurd i
sent_in (output.Send x ∷ os) s (inl e) = inl (ap output.Send e)
sent_in (output.Send x ∷ os) s (inr i) = inr (sent_in os s i)
sent_in (output.Commit c ∷ os) s i = inr (sent_in os s i)
sent_in (output.Reply a ∷ os) s i = inr (sent_in os s i)
sent_in (output.Choose c ∷ os) s i = inr (sent_in os s i)
sent_in (output.Wait w ∷ os) s i = inr (sent_in os s i)
sent_in (output.Start x ∷ os) s i = inr (sent_in os s i)
sent_in (output.Halted r ∷ os) s i = inr (sent_in os s i)
sent_in (output.Migrated r ∷ os) s i = inr (sent_in os s i)
sent_in (output.Done ∷ os) s i = inr (sent_in os s i)
sent_in (output.KeptOut ∷ os) s i = inr (sent_in os s i)
