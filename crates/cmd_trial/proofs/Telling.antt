-- Counts of faults, by what a step answers: each fault of the sink or of the spawner is told, and no other answer leaves one.
use Rattle.std.proofs.Common.{◌≡◌, ◌⊎◌, ℕ, List, Option, Result, Ok, Err, inl, inr, subst, sym}
use Rattle.std.specs.Prelude.{IfErr}
use Rattle.cmd_client.specs.Asking as ask
use Rattle.cmd_client.specs.Asking.{CountsWrites}
use Rattle.vr_base.specs.Causes.{Rose}
use Rattle.vr_header.specs.declared.operation.Operation.{Operation}
use Rattle.vr_spawn.specs.declared.spawner.SpawnCall.{SpawnCall}
use Rattle.vr_base.specs.Counts.{writes_after}
use Rattle.vr_base.specs.declared.status.Status.{Status}
use Rattle.vr_base.specs.declared.status.Status.TheVariants as status
use Rattle.cmd_trial.specs.Run.{CantCall, CountsSpawns, IsCut, Members, spawns_after}

writes_at : (s is : Status) (b n : ℕ) → s ≡ is → n ≡ writes_after is b → n ≡ writes_after s b
writes_at s is b n same e = subst (λ x. n ≡ writes_after x b) (sym same) e

spawns_at : (s is : Status) (b n : ℕ) → s ≡ is → n ≡ spawns_after is b → n ≡ spawns_after s b
spawns_at s is b n same e = subst (λ x. n ≡ spawns_after x b) (sym same) e

-- a call of the spawner that failed is no failed write
pub call_writes : (calls : List SpawnCall) (m m' : Members) (sb sn b n : ℕ) (s : Status) → n ≡ b → CantCall calls m m' sb sn s → n ≡ writes_after s b
call_writes calls m m' sb sn b n s e (inl x) = writes_at s status.NoMemory b n x.0 e
call_writes calls m m' sb sn b n s e (inr x) = writes_at s status.SpawnFault b n x.fault e

-- a line that was cut is no failed call
cut_spawns : (s : Status) (wb wn b n : ℕ) → n ≡ b → (s ≡ status.NoMemory) ⊎ ((s ≡ status.WriteFault) × Rose wb wn) → n ≡ spawns_after s b
cut_spawns s wb wn b n e (inl x) = spawns_at s status.NoMemory b n x e
cut_spawns s wb wn b n e (inr x) = spawns_at s status.WriteFault b n x.0 e

pub line_spawns : (line : List ℕ) (t t' : Option (List ℕ)) (wb wn b n : ℕ) (r : Result (Unit {0}) Status)
    → n ≡ b → IfErr r (IsCut line t t' wb wn) → CountsSpawns b n r
line_spawns line t t' wb wn b n (Ok x) e cut = e
line_spawns line t t' wb wn b n (Err s) e cut = cut_spawns s wb wn b n e cut.cause

-- nor is a link that can't be taken
pub attach_writes : (l l' b n : ℕ) (r : Result (Unit {0}) Status) → n ≡ b → IfErr r (λ s. (s ≡ status.LinkFault) × Rose l l') → CountsWrites b n r
attach_writes l l' b n (Ok x) e fault = e
attach_writes l l' b n (Err s) e fault = writes_at s status.LinkFault b n fault.0 e

pub attach_spawns : (l l' b n : ℕ) (r : Result (Unit {0}) Status) → n ≡ b → IfErr r (λ s. (s ≡ status.LinkFault) × Rose l l') → CountsSpawns b n r
attach_spawns l l' b n (Ok x) e fault = e
attach_spawns l l' b n (Err s) e fault = spawns_at s status.LinkFault b n fault.0 e

-- nor an ask
pub ask_spawns : (c : ask.Client) (number : ℕ) (operation : Operation) (s s' : ask.Stand) (fb fn : ask.Faults) (b n : ℕ) (r : Result (Unit {0}) Status)
    → n ≡ b → ask.Exchanges c number operation s s' fb fn r → CountsSpawns b n r
ask_spawns c number operation s s' fb fn b n (Ok x) e asked = e
ask_spawns c number operation s s' fb fn b n (Err status.Done) e asked = e
ask_spawns c number operation s s' fb fn b n (Err status.Usage) e asked = e
ask_spawns c number operation s s' fb fn b n (Err (status.Refused k)) e asked = e
ask_spawns c number operation s s' fb fn b n (Err status.SessionLost) e asked = e
ask_spawns c number operation s s' fb fn b n (Err status.ReadFault) e asked = e
ask_spawns c number operation s s' fb fn b n (Err status.WriteFault) e asked = e
ask_spawns c number operation s s' fb fn b n (Err status.DiskFault) e asked = e
ask_spawns c number operation s s' fb fn b n (Err status.LinkFault) e asked = e
ask_spawns c number operation s s' fb fn b n (Err status.SuperLost) e asked = e
ask_spawns c number operation s s' fb fn b n (Err (status.OtherMember x y)) e asked = e
ask_spawns c number operation s s' fb fn b n (Err status.NoMemory) e asked = e
ask_spawns c number operation s s' fb fn b n (Err status.Occupied) e asked = e
ask_spawns c number operation s s' fb fn b n (Err status.NoAnswer) e asked = e
ask_spawns c number operation s s' fb fn b n (Err status.SpawnFault) e asked = absurd asked
