-- The lines of a source, one exchange after the other.
use Rattle.std.proofs.Common.{◌≡◌, ◌≤◌, ◌<◌, ◌⊎◌, ◌+◌, ℕ, List, [], ◌∷◌, ◌++◌, length, Option, Some, None, Result, Ok, Err, refl, sym, subst, inl, inr, arith}
use Rattle.std.specs.Prelude.{true, false, option_and_then}
use Rattle.std.proofs.lemmas.Grind.{common_steps}
use Rattle.cmd_client.specs.Asking.{Client, EndsWith, Exchanges, Faults, Stand}
use Rattle.cmd_client.specs.Run.{AreExchanged, CountsLine, EndsAt, EndsLines, Exchange, Hears, IsExchanged, Judges, Reading, ReadsLine, StopsAt, Takes, limit}
use Rattle.cmd_client.specs.Text.{operation_of, unless_register}
use Rattle.vr_header.specs.Bodies.{IsOperation}
use Rattle.vr_header.specs.declared.operation.Operation.{Operation}
use Rattle.vr_header.specs.declared.operation.Operation.TheVariants.{Register, Put, Get, Delete}
use Rattle.vr_header.specs.Made.{is_register}
use Rattle.vr_lines.proofs.Operations.{spelled_fits}
use Rattle.vr_lines.specs.Operations.{operation_words}
use Rattle.vr_lines.specs.Words.{words_of}
use Rattle.vr_base.proofs.Counting.{links_kept}
use Rattle.vr_base.specs.Counts.{links_after, writes_after}
use Rattle.vr_base.specs.declared.status.Status.{Status}
use Rattle.vr_base.specs.declared.status.Status.TheVariants as status

-- ---- one line

-- a line that was read and judged
pub heard : (version number : ℕ) (r r' : Reading) (line : List ℕ) (result : Result Operation Status) → ReadsLine version r r' line → Judges version number line result
    → Hears version number r r' result
heard version number r r' line (Ok operation) read j = ((line, read, j.0), j.1)
heard version number r r' line (Err (status.Refused k)) read j = (j.0, inr (line, read, j.1))
heard version number r r' line (Err status.NoMemory) read j = (line, read)
heard version number r r' line (Err status.Done) read j = absurd j
heard version number r r' line (Err status.Usage) read j = absurd j
heard version number r r' line (Err status.SessionLost) read j = absurd j
heard version number r r' line (Err status.ReadFault) read j = absurd j
heard version number r r' line (Err status.WriteFault) read j = absurd j
heard version number r r' line (Err status.DiskFault) read j = absurd j
heard version number r r' line (Err status.LinkFault) read j = absurd j
heard version number r r' line (Err status.SuperLost) read j = absurd j
heard version number r r' line (Err (status.OtherMember x y)) read j = absurd j
heard version number r r' line (Err status.Occupied) read j = absurd j
heard version number r r' line (Err status.NoAnswer) read j = absurd j
heard version number r r' line (Err status.SpawnFault) read j = absurd j

-- a judgement is no failed read
pub judged_counts : (version number : ℕ) (line : List ℕ) (before now : ℕ) (result : Result Operation Status) → now ≡ before → Judges version number line result → CountsLine before now result
judged_counts version number line before now (Ok operation) e j = e
judged_counts version number line before now (Err (status.Refused k)) e j = e
judged_counts version number line before now (Err status.NoMemory) e j = e
judged_counts version number line before now (Err status.Done) e j = e
judged_counts version number line before now (Err status.Usage) e j = e
judged_counts version number line before now (Err status.SessionLost) e j = e
judged_counts version number line before now (Err status.ReadFault) e j = absurd j
judged_counts version number line before now (Err status.WriteFault) e j = e
judged_counts version number line before now (Err status.DiskFault) e j = e
judged_counts version number line before now (Err status.LinkFault) e j = e
judged_counts version number line before now (Err status.SuperLost) e j = e
judged_counts version number line before now (Err (status.OtherMember x y)) e j = e
judged_counts version number line before now (Err status.Occupied) e j = e
judged_counts version number line before now (Err status.NoAnswer) e j = e
judged_counts version number line before now (Err status.SpawnFault) e j = e

-- an exchange of a line that was read
pub taken : (c : Client) (number : ℕ) (r : Reading) (s : Stand) (r' : Reading) (s' : Stand) (b n : Faults) (operation : Operation) (result : Result (Unit {0}) Status)
    → Hears c.version number r r' (Ok operation) → Exchanges c number operation s s' b n result → Takes c number r s r' s' b n result
taken c number r s r' s' b n operation (Ok x) h e =
    ((record { line = h.0.0; operation = operation; answered = e.0 }, record { read = h.0.1; meant = h.0.2; answered = e.1 }), h.1)
taken c number r s r' s' b n operation (Err status) h e = inr (record { line = h.0.0; operation = operation; read = h.0.1; meant = h.0.2; ends = e })

-- an exchange is no failed read
pub exchange_counts : (c : Client) (number : ℕ) (s s' : Stand) (b n : Faults) (operation : Operation) (before now : ℕ) (result : Result (Unit {0}) Status)
    → now ≡ before → Exchanges c number operation s s' b n result → CountsLine before now result
exchange_counts c number s s' b n operation before now (Ok x) e x' = e
exchange_counts c number s s' b n operation before now (Err (status.Refused k)) e x = e
exchange_counts c number s s' b n operation before now (Err status.NoMemory) e x = e
exchange_counts c number s s' b n operation before now (Err status.Done) e x = e
exchange_counts c number s s' b n operation before now (Err status.Usage) e x = e
exchange_counts c number s s' b n operation before now (Err status.SessionLost) e x = e
exchange_counts c number s s' b n operation before now (Err status.ReadFault) e x = absurd x
exchange_counts c number s s' b n operation before now (Err status.WriteFault) e x = e
exchange_counts c number s s' b n operation before now (Err status.DiskFault) e x = e
exchange_counts c number s s' b n operation before now (Err status.LinkFault) e x = e
exchange_counts c number s s' b n operation before now (Err status.SuperLost) e x = e
exchange_counts c number s s' b n operation before now (Err (status.OtherMember x y)) e w = e
exchange_counts c number s s' b n operation before now (Err status.Occupied) e x = e
exchange_counts c number s s' b n operation before now (Err status.NoAnswer) e x = e
exchange_counts c number s s' b n operation before now (Err status.SpawnFault) e x = e

-- nor is a line that isn't asked a failed write
pub heard_writes : (version number : ℕ) (r r' : Reading) (s : Status) (before now : ℕ) → now ≡ before → Hears version number r r' (Err s) → now ≡ writes_after s before
heard_writes version number r r' status.Done before now e h = e
heard_writes version number r r' status.Usage before now e h = e
heard_writes version number r r' (status.Refused k) before now e h = e
heard_writes version number r r' status.SessionLost before now e h = e
heard_writes version number r r' status.ReadFault before now e h = e
heard_writes version number r r' status.WriteFault before now e h = absurd h
heard_writes version number r r' status.DiskFault before now e h = e
heard_writes version number r r' status.LinkFault before now e h = e
heard_writes version number r r' status.SuperLost before now e h = e
heard_writes version number r r' (status.OtherMember x y) before now e h = e
heard_writes version number r r' status.NoMemory before now e h = e
heard_writes version number r r' status.Occupied before now e h = e
heard_writes version number r r' status.NoAnswer before now e h = e
heard_writes version number r r' status.SpawnFault before now e h = e

-- nor a failed call of the link
pub heard_links : (version number : ℕ) (r r' : Reading) (s : Status) (before now : ℕ) → now ≡ before → Hears version number r r' (Err s) → now ≡ links_after s before
heard_links version number r r' s before now e h = links_kept s before now e (λ is. subst (λ x. Hears version number r r' (Err x)) is h)

-- ---- lines one after the other

-- so many lines were read, asked and answered
pub record Midst (c : Client) (count : ℕ) (r : Reading) (s : Stand) (r' : Reading) (s' : Stand) : Type 0 where
  pub exchanges : List Exchange
  pub counted : length exchanges ≡ count
  pub done : AreExchanged c 1 r s exchanges r' s'

pub midst_begins : (c : Client) (r : Reading) (s : Stand) → Midst c 0 r s r s
midst_begins c r s = record { exchanges = []; counted = refl; done = (refl, refl) }

exchanged_more : (c : Client) (k number : ℕ) (r : Reading) (s : Stand) (xs : List Exchange) (r' : Reading) (s' : Stand) (x : Exchange) (r'' : Reading) (s'' : Stand)
    → number ≡ k + length xs → AreExchanged c k r s xs r' s' → IsExchanged c number r' s' x r'' s'' → AreExchanged c k r s (xs ++ x ∷ []) r'' s''
exchanged_more c k number r s [] r' s' x r'' s'' at done one =
    let same : number ≡ k = omega (arith, at) in
    (r'', s'', subst (λ z. IsExchanged c k z s x r'' s'') done.0 (subst (λ z. IsExchanged c k r' z x r'' s'') done.1 (subst (λ z. IsExchanged c z r' s' x r'' s'') same one)), (refl, refl))
exchanged_more c k number r s (y ∷ ys) r' s' x r'' s'' at done one =
    let same : number ≡ (k + 1) + length ys = omega (arith, at) in
    (done.0, done.1, done.2, exchanged_more c (k + 1) number done.0 done.1 ys r' s' x r'' s'' same done.3 one)

pub midst_more : (c : Client) (count number : ℕ) (r : Reading) (s : Stand) (r' : Reading) (s' : Stand) (x : Exchange) (r'' : Reading) (s'' : Stand)
    → number ≡ count + 1 → Midst c count r s r' s' → IsExchanged c number r' s' x r'' s'' → Midst c number r s r'' s''
midst_more c count number r s r' s' x r'' s'' at m one =
    let place : number ≡ 1 + length m.exchanges = omega (arith, at, m.counted) in
    let more : length (m.exchanges ++ x ∷ []) ≡ length m.exchanges + 1 = grind (arith, common_steps) in
    record {
      exchanges = m.exchanges ++ x ∷ [];
      counted = omega (arith, at, m.counted, more);
      done = exchanged_more c 1 number r s m.exchanges r' s' x r'' s'' place m.done one;
    }

-- the run ends at the next line
pub ends_at : (c : Client) (count number : ℕ) (r : Reading) (s : Stand) (r' : Reading) (s' : Stand) (r'' : Reading) (s'' : Stand) (b n : Faults) (status : Status)
    → number ≡ count + 1 → count ≤ limit → Midst c count r s r' s' → ((s'' ≡ s') × StopsAt c.version number r' r'' status) ⊎ EndsAt c number r' s' r'' s'' b n status
    → EndsLines c r s r'' s'' b n status
ends_at c count number r s r' s' r'' s'' b n status at few m e =
    let place : number ≡ length m.exchanges + 1 = omega (arith, at, m.counted) in
    record {
      exchanges = m.exchanges;
      few = omega (arith, few, m.counted);
      reads = r';
      stands = s';
      done = m.done;
      ends = subst (λ k. ((s'' ≡ s') × StopsAt c.version k r' r'' status) ⊎ EndsAt c k r' s' r'' s'' b n status) place e;
    }

-- the counts of the link and the sink, from the beginning on
pub ends_later : (c : Client) (number : ℕ) (operation : Operation) (s s' : Stand) (b m n : Faults) (status : Status)
    → b.link ≤ m.link → b.write ≤ m.write → EndsWith c number operation s s' m n status → EndsWith c number operation s s' b n status
ends_later c number operation s s' b m n status.NoAnswer l w e = e
ends_later c number operation s s' b m n status.LinkFault l w e = (omega (arith, l, e.0), e.1)
ends_later c number operation s s' b m n status.WriteFault l w e = (omega (arith, w, e.0), e.1)
ends_later c number operation s s' b m n status.SessionLost l w e = e
ends_later c number operation s s' b m n status.NoMemory l w e = e
ends_later c number operation s s' b m n status.Done l w e = absurd e
ends_later c number operation s s' b m n status.Usage l w e = absurd e
ends_later c number operation s s' b m n (status.Refused k) l w e = absurd e
ends_later c number operation s s' b m n status.ReadFault l w e = absurd e
ends_later c number operation s s' b m n status.DiskFault l w e = absurd e
ends_later c number operation s s' b m n status.SuperLost l w e = absurd e
ends_later c number operation s s' b m n (status.OtherMember x y) l w e = absurd e
ends_later c number operation s s' b m n status.Occupied l w e = absurd e
ends_later c number operation s s' b m n status.SpawnFault l w e = absurd e

pub stops_later : (c : Client) (number : ℕ) (r : Reading) (s : Stand) (r' : Reading) (s' : Stand) (b m n : Faults) (status : Status)
    → m.link ≡ b.link → m.write ≡ b.write → ((s' ≡ s) × StopsAt c.version number r r' status) ⊎ EndsAt c number r s r' s' m n status
    → ((s' ≡ s) × StopsAt c.version number r r' status) ⊎ EndsAt c number r s r' s' b n status
stops_later c number r s r' s' b m n status l w (inl x) = inl x
stops_later c number r s r' s' b m n status l w (inr e) =
    inr (record { line = e.line; operation = e.operation; read = e.read; meant = e.meant; ends = ends_later c number e.operation s s' b m n status (omega (arith, l)) (omega (arith, w)) e.ends })

-- a line after the last one that may be is refused
pub one_too_many : (version : ℕ) (r r' : Reading) (operation : Operation) → Hears version (limit + 1) r r' (Ok operation) → ⊥
one_too_many version r r' operation h = omega (arith, h.1)

-- a line asks for no register
unless_some : (x : Option Operation) (operation : Operation) → option_and_then unless_register x ≡ Some operation → is_register operation ≡ false
unless_some None operation e = absurd (cc e)
unless_some (Some Register) operation e = absurd (cc e)
unless_some (Some (Put key value)) operation e = let same : Put key value ≡ operation = cc e in subst (λ o. is_register o ≡ false) same refl
unless_some (Some (Get key)) operation e = let same : Get key ≡ operation = cc e in subst (λ o. is_register o ≡ false) same refl
unless_some (Some (Delete key)) operation e = let same : Delete key ≡ operation = cc e in subst (λ o. is_register o ≡ false) same refl

no_register : (version : ℕ) (line : List ℕ) (operation : Operation) → operation_of version line ≡ Some operation → is_register operation ≡ false
unfolding operation_of
no_register version line operation e = unless_some (operation_words version (words_of line)) operation e

pub later_first : (version : ℕ) (line : List ℕ) (operation : Operation) (number : ℕ) → operation_of version line ≡ Some operation → 0 < number
    → (operation ≡ Register → number ≡ 0) × (number ≡ 0 → operation ≡ Register)
later_first version line operation number e h =
    let no : is_register operation ≡ false = no_register version line operation e in
    (λ is. absurd (let yes : is_register operation ≡ true = subst (λ o. is_register o ≡ true) (sym is) refl in cc (no, yes)), λ z. absurd (omega (arith, h, z)))

-- the operation of a line is of its version
some_unless : (x : Option Operation) (operation : Operation) → option_and_then unless_register x ≡ Some operation → x ≡ Some operation
some_unless None operation e = absurd (cc e)
some_unless (Some Register) operation e = absurd (cc e)
some_unless (Some (Put key value)) operation e = e
some_unless (Some (Get key)) operation e = e
some_unless (Some (Delete key)) operation e = e

pub later_fits : (version : ℕ) (line : List ℕ) (operation : Operation) → operation_of version line ≡ Some operation → IsOperation version operation
unfolding operation_of
later_fits version line operation e =
    spelled_fits version (words_of line) (Some operation) (sym (some_unless (operation_words version (words_of line)) operation e))
