-- What applying does: it goes on over the entries that are here and read, and changes nothing that is known of any op.
use Rattle.std.proofs.Common.{arith, ℕ, zero, suc, ◌+◌, ◌-◌, ◌%◌, ◌≡◌, ◌≤◌, ◌<◌, ◌∙◌, inl, inr, refl, sym, ap, subst, Bool, true, false, cond, [], length, Option, Some, None}
use Rattle.std.specs.Prelude.{◌&&◌, nat_lt}
use Rattle.std.specs.Cmp.Derive.{both_true}
use Rattle.std.proofs.lemmas.Bool.{cases_lt, eq-eqb, lt-ltb}
use Rattle.std.proofs.lemmas.Nat.{mod_below}
use Rattle.vr_header.specs.declared.header.Header.{Header}
use Rattle.vr_header.specs.declared.part.Part.{Part}
use Rattle.vr_header.specs.declared.part.Part.TheVariants.{Here, Lost, Wanted, Unknown, Nothing}
use Rattle.vr_header.specs.Made.{Whole}
use Rattle.std.specs.Option.{option_and_then}
use Rattle.vr_header.specs.Same.{same_header}
use Rattle.vr_rules.specs.Replica.{Replica, is_here, part_at, version}
use Rattle.vr_rules.specs.Steps.{Setting, Step, Word, ◌⨾◌, after_all, by, change, does, quiet, reading, says, times, when}
use Rattle.vr_rules.specs.Words.{applied, apply, apply_entry, apply_next, checkpoint_of, entry_of, is_checkpoint, is_loaded, make_checkpoint, or_lost, save, value_of, with_checkpoint, with_entry, with_entry_at}
use Rattle.vr_rules.proofs.Storing.{moved_at}
use Rattle.law_repair.specs.Completing.{AllRead}
use Rattle.law_repair.proofs.Disks.{Stores}
use Rattle.law_repair.proofs.Dry.{dry_next, same_entries}

-- its place, its version, its view and what it knows of each op stay, and each sequence number is that of an op
pub record Goes (r q : Replica) : Type 0 where
  pub cluster : q.cluster ≡ r.cluster
  pub n : q.n ≡ r.n
  pub index : q.index ≡ r.index
  pub version : version q ≡ version r
  pub view : q.view ≡ r.view
  pub commit : q.commit ≡ r.commit
  pub missing : q.missing ≡ r.missing
  pub parts : (k : ℕ) → part_at q k ≡ part_at r k
  pub room : q.saved.fields.sequence + (q.commit - q.applied) ≤ r.saved.fields.sequence + (r.commit - r.applied)

goes_same : (r : Replica) → Goes r r
goes_same r = record { cluster = refl; n = refl; index = refl; version = refl; view = refl; commit = refl; missing = refl; parts = λ k. refl; room = omega arith }

goes_more : (a b c : Replica) → Goes a b → Goes b c → Goes a c
goes_more a b c h k =
    let one = h.room in
    let two = k.room in
    record {
      cluster = k.cluster ∙ h.cluster;
      n = k.n ∙ h.n;
      index = k.index ∙ h.index;
      version = k.version ∙ h.version;
      view = k.view ∙ h.view;
      commit = k.commit ∙ h.commit;
      missing = k.missing ∙ h.missing;
      parts = λ i. k.parts i ∙ h.parts i;
      room = omega arith;
    }

-- one op more is applied
pub record Next (r q : Replica) : Type 0 where
  pub goes : Goes r q
  pub up : q.applied ≡ r.applied + 1

-- all that may be is applied, and it stops only before an op that isn't here
pub record Climbs (r q : Replica) : Type 0 where
  pub goes : Goes r q
  pub up : r.applied ≤ q.applied
  pub passed : (k : ℕ) → r.applied < k → k ≤ q.applied → is_here (part_at r k) ≡ true
  pub stops : q.applied < r.commit → is_here (part_at r (q.applied + 1)) ≡ false

stays : (r : Replica) → (r.applied < r.commit → is_here (part_at r (r.applied + 1)) ≡ false) → Climbs r r
stays r h = record { goes = goes_same r; up = omega arith; passed = λ k a b. absurd (omega (arith, a, b)); stops = h }

here_true : (p : Part) (h : Header) → p ≡ Here h → is_here p ≡ true
here_true p h e = rw e refl

climbs_on : (a b c : Replica) (h : Header) → part_at a (a.applied + 1) ≡ Here h → Next a b → Climbs b c → Climbs a c
climbs_on a b c h is x y =
    let up = x.up in
    let far = y.up in
    let same = x.goes.commit in
    record {
      goes = goes_more a b c x.goes y.goes;
      up = omega arith;
      passed = λ k l m. elim (cases_lt (a.applied + 1) k) [
        | inl above ↦ sym (ap is_here (x.goes.parts k)) ∙ y.passed k (omega (arith, above, up)) m
        | inr below ↦ let at : a.applied + 1 ≡ k = omega (arith, below, l) in subst (λ i. is_here (part_at a i) ≡ true) at (here_true _ h is)
      ];
      stops = λ l. sym (ap is_here (x.goes.parts (c.applied + 1))) ∙ y.stops (omega (arith, l, same));
    }

module _ {F : Type 0} (s : Setting F) where
  -- ---- an entry

  checkpoint_next : (e : Whole) (r : Replica) (f : F) → r.applied < r.commit → Next r (make_checkpoint s (applied e r) f).replica
  unfolding make_checkpoint by reading ◌⨾◌ does change save with_checkpoint value_of part_at
  checkpoint_next e r f l =
      let c = checkpoint_of (applied e r) s f in
      record {
        goes = record { cluster = refl; n = refl; index = refl; version = refl; view = refl; commit = refl; missing = refl; parts = λ k. moved_at c e r k; room = omega (arith, l) };
        up = refl;
      }

  applied_next : (e : Whole) (r : Replica) (f : F) (b : Bool) → r.applied < r.commit → Next r (when b make_checkpoint s (applied e r) f).replica
  unfolding quiet part_at
  applied_next e r f true l = checkpoint_next e r f l
  applied_next e r f false l = record {
    goes = record { cluster = refl; n = refl; index = refl; version = refl; view = refl; commit = refl; missing = refl; parts = λ k. refl; room = omega (arith, l) };
    up = refl;
  }

  pub entry_next : (e : Whole) (r : Replica) (f : F) → r.applied < r.commit → Next r (apply_entry e s r f).replica
  unfolding apply_entry says change by ◌⨾◌
  entry_next e r f l = applied_next e r _ (is_checkpoint (r.applied + 1)) l

  -- ---- the next op

  still : Replica → Step
  still r = record { replica = r; script = [] }

  pub when_true : (b : Bool) (w : Word F) (r : Replica) (f : F) → b ≡ true → when b w s r f ≡ w s r f
  when_true true w r f e = refl
  when_true false w r f e = absurd cc

  pub entry_still : (w : Whole → Word F) (p : Part) (r : Replica) (f : F) → is_here p ≡ false → (with_entry w p s r f).replica ≡ r
  unfolding quiet
  entry_still w (Here h) r f e = absurd cc
  entry_still w (Lost h) r f e = refl
  entry_still w (Wanted h) r f e = refl
  entry_still w Unknown r f e = refl
  entry_still w Nothing r f e = refl

  pub when_still : (b : Bool) (w : Word F) (r : Replica) (f : F) → (w s r f).replica ≡ r → (when b w s r f).replica ≡ r
  unfolding quiet
  when_still true w r f h = h
  when_still false w r f h = refl

  next_still : (r : Replica) (f : F) → is_here (part_at r (r.applied + 1)) ≡ false → (apply_next s r f).replica ≡ r
  unfolding apply_next with_entry_at by
  next_still r f e = when_still (is_loaded r && nat_lt r.applied r.commit) _ r f (entry_still apply_entry (part_at r (r.applied + 1)) r f e)

  entry_read : (w : Whole → Word F) (p : Part) (h : Header) (e : Whole) (r : Replica) (f : F) → p ≡ Here h → entry_of h s f ≡ Some e → with_entry w p s r f ≡ w e s r f
  unfolding reading
  entry_read w p h e r f is reads =
      ap (λ (x : Part). with_entry w x s r f) is ∙ ap (λ (o : Option Whole). or_lost h w o s r f) reads

  pub next_entry : (r : Replica) (f : F) (h : Header) (e : Whole) → r.missing ≡ [] → r.applied < r.commit → part_at r (r.applied + 1) ≡ Here h → entry_of h s f ≡ Some e → apply_next s r f ≡ apply_entry e s r f
  unfolding apply_next with_entry_at by
  next_entry r f h e none l is reads =
      when_true (is_loaded r && nat_lt r.applied r.commit) _ r f (both_true (eq-eqb (length r.missing) 0 (ap length none)) (lt-ltb r.applied r.commit l))
      ∙ entry_read apply_entry (part_at r (r.applied + 1)) h e r f is reads

  here_next : (r : Replica) (f : F) (h : Header) (e : Whole) → r.missing ≡ [] → r.applied < r.commit → part_at r (r.applied + 1) ≡ Here h → entry_of h s f ≡ Some e → Next r (apply_next s r f).replica
  here_next r f h e none l is reads = subst (λ (x : Step). Next r x.replica) (sym (next_entry r f h e none l is reads)) (entry_next e r f l)

  -- ---- one after the other

  module _ (Fine : F → Type 0) (store : Stores s Fine) where
    -- what reads depends on the entries alone
    pub same_read : (h : Header) (f g : F) → s.entry g (h.op % 64) ≡ s.entry f (h.op % 64) → entry_of h s g ≡ entry_of h s f
    same_read h f g e = ap (λ (o : Option Whole). option_and_then (λ x. cond (same_header x.header h) (Some x) None) o) e

    pub read_on : (r q : Replica) (f g : F) → Goes r q → r.applied ≤ q.applied → ((slot : ℕ) → slot < 64 → s.entry g slot ≡ s.entry f slot) → AllRead s r f → AllRead s q g
    read_on r q f g h up same reads =
        λ k x a b is.
        let there = reads k x (omega (arith, a, up)) (omega (arith, b, h.commit)) (sym (h.parts k) ∙ is) in
        (there.0, same_read x f g (same (x.op % 64) (mod_below x.op 64 (omega arith))) ∙ there.1)

    times_stay : (n : ℕ) (r : Replica) (f : F) → is_here (part_at r (r.applied + 1)) ≡ false → (times n apply_next s r f).replica ≡ r
    unfolding times quiet ◌⨾◌
    times_stay zero r f e = refl
    times_stay (suc n) r f e =
        let a = apply_next s r f in
        subst (λ (q : Replica). (times n apply_next s q (after_all s f a.script)).replica ≡ r) (sym (next_still r f e)) (times_stay n r (after_all s f a.script) e)

    times_climb : (n : ℕ) (r : Replica) (f : F) → n ≡ r.commit - r.applied → r.missing ≡ [] → AllRead s r f → Climbs r (times n apply_next s r f).replica
    unfolding times quiet ◌⨾◌
    times_climb zero r f m none reads = stays r (λ l. absurd (omega (arith, l, m)))
    times_climb (suc n) r f m none reads =
        let x = apply_next s r f in
        let g = after_all s f x.script in
        let l : r.applied < r.commit = omega (arith, m) in
        let stuck : is_here (part_at r (r.applied + 1)) ≡ false → Climbs r (times n apply_next s x.replica g).replica =
        λ e. subst (Climbs r) (sym (times_stay (suc n) r f e)) (stays r (λ d. e)) in
        let go : (p : Part) → part_at r (r.applied + 1) ≡ p → Climbs r (times n apply_next s x.replica g).replica = elim [
          | Here h ↦ λ is.
              let there = reads (r.applied + 1) h (omega arith) (omega (arith, l)) is in
              let next : Next r x.replica = here_next r f h there.0 none l is there.1 in
              let up = next.up in
              let same = next.goes.commit in
              let rest = times_climb n x.replica g (omega (arith, m, up, same)) (next.goes.missing ∙ none)
              (read_on r x.replica f g next.goes (omega (arith, up)) (λ slot b. same_entries s Fine store x.script f slot (dry_next.every s r f) b) reads) in
              climbs_on r x.replica _ h is next rest
          | Lost h ↦ λ is. stuck (ap is_here is)
          | Wanted h ↦ λ is. stuck (ap is_here is)
          | Unknown ↦ λ is. stuck (ap is_here is)
          | Nothing ↦ λ is. stuck (ap is_here is)
        ] in
        go (part_at r (r.applied + 1)) refl

    pub apply_climbs : (r : Replica) (f : F) → r.missing ≡ [] → AllRead s r f → Climbs r (apply s r f).replica
    unfolding apply by
    apply_climbs r f none reads = times_climb (r.commit - r.applied) r f refl none reads
