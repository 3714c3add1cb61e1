-- A migration as a chain of the machine's moves. The machine sees neither the version of a file nor the sequence number of a value: so what is
-- saved is for it the value that the member has. Where that saving is cut, the member has started meanwhile, with nothing found of its log, and
-- was cut in saving its view again.
use Rattle.std.proofs.Common.{ℕ, suc, ◌-◌, ◌<◌, ◌≡◌, ◌∙◌, inl, arith, refl, sym, ap, subst, false, [], Option, Some, None}
use Rattle.std.proofs.lemmas.Bool.{le-ltb}
use Rattle.std.proofs.lemmas.Option.{slice_get_past}
use Rattle.vr_header.specs.declared.header.Header.{Header}
use Rattle.vr_super.specs.Copies.{IsGood, SuperValue}
use Rattle.vr_rules.specs.Steps.{Effect, Mend, Save}
use Rattle.vr_rules.specs.Migrating.{migrated}
use Rattle.vr_rules.specs.Opening.{first_listed, listed}
use Rattle.vr_rules.proofs.Slots.{value_is}
use Rattle.vr_world.specs.Group.{MayOpen, migration}
use Rattle.law_1_machine.specs.Group.{Group, Member, becomes}
use Rattle.law_1_machine.specs.Members.{Memory, Names, Superblock}
use Rattle.law_1_machine.specs.Opening.{Opened, Reaches, Sound, opened}
use Rattle.law_1_machine.specs.Parts as part
use Rattle.law_1_machine.specs.Parts.{denied, header}
use Rattle.law_1_machine.specs.Machine as move
use Rattle.law_2_chains.specs.Local.{Local, begun, carried, through, WhereverCut}
use Rattle.law_2_chains.specs.Reflecting.{IsUnder, IsValue, entries_by}
use Rattle.law_2_chains.specs.Chains.{Setup, Every, Stopped, Under, WasMade}
use Rattle.law_2_chains.proofs.Mending.{mend_stopped}
use Rattle.law_2_chains.proofs.Moving.{member_at, memory_at, under_moves}
use Rattle.law_2_chains.proofs.Scripts.{every_append}

-- the machine's value is the same one
migrated_is : (v : SuperValue) (x : Superblock Header) → IsValue v x → IsValue (migrated v) x
migrated_is v x d = record { view = d.view; log_view = d.log_view; checkpoint = d.checkpoint; commit = d.commit; reach = d.reach; names = d.names }

-- above its head a value names nothing
listed_past : (v : SuperValue) (k : ℕ) → IsGood v → v.fields.head < k → listed v k ≡ None
listed_past v k good past =
    let w = value_is v good in
    let first = w.first in
    rw (le-ltb k (first_listed v) (omega (arith, first, past))) (slice_get_past v.headers (k - first_listed v) (omega (arith, first, past)))

-- ---- what is found where nothing reads: the headers that the value names

abbrev lost_by : Option Header → part.Part Header
lost_by None = part.Unknown
lost_by (Some h) = part.Lost h

lost_header : (o : Option Header) → header (lost_by o) ≡ o
lost_header None = refl
lost_header (Some h) = refl

lost_undenied : (o : Option Header) → denied (lost_by o) ≡ false
lost_undenied None = refl
lost_undenied (Some h) = refl

lost_not_here : (o : Option Header) (h : Header) → lost_by o ≡ part.Here h → ⊥
lost_not_here None h e = cc
lost_not_here (Some g) h e = cc

-- a member with this value on its disk
module _ (v : SuperValue) (good : IsGood v) (z : Member Header) (is : IsValue v z.last) where
  abbrev parts : ℕ → part.Part Header
  parts k = lost_by (z.last.named k)

  none_above : (k : ℕ) → z.last.head < k → header (parts k) ≡ None
  none_above k past = let reach = is.reach in lost_header (z.last.named k) ∙ (is.names k ∙ listed_past v k good (omega (arith, reach, past)))

  lost_sound : (u : Setup) (s : Group Header) → Sound (entries_by u.hash u.cluster) s.made z.slots z.last parts
  lost_sound u s = record {
    named = λ k a b. lost_header (z.last.named k);
    low = λ k h b e. sym (lost_header (z.last.named k)) ∙ e;
    above = λ k h past e. absurd (let none : None ≡ Some h = sym (none_above k past) ∙ e in cc);
    kept = λ k h a held number counts. lost_undenied (z.last.named k);
  }

  lost_opened : Opened z.slots z.last.checkpoint parts z.slots
  lost_opened = record {
    found = λ k h a e. absurd (lost_not_here (z.last.named k) h e);
    stays = λ k a b other. refl;
    only = λ n h e. inl e;
  }

  lost_reaches : Reaches z.last.checkpoint z.last.head parts z.last.head
  lost_reaches =
      let window = (value_is v good).window in
      let checkpoint = is.checkpoint in
      let reach = is.reach in
      record {
        up = omega arith;
        window = omega (arith, window, checkpoint, reach);
        whole = λ k a b. absurd (omega (arith, a, b));
        next = none_above (suc z.last.head) (omega arith);
      }

  lost_names : Names (opened z.last parts z.last.head) z.last.named
  lost_names = record { known = λ k h e. lost_header (z.last.named k) ∙ e; all = λ k a b. sym (lost_header (z.last.named k)) }

-- ---- the migration

-- a migration on a stopped member, to its end and wherever it is cut
pub record Migrated (u : Setup) (start : Group Header) (i : ℕ) (v : SuperValue) (l : Local) : Type 0 where
  pub ends : Stopped u start i (carried (migration v) l)
  pub cuts : WhereverCut (Stopped u start i) (migration v) l

module _ (u : Setup) (start : Group Header) (i : ℕ) (v : SuperValue) (good : IsGood v) (l : Local) (s : Group Header) (x : Under u start i (through (Mend v) l) s) (still : (s.members i).memory ≡ None) (cleared : (s.members i).under ≡ None) where
  abbrev mended : Local
  mended = through (Mend v) l

  abbrev saves : Effect
  saves = Save v (migrated v)

  abbrev z : Member Header
  z = s.members i

  made_then : Every (WasMade s.made) (through saves mended).made
  made_then = every_append (WasMade s.made) mended.made [] x.made tt

  -- it is saved: the member is the same one
  save_ends : Stopped u start i (through saves mended)
  save_ends =
      let d = x.disk in
      record {
        group = s;
        under = record {
          reached = x.reached;
          sent = x.sent;
          chosen = x.chosen;
          others = x.others;
          disk = record { last = migrated_is v z.last d.last; under = subst (IsUnder None) (sym cleared) tt; slots = d.slots; size = d.size };
          made = made_then;
          none_made = x.none_made;
        };
        still = still;
      }

  -- it is cut
  abbrev m : Memory Header
  m = opened z.last (parts v good z x.disk.last) z.last.head

  abbrev running : Member Header
  running = record z { memory = Some m }

  abbrev s1 : Group Header
  s1 = becomes s i running

  started : Under u start i mended s1
  started =
      let d = x.disk in
      under_moves u start i mended mended s running x
      (move.starts i (parts v good z d.last) z.slots z.last.head still cleared (lost_sound v good z d.last u s) (lost_opened v good z d.last) (lost_reaches v good z d.last))
      (record { last = d.last; under = d.under; slots = d.slots; size = d.size }) x.made

  abbrev cut : Member Header
  cut = record (s1.members i) { under = Some z.last; memory = None }

  save_cut : Stopped u start i (begun saves mended)
  save_cut =
      let d = x.disk in
      let same = member_at s i running in
      record {
        group = becomes s1 i cut;
        under = under_moves u start i mended (begun saves mended) s1 cut started
            (move.saves_cut i m m z.last.named (memory_at s i running m refl) (move.enters z.last.view (omega arith)) (lost_names v good z d.last))
            (let e = started.disk in record { last = e.last; under = migrated_is v z.last d.last; slots = e.slots; size = e.size })
            made_then;
        still = ap (λ (y : Member Header). y.memory) (member_at s1 i cut);
      }

pub migrates : (u : Setup) (start : Group Header) (i : ℕ) (v : SuperValue) (l : Local) (s : Group Header) → Under u start i l s → (s.members i).memory ≡ None → MayOpen l.member v → IsGood v → Migrated u start i v l
migrates u start i v l s x still may good =
    let y = mend_stopped u start i v l s x still may in
    record { ends = save_ends u start i v good l y.after y.under y.still y.cleared; cuts = (y.cut, (save_cut u start i v good l y.after y.under y.still y.cleared, tt)) }
