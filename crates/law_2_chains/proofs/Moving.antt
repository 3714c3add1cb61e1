-- One move of the machine, within a step; and a stop there.
use Rattle.std.proofs.Common.{ℕ, ◌≡◌, ◌∙◌, sym, ap, subst, List, [], ◌∷◌, map, Some, None}
use Rattle.vr_header.specs.declared.header.Header.{Header}
use Rattle.vr_msg.specs.declared.output.Output.{Output}
use Rattle.vr_rules.specs.Replica.{Replica}
use Rattle.vr_rules.specs.Steps.{Say, Setting, says}
use Rattle.vr_rules.specs.Sound.{IsSound}
use Rattle.law_1_machine.specs.Group.{Group, Member, becomes}
use Rattle.law_1_machine.specs.Members.{Memory}
use Rattle.law_1_machine.specs.Machine as move
use Rattle.law_1_machine.proofs.Counting.{here, elsewhere}
use Rattle.law_2_chains.specs.Local.{Local, begun, through, carried, WhereverCut}
use Rattle.law_2_chains.specs.Reflecting.{entries_by, Reflects, IsDisk, KeepsStored}
use Rattle.law_2_chains.specs.Chains.{Setup, Every, WasMade, Under, Mid, Stopped, Goes, MayBeSaid}
use Rattle.law_2_chains.proofs.Scripts.{every_append}

abbrev pub IsStep : Setup → Group Header → Group Header → Type 0
IsStep u s t = move.Step u.quorums (entries_by u.hash u.cluster) s t

pub member_at : (s : Group Header) (i : ℕ) (z : Member Header) → (becomes s i z).members i ≡ z
member_at s i z = here s.members i z

pub memory_at : (s : Group Header) (i : ℕ) (z : Member Header) (m : Memory Header) → z.memory ≡ Some m → ((becomes s i z).members i).memory ≡ Some m
memory_at s i z m e = ap (λ (y : Member Header). y.memory) (member_at s i z) ∙ e

module _ (u : Setup) (start : Group Header) (i : ℕ) where
  -- the member moves
  pub under_moves : (l l' : Local) (s : Group Header) (z : Member Header) → Under u start i l s → IsStep u s (becomes s i z) → IsDisk l'.member z → Every (WasMade s.made) l'.made
      → Under u start i l' (becomes s i z)
  under_moves l l' s z x step disk made = record {
    reached = move.and_then s (becomes s i z) x.reached step;
    sent = x.sent;
    chosen = x.chosen;
    others = λ j n. elsewhere s.members i z j n ∙ x.others j n;
    disk = subst (IsDisk l'.member) (sym (member_at s i z)) disk;
    made = made;
    none_made = x.none_made;
  }

  -- it stops
  pub stops : (l l' : Local) (s : Group Header) → Under u start i l s → IsDisk l'.member (s.members i) → Every (WasMade s.made) l'.made → Stopped u start i l'
  stops l l' s x disk made =
      let z : Member Header = record (s.members i) { memory = None } in
      record {
        group = becomes s i z;
        under = under_moves l l' s z x (move.stops i) (record { last = disk.last; under = disk.under; slots = disk.slots; size = disk.size }) made;
        still = ap (λ (y : Member Header). y.memory) (member_at s i z);
      }

  -- the replica runs with this memory
  pub mid_runs : (r : Replica) (l : Local) (s : Group Header) (z : Member Header) (m : Memory Header) → Under u start i l (becomes s i z) → z.memory ≡ Some m → Reflects r m → IsSound r → r.index ≡ i
      → r.n ≡ u.quorums.n → KeepsStored r l.member → Every (MayBeSaid u start.sent i m z.slots) l.said → Mid u start i r l (becomes s i z)
  mid_runs r l s z m x e reflects sound place size stored ready = record {
    under = x;
    memory = m;
    running = memory_at s i z m e;
    reflects = reflects;
    sound = sound;
    place = place;
    size = size;
    stored = stored;
    ready = subst (λ (y : Member Header). Every (MayBeSaid u start.sent i m y.slots) l.said) (sym (member_at s i z)) ready;
  }

  -- the replica changes, and the machine doesn't
  pub mid_stays : (r q : Replica) (l : Local) (s : Group Header) (x : Mid u start i r l s) → Reflects q x.memory → IsSound q → q.index ≡ r.index → q.n ≡ r.n → KeepsStored q l.member
      → Mid u start i q l s
  mid_stays r q l s x reflects sound place size stored = record {
    under = x.under;
    memory = x.memory;
    running = x.running;
    reflects = reflects;
    sound = sound;
    place = place ∙ x.place;
    size = size ∙ x.size;
    stored = stored;
    ready = x.ready;
  }

  -- ---- something is said

  mid_said : (r : Replica) (l : Local) (s : Group Header) (o : Output) (x : Mid u start i r l s) → MayBeSaid u start.sent i x.memory (s.members i).slots o → Mid u start i r (through (Say o) l) s
  mid_said r l s o x may = record {
    under = record { reached = x.under.reached; sent = x.under.sent; chosen = x.under.chosen; others = x.under.others; disk = x.under.disk; made = every_append (WasMade s.made) l.made [] x.under.made tt; none_made = x.under.none_made };
    memory = x.memory;
    running = x.running;
    reflects = x.reflects;
    sound = x.sound;
    place = x.place;
    size = x.size;
    stored = x.stored;
    ready = every_append (MayBeSaid u start.sent i x.memory (s.members i).slots) l.said (o ∷ []) x.ready (may, tt);
  }

  -- the outputs may be said, of this memory and these slots
  record Saying (r : Replica) (l : Local) (s : Group Header) (os : List Output) : Type 0 where
    ends : Mid u start i r (carried (map Say os) l) s
    cuts : WhereverCut (Stopped u start i) (map Say os) l

  saying : (r : Replica) (os : List Output) (l : Local) (s : Group Header) (x : Mid u start i r l s) → Every (MayBeSaid u start.sent i x.memory (s.members i).slots) os → Saying r l s os
  unfolding mid_said
  saying r [] l s x may = record { ends = x; cuts = tt }
  saying r (o ∷ os) l s x may =
      let rest = saying r os (through (Say o) l) s (mid_said r l s o x may.0) may.1 in
      record {
        ends = rest.ends;
        cuts = (stops l (begun (Say o) l) s x.under x.under.disk (every_append (WasMade s.made) l.made [] x.under.made tt), rest.cuts);
      }

  pub goes_says : {F : Type 0} (os : Replica → List Output) (t : Setting F) (r : Replica) (f : F) (l : Local) (s : Group Header) (x : Mid u start i r l s)
      → Every (MayBeSaid u start.sent i x.memory (s.members i).slots) (os r) → Goes u start i l (says os t r f)
  unfolding says
  goes_says os t r f l s x may = let y = saying r (os r) l s x may in record { after = s; ends = y.ends; cuts = y.cuts }
