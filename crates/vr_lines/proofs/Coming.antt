-- A source that is read until what comes next is here.
use Rattle.std.proofs.Common.{◌≡◌, ◌≤◌, ◌<◌, ◌==◌, ◌+◌, ◌-◌, ◌∙◌, ℕ, List, [], ◌++◌, length, Option, Bool, true, false, ap, sym, subst, inl, inr, append_assoc}
use Rattle.std.specs.Io.KnownBytes.{Consumes, IsAtEnd, Keeps}
use Rattle.std.proofs.KnownBytes.{Consumes-kept, Consumes-nil, Consumes-trans}
use Rattle.std.proofs.lemmas.Bool.{eqb-true}
use Rattle.std.proofs.lemmas.List.{append-nil}
use Rattle.vr_lines.specs.Coming.{Breaks, EndComes, LineComes, TooLongComes}
use Rattle.vr_lines.specs.Cuts.{whole_lines}
use Rattle.vr_lines.specs.Held.{Fills, GivesWithin, Held, IsGiven, room}
use Rattle.vr_lines.specs.declared.lines.Next.TheVariants as next
use Rattle.vr_lines.proofs.Cutting.{both_none}

-- in the midst of a line: what stands is what had come, and what was read since
pub record Midst (before : List ℕ) (left : Option (List ℕ)) (after : List ℕ) (left' : Option (List ℕ)) (ended : Bool) : Type 0 where
  pub read : List ℕ
  pub consumed : Consumes left left' read
  pub kept : after ≡ before ++ read
  pub end : ended ≡ true → IsAtEnd left'

pub midst_begins : (before : List ℕ) (left : Option (List ℕ)) → Midst before left before left false
midst_begins before left = record { read = []; consumed = Consumes-nil left; kept = sym (append-nil before); end = λ e. absurd (cc e) }

pub midst_more : (before : List ℕ) (left : Option (List ℕ)) (after : List ℕ) (mid : Option (List ℕ)) (stands after' : List ℕ) (left' : Option (List ℕ)) (count : ℕ) (ended : Bool)
    → Midst before left after mid ended → stands ≡ after → Fills mid left' stands after' count → Midst before left after' left' (count == 0)
midst_more before left after mid stands after' left' count ended m same f = record {
  read = m.read ++ f.piece;
  consumed = Consumes-trans left mid left' m.read f.piece m.consumed f.consumed;
  kept = f.behind ∙ ap (λ l. l ++ f.piece) (same ∙ m.kept) ∙ append_assoc before m.read f.piece;
  end = λ e. f.end (eqb-true count 0 e);
}

given : (longest : ℕ) (before : List ℕ) (left : Option (List ℕ)) (after : List ℕ) (left' : Option (List ℕ)) (ended : Bool) (new : Held)
    → Midst before left after left' ended → IsGiven ended after new → length new.line ≤ longest → LineComes longest before left new.bytes left' new.line
given longest before left after left' ended new m (inl x) short =
    record { read = m.read; consumed = m.consumed; part = x.0; short = short; ended = inl (sym m.kept ∙ x.1) }
given longest before left after left' ended new m (inr x) short = record {
  read = m.read;
  consumed = m.consumed;
  part = subst (λ l. whole_lines l ≡ []) (sym x.3) x.2;
  short = short;
  ended = inr (sym m.kept ∙ sym x.3, subst (λ l. 0 < length l) (sym x.3) x.1, x.4, m.end x.0);
}

pub line_comes : (longest : ℕ) (before : List ℕ) (left : Option (List ℕ)) (after : List ℕ) (left' : Option (List ℕ)) (ended : Bool) (new : Held)
    → Midst before left after left' ended → GivesWithin longest ended after new next.Line → LineComes longest before left new.bytes left' new.line
line_comes longest before left after left' ended new m g = given longest before left after left' ended new m g.0 g.1

pub too_long_comes : (longest : ℕ) (before : List ℕ) (left : Option (List ℕ)) (after : List ℕ) (left' : Option (List ℕ)) (ended : Bool) (new : Held)
    → Midst before left after left' ended → GivesWithin longest ended after new next.TooLong → TooLongComes longest before left new.bytes left'
too_long_comes longest before left after left' ended new m g = rw g.3 (record { read = m.read; consumed = m.consumed; kept = m.kept; long = g.1; part = g.0 })

pub end_comes : (longest : ℕ) (before : List ℕ) (left : Option (List ℕ)) (after : List ℕ) (left' : Option (List ℕ)) (ended : Bool) (new : Held)
    → Midst before left after left' ended → GivesWithin longest ended after new next.End → EndComes before left new.bytes left'
end_comes longest before left after left' ended new m g =
    let none = both_none before m.read (sym m.kept ∙ g.1) in
    record { empty = none.0; none = g.2 ∙ g.1; consumed = subst (λ l. Consumes left left' l) none.1 m.consumed; end = m.end g.0 }

-- a read that failed
pub breaks : (longest : ℕ) (before : List ℕ) (left : Option (List ℕ)) (after : List ℕ) (mid : Option (List ℕ)) (ended : Bool) (new : Held) (after' : List ℕ) (left' : Option (List ℕ))
    → Midst before left after mid ended → GivesWithin longest ended after new next.More → after' ≡ new.bytes → Keeps mid left' → Breaks before left after' left'
breaks longest before left after mid ended new after' left' m g same k =
    let stands : after' ≡ after = same ∙ g.3 in
    record {
      read = m.read;
      consumed = Consumes-kept left mid left' m.read m.consumed k;
      kept = stands ∙ m.kept;
      part = subst (λ l. whole_lines l ≡ []) (sym stands) g.1;
    }

-- how often more may come
abbrev pub turns_left : List ℕ → Bool → ℕ
turns_left bytes true = room - length bytes
turns_left bytes false = room + 1 - length bytes
