-- What a step begins with: the group as it was, or with one entry made.
use Rattle.std.specs.Prelude.{ℕ, ◌%◌, ◌≡◌, Bool, List, ◌∷◌}
use Rattle.vr_header.specs.declared.header.Header.{Header}
use Rattle.vr_header.specs.Made.{Whole}
use Rattle.vr_rules.specs.Steps.{Effect, Write, Step}
use Rattle.law_1_machine.specs.Basics.{In}
use Rattle.law_1_machine.specs.Group.{Group, made_at}
use Rattle.law_2_chains.specs.Local.{Local}
use Rattle.law_2_chains.specs.Chains.{Setup}
use Rattle.law_2_chains.specs.Tables.{HasTables}
use Rattle.law_2_chains.specs.Finished.{Finishes}

-- one entry more was made
abbrev pub with_made : Header → Group Header → Group Header
with_made h s = record s { made = made_at h.view h.op h ∷ s.made }

-- The group as it was; or its primary i made an entry in its view that wasn't made before, and it is what the step writes first.
pub data Begins (u : Setup) (start : Group Header) (i : ℕ) (es : List Effect) : Group Header → Type 0 where
  as_it_was : Begins u start i es start
  one_made : (again : Bool) (e : Whole) (later : List Effect) → es ≡ Write again e ∷ later → i ≡ e.header.view % u.quorums.n → (In (made_at e.header.view e.header.op e.header) start.made → ⊥)
      → Begins u start i es (with_made e.header start)

-- A step is a chain of moves, to its end and wherever it is cut. Nothing is made in it but what it begins with; and at its end the
-- replica's tables are true, unless it is frozen.
pub record IsChain (u : Setup) (start : Group Header) (i : ℕ) (l : Local) (x : Step) : Type 0 where
  pub begun : Group Header
  pub begins : Begins u start i x.script begun
  pub finishes : Finishes u begun i l x
  pub tables : HasTables u finishes.after i x.replica
