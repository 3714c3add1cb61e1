-- What a script does to one member: its disk, what it began to write, and what it said.
-- A script may be cut within each of its effects.
use Rattle.std.specs.Prelude.{⊤, List, [], ◌∷◌, ◌++◌}
use Rattle.vr_header.specs.declared.header.Header.{Header}
use Rattle.vr_msg.specs.declared.output.Output.{Output}
use Rattle.vr_rules.specs.Steps.{Effect, output_of}
use Rattle.vr_world.specs.Group.{Member, begins, ends, made_by_effect}

pub record Local : Type 0 where
  pub member : Member
  -- the headers of the entries that it began to write
  pub made : List Header
  pub said : List Output

-- an effect begins
abbrev pub begun : Effect → Local → Local
begun e l = record { member = begins e l.member; made = l.made ++ made_by_effect e; said = l.said }

-- and comes to its end
abbrev pub ended : Effect → Local → Local
ended e l = record { member = ends e l.member; made = l.made; said = l.said ++ output_of e }

abbrev pub through : Effect → Local → Local
through e l = ended e (begun e l)

-- effects are carried out in order
abbrev pub carried : List Effect → Local → Local
carried [] l = l
carried (e ∷ es) l = carried es (through e l)

-- it holds within each of the effects
abbrev pub WhereverCut : (Local → Type 0) → List Effect → Local → Type 0
WhereverCut P [] l = ⊤
WhereverCut P (e ∷ es) l = P (begun e l) × WhereverCut P es (through e l)
