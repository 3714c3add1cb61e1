-- Lines that lead from one world to another: what they put out, and that they hash no text but those of three entries.
use Rattle.std.proofs.Common.{ℕ, ◌≡◌, ◌⊎◌, ◌∙◌, sym, ap, subst, List, [], ◌∷◌, ◌++◌, Some, None}
use Rattle.std.proofs.lemmas.List.{append-nil, append_assoc}
use Rattle.vr_msg.specs.declared.event.Event.{Event}
use Rattle.vr_msg.specs.declared.output.Output.{Output}
use Rattle.vr_rules.specs.Replica.{Replica}
use Rattle.vr_rules.specs.Rules.{react}
use Rattle.vr_rules.specs.Steps.{Effect, Step, outputs}
use Rattle.vr_world.specs.Lying.{Lying, hazards, lying}
use Rattle.vr_world.specs.World as world
use Rattle.vr_world.specs.World.{Happened, Happening, World, happen, happens, went, with_member}
use Rattle.vr_group.proofs.Goings.{happen_append}
use Rattle.law_4_disks.specs.Worlds.{IsHashedAt, begun_in, stepping, work_of}
use Rattle.law_6_one_log.specs.Schedules.{IsUsedAt}
use Rattle.rows_computed.proofs.Disks.{Plain}
use Rattle.rows_computed.proofs.DroppedRow.{Of, acting, idle}
use Rattle.rows_computed.proofs.Lines.{Hashes, HashesAt, IsText, host, then_lines}
use Rattle.rows_computed.proofs.Names.{all_three}

abbrev pub IsOne : List ℕ → Type 0
IsOne = IsText all_three

pub record Goes (w v : World Lying) (xs : List Happening) (os : List Output) : Type 0 where
  pub left : (happen hazards w xs).world ≡ v
  pub said : (happen hazards w xs).outputs ≡ os
  pub hashed : (rest : List Happening) → Hashes IsOne v rest → Hashes IsOne w (xs ++ rest)

-- first these, then those
pub then : {u v w : World Lying} {xs ys : List Happening} {os ps : List Output} → Goes u v xs os → Goes v w ys ps → Goes u w (xs ++ ys) (os ++ ps)
then {u} {v} {w} {xs} {ys} {os} {ps} a b =
    let both = happen_append u xs ys in
    record {
      left = both.world ∙ (ap (λ (x : World Lying). (happen hazards x ys).world) a.left ∙ b.left);
      said = both.outputs ∙ (ap (λ (x : World Lying). (happen hazards u xs).outputs ++ (happen hazards x ys).outputs) a.left ∙ (ap (λ (x : List Output). x ++ (happen hazards v ys).outputs) a.said ∙ ap (λ (x : List Output). os ++ x) b.said));
      hashed = λ rest h. subst (Hashes IsOne u) (sym (append_assoc xs ys rest)) (a.hashed (ys ++ rest) (b.hashed rest h));
    }

-- one line
one_line : (w : World Lying) (x : Happening) (h : Happened Lying) → happens hazards w x ≡ h → ((b : List ℕ) → IsHashedAt w x b ⊎ IsUsedAt w x b → IsOne b) → Goes w h.world (x ∷ []) h.outputs
unfolding happen
one_line w x h is texts = record {
  left = ap (λ (y : Happened Lying). y.world) is;
  said = append-nil (happens hazards w x).outputs ∙ ap (λ (y : Happened Lying). y.outputs) is;
  hashed = λ rest more. then_lines IsOne w h.world x rest (ap (λ (y : Happened Lying). y.world) is) texts more;
}

-- it is no line of a fault
abbrev pub IsNoFault : World Lying → Happening → Type 0
IsNoFault w x = (b : List ℕ) → IsHashedAt w x b ⊎ IsUsedAt w x b → HashesAt w x b

-- by which a member handles an event
abbrev pub goes_to : World Lying → ℕ → Replica → Replica → Lying → List Effect → Happened Lying
goes_to w at r q d es = with_member w at (went hazards (host r d) (record { replica = q; script = es }) None)

pub acts : (w : World Lying) (x : Happening) (at : ℕ) (e : Event) (r q : Replica) (d : Lying) (es : List Effect) → IsNoFault w x → happens hazards w x ≡ with_member w at (world.acts hazards at (host r d) (react e lying r d))
    → work_of w x ≡ Some (stepping e (host r d) r) → react e lying r d ≡ record { replica = q; script = es } → Plain all_three d → Of es → Goes w (goes_to w at r q d es).world (x ∷ []) (outputs es)
acts w x at e r q d es no_fault begins work is plain all =
    one_line w x (goes_to w at r q d es) (begins ∙ ap (λ (s : Step). with_member w at (went hazards (host r d) s None)) is) (λ b h. acting w x e r q d es work is plain all b (no_fault b h))

-- by which none does
pub rests : (w v : World Lying) (x : Happening) → IsNoFault w x → happens hazards w x ≡ record { world = v; outputs = [] } → work_of w x ≡ None → begun_in w x ≡ [] → Goes w v (x ∷ []) []
rests w v x no_fault is none starts = one_line w x (record { world = v; outputs = [] }) is (λ b h. idle w x none starts b (no_fault b h))
