use Rattle.std.proofs.Common.{◌∙◌, subst}
use Rattle.std.proofs.lemmas.Bool.{eq-eqb}
use Rattle.vr_mem.specs.Cells.{disk_of}
use Rattle.vr_lie.specs.Table.{KeepsSlot, both, table_of}
use Rattle.vr_lie.proofs.Trials.{keeps_on, premise_is, premise_slot}
use Rattle.vr_lie.proofs.trial.keeps_premise.Goals as goal

pub returns-then-a-b-clause-value : goal.returns-then-a-b-clause-value
returns-then-a-b-clause-value c =
    let d = disk_of c.args.disk.now in
    let table = table_of c.args.held.now in
    let a = c.args.a.now in
    let b = c.args.b.now in
    let first = c.keeps_opening.ensures.told in
    let k = keeps_on c.args.version _ d a b a.at table c.keeps_slot.result first c.keeps_slot.ensures.value in
    let one = k.0 c.if-not-keeps_slot.false in
    let two = subst (λ i. KeepsSlot c.args.version d.face (both d.face a b) i table) c.if-a-b.true one in
    (λ t. premise_is c.args.version d.face a b table (c.keeps_opening.ensures.value.0 c.if-not-keeps_opening.false) one two, λ h. eq-eqb a.at b.at c.if-a-b.true)

pub returns-else-a-b-clause-value : goal.returns-else-a-b-clause-value
returns-else-a-b-clause-value c =
    let d = disk_of c.args.disk.now in
    let table = table_of c.args.held.now in
    let a = c.args.a.now in
    let b = c.args.b.now in
    let first = c.keeps_opening.ensures.told in
    let second = c.keeps_slot.ensures.told ∙ first in
    let k = keeps_on c.args.version _ d a b a.at table c.keeps_slot.result first c.keeps_slot.ensures.value in
    let l = keeps_on c.args.version _ d a b b.at table c.keeps_slot-else-a-b.result second c.keeps_slot-else-a-b.ensures.value in
    (λ t. premise_is c.args.version d.face a b table (c.keeps_opening.ensures.value.0 c.if-not-keeps_opening.false) (k.0 c.if-not-keeps_slot.false) (l.0 t), λ h. l.1 (premise_slot c.args.version d.face (both d.face a b) b.at table h))
