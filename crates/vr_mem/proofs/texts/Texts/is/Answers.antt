use Rattle.std.proofs.Common.{◌∙◌, ap, refl, rules, ℕ, List}
use Rattle.std.specs.Prelude.{Some}
use Rattle.vr_base.specs.Bytes.{IsBytes}
use Rattle.vr_disk.specs.Sectors.{has}
use Rattle.vr_mem.proofs.Meant.{marked_plain, marked_owed}
use Rattle.vr_mem.proofs.texts.Texts.is.Goals as goal

pub returns-in-Plain : goal.returns-in-Plain
returns-in-Plain c =
    let each : IsBytes c.args.from.now = λ i. search rules in
    c.eq.ensures ∙ ap (λ (x : List ℕ). has c.args.bytes.now (Some x)) (marked_plain c.args.self.now c.args.mark c.args.from.now c.args.from.now c.in-Plain.is each refl)

pub returns-in-Owed : goal.returns-in-Owed
returns-in-Owed c =
    let each : IsBytes c.args.from.now = λ i. search rules in
    c.eq-in-Owed.ensures ∙ ap (λ (x : List ℕ). has c.args.bytes.now (Some x)) (c.as_slice.ensures ∙ marked_owed c.args.self.now c.args.mark c.args.from.now c.content-sector.result.bytes c.in-Owed.is each c.requires.from c.content-sector.ensures)
