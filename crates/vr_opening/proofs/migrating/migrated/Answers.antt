use Rattle.std.proofs.Common.{◌∙◌, ◌++◌, List, [], ap}
use Rattle.vr_header.specs.declared.header.Header.{Header}
use Rattle.vr_super.specs.Copies.{SuperValue}
use Rattle.vr_super.specs.declared.fields.Fields.{Fields}
use Rattle.vr_rules.specs.Migrating.{migrated}
use Rattle.vr_opening.proofs.Moves.{saved_good}
use Rattle.vr_opening.proofs.migrating.migrated.Goals as goal

pub new-requires : goal.new-requires
new-requires c =
    let alone : Fields → SuperValue = λ f. record { fields = f; headers = [] } in
    let fields = c.migrated_fields-fields.ensures ∙ ap (λ f. (migrated (alone f)).fields) c.fields.ensures.value in
    let headers = c.in_ok-extend.ensures.ok ∙ (ap (λ (hs : List Header). hs ++ c.headers.result.now) c.new-headers.ensures ∙ c.headers.ensures) in
    saved_good c.args.old.now c.migrated_fields-fields.result c.extend.new.self c.fields.ensures.good fields headers
