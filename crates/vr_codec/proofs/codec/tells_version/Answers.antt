use Rattle.std.proofs.Common.{◌≡◌, refl, ◌∙◌, arith}
use Rattle.std.proofs.lemmas.Option.{get_or_from_slice_get, slice_get_within}
use Rattle.vr_msg.specs.Spelling.{version_of}
use Rattle.vr_codec.proofs.Versions.{version_there}
use Rattle.vr_codec.proofs.codec.tells_version.Goals as goal

pub returns-in-Some : goal.returns-in-Some
returns-in-Some c m s =
    let there = version_there m c.args.bytes.now s in
    let told : c.in-Some.told.now ≡ version_of m = rw c.in-Some.is at (c.get.ensures.lookup.1) ∙ get_or_from_slice_get c.args.bytes.now 110 (version_of m) c.in-Some.told.now there in
    rw (told, c.get-in-Some.ensures.value) refl

pub returns-in-None : goal.returns-in-None
returns-in-None c m s =
    let within = slice_get_within c.args.bytes.now 110 (version_of m) (version_there m c.args.bytes.now s) in
    let some = rw c.in-None.is at (c.get.ensures.lookup.2 within) in
    absurd cc
