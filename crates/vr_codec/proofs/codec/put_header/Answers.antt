use Rattle.std.proofs.Common.{ap, ◌∙◌}
use Rattle.vr_msg.specs.Spelling.{body_bytes, header_before, version_of, with_fields}
use Rattle.vr_codec.proofs.Written.{put_front}
use Rattle.vr_codec.proofs.codec.put_header.Goals as goal

pub returns-clause-whole : goal.returns-clause-whole
returns-clause-whole c =
    let m = c.args.frame.now in
    let body = c.split_at.ensures.back ∙ c.requires.body in
    let header =
    c.with_fields-header.ensures
    ∙ ap (with_fields m) (c.header_before-bare.ensures
    ∙ (ap (λ v. header_before v c.split_at.result.1.now c.command_for.result) c.version.ensures
    ∙ (ap (λ t. header_before (version_of m) t c.command_for.result) body ∙ ap (header_before (version_of m) (body_bytes m)) c.command_for.ensures))) in
    put_front c.args.start m c.with_fields-header.result c.encode-head.result c.args.bytes.now c.put.new.out header c.encode-head.ensures.bytes c.encode-head.ensures.header
    c.put.ensures.front c.put.ensures.back c.requires.body
