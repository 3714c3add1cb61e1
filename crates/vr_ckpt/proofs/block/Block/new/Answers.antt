use Rattle.std.proofs.Common.{◌∙◌, ap, arith, ◌++◌}
use Rattle.vr_ckpt.specs.Blocks.{Content}
use Rattle.vr_ckpt.proofs.Made.{made_is, name_in, whole_made}
use Rattle.vr_ckpt.proofs.block.Block.new.Goals as goal

pub returns-clause-value : goal.returns-clause-value
returns-clause-value c =
    let v : Content = record { cluster = c.args.cluster; address = c.args.address; op = c.args.op; kind = c.args.kind; payload = c.args.payload.now } in
    let n = name_in c.block_header-header.result c.sum_at-sum.result c.encode-front.result c.encode-front.ensures.header c.encode-front.ensures.bytes c.sum_at-sum.ensures in
    made_is v c.block_header-header.result c.sum_at-sum.result c.encode-front.result c.extend_from_slice-2.new.self.items c.resize.new.self.items c.from_vec.result c.extend_from_slice-2.new.self.len
    c.requires.payload c.encode-front.ensures.header c.block_header-header.ensures n c.encode-front.ensures.bytes
    (c.in_ok-extend_from_slice-2.ensures.items ∙ ap (λ x. x ++ c.args.payload.now) (c.in_ok-extend_from_slice.ensures.items ∙ ap (λ x. x ++ c.encode-front.result) c.in_ok-bytes.ensures.items))
    (omega arith) c.in_ok-resize.ensures.items c.from_vec.ensures

pub returns-clause-whole : goal.returns-clause-whole
returns-clause-whole c a k =
    whole_made _ (record { cluster = c.args.cluster; address = c.args.address; op = c.args.op; kind = c.args.kind; payload = c.args.payload.now }) (returns-clause-value c)
    (record {
      cluster = (let f = c.ranges.cluster.fits in omega arith);
      address = a;
      op = (let f = c.ranges.op.fits in omega arith);
      kind = k;
      payload = c.requires.payload;
    })
