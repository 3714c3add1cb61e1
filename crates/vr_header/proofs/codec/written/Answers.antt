use Rattle.std.proofs.Common.{◌≤◌, [], ◌∷◌, length, drop, refl, sym, ap, ◌∙◌, arith}
use Rattle.std.specs.Prelude.{replicate}
use Rattle.std.proofs.lemmas.List.{take_all}
use Rattle.vr_base.specs.Bytes.{bytes32, bytes64}
use Rattle.vr_header.specs.Spelling.{code_of, named_bytes}
use Rattle.vr_header.proofs.Written.{behind}
use Rattle.vr_header.proofs.codec.written.Goals as goal

pub returns-clause-bytes : goal.returns-clause-bytes
unfolding named_bytes
returns-clause-bytes c =
    let h = c.args.h in
    let len : length c.put-2.new.out ≤ 128 = omega arith in
    ap (drop 16) (sym (take_all 128 c.put-2.new.out len))
    ∙ rw (
      c.put-2.ensures.front,
      c.put_u64-5.ensures.front,
      c.put.ensures.front,
      c.put_u32-3.ensures.front,
      c.put_u64-4.ensures.front,
      c.put_u64-3.ensures.front,
      c.put_u32-2.ensures.front,
      c.put_u32.ensures.front,
      c.put_u64-2.ensures.front,
      c.put_u64.ensures.front,
      c.put_sum-3.ensures.front,
      c.put_sum-2.ensures.front,
      c.put_sum.ensures.front,
      c.code_of.ensures,
      c.get.ensures.value,
      c.get-2.ensures.value,
    )
    (behind 16 (replicate 16 0) h.body.0 h.parent.0 h.request_name.0 (bytes64 h.cluster) (bytes64 h.client) (bytes32 h.request) (bytes32 h.view) (bytes64 h.op) (bytes64 h.commit) (bytes32 h.size)
    (code_of h.command ∷ h.replica ∷ h.version ∷ h.kind ∷ []) (bytes64 h.aux) (replicate 8 0) refl)
