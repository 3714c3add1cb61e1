use Rattle.std.proofs.Common.{◌≡◌, ◌∙◌, ◌*◌, ap, drop, is_ok, Ok}
use Rattle.vr_header.specs.Spelling.{decoded, fault_of}
use Rattle.vr_super.proofs.Heads.{decoded_at, listing_ends, listing_goes, listing_starts}
use Rattle.vr_super.proofs.listing.read_list.Goals as goal

pub loop-i-init : goal.loop-i-init
loop-i-init c f op all e = rw c.new-headers.ensures (listing_starts f op c.args.count c.args.bytes.now all e)

pub decoded_header-requires : goal.decoded_header-requires
decoded_header-requires c = ap is_ok (decoded_at _ (ap fault_of c.split_at.ensures.back ∙ c.requires.spelled c.loop-i.i c.loop-i-test.true))

pub loop-i-preserved : goal.loop-i-preserved
loop-i-preserved c f op all e =
    let i = c.loop-i.i in
    let b = c.args.bytes.now in
    let read : decoded (drop (128 * i) b) ≡ Ok c.decoded_header.result = rw (c.decoded_header.ensures.fields, c.split_at.ensures.back) (decoded_at (drop (128 * i) b) (c.requires.spelled i c.loop-i-test.true)) in
    rw c.in_ok-push.ensures.ok (listing_goes f op c.args.count i b c.loop-i.headers all c.decoded_header.result c.loop-i-test.true read (c.loop-i.invariant f op all e))

pub returns : goal.returns
returns c f op all e = listing_ends f op c.args.count c.loop-i.i c.args.bytes.now c.loop-i.headers all c.loop-i-test.false (c.loop-i.invariant f op all e)
