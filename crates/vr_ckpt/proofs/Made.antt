-- A block as it is made.
use Rattle.std.proofs.Common.{ℕ, ◌+◌, ◌-◌, ◌≤◌, ◌≡◌, arith, ap, ◌∙◌, Bool, true, List, ◌++◌, length, take, append_assoc, length-append, Option}
use Rattle.std.specs.Prelude.{is_some, replicate}
use Rattle.std.proofs.lemmas.List.{take_all}
use Rattle.vr_base.specs.Bytes.{piece}
use Rattle.vr_base.specs.declared.sum.Sum.{Sum}
use Rattle.vr_disk.specs.DiskState.{Disk, Runs}
use Rattle.vr_header.specs.Names.{header_name}
use Rattle.vr_header.specs.Spelling.{IsHeader, header_bytes}
use Rattle.vr_header.specs.declared.header.Header.{Header}
use Rattle.vr_header.proofs.HeaderLaws.{length-header_bytes}
use Rattle.vr_ckpt.specs.Blocks.{Content, IsContent, block_bytes, block_header, block_name, block_of, content_of}
use Rattle.vr_ckpt.specs.Grid.{block_calls}
use Rattle.vr_ckpt.specs.declared.block.Block.{Block}
use Rattle.vr_ckpt.proofs.Contents.{content_again, sum_in}

bytes_are : (c : Content) (h : Header) (one two three : List ℕ) (n : ℕ) → length c.payload ≤ 3968 → IsHeader h → h ≡ block_header c → one ≡ header_bytes h → two ≡ one ++ c.payload
    → n ≡ length two → three ≡ take 4096 two ++ replicate (4096 - n) 0 → three ≡ block_bytes c
unfolding block_bytes
bytes_are c h one two three n l i e a b m s =
    let size : length two ≡ 128 + length c.payload =
    ap length b ∙ (length-append one c.payload ∙ ap (λ k. k + length c.payload) (ap length a ∙ length-header_bytes h i)) in
    let zero : 4096 - n ≡ 3968 - length c.payload = omega arith in
    s ∙ (ap (λ x. x ++ replicate (4096 - n) 0) (take_all 4096 two (omega arith) ∙ (b ∙ ap (λ x. x ++ c.payload) (a ∙ ap header_bytes e)))
    ∙ (append_assoc (header_bytes (block_header c)) c.payload (replicate (4096 - n) 0) ∙ ap (λ k. header_bytes (block_header c) ++ (c.payload ++ replicate k 0)) zero))

-- a header's bytes begin with its name
pub name_in : (h : Header) (sum : Sum) (front : List ℕ) → IsHeader h → front ≡ header_bytes h → sum.0 ≡ piece 0 16 front → sum ≡ header_name h
name_in h sum front i e s =
    let l = ap length e ∙ length-header_bytes h i in
    let same : sum.0 ≡ (header_name h).0 = s ∙ sum_in front h (take_all 128 front (omega arith) ∙ e) in
    ap (λ (x : List ℕ). let s : Sum = record { 0 = x } in s) same

pub made_is : (c : Content) (h : Header) (sum : Sum) (one two three bytes : List ℕ) (n : ℕ) → length c.payload ≤ 3968 → IsHeader h → h ≡ block_header c → sum ≡ header_name h → one ≡ header_bytes h → two ≡ one ++ c.payload
    → n ≡ length two → three ≡ take 4096 two ++ replicate (4096 - n) 0 → bytes ≡ three
    → (let x : Block = record { name = record { address = c.address; sum = sum }; bytes = bytes } in x) ≡ block_of c
unfolding block_of
made_is c h sum one two three bytes n l i e f a b m s t =
    ap (λ (y : Sum). let x : Block = record { name = record { address = c.address; sum = y }; bytes = bytes } in x) (f ∙ ap header_name e)
    ∙ ap (λ (y : List ℕ). let x : Block = record { name = block_name c; bytes = y } in x) (t ∙ bytes_are c h one two three n l i e a b m s)

-- the parts of a block
pub name_of_made : (b : Block) (c : Content) → b ≡ block_of c → b.name ≡ block_name c
unfolding block_of
name_of_made b c e = ap (λ (x : Block). x.name) e

pub bytes_of_made : (b : Block) (c : Content) → b ≡ block_of c → b.bytes ≡ block_bytes c
unfolding block_of
bytes_of_made b c e = ap (λ (x : Block). x.bytes) e

pub runs_made : (b : Block) (c : Content) (bytes : List ℕ) (address : ℕ) (old new : Option Disk) (ok : Bool) → b ≡ block_of c → bytes ≡ b.bytes → Runs (block_calls address bytes) old new ok → Runs (block_calls address (block_bytes c)) old new ok
runs_made b c bytes address old new ok e s r = let same : bytes ≡ block_bytes c = s ∙ bytes_of_made b c e in rw (← same) r

pub whole_made : (b : Block) (c : Content) → b ≡ block_of c → IsContent c → is_some (content_of b.bytes) ≡ true
unfolding block_of
whole_made b c e i = ap (λ (x : Block). is_some (content_of x.bytes)) e ∙ ap is_some (content_again c i)
