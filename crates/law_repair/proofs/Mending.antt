-- A good copy of a block that has gone bad is put in its place.
use Rattle.std.proofs.Common.{arith, ℕ, zero, suc, ◌≡◌, ◌<◌, ◌∙◌, refl, sym, ap, subst, Bool, true, false, cond, not, ◌||◌, List, [], ◌∷◌, length, Option, Some, None, is_some}
use Rattle.std.specs.Prelude.{filter, find, slice_index_or, ◌==◌}
use Rattle.std.specs.List.{list_any}
use Rattle.std.specs.Option.{option_and_then}
use Rattle.std.specs.Cmp.Derive.{both_true}
use Rattle.std.proofs.lemmas.Bool.{and_parts, eq-eqb, eqb-true, lt-ltb, ne_eqb}
use Rattle.vr_disk.specs.DiskState as disk
use Rattle.vr_disk.specs.DiskState.{Face, IsFace}
use Rattle.vr_ckpt.specs.Blocks.{Content, named}
use Rattle.vr_ckpt.specs.Grid.{block_reading, named_at, put_calls}
use Rattle.vr_ckpt.specs.Places.{grid_size}
use Rattle.vr_ckpt.specs.declared.name.Name.{Name}
use Rattle.vr_ckpt.proofs.Puts.{name_fits, put_law}
use Rattle.vr_msg.specs.declared.event.Event.TheVariants as event
use Rattle.vr_msg.specs.declared.frame.Frame.TheVariants as frame
use Rattle.vr_msg.specs.declared.frame.GiveBlock.{GiveBlock}
use Rattle.vr_rules.specs.Deciding.{first_of, give_block_table, has_missing, is_from, is_wanted}
use Rattle.vr_rules.specs.declared.rule.Rule.{Rule}
use Rattle.vr_rules.specs.declared.rule.Rule.TheVariants.{BlockMended, BlockTaken, Ignored}
use Rattle.vr_world.specs.Lying.{lying}
use Rattle.vr_rules.specs.Replica.{Replica, is_frozen, version}
use Rattle.vr_rules.specs.Rules.{mend_found, not_worn, obey_give_block, on_event, on_give_block, react}
use Rattle.vr_rules.specs.Sectors.{block_in, sectors_by}
use Rattle.vr_rules.specs.Steps.{PutBlock, Setting, Step, ◌⨾◌, after_all, by, change, does, quiet, reading}
use Rattle.vr_world.proofs.FitLies.{same_face}
use Rattle.law_repair.specs.Blocks.{BlocksMend, HasGoneBad, IsBlockCopy}

-- ---- the rule

-- where an item of a list passes, the first one that does is found
record Finds {X : Type 0} (p : X → Bool) (xs : List X) : Type 0 where
  item : X
  found : find p xs ≡ Some item
  passes : p item ≡ true
  any : list_any p xs ≡ true

first_found : {X : Type 0} (p : X → Bool) (xs : List X) (k : ℕ) (x : X) → k < length xs → slice_index_or xs k x ≡ x → p x ≡ true → Finds p xs
first_found p [] k x l e t = absurd (omega (arith, l))
first_found p (y ∷ ys) zero x l e t =
    let q : p y ≡ true = subst (λ z. p z ≡ true) (sym e) t in
    record { item = y; found = ap (λ b. cond b (Some y) (find p ys)) q; passes = q; any = ap (λ b. b || list_any p ys) q }
first_found p (y ∷ ys) (suc k) x l e t =
    let rest = first_found p ys k x (omega (arith, l)) e t in
    let go : (b : Bool) → p y ≡ b → Finds p (y ∷ ys) = elim [
      | true ↦ λ q. record { item = y; found = ap (λ b. cond b (Some y) (find p ys)) q; passes = q; any = ap (λ b. b || list_any p ys) q }
      | false ↦ λ q. record { item = rest.item; found = ap (λ b. cond b (Some y) (find p ys)) q ∙ rest.found; passes = rest.passes; any = ap (λ b. b || list_any p ys) q ∙ rest.any }
    ] in
    go (p y) refl

rule_mended : (a b c : Bool) → a ≡ true → b ≡ false → c ≡ true → first_of ((not a, Ignored) ∷ (b, BlockTaken) ∷ (c, BlockMended) ∷ []) ≡ BlockMended
unfolding first_of
rule_mended a b c p q u = rw (p, q, u) refl

from_other : (g : GiveBlock) (r : Replica) (name : Name) {F : Type 0} (s : Setting F) → IsBlockCopy s r name g → is_from g.version g.cluster g.replica r ≡ true
from_other g r name s copy =
    both_true (both_true (eq-eqb g.version (version r) copy.version) (eq-eqb g.cluster r.cluster copy.cluster)) (both_true (lt-ltb g.replica r.n copy.member) (ap not (ne_eqb g.replica r.index copy.other)))

-- ---- the step

-- the block is put under a name of this address
record Puts (r : Replica) (name : Name) (block : List ℕ) (x : Step) : Type 0 where
  at : Name
  address : at.address ≡ name.address
  is : x ≡ record { replica = not_worn name r; script = PutBlock at block ∷ [] }

address_alone : (a b : Name) (r : Replica) → a.address ≡ b.address → not_worn a r ≡ not_worn b r
address_alone a b r e = ap (λ (k : ℕ). let q : Replica = record r { worn = filter (λ m. not (m.address == k)) r.worn } in q) e

module _ {F : Type 0} (s : Setting F) where
  found_put : (block : List ℕ) (m : Name) (r : Replica) (f : F) → mend_found block (Some m) s r f ≡ record { replica = not_worn m r; script = PutBlock m block ∷ [] }
  unfolding ◌⨾◌ does change
  found_put block m r f = refl

  handled : (g : GiveBlock) (r : Replica) (f : F) (m : Name) → is_frozen r ≡ false → first_of (give_block_table s.is_block g r) ≡ BlockMended → find (is_wanted s.is_block g) r.worn ≡ Some m
      → react (event.Deliver (frame.GiveBlock g)) s r f ≡ mend_found g.block (Some m) s r f
  unfolding react on_give_block by reading
  handled g r f m active rule found =
      ap (λ (b : Bool). cond (not b) (on_event (event.Deliver (frame.GiveBlock g))) quiet s r f) active
      ∙ (ap (λ (x : Rule). obey_give_block s.is_block g x s r f) rule
      ∙ ap (λ (o : Option Name). mend_found g.block o s r f) found)

  puts_it : (r : Replica) (f : F) (name : Name) (g : GiveBlock) → HasGoneBad r name → IsBlockCopy s r name g → Puts r name g.block (react (event.Deliver (frame.GiveBlock g)) s r f)
  puts_it r f name g bad copy =
      let p : Name → Bool = is_wanted s.is_block g in
      let wanted : p name ≡ true = both_true (eq-eqb name.address g.address (sym copy.address)) copy.block in
      let finds = first_found p r.worn bad.worn.0 name bad.worn.1 bad.worn.2 wanted in
      let m : Name = finds.item in
      let address : m.address ≡ name.address = eqb-true m.address g.address (and_parts (m.address == g.address) (s.is_block m g.block) finds.passes).0 ∙ copy.address in
      let none : has_missing p r ≡ false = ap (list_any p) bad.loaded in
      let rule : first_of (give_block_table s.is_block g r) ≡ BlockMended =
      rule_mended (is_from g.version g.cluster g.replica r) (has_missing p r) (list_any p r.worn) (from_other g r name s copy) none finds.any in
      record {
        at = m;
        address = address;
        is = handled g r f m bad.active rule finds.found
            ∙ (found_put g.block m r f
            ∙ ap (λ (q : Replica). let x : Step = record { replica = q; script = PutBlock m g.block ∷ [] } in x) (address_alone m name r address));
      }

-- ---- the disks of the program

block_reads : (f : Face) (name m : Name) (b : List ℕ) → IsFace f → f.waiting ≡ [] → m.address ≡ name.address → is_some (named name b) ≡ true
    → block_in (disk.after_all f (put_calls m.address b)) name ≡ Some b
unfolding named_at
block_reads f name m b face done same whole =
    let fits = name_fits name b whole in
    let g : Face = disk.after_all f (put_calls m.address b) in
    let low : m.address < grid_size = (let l = fits.0 in omega (arith, l, same)) in
    let read : block_reading g name.address ≡ Some b = subst (λ a. block_reading g a ≡ Some b) same (put_law m.address b f low fits.1 face done).done in
    let there : named_at g name ≡ named name b =
    ap (λ (t : Bool). cond t (option_and_then (named name) (block_reading g name.address)) None) (lt-ltb name.address grid_size fits.0) ∙ ap (option_and_then (named name)) read in
    ap (λ (o : Option Content). cond (is_some o) (block_reading g name.address) None) there ∙ (ap (λ (t : Bool). cond t (block_reading g name.address) None) whole ∙ read)

pub sectors_mend : (v : ℕ) → BlocksMend (sectors_by v) (λ f. f)
unfolding after_all
sectors_mend v r f name g face done bad copy =
    let p = puts_it (sectors_by v) r f name g bad copy in
    record {
      replica = ap (λ (x : Step). x.replica) p.is;
      reads = ap (λ (x : Step). block_in (after_all (sectors_by v) f x.script) name) p.is ∙ block_reads f name p.at g.block face done p.address copy.block;
    }

pub lying_mends : BlocksMend lying (λ d. d.face)
unfolding after_all
lying_mends r d name g face done bad copy =
    let p = puts_it lying r d name g bad copy in
    record {
      replica = ap (λ (x : Step). x.replica) p.is;
      reads = ap (λ (x : Step). block_in (after_all lying d x.script).face name) p.is
          ∙ (ap (λ (f : Face). block_in f name) (same_face (PutBlock p.at g.block ∷ []) d) ∙ block_reads d.face name p.at g.block face done p.address copy.block);
    }
