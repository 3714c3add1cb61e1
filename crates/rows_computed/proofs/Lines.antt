-- What the lines of a schedule hash, whose disks read as no block, and as no entry but those of a list.
use Rattle.std.proofs.Common.{ℕ, ◌≡◌, ◌≤◌, ◌⊎◌, arith, inl, inr, refl, sym, ap, ◌∙◌, subst, List, [], ◌∷◌, Some, None}
use Rattle.std.specs.Prelude.{Contains, slice_get}
use Rattle.std.specs.List.{AllByRecursion}
use Rattle.vr_base.specs.Groups.{least_members}
use Rattle.vr_base.specs.Kinds.{of_mode}
use Rattle.vr_base.specs.declared.kind.Kind.{Kind}
use Rattle.vr_base.specs.declared.mode.Mode.{Mode}
use Rattle.vr_disk.specs.DiskState.{IsFace}
use Rattle.vr_header.specs.Bodies.{operation_bytes}
use Rattle.vr_header.specs.Made.{Whole}
use Rattle.vr_header.specs.Names.{root_header}
use Rattle.vr_header.specs.Spelling.{named_bytes}
use Rattle.vr_rules.specs.Replica.{Replica}
use Rattle.vr_rules.specs.Steps.{Effect}
use Rattle.vr_rules.specs.Opening.{IsKind, fresh}
use Rattle.vr_world.specs.Lying.{Lying, hazards}
use Rattle.vr_world.specs.Group.{fresh_group}
use Rattle.vr_world.specs.World.{Arrives, Asks, AsksInVersion, Begins, Fuses, Happening, Host, Lies, Migrates, Starts, Stops, Ticks, World, fresh_host, fresh_world, happens}
use Rattle.vr_world.specs.Safe as safe
use Rattle.vr_rings.specs.Slots.{whole_in}
use Rattle.vr_world.specs.Safe.{IsRead, IsWritten}
use Rattle.law_1_machine.specs.Basics.{In}
use Rattle.law_4_disks.specs.Worlds.{AreBeside, IsHashedAt, IsHashedCut, Work, begun_by, begun_in, begun_of, read_in, read_of, work_of}
use Rattle.law_4_disks.proofs.Fresh.{fresh_beside, schedules_begin}
use Rattle.law_6_one_log.specs.Schedules.{IsHashedOf, IsUsedAt}
use Rattle.law_6_one_log.proofs.Blank.{reads_nothing}
use Rattle.law_2_chains.proofs.StoredLists.{contains_in}
use Rattle.rows_computed.proofs.Disks.{IsOf, IsOfIn, Plain, PlainIn}

-- ---- a disk that was just formatted

-- in a group of this size, on files of this kind
pub beside_in : (kind : Kind) (n : ℕ) → IsKind kind → least_members kind.version ≤ n → n ≤ 6 → AreBeside (fresh_world hazards kind n) (fresh_group (λ i. kind) 0 n)
beside_in kind n is few many = subst (λ (w : World Lying). AreBeside w (fresh_group (λ i. kind) 0 n)) (sym (schedules_begin kind n)) (fresh_beside (λ i. kind) 0 n (λ i l. (is, few)) (omega arith) many)

pub plain_in_group : (kind : Kind) (n : ℕ) → IsKind kind → least_members kind.version ≤ n → n ≤ 6 → (entries : List Whole) (i : ℕ) → slice_get (fresh_world hazards kind n).members i ≡ Some (fresh_host hazards kind n i) → PlainIn kind.version entries (hazards.formatted kind 0 n i)
plain_in_group kind n is few many entries i at =
    let f : IsFace (hazards.formatted kind 0 n i).face = ((((beside_in kind n is few many).each i (fresh_host hazards kind n i) at).2).running (fresh kind 0 n i) refl).0.calm.face in
    record {
      version = refl;
      count = f.count;
      reads = λ slot e w. absurd (reads_nothing kind n i f (named_bytes e.header) (safe.IsRead.header slot e w));
      blocks = λ name c w. reads_nothing kind n i f c.payload (safe.IsRead.payload name c w);
    }

-- of three, in each mode
abbrev pub blank_disk : Mode → ℕ → Lying
blank_disk m i = hazards.formatted (of_mode m) 0 3 i

pub mode_kind : (m : Mode) → IsKind (of_mode m)
mode_kind m = (omega arith, omega arith)

pub beside : (m : Mode) → AreBeside (fresh_world hazards (of_mode m) 3) (fresh_group (λ i. of_mode m) 0 3)
beside m = beside_in (of_mode m) 3 (mode_kind m) (omega arith) (omega arith)

plain_of_three : (m : Mode) (entries : List Whole) (i : ℕ) → slice_get (fresh_world hazards (of_mode m) 3).members i ≡ Some (fresh_host hazards (of_mode m) 3 i) → Plain entries (blank_disk m i)
plain_of_three m entries i at = plain_in_group (of_mode m) 3 (mode_kind m) (omega arith) (omega arith) entries i at

pub blank_plain : (m : Mode) (entries : List Whole) → Plain entries (blank_disk m 0) × Plain entries (blank_disk m 1) × Plain entries (blank_disk m 2)
unfolding fresh_world
blank_plain m entries = (plain_of_three m entries 0 refl, plain_of_three m entries 1 refl, plain_of_three m entries 2 refl)

-- ---- the texts that are hashed

pub data IsText (entries : List Whole) : List ℕ → Type 0 where
  root : IsText entries (named_bytes (root_header 0))
  header : (e : Whole) → In e entries → IsText entries (named_bytes e.header)
  operation : (e : Whole) → In e entries → IsText entries (operation_bytes e.operation)

read_text : (v : ℕ) (entries : List Whole) (d : Lying) → PlainIn v entries d → (b : List ℕ) → IsRead d b → IsText entries b
read_text v entries d p _ (safe.IsRead.header slot e w) = header e (p.reads slot e (subst (λ n. whole_in n d.face slot ≡ Some e) p.version w))
read_text v entries d p _ (safe.IsRead.operation slot e w) = operation e (p.reads slot e (subst (λ n. whole_in n d.face slot ≡ Some e) p.version w))
read_text v entries d p _ (safe.IsRead.block name c w) = absurd (p.blocks name c w)
read_text v entries d p _ (safe.IsRead.payload name c w) = absurd (p.blocks name c w)

written_text : (v : ℕ) (entries : List Whole) (e : Effect) (b : List ℕ) → IsOfIn v entries e → IsWritten e b → IsText entries b
written_text v entries _ _ i (safe.IsWritten.header again e) = header e i.0
written_text v entries _ _ i (safe.IsWritten.operation again e) = operation e i.0
written_text v entries _ _ i (safe.IsWritten.block cluster texts op old c w) = absurd i
written_text v entries _ _ i (safe.IsWritten.payload cluster texts op old c w) = absurd i
written_text v entries _ _ i (safe.IsWritten.put name block c n) = absurd i
written_text v entries _ _ i (safe.IsWritten.given name block c n) = absurd i

all_of : (v : ℕ) (entries : List Whole) (es : List Effect) (e : Effect) → AllByRecursion (IsOfIn v entries) es → In e es → IsOfIn v entries e
all_of v entries [] e a i = absurd i
all_of v entries (x ∷ es) e a (inl same) = subst (IsOfIn v entries) (sym same) a.0
all_of v entries (x ∷ es) e a (inr i) = all_of v entries es e a.1 i

pub begun_text : (v : ℕ) (entries : List Whole) (es : List Effect) (e : Effect) (b : List ℕ) → AllByRecursion (IsOfIn v entries) es → Contains es e → IsWritten e b → IsText entries b
begun_text v entries es e b a i w = written_text v entries e b (all_of v entries es e a (contains_in e es i)) w

pub same_work : (a b : Work) → Some a ≡ Some b → a ≡ b
same_work a b e = cc

-- ---- of one line

-- a running host, on which no fuse is laid
abbrev pub host : Replica → Lying → Host Lying
host r d = record { replica = Some r; disk = d; fuse = None }

abbrev pub HashesAt : World Lying → Happening → List ℕ → Type 0
HashesAt w x b = ((k : Work) × (work_of w x ≡ Some k) × IsHashedCut k b) ⊎ IsUsedAt w x b

-- of what it reads, and of what it begins
used_in : (v : ℕ) (entries : List Whole) (w : World Lying) (x : Happening) (m : Host Lying) (es : List Effect) → read_in w x ≡ m.disk ∷ [] → begun_in w x ≡ es → PlainIn v entries m.disk → AllByRecursion (IsOfIn v entries) es → (b : List ℕ) → IsUsedAt w x b → IsText entries b
used_in v entries w x m es reads begins p a b (inl u) =
    let i = contains_in u.0 (m.disk ∷ []) (subst (λ (ds : List Lying). Contains ds u.0) reads u.1) in
    elim i [ inl same ↦ read_text v entries m.disk p b (subst (λ (d : Lying). IsRead d b) same u.2) | inr none ↦ absurd none ]
used_in v entries w x m es reads begins p a b (inr u) =
    begun_text v entries es u.0 b a (subst (λ (fs : List Effect). Contains fs u.0) begins u.1) u.2

pub used_text : (entries : List Whole) (w : World Lying) (x : Happening) (m : Host Lying) (es : List Effect) → read_in w x ≡ m.disk ∷ [] → begun_in w x ≡ es → Plain entries m.disk → AllByRecursion (IsOf entries) es → (b : List ℕ) → IsUsedAt w x b → IsText entries b
used_text entries w x m es reads begins p a b u = used_in 1 entries w x m es reads begins p a b u

-- a line that gives a host work isn't a migration
begins_so : (w : World Lying) (x : Happening) (k : Work) → work_of w x ≡ Some k → begun_in w x ≡ begun_of (work_of w x)
begins_so w (Begins kind n) k e = refl
begins_so w (Asks i q) k e = refl
begins_so w (AsksInVersion i q) k e = refl
begins_so w (Arrives x) k e = refl
begins_so w (Ticks i) k e = refl
begins_so w (Stops i) k e = refl
begins_so w (Starts i) k e = refl
begins_so w (Migrates i) k e = absurd cc
begins_so w (Fuses i calls code) k e = refl
begins_so w (Lies i fault) k e = refl

pub line_in : (v : ℕ) (entries : List Whole) (w : World Lying) (x : Happening) (m : Host Lying) (script : List Effect) → m.fuse ≡ None → work_of w x ≡ Some (record { host = m; script = script }) → PlainIn v entries m.disk → AllByRecursion (IsOfIn v entries) script
    → (b : List ℕ) → HashesAt w x b → IsText entries b
line_in v entries w x m script free is p a b (inl h) =
    let same : record { host = m; script = script } ≡ h.0 = same_work (record { host = m; script = script }) h.0 (sym is ∙ h.1) in
    let cut = subst (λ (k : Work). IsHashedCut k b) (sym same) h.2 in
    let bad : None ≡ Some cut.0 = sym free ∙ cut.1 in
    absurd cc
line_in v entries w x m script free is p a b (inr u) =
    used_in v entries w x m script (ap read_of is) (begins_so w x (record { host = m; script = script }) is ∙ ap begun_of is ∙ ap (λ o. begun_by o script m.disk) free) p a b u

pub line_text : (entries : List Whole) (w : World Lying) (x : Happening) (m : Host Lying) (script : List Effect) → m.fuse ≡ None → work_of w x ≡ Some (record { host = m; script = script }) → Plain entries m.disk → AllByRecursion (IsOf entries) script
    → (b : List ℕ) → HashesAt w x b → IsText entries b
line_text entries w x m script free is p a b h = line_in 1 entries w x m script free is p a b h

-- ---- of lines

-- each text that lines hash is one of these, as the root is
abbrev pub Hashes : (List ℕ → Type 0) → World Lying → List Happening → Type 0
Hashes T w xs = (b : List ℕ) → IsHashedOf 0 w xs b → T b

pub none_left : (T : List ℕ → Type 0) (w : World Lying) → T (named_bytes (root_header 0)) → Hashes T w []
none_left T w is b e = subst T (sym e) is

pub then_lines : (T : List ℕ → Type 0) (w v : World Lying) (x : Happening) (xs : List Happening) → (happens hazards w x).world ≡ v → ((b : List ℕ) → IsHashedAt w x b ⊎ IsUsedAt w x b → T b) → Hashes T v xs → Hashes T w (x ∷ xs)
then_lines T w v x xs is line rest b (inl h) = line b h
then_lines T w v x xs is line rest b (inr h) = rest b (subst (λ (u : World Lying). IsHashedOf 0 u xs b) is h)
