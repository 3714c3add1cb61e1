-- Words, and what they leave of a replica whose checkpoint and state are the log's. Of a script each value that is saved has the root of
-- such a checkpoint, where the effects up to it are so that they may be: what they hash was hashed, and their lines are the log's.
use Rattle.std.proofs.Common.{ℕ, zero, suc, ◌+◌, ◌<◌, ◌≡◌, ◌∙◌, arith, refl, sym, ap, subst, Bool, true, false, cond, List, [], ◌∷◌, ◌++◌, map, Some}
use Rattle.std.specs.Prelude.{⊤, slice_get}
use Rattle.vr_header.specs.Made.{Whole}
use Rattle.vr_msg.specs.declared.frame.Frame.{Frame}
use Rattle.vr_msg.specs.declared.frame.Frame.TheVariants as frame
use Rattle.vr_msg.specs.declared.output.Output.{Output}
use Rattle.vr_msg.specs.declared.output.Output.TheVariants as output
use Rattle.vr_rings.specs.Slots.{IsWhole}
use Rattle.vr_rules.specs.Replica.{Replica}
use Rattle.vr_world.specs.Lying.{Lying, lying}
use Rattle.vr_rules.specs.Steps.{Effect, Write, Rewrite, Save, Mend, Checkpoint, PutBlock, Say, Setting, Step, Word, ◌⨾◌, quiet, change, does, says, by, naming, reading, when, times, each, output_of, outputs, after_all}
use Rattle.vr_rules.specs.Words.{save, saves, value_of, with_saved}
use Rattle.vr_rules.proofs.Halves.{after_both}
use Rattle.vr_rules.proofs.SendsScripts.{outputs_append}
use Rattle.law_2_chains.specs.Chains.{Every}
use Rattle.law_3_outputs.specs.Answering.{lines}
use Rattle.law_3_outputs.proofs.Words.{lines_append}
use Rattle.law_6_one_log.proofs.Disks.{Begun, IsBeside}
use Rattle.vr_super.specs.Copies.{SuperValue}
use Rattle.law_6_one_log.proofs.Values.{Core, IsMade, IsOffered, IsRooted, IsRootOf, core}

-- ---- what is said, and what is written

-- a commit line after m applied entries, of an entry that reads at a slot, is of the log's next one
abbrev pub MaySay : List Whole → ℕ → Lying → Output → Type 0
MaySay log m d (output.Commit c) = (slot : ℕ) → slot < 64 → lying.entry d slot ≡ Some c.entry → (slice_get log m ≡ Some c.entry) × IsWhole c.entry × (c.entry.header.op ≡ m + 1)
MaySay log m d _ = ⊤

abbrev pub May : (List ℕ → Type 0) → List Whole → ℕ → Lying → Effect → Type 0
May H log m d (Say o) = MaySay log m d o
May H log m d (Checkpoint cluster texts op old) = Begun H (Checkpoint cluster texts op old)
May H log m d (PutBlock name block) = Begun H (PutBlock name block)
May H log m d e = ⊤

-- a checkpoint that is given with the log of a view is one of the log
abbrev pub IsTrueFrame : (List ℕ → Type 0) → ℕ → List Whole → Frame → Type 0
IsTrueFrame H cluster log (frame.SyncView v) = IsOffered H cluster log v
IsTrueFrame H cluster log _ = ⊤

abbrev pub IsTrueOutput : (List ℕ → Type 0) → ℕ → List Whole → Output → Type 0
IsTrueOutput H cluster log (output.Send s) = IsTrueFrame H cluster log s.message
IsTrueOutput H cluster log _ = ⊤

-- so is that of the root of what is saved, and one that is written
abbrev pub IsBorne : (List ℕ → Type 0) → ℕ → List Whole → Effect → Type 0
IsBorne H cluster log (Save old new) = IsRooted H cluster log new
IsBorne H cluster log (Mend v) = IsRooted H cluster log v
IsBorne H cluster log (Checkpoint by texts op old) = IsMade cluster log by texts op old
IsBorne H cluster log (Say o) = IsTrueOutput H cluster log o
IsBorne H cluster log _ = ⊤

-- ---- effects that write no block, say no line, and give no checkpoint

abbrev pub IsPlain : Frame → Type 0
IsPlain (frame.SyncView v) = ⊥
IsPlain _ = ⊤

abbrev pub IsOther : Output → Type 0
IsOther (output.Commit c) = ⊥
IsOther (output.Send s) = IsPlain s.message
IsOther _ = ⊤

abbrev pub IsCalm : Effect → Type 0
IsCalm (Say o) = IsOther o
IsCalm e = IsBeside e

other_lines : (i : ℕ) (o : Output) → IsOther o → lines i (o ∷ []) ≡ 0
unfolding lines
other_lines i (output.Send s) h = refl
other_lines i (output.Commit c) h = absurd h
other_lines i (output.Reply a) h = refl
other_lines i (output.Choose c) h = refl
other_lines i (output.Wait w) h = refl
other_lines i (output.Start s) h = refl
other_lines i (output.Halted r) h = refl
other_lines i (output.Migrated r) h = refl
other_lines i output.Done h = refl
other_lines i output.KeptOut h = refl

calm_lines : (i : ℕ) (e : Effect) → IsCalm e → lines i (output_of e) ≡ 0
unfolding lines
calm_lines i (Write again e) h = refl
calm_lines i (Rewrite x) h = refl
calm_lines i (Save old new) h = refl
calm_lines i (Mend v) h = refl
calm_lines i (Checkpoint cluster texts op old) h = refl
calm_lines i (PutBlock name block) h = refl
calm_lines i (Say o) h = other_lines i o h

pub said_calm : (os : List Output) → Every IsOther os → Every IsCalm (map Say os)
said_calm [] h = tt
said_calm (o ∷ os) h = (h.0, said_calm os h.1)

module _ (H : List ℕ → Type 0) (cluster : ℕ) (log : List Whole) where
  plain_true : (m : Frame) → IsPlain m → IsTrueFrame H cluster log m
  plain_true (frame.Request q) h = tt
  plain_true (frame.Reply a) h = tt
  plain_true (frame.Prepare p) h = tt
  plain_true (frame.PrepareOk a) h = tt
  plain_true (frame.Commit c) h = tt
  plain_true (frame.StartViewChange c) h = tt
  plain_true (frame.DoViewChange d) h = tt
  plain_true (frame.StartView v) h = tt
  plain_true (frame.GetView g) h = tt
  plain_true (frame.GetPrepare g) h = tt
  plain_true (frame.GivePrepare g) h = tt
  plain_true (frame.GetBlock g) h = tt
  plain_true (frame.GiveBlock g) h = tt
  plain_true (frame.GetSync g) h = tt
  plain_true (frame.SyncView v) h = absurd h

  other_true : (o : Output) → IsOther o → IsTrueOutput H cluster log o
  other_true (output.Send s) h = plain_true s.message h
  other_true (output.Commit c) h = tt
  other_true (output.Reply a) h = tt
  other_true (output.Choose c) h = tt
  other_true (output.Wait w) h = tt
  other_true (output.Start s) h = tt
  other_true (output.Halted r) h = tt
  other_true (output.Migrated r) h = tt
  other_true output.Done h = tt
  other_true output.KeptOut h = tt

  pub said_borne : (os : List Output) → Every IsOther os → Every (IsBorne H cluster log) (map Say os)
  said_borne [] h = tt
  said_borne (o ∷ os) h = (other_true o h.0, said_borne os h.1)

  -- each is borne, where those up to it may be
  unfoldable pub Bears : ℕ → ℕ → Lying → List Effect → Type 0
  Bears i m d [] = ⊤
  Bears i m d (e ∷ es) = May H log m d e → IsBorne H cluster log e × Bears i (m + lines i (output_of e)) (lying.after d e) es

  unfoldable pub AllMay : ℕ → ℕ → Lying → List Effect → Type 0
  AllMay i m d [] = ⊤
  AllMay i m d (e ∷ es) = May H log m d e × AllMay i (m + lines i (output_of e)) (lying.after d e) es

  more_lines : (i m : ℕ) (e : Effect) (es : List Effect) → m + lines i (output_of e) + lines i (outputs es) ≡ m + lines i (outputs (e ∷ es))
  unfolding outputs
  more_lines i m e es = let all = lines_append i (output_of e) (outputs es) in omega arith

  no_more : (i m : ℕ) → m + lines i (outputs []) ≡ m
  unfolding outputs lines
  no_more i m = omega arith

  bears_append : (i m : ℕ) (d : Lying) (xs ys : List Effect) → Bears i m d xs → (AllMay i m d xs → Bears i (m + lines i (outputs xs)) (after_all lying d xs) ys) → Bears i m d (xs ++ ys)
  unfolding Bears AllMay after_all
  bears_append i m d [] ys b k = subst (λ n. Bears i n d ys) (no_more i m) (k tt)
  bears_append i m d (e ∷ xs) ys b k = λ may.
      let x = b may in
      (x.0, bears_append i (m + lines i (output_of e)) (lying.after d e) xs ys x.1 (λ all. subst (λ n. Bears i n (after_all lying (lying.after d e) xs) ys) (sym (more_lines i m e xs)) (k (may, all))))

  may_split : (i m : ℕ) (d : Lying) (xs ys : List Effect) → AllMay i m d (xs ++ ys) → AllMay i m d xs × AllMay i (m + lines i (outputs xs)) (after_all lying d xs) ys
  unfolding AllMay after_all
  may_split i m d [] ys h = (tt, subst (λ n. AllMay i n d ys) (sym (no_more i m)) h)
  may_split i m d (e ∷ xs) ys h =
      let x = may_split i (m + lines i (output_of e)) (lying.after d e) xs ys h.1 in
      ((h.0, x.0), subst (λ n. AllMay i n (after_all lying (lying.after d e) xs) ys) (more_lines i m e xs) x.1)

  -- ---- a step

  -- what it leaves, where all of its effects may be
  pub record Left (Q : Core → Lying → Type 0) (r : Replica) (d : Lying) (x : Step) : Type 0 where
    pub index : x.replica.index ≡ r.index
    pub applied : x.replica.applied ≡ r.applied + lines r.index (outputs x.script)
    pub holds : Q (core x.replica) (after_all lying d x.script)

  pub record Well (Q : Core → Lying → Type 0) (r : Replica) (d : Lying) (x : Step) : Type 0 where
    pub bears : Bears r.index r.applied d x.script
    pub left : AllMay r.index r.applied d x.script → Left Q r d x

  well_both : (Q R : Core → Lying → Type 0) (r : Replica) (d : Lying) (x y : Step) → Well Q r d x → (Q (core x.replica) (after_all lying d x.script) → Well R x.replica (after_all lying d x.script) y)
      → Well R r d (record { replica = y.replica; script = x.script ++ y.script })
  well_both Q R r d x y h k =
      let i = r.index in
      let m = r.applied in
      let e : Lying = after_all lying d x.script in
      record {
        bears = bears_append i m d x.script y.script h.bears (λ all.
            let l = h.left all in
            subst (λ n. Bears i n e y.script) l.applied (subst (λ j. Bears j x.replica.applied e y.script) l.index (k l.holds).bears));
        left = λ all.
            let s = may_split i m d x.script y.script all in
            let l = h.left s.0 in
            let w = k l.holds in
            let z = w.left (subst (λ j. AllMay j x.replica.applied e y.script) (sym l.index) (subst (λ n. AllMay i n e y.script) (sym l.applied) s.1)) in
            let one = l.applied in
            let two = z.applied in
            let same : lines x.replica.index (outputs y.script) ≡ lines i (outputs y.script) = ap (λ j. lines j (outputs y.script)) l.index in
            let count = lines_append i (outputs x.script) (outputs y.script) in
            record {
              index = z.index ∙ l.index;
              applied = rw (outputs_append x.script y.script) (omega (arith, one, two, same, count));
              holds = subst (R (core y.replica)) (sym (after_both lying d x.script y.script)) z.holds;
            };
      }

  -- the same of a step that may go on from another state
  pub record Settles (Q : Core → Lying → Type 0) (r : Replica) (d : Lying) (x : Step) : Type 0 where
    pub bears : Bears r.index r.applied d x.script
    pub holds : AllMay r.index r.applied d x.script → Q (core x.replica) (after_all lying d x.script)

  pub settles : (Q : Core → Lying → Type 0) (r : Replica) (d : Lying) (x : Step) → Well Q r d x → Settles Q r d x
  settles Q r d x w = record { bears = w.bears; holds = λ all. (w.left all).holds }

  -- ---- words

  abbrev pub WellAt : (Core → Lying → Type 0) → Word Lying → Replica → Lying → Type 0
  WellAt Q w r d = Well Q r d (w lying r d)

  pub then_at : (Q R : Core → Lying → Type 0) (v w : Word Lying) (r : Replica) (d : Lying) → WellAt Q v r d
      → (Q (core (v lying r d).replica) (after_all lying d (v lying r d).script) → WellAt R w (v lying r d).replica (after_all lying d (v lying r d).script)) → WellAt R (v ⨾ w) r d
  unfolding ◌⨾◌
  then_at Q R v w r d h k = well_both Q R r d (v lying r d) (w lying (v lying r d).replica (after_all lying d (v lying r d).script)) h k

  -- at every replica of which P holds, and P holds again
  pub record Walks (P : Core → Lying → Type 0) (w : Word Lying) : Type 0 where
    pub every : (r : Replica) (d : Lying) → P (core r) d → WellAt P w r d

  module _ {P : Core → Lying → Type 0} where
    pub walks_then : (v w : Word Lying) → Walks P v → Walks P w → Walks P (v ⨾ w)
    walks_then v w h k = record { every = λ r d p. then_at P P v w r d (h.every r d p) (λ q. k.every (v lying r d).replica (after_all lying d (v lying r d).script) q) }

    pub walks_by : (w : Replica → Word Lying) → ((r : Replica) → Walks P (w r)) → Walks P (by w)
    unfolding by
    walks_by w h = record { every = λ r d p. (h r).every r d p }

    pub walks_naming : (w : (List ℕ → List ℕ) → Word Lying) → ((hash : List ℕ → List ℕ) → Walks P (w hash)) → Walks P (naming w)
    unfolding naming
    walks_naming w h = record { every = λ r d p. (h lying.hash).every r d p }

    pub walks_reading : {X : Type 0} (g : Setting Lying → Lying → X) (w : X → Word Lying) → ((x : X) → Walks P (w x)) → Walks P (reading g w)
    unfolding reading
    walks_reading g w h = record { every = λ r d p. (h (g lying d)).every r d p }

    pub walks_if : (b : Bool) (v w : Word Lying) → Walks P v → Walks P w → Walks P (cond b v w)
    walks_if true v w h k = h
    walks_if false v w h k = k

  -- ---- words that write no block and say no line

  -- P is of what a replica has, its checkpoint is the log's, and calm effects keep it
  pub record Steady (P : Core → Lying → Type 0) : Type 0 where
    pub rooted : (k : Core) (d : Lying) → P k d → 0 < k.checkpoint → IsRootOf H cluster log k.checkpoint k.root
    pub calm : (k : Core) (d : Lying) (e : Effect) → IsCalm e → P k d → P k (lying.after d e)
    pub saved : (k : Core) (d : Lying) (v : SuperValue) → IsRooted H cluster log v → P k d → P (record k { saved = v }) d

  pub calm_bears : (i m : ℕ) (d : Lying) (es : List Effect) → Every (IsBorne H cluster log) es → Bears i m d es
  unfolding Bears
  calm_bears i m d [] b = tt
  calm_bears i m d (e ∷ es) b = λ may. (b.0, calm_bears i (m + lines i (output_of e)) (lying.after d e) es b.1)

  pub all_lines : (i m : ℕ) (es : List Effect) → Every IsCalm es → m ≡ m + lines i (outputs es)
  unfolding outputs lines
  all_lines i m [] c = omega arith
  all_lines i m (e ∷ es) c =
      let one = calm_lines i e c.0 in
      let rest = all_lines i m es c.1 in
      let all = more_lines i m e es in
      omega (arith, one, rest, all)

  module _ {P : Core → Lying → Type 0} (steady : Steady P) where
    calm_after : (k : Core) (d : Lying) (es : List Effect) → Every IsCalm es → P k d → P k (after_all lying d es)
    unfolding after_all
    calm_after k d [] c p = p
    calm_after k d (e ∷ es) c p = calm_after k (lying.after d e) es c.1 (steady.calm k d e c.0 p)

    pub calm_well : (r q : Replica) (d : Lying) (es : List Effect) → core q ≡ core r → Every IsCalm es → Every (IsBorne H cluster log) es → P (core r) d → Well P r d (record { replica = q; script = es })
    calm_well r q d es same calm borne p = record {
      bears = calm_bears r.index r.applied d es borne;
      left = λ all. record {
        index = ap (λ (k : Core). k.index) same;
        applied = ap (λ (k : Core). k.applied) same ∙ all_lines r.index r.applied es calm;
        holds = subst (λ k. P k (after_all lying d es)) (sym same) (calm_after (core r) d es calm p);
      };
    }

    pub walks_quiet : Walks P quiet
    unfolding quiet
    walks_quiet = record { every = λ r d p. calm_well r r d [] refl tt tt p }

    pub walks_change : (g : Replica → Replica) → ((r : Replica) → core (g r) ≡ core r) → Walks P (change g)
    unfolding change
    walks_change g same = record { every = λ r d p. calm_well r (g r) d [] (same r) tt tt p }

    pub walks_does : (e : Replica → Effect) → ((r : Replica) → IsCalm (e r)) → ((r : Replica) (d : Lying) → P (core r) d → IsBorne H cluster log (e r)) → Walks P (does e)
    unfolding does
    walks_does e calm borne = record { every = λ r d p. calm_well r r d (e r ∷ []) refl (calm r, tt) (borne r d p, tt) p }

    pub walks_says : (os : Replica → List Output) → ((r : Replica) → Every IsOther (os r)) → Walks P (says os)
    unfolding says
    walks_says os h = record { every = λ r d p. calm_well r r d (map Say (os r)) refl (said_calm (os r) (h r)) (said_borne (os r) (h r)) p }

    pub walks_when : (b : Bool) (w : Word Lying) → Walks P w → Walks P (when b w)
    walks_when b w h = walks_if b w quiet h walks_quiet

    pub walks_times : (n : ℕ) (w : Word Lying) → Walks P w → Walks P (times n w)
    unfolding times
    walks_times zero w h = walks_quiet
    walks_times (suc n) w h = walks_then w (times n w) h (walks_times n w h)

    pub walks_each : {X : Type 0} (w : X → Word Lying) (xs : List X) → ((x : X) → Walks P (w x)) → Walks P (each w xs)
    unfolding each
    walks_each w [] h = walks_quiet
    walks_each w (x ∷ xs) h = walks_then (w x) (each w xs) (h x) (walks_each w xs h)

    pub walks_save : Walks P save
    unfolding save value_of does change outputs lines Bears after_all
    walks_save = record {
      every = λ r d p. then_at P P (does saves) (change with_saved) r d ((walks_does saves (λ r. tt) (λ r d p. steady.rooted (core r) d p)).every r d p) (λ q.
          record { bears = tt; left = λ all. record { index = refl; applied = (let z : r.applied ≡ r.applied + 0 = omega arith in z); holds = steady.saved (core r) _ (value_of r) (steady.rooted (core r) d p) q } });
    }
