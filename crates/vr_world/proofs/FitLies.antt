-- Sectors that may lie are a disk on which what is read is as the program has it.
use Rattle.std.proofs.Common.{ℕ, ◌≡◌, ◌∙◌, refl, sym, ap, List, [], ◌∷◌}
use Rattle.vr_disk.specs.DiskState.{IsFace}
use Rattle.vr_rings.specs.Slots.{header_in, whole_in}
use Rattle.vr_rules.specs.Steps.{Effect, after_all}
use Rattle.vr_rules.specs.Sectors.{calls_by, sectors_by}
use Rattle.vr_rules.specs.Fit.{ReadsWell, IsProgram}
use Rattle.vr_rules.proofs.SavesSectors.{sectors_fit}
use Rattle.vr_rules.proofs.FitOpening.{headers_of}
use Rattle.vr_rules.proofs.FitLoads.{block_size, missing_names, some_missing}
use Rattle.vr_rules.proofs.FitTables.{loaded_tables, saved_tables}
use Rattle.vr_rules.proofs.FitDisks.{clean_face, clean_reads}
use Rattle.vr_world.specs.Lying.{Lying, lying, after_calls}
use Rattle.vr_world.specs.GroupFit.{LiesFit}

-- what lies has the face of its sectors
pub same_face : (es : List Effect) (d : Lying) → (after_all lying d es).face ≡ after_all (sectors_by d.version) d.face es
unfolding after_all
same_face [] d = refl
same_face (e ∷ es) d = same_face es (after_calls d (calls_by d.version e d.face))

-- and the version of its file
pub same_version : (es : List Effect) (d : Lying) → (after_all lying d es).version ≡ d.version
unfolding after_all
same_version [] d = refl
same_version (e ∷ es) d = same_version es (after_calls d (calls_by d.version e d.face))

-- so slots read as the sectors of such a file do
pub same_whole : (es : List Effect) (d : Lying) (slot : ℕ) → whole_in (after_all lying d es).version (after_all lying d es).face slot ≡ whole_in d.version (after_all (sectors_by d.version) d.face es) slot
same_whole es d slot = ap (λ v. whole_in v (after_all lying d es).face slot) (same_version es d) ∙ ap (λ f. whole_in d.version f slot) (same_face es d)

pub lying_clean : (d : Lying) → IsFace d.face → ReadsWell lying d
lying_clean d is =
    let h = clean_reads d.version d.face (clean_face d.version d.face is) in
    record {
      header = λ es m slot x l e. h.header es m slot x l (sym (ap (λ f. header_in f slot) (same_face es d)) ∙ e);
      entry = λ es m slot x l e. h.entry es m slot x l (sym (same_whole es d slot) ∙ e);
    }

lying_program : IsProgram lying
lying_program = record {
  names = λ bytes. refl;
  block = λ d name bytes e. block_size d.face name bytes e;
  some = λ d root names e. some_missing d.face root names e;
  missing = λ d root names is e. missing_names d.face root names is e;
  tables = λ d root texts t e. loaded_tables d.face root texts t e;
  saves = λ cluster texts op old n. saved_tables cluster texts op old n;
}

pub lies_fit : LiesFit
lies_fit = record {
  names = (sectors_fit 1).0;
  roots = record { address = (sectors_fit 1).1.address; name = (sectors_fit 1).1.name };
  program = lying_program;
  reads = lying_clean;
  headers = λ d is. headers_of lying d (lying_clean d is);
}
