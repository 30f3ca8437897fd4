-- Files that are written one after the other, each by one run.
use Rattle.std.proofs.Common.{◌≡◌, ◌≤◌, ◌+◌, ◌++◌, ℕ, List, [], ◌∷◌, true, length, refl, sym, ap, subst, ◌∙◌, arith, append_assoc}
use Rattle.std.specs.Prelude.{Some, Result, Ok, Err}
use Rattle.std.proofs.lemmas.List.{append-nil, map-append}
use Rattle.lif_model.specs.Tape.{Tape}
use Rattle.lif_model.specs.Made.{file_length, file_records}
use Rattle.lif_model.specs.Transfers.{Transfer, Replaced, PartlyReplaced}
use Rattle.lif_model.specs.Writing.{NewFile, with_files}
use Rattle.lif_model.proofs.Moments.{goes_on, weaker}
use Rattle.lif_model.proofs.NewFiles.{length_files, files_more}
use Rattle.lif_model.proofs.Made.{file_bytes}
use Rattle.lif_model.proofs.Recorded.{replaced_is, records_count}
use Rattle.il_ports.specs.declared.records.Trouble.{Trouble}
use Rattle.il_ports.specs.Stores.{RecordsView, IsStore, IsReady, GoesOn, RunLeaves, StoredRun}
use Rattle.il_ports.proofs.Stores.{goes_nowhere, goes_further, goes_within, quiet_run, quiet_nowhere}
use Rattle.lif_redo.specs.Writing.{runs_filed}
use Rattle.lif_volume.specs.Carrying.{records_filed, IsPartlyFiled, some_stand, next_begun, WritesFiles}

pub filed_more : (files more : List NewFile) → records_filed (files ++ more) ≡ records_filed files + records_filed more
filed_more [] more = omega arith
filed_more (f ∷ files) more = omega (arith, filed_more files more)

-- with more files to come
partly_more : (files more : List NewFile) (t x : Tape) → IsPartlyFiled files t x → IsPartlyFiled (files ++ more) t x
partly_more files more t x (some_stand done rest same is) = some_stand done (rest ++ more) (ap (λ (fs : List NewFile). fs ++ more) same ∙ append_assoc done rest more) is
partly_more files more t x (next_begun done next rest same partly) = next_begun done next (rest ++ more) (ap (λ (fs : List NewFile). fs ++ more) same ∙ append_assoc done (next ∷ rest) more) partly

module _ {S : Type 0} (v : RecordsView S) (store : IsStore v) where
  -- none yet
  pub files_none : (calls : ℕ) → IsReady calls v → WritesFiles {T = Unit {0}} [] v v (Ok tt)
  files_none calls ready = record {
    goes_on = goes_nowhere calls v ready;
    stops = λ t told. quiet_run v v (IsPartlyFiled [] t) t store (quiet_nowhere v) told (some_stand [] [] refl refl);
    after = λ t told. (t, told, some_stand [] [] refl refl);
    done = λ t told. told;
    added = λ list was. subst v.transferred (sym (append-nil list)) was;
  }

  -- one more
  module _ (files : List NewFile) (f : NewFile) (w u : RecordsView S) (first : WritesFiles {T = Unit {0}} files v w (Ok tt)) (fits : f.start + file_length f.bytes ≤ v.record_count) where
    abbrev all : List NewFile
    all = files ++ f ∷ []

    module _ (t : Tape) (told : v.tape ≡ Some t) where
      abbrev before : Tape
      before = with_files files t

      long : f.start + length (file_records f.bytes) ≤ length before
      long = omega (arith, fits, records_count f.bytes, length_files files t, (store.is_tape t told).records)

      whole : (c : Tape) → Replaced f.start (file_records f.bytes) before c → c ≡ with_files (files ++ f ∷ []) t
      whole c done = replaced_is f.start (file_records f.bytes) before c long done ∙ sym (files_more files (f ∷ []) t)

      left : (r : Result (Unit {0}) Trouble) → StoredRun f.start (file_records f.bytes) w u r → RunLeaves v u (IsPartlyFiled (files ++ f ∷ []) t)
      left r run = goes_on _ _ _ _ _ _ (IsPartlyFiled all t) _ (PartlyReplaced f.start (file_records f.bytes)) before (first.done t told)
          (weaker _ _ _ _ (IsPartlyFiled all t) (IsPartlyFiled files t) (first.stops t told) (λ c is. partly_more files (f ∷ []) t c is)) run.time (λ c is. next_begun files f [] refl is)

    goes : (r : Result (Unit {0}) Trouble) → StoredRun f.start (file_records f.bytes) w u r → GoesOn (records_filed (files ++ f ∷ [])) v u r
    goes r run = goes_within (records_filed files + length (file_records f.bytes)) (records_filed all) v u r (omega (arith, filed_more files (f ∷ []), records_count f.bytes))
        (goes_further (records_filed files) (length (file_records f.bytes)) v w u tt r first.goes_on run.goes_on)

    pub files_one_more : (r : Result (Unit {0}) Trouble) → StoredRun f.start (file_records f.bytes) w u r → WritesFiles (files ++ f ∷ []) v u r
    files_one_more (Ok x) run = record {
      goes_on = goes (Ok x) run;
      stops = λ t told. left t told (Ok x) run;
      after = λ t told. let is = run.content (before t told) (first.done t told) in (is.0, is.1, some_stand all [] (sym (append-nil all)) (whole t told is.0 is.2));
      done = λ t told. let is = run.content (before t told) (first.done t told) in is.1 ∙ ap Some (whole t told is.0 is.2);
      added = λ list was.
          subst (λ (more : List Transfer). u.transferred (list ++ more)) (sym (map-append _ files (f ∷ []))) (subst u.transferred (append_assoc list (runs_filed files) _)
          (subst (λ (b : List ℕ). u.transferred ((list ++ runs_filed files) ++ record { writes = true; first = f.start; bytes = b } ∷ [])) (file_bytes f.bytes)
          (run.transfers.at_end (list ++ runs_filed files) (first.added list was))));
    }
    files_one_more (Err e) run = record {
      goes_on = goes (Err e) run;
      stops = λ t told. left t told (Err e) run;
      after = λ t told. let is = run.content (before t told) (first.done t told) in (is.0, is.1, next_begun files f [] refl is.2);
      done = tt;
      added = tt;
    }

-- the store failed before the rest
pub files_fail : {S : Type 0} (files more : List NewFile) (v w : RecordsView S) (e : Trouble) → WritesFiles {T = Unit {0}} files v w (Err e) → WritesFiles {T = Unit {0}} (files ++ more) v w (Err e)
files_fail files more v w e is = record {
  goes_on = goes_within (records_filed files) (records_filed (files ++ more)) v w (Err e) (omega (arith, filed_more files more)) is.goes_on;
  stops = λ t told. weaker _ _ _ _ (IsPartlyFiled (files ++ more) t) (IsPartlyFiled files t) (is.stops t told) (λ c left. partly_more files more t c left);
  after = λ t told. let left = is.after t told in (left.0, left.1, partly_more files more t left.0 left.2);
  done = tt;
  added = tt;
}
