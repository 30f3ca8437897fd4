-- How copies of files add up.
use Rattle.std.proofs.Common.{◌≡◌, ◌⊎◌, inl, inr, ⊎_elim, ◌≤◌, ◌++◌, ◌||◌, ◌∙◌, ℕ, Bool, true, false, List, [], ◌∷◌, Option, Some, None, refl, sym, ap, subst, arith}
use Rattle.std.specs.Prelude.{◌<◌, ◌+◌, ◌≢◌, MatchOption, OnErr, Result, Ok, Err, is_ok, is_some, length, map, slice_get, take, cond, if◌then◌else◌}
use Rattle.std.proofs.lemmas.Grind.{flat_map-append}
use Rattle.std.proofs.lemmas.List.Sums.{sum_by-append}
use Rattle.std.proofs.lemmas.List.{append-nil, length-map, length-take, map-append, take_more}
use Rattle.std.proofs.lemmas.Option.{slice_get_within, get_or_from_slice_get}
use Rattle.lif_dir.specs.declared.entries.FileEntry.{FileEntry}
use Rattle.lif_dir.specs.declared.entries.Slot.{Slot}
use Rattle.tape_text.specs.Listing.{shown_files, shown_slot}
use Rattle.std.specs.List.{count_by, flat_map}
use Rattle.lif_model.specs.Apply.{VolumeCommand, Dir, Fetch, apply, next_unless, refusal_of}
use Rattle.lif_model.specs.Causes.{Rose}
use Rattle.lif_model.specs.Finished.{IsFinished}
use Rattle.lif_model.specs.Tape.{Tape}
use Rattle.lif_model.specs.Redo.{settled}
use Rattle.lif_model.specs.Commit.{SettlesAs}
use Rattle.lif_model.specs.Volume.{Volume, volume_of}
use Rattle.lif_model.specs.Packing.{finished_volume_of, has_mark}
use Rattle.lif_model.proofs.Commit.{settles_self}
use Rattle.tape_jobs.proofs.Settling.{settles_on, unmarked_on}
use Rattle.lif_model.specs.declared.refusal.Refusal.{Refusal}
use Rattle.il_ports.proofs.InsertFaults.{rose_within}
use Rattle.il_ports.specs.Inserting.{OthersAreKept}
use Rattle.lif_dir.specs.Entries.{name_bytes}
use Rattle.lif_dir.specs.declared.entries.Name.{Name}
use Rattle.il_script.specs.declared.reply.Code.{Code}
use Rattle.il_script.specs.declared.reply.Reply.{Reply}
use Rattle.il_script.specs.declared.reply.Reply.TheVariants as reply
use Rattle.lif_model.specs.Shelf.{Shelf}
use Rattle.tape_folder.specs.Folders.{FolderView, FolderGoesOn, IsFolder, Nothing, SameFolder, file_in_folder, is_hidden, part_name}
use Rattle.tape_folder.specs.Keeping.{AreTaken, FileKept, IsPartName, KeptIs, KeptMakes, part_numbers}
use Rattle.tape_folder.proofs.Steps.{same_on}
use Rattle.tape_folder.specs.declared.keeping.Kept.{Kept}
use Rattle.tape_folder.specs.declared.keeping.Kept.TheVariants as kept
use Rattle.tape_volumes.specs.Volumes.{CommandDid, DoneWhole, FileContent, IsFileAt, Mounted, StaysBeside, StopLeaves, VolumesView, file_on, is_reading, volume_seen, volume_shown}
use Rattle.tape_jobs.specs.declared.copying.FileEnd.{FileEnd}
use Rattle.tape_jobs.specs.declared.copying.FileEnd.TheVariants as file_end
use Rattle.tape_jobs.specs.declared.copying.Taken.{Taken}
use Rattle.tape_volumes.specs.declared.went.Went.{Went}
use Rattle.tape_volumes.specs.declared.went.Went.TheVariants as went
use Rattle.tape_jobs.specs.Out.{AreCopied, AreNamesCopied, Copied, CopiedSo, CopyDid, EndIs, EndsAre, FolderGains, FolderKeeps, FolderWent, GoesOnBeside, IsKeptSo, IsReadOnly, OnlyReads, RoseBy, WentSo, WereUnable, WritesFile, WrittenBy, has_failed, has_fault, host_name, is_before_folder, is_failed_read, is_not_written, named, not_written_count}

-- ---- the folder keeps what it has

known_of : (files : Option Shelf) (name bytes : List ℕ) → file_in_folder name files ≡ Some bytes → is_some files ≡ true
known_of None name bytes e = cc
known_of (Some shelf) name bytes e = refl

none_unless : (content : Option (List ℕ)) → ((bytes : List ℕ) → content ≡ Some bytes → ⊥) → content ≡ None
none_unless None not = refl
none_unless (Some bytes) not = absurd (not bytes refl)

pub keeps_on : (f h g : FolderView) → FolderKeeps f h → FolderKeeps h g → FolderKeeps f g
keeps_on f h g a b = record {
  folder = same_on f h g a.folder b.folder;
  closed = b.closed;
  known = b.known ∙ a.known;
  keeps = λ other bytes here. b.keeps other bytes (a.keeps other bytes here);
  parts = ⊎_elim (λ rose. inl (rose_within f.unremoved f.unremoved h.unremoved g.unremoved (omega arith) rose b.unremoved))
      (λ was. ⊎_elim (λ rose. inl (rose_within f.unremoved h.unremoved g.unremoved g.unremoved a.unremoved rose (omega arith)))
      (λ same. inr (λ other part. same other part ∙ was other part)) b.parts) a.parts;
  failures = omega (arith, a.failures, b.failures);
  unremoved = omega (arith, a.unremoved, b.unremoved);
}

pub keeps_none : (f : FolderView) → f.part ≡ None → FolderKeeps f f
keeps_none f closed = record {
  folder = record { path = refl; made = λ there. there; others = λ name. refl };
  closed = closed;
  known = refl;
  keeps = λ other bytes here. here;
  parts = inr (λ other part. refl);
  failures = omega arith;
  unremoved = omega arith;
}

-- calls that change no file
pub keeps_quiet : (f g : FolderView) → g.part ≡ None → FolderGoesOn Nothing f g → FolderKeeps f g
keeps_quiet f g closed on = record {
  folder = on.folder;
  closed = closed;
  known = on.known;
  keeps = λ other bytes here. same other ∙ here;
  parts = inr (λ other part. same other);
  failures = on.failures;
  unremoved = on.unremoved;
}
  where
    same : (other : List ℕ) → file_in_folder other g.files ≡ file_in_folder other f.files
    same other = ⊎_elim (λ e. e) (λ none. absurd none) (on.files other)

still_there : (name bytes other : List ℕ) (k : Kept) (f g : FolderView) → KeptIs name bytes f g k → file_in_folder name f.files ≡ Some other → file_in_folder name g.files ≡ Some other
still_there name bytes other kept.Written f g is here = let no : ◌≡◌ {A = Option (List ℕ)} None (Some other) = sym (is (known_of f.files name other here)).0.no_file ∙ here in cc
still_there name bytes other kept.WasThere f g is here = let both = is (known_of f.files name other here) in both.1 ∙ sym both.0 ∙ here
still_there name bytes other kept.Differs f g is here = (is (known_of f.files name other here)).2 ∙ here
still_there name bytes other kept.NotWritten f g is here = is.0 ∙ here

pub keeps_file : (name bytes : List ℕ) (k : Kept) (f g : FolderView) → FileKept name bytes k f g → FolderKeeps f g
keeps_file name bytes k f g is = record {
  folder = is.folder;
  closed = is.closed;
  known = is.known;
  keeps = λ other content here. ⊎_elim (λ same. same ∙ here)
      (⊎_elim (λ named. subst (λ (x : List ℕ). file_in_folder x g.files ≡ Some content) (sym named) (still_there name bytes content k f g is.answer_is (subst (λ (x : List ℕ). file_in_folder x f.files ≡ Some content) named here)))
      (λ part. let no : ◌≡◌ {A = Option (List ℕ)} None (Some content) = sym part.1 ∙ here in cc)) (is.others other);
  parts = is.parts;
  failures = is.failures;
  unremoved = is.unremoved;
}

-- ---- what the folder gains

pub gains_on : (first second all : List ℕ → Option (List ℕ) → Type 0) (f h g : FolderView) → ((other : List ℕ) (content : Option (List ℕ)) → first other content → all other content)
    → ((other : List ℕ) (content : Option (List ℕ)) → second other content → all other content) → is_some h.files ≡ is_some f.files → FolderGains first f h → FolderGains second h g → FolderGains all f g
gains_on first second all f h g in_first in_second known a b = record {
  files = λ other. ⊎_elim (λ same. ⊎_elim (λ was. inl (same ∙ was))
      (⊎_elim (λ made. inr (inl (in_first other _ (subst (first other) (sym same) made)))) (λ part. inr (inr part))) (a.files other))
      (⊎_elim (λ made. inr (inl (in_second other _ made))) (λ part. inr (inr part))) (b.files other);
  leaves = λ other content is plain left. ⊎_elim (λ was. ⊎_elim (λ old. inl old) (λ made. inr (in_first other content made)) (a.leaves other content is plain was))
      (λ made. inr (in_second other content made)) (b.leaves other content (known ∙ is) plain left);
  left = λ other content is plain left. ⊎_elim (λ was. ⊎_elim (λ old. inl old) (λ made. inr (in_first other content made)) (a.left other content is plain was))
      (λ made. inr (in_second other content made)) (b.left other content (known ∙ is) plain left);
}

pub gains_none : (makes : List ℕ → Option (List ℕ) → Type 0) (f : FolderView) → FolderGains makes f f
gains_none makes f = record {
  files = λ other. inl refl;
  leaves = λ other content is plain left. inl left;
  left = λ other content is plain left. inl left;
}

pub gains_quiet : (makes : List ℕ → Option (List ℕ) → Type 0) (f g : FolderView) → IsFolder f → FolderGoesOn Nothing f g → FolderGains makes f g
gains_quiet makes f g folder on = record {
  files = λ other. ⊎_elim inl (λ none. absurd none) (on.files other);
  leaves = λ other content is plain left. before other content (on.leaves other content left);
  left = λ other content is plain left. ⊎_elim (λ was. inl was) (λ now. ⊎_elim (λ was. inl (folder.now other content was)) (λ none. absurd none) (on.leaves other content now)) (on.since other content left);
}
  where
    before : (other : List ℕ) (content : Option (List ℕ)) → f.leaves other content ⊎ Nothing other content → f.leaves other content ⊎ makes other content
    before other content = ⊎_elim inl (λ none. absurd none)

module _ (v : Volume) (name : Name) (file : FileContent) (on : file_on v (name_bytes name) ≡ Some file) (f g : FolderView) where
  abbrev pub host : List ℕ
  host = host_name (name_bytes name) file

  makes_file : (k : Kept) (other : List ℕ) (content : Option (List ℕ)) → KeptMakes host file.bytes k other content → WritesFile v name (file_end.Kept k) other content
  makes_file kept.Written other content made = (file, on, made.0, made.1)
  makes_file kept.WasThere other content made = absurd made
  makes_file kept.Differs other content made = absurd made
  makes_file kept.NotWritten other content made = absurd made

  unseen : (before now : Option Shelf) (other : List ℕ) → is_some now ≡ is_some before → is_some before ≡ false → file_in_folder other now ≡ file_in_folder other before
  unseen None None other known off = refl
  unseen None (Some now) other known off = cc
  unseen (Some before) now other known off = cc

  by_seen : (seen : Bool) → is_some f.files ≡ seen → is_some g.files ≡ is_some f.files → KeptIs host file.bytes f g kept.Written
      → (file_in_folder host g.files ≡ file_in_folder host f.files) ⊎ (WritesFile v name (file_end.Kept kept.Written) host (file_in_folder host g.files) ⊎ IsPartName host)
  by_seen true seen known is = inr (inl (file, on, refl, (is seen).1))
  by_seen false seen known is = inl (unseen f.files g.files host known seen)

  at_host : (k : Kept) → is_some g.files ≡ is_some f.files → KeptIs host file.bytes f g k
      → (file_in_folder host g.files ≡ file_in_folder host f.files) ⊎ (WritesFile v name (file_end.Kept k) host (file_in_folder host g.files) ⊎ IsPartName host)
  at_host kept.Written known is = by_seen (is_some f.files) refl known is
  at_host kept.WasThere known is = at_known (is_some f.files) refl
    where
      at_known : (seen : Bool) → is_some f.files ≡ seen → (file_in_folder host g.files ≡ file_in_folder host f.files) ⊎ (WritesFile v name (file_end.Kept kept.WasThere) host (file_in_folder host g.files) ⊎ IsPartName host)
      at_known true seen = inl ((is seen).1 ∙ sym (is seen).0)
      at_known false seen = inl (unseen f.files g.files host known seen)
  at_host kept.Differs known is = at_known (is_some f.files) refl
    where
      at_known : (seen : Bool) → is_some f.files ≡ seen → (file_in_folder host g.files ≡ file_in_folder host f.files) ⊎ (WritesFile v name (file_end.Kept kept.Differs) host (file_in_folder host g.files) ⊎ IsPartName host)
      at_known true seen = inl (is seen).2
      at_known false seen = inl (unseen f.files g.files host known seen)
  at_host kept.NotWritten known is = inl is.0

  pub gains_file : (k : Kept) → FileKept host file.bytes k f g → FolderGains (WritesFile v name (file_end.Kept k)) f g
  gains_file k is = record {
    files = λ other. ⊎_elim inl (⊎_elim (λ named. at other named) (λ part. inr (inr part.0))) (is.others other);
    leaves = λ other content known plain left. ⊎_elim inl (λ made. inr (makes_file k other content made)) (is.leaves other content known plain left);
    left = λ other content known plain left. ⊎_elim inl (λ made. inr (makes_file k other content made)) (is.left other content known plain left);
  }
    where
      at : (other : List ℕ) → other ≡ host → (file_in_folder other g.files ≡ file_in_folder other f.files) ⊎ (WritesFile v name (file_end.Kept k) other (file_in_folder other g.files) ⊎ IsPartName other)
      at other named = subst (λ (x : List ℕ). (file_in_folder x g.files ≡ file_in_folder x f.files) ⊎ (WritesFile v name (file_end.Kept k) x (file_in_folder x g.files) ⊎ IsPartName x)) (sym named) (at_host k is.known is.answer_is)

  so : (k : Kept) → SameFolder f g → KeptIs host file.bytes f g k → IsKeptSo host file.bytes k f g
  so kept.Written is_folder is = is
  so kept.WasThere is_folder is = λ known. (is known).1
  so kept.Differs is_folder is = λ known. let all = is known in
      (all.1, ⊎_elim (λ file. inl (ap is_some all.2 ∙ file, λ here. all.1 (sym all.2 ∙ here))) (λ other. inr (is_folder.others host ∙ other)) all.0)
  so kept.NotWritten is_folder is = ⊎_elim inl (λ taken. inr (inr taken)) is.1

  pub end_of_file : (n : ℕ) (k : Kept) → is_hidden host ≡ false → FileKept host file.bytes k f g → EndIs n v name (file_end.Kept k) f g
  end_of_file n k plain is = (file, on, plain, so k is.folder is.answer_is)

written_first : (v : Volume) (ends more : List Taken) (other : List ℕ) (content : Option (List ℕ)) → WrittenBy v ends other content → WrittenBy v (ends ++ more) other content
written_first v [] more other content written = absurd written
written_first v (taken ∷ rest) more other content written = ⊎_elim inl (λ later. inr (written_first v rest more other content later)) written

written_last : (v : Volume) (ends more : List Taken) (other : List ℕ) (content : Option (List ℕ)) → WrittenBy v more other content → WrittenBy v (ends ++ more) other content
written_last v [] more other content written = written
written_last v (taken ∷ rest) more other content written = inr (written_last v rest more other content written)

-- ---- the ends

module _ (f h g : FolderView) (a : FolderKeeps f h) (b : FolderKeeps h g) where
  pub were_taken : AreTaken part_numbers h → Rose f.unremoved g.unremoved ⊎ AreTaken part_numbers f
  were_taken taken = ⊎_elim (λ rose. inl (rose_within f.unremoved f.unremoved h.unremoved g.unremoved (omega arith) rose b.unremoved))
      (λ same. inr (λ number lt known. ⊎_elim (λ file. inl (ap is_some (sym (same (part_name number) (number, lt, refl))) ∙ file))
      (λ other. inr (sym (a.folder.others (part_name number)) ∙ other)) (taken number lt (a.known ∙ known)))) a.parts

  so_before : (name bytes : List ℕ) (k : Kept) → IsKeptSo name bytes k h g → IsKeptSo name bytes k f g
  so_before name bytes kept.Written is = λ known. let both = is (a.known ∙ known) in (
    record {
      no_file = none_unless (file_in_folder name f.files) (λ old here. let no : ◌≡◌ {A = Option (List ℕ)} None (Some old) = sym both.0.no_file ∙ a.keeps name old here in cc);
      no_other = sym (a.folder.others name) ∙ both.0.no_other;
    },
    both.1,
  )
  so_before name bytes kept.WasThere is = λ known. is (a.known ∙ known)
  so_before name bytes kept.Differs is = λ known. let both = is (a.known ∙ known) in (λ here. both.0 (a.keeps name bytes here), both.1)
  so_before name bytes kept.NotWritten is = ⊎_elim (λ rose. inl (rose_within f.failures h.failures g.failures g.failures a.failures rose (omega arith)))
      (⊎_elim (λ rose. inr (inl (rose_within f.unremoved h.unremoved g.unremoved g.unremoved a.unremoved rose (omega arith)))) (λ taken. inr (were_taken taken))) is

  other_stays : (name bytes : List ℕ) (content : Option (List ℕ)) → file_in_folder name h.files ≡ content → is_some content ≡ true → content ≢ Some bytes
      → (is_some (file_in_folder name g.files) ≡ true) × (file_in_folder name g.files ≢ Some bytes)
  other_stays name bytes None is seen not = cc
  other_stays name bytes (Some old) is seen not = let there = b.keeps name old is in (ap is_some there, λ here. not (sym there ∙ here))

  so_after : (name bytes : List ℕ) (k : Kept) → IsKeptSo name bytes k f h → IsKeptSo name bytes k f g
  so_after name bytes kept.Written is = λ known. ((is known).0, b.keeps name bytes (is known).1)
  so_after name bytes kept.WasThere is = λ known. b.keeps name bytes (is known)
  so_after name bytes kept.Differs is = λ known. let both = is known in
      (both.0, ⊎_elim (λ file. inl (other_stays name bytes (file_in_folder name h.files) refl file.0 file.1)) (λ other. inr (b.folder.others name ∙ other)) both.1)
  so_after name bytes kept.NotWritten is = ⊎_elim (λ rose. inl (rose_within f.failures f.failures h.failures g.failures (omega arith) rose b.failures))
      (⊎_elim (λ rose. inr (inl (rose_within f.unremoved f.unremoved h.unremoved g.unremoved (omega arith) rose b.unremoved))) (λ taken. inr (inr taken))) is

  end_before : (n : ℕ) (v : Volume) (name : Name) (end : FileEnd) → EndIs n v name end h g → EndIs n v name end f g
  end_before n v name (file_end.Kept k) is = (is.0, is.1, is.2, so_before _ _ k is.3)
  end_before n v name (file_end.Refused code) is = is
  end_before n v name file_end.Fault is = is

  end_after : (n : ℕ) (v : Volume) (name : Name) (end : FileEnd) → EndIs n v name end f h → EndIs n v name end f g
  end_after n v name (file_end.Kept k) is = (is.0, is.1, is.2, so_after _ _ k is.3)
  end_after n v name (file_end.Refused code) is = is
  end_after n v name file_end.Fault is = is

  ends_before : (n : ℕ) (v : Volume) (ends : List Taken) → EndsAre n v ends h g → EndsAre n v ends f g
  ends_before n v [] is = is
  ends_before n v (taken ∷ rest) is = (end_before n v taken.name taken.end is.0, ends_before n v rest is.1)

  pub ends_on : (n : ℕ) (v : Volume) (ends more : List Taken) → EndsAre n v ends f h → EndsAre n v more h g → EndsAre n v (ends ++ more) f g
  ends_on n v [] more is next = ends_before n v more next
  ends_on n v (taken ∷ rest) more is next = (end_after n v taken.name taken.end is.0, ends_on n v rest more is.1 next)

  pub are_copied_on : (n : ℕ) (v : Volume) (ends more : List Taken) → AreCopied n v ends f h → AreCopied n v more h g → AreCopied n v (ends ++ more) f g
  are_copied_on n v ends more x y = record {
    ends_are = ends_on n v ends more x.ends_are y.ends_are;
    gains = gains_on (WrittenBy v ends) (WrittenBy v more) (WrittenBy v (ends ++ more)) f h g (written_first v ends more) (written_last v ends more) a.known x.gains y.gains;
  }

-- ---- the tape

finished_twice : (x y z : Tape) → (y ≡ x) ⊎ IsFinished x y → (z ≡ y) ⊎ IsFinished y z → (z ≡ x) ⊎ IsFinished x z
finished_twice x y z a b = ⊎_elim (λ same. ⊎_elim (λ was. inl (same ∙ was)) (λ is. inr (subst (IsFinished x) (sym same) is)) a)
    (λ next. ⊎_elim (λ was. inr (subst (λ (t : Tape). IsFinished t z) was next)) (λ is. inr (subst (IsFinished x) (sym (next.plain is.clear ∙ is.is_settled)) is)) a) b

tape_between : (y : Option Tape) (x z : Tape) (s t : Option Tape) → is_some y ≡ is_some s → s ≡ Some x → t ≡ Some z
    → ((x y' : Tape) → s ≡ Some x → y ≡ Some y' → (y' ≡ x) ⊎ IsFinished x y') → ((y' z : Tape) → y ≡ Some y' → t ≡ Some z → (z ≡ y') ⊎ IsFinished y' z) → (z ≡ x) ⊎ IsFinished x z
tape_between None x z s t seen is last a b = let no : false ≡ true = seen ∙ ap is_some is in cc
tape_between (Some y) x z s t seen is last a b = finished_twice x y z (a x y is refl) (b y z refl last)

settles_between : (n : ℕ) (y : Option Tape) (x z : Tape) (s t : Option Tape) → is_some y ≡ is_some s → s ≡ Some x → t ≡ Some z → has_mark n (volume_of x) ≡ false
    → ((x y' : Tape) → s ≡ Some x → y ≡ Some y' → has_mark n (volume_of x) ≡ false → SettlesAs (settled x) y')
    → ((y' z : Tape) → y ≡ Some y' → t ≡ Some z → has_mark n (volume_of y') ≡ false → SettlesAs (settled y') z) → SettlesAs (settled x) z
settles_between n None x z s t seen is last clear a b = let no : false ≡ true = seen ∙ ap is_some is in cc
settles_between n (Some y) x z s t seen is last clear a b = let first = a x y is refl clear in settles_on x y z first (b y z refl last (unmarked_on n x y first clear))

read_only_on : (a b : Bool) (s u t : Mounted) → is_some u.tape ≡ is_some s.tape → IsReadOnly a s u → IsReadOnly b u t → IsReadOnly (a || b) s t
read_only_on true true s u t seen first last = rose_within s.faults s.faults u.faults t.faults (omega arith) first last.later
read_only_on true false s u t seen first last = rose_within s.faults s.faults u.faults t.faults (omega arith) first (omega (arith, last.0))
read_only_on false true s u t seen first last = rose_within s.faults u.faults t.faults t.faults (omega (arith, first.0)) last (omega arith)
read_only_on false false s u t seen first last = (last.0 ∙ first.0, λ x z is now. tape_between u.tape x z s.tape t.tape seen is now first.1 last.1)

pub reads_on : (a b : Bool) (s u t : Mounted) → OnlyReads a s u → OnlyReads b u t → OnlyReads (a || b) s t
reads_on a b s u t first last = record {
  records = last.records ∙ first.records;
  seen = last.seen ∙ first.seen;
  own = λ own. last.own (first.own own);
  volume = λ own. last.volume (first.own own) ∙ first.volume own;
  tape = read_only_on a b s u t first.seen first.tape last.tape;
  reads = λ x z is now clear. settles_between s.records u.tape x z s.tape t.tape first.seen is now clear first.reads
      (λ y z is now clear. last.reads y z is now (subst (λ (n : ℕ). has_mark n (volume_of y) ≡ false) (sym first.records) clear));
}

pub reads_none : (s : Mounted) → OnlyReads false s s
reads_none s = record {
  records = refl;
  seen = refl;
  own = λ own. own;
  volume = λ own. refl;
  tape = (refl, λ x y is now. inl (some_inj (sym now ∙ is)));
  reads = λ x y is now clear. subst (SettlesAs (settled x)) (sym (some_inj (sym now ∙ is))) (settles_self x);
}
  where
    some_inj : {x y : Tape} → ◌≡◌ {A = Option Tape} (Some y) (Some x) → y ≡ x
    some_inj e = cc

-- ---- a command that only reads

fetch_next : (n : ℕ) (name : List ℕ) (volume : Option Volume) (refusal : Option Refusal) → next_unless n (Fetch name) volume refusal ≡ volume
fetch_next n name None None = refl
fetch_next n name (Some v) None = refl
fetch_next n name volume (Some refusal) = refl

pub fetch_reads : (n : ℕ) (name : List ℕ) (volume : Option Volume) → (apply n (Fetch name) volume).1 ≡ volume
fetch_reads n name volume = fetch_next n name volume (refusal_of n (Fetch name) volume)

dir_next : (n : ℕ) (volume : Option Volume) (refusal : Option Refusal) → next_unless n Dir volume refusal ≡ volume
dir_next n None None = refl
dir_next n (Some v) None = refl
dir_next n volume (Some refusal) = refl

pub dir_reads : (n : ℕ) (volume : Option Volume) → (apply n Dir volume).1 ≡ volume
dir_reads n volume = dir_next n volume (refusal_of n Dir volume)

by_whole : (r answer : Reply) (own : Type 0) (before after : Option Volume) (now : Option (Option Volume)) → after ≡ before → own → DoneWhole r answer own before after now → now ≡ Some before
by_whole reply.Ok answer own before after now same owns did = did.1 ∙ ap Some same
by_whole (reply.No code) answer own before after now same owns did = did.1 ∙ ap Some same
by_whole reply.FaultMedium answer own before after now same owns did = ⊎_elim (λ was. was) (λ is. is ∙ ap Some same) (did owns)
by_whole reply.FaultFrame answer own before after now same owns did = absurd did

pub by_tape : (x y : Option Tape) → is_some y ≡ is_some x → ((before : Option Volume) → volume_shown x ≡ Some before → volume_shown y ≡ Some before) → volume_shown y ≡ volume_shown x
by_tape None None seen same = refl
by_tape None (Some y) seen same = cc
by_tape (Some x) y seen same = same (finished_volume_of x) refl

abbrev pub reply_failed : Reply → Bool
reply_failed reply.Ok = false
reply_failed (reply.No code) = false
reply_failed reply.FaultMedium = true
reply_failed reply.FaultFrame = true

module _ (command : VolumeCommand) (s t : Mounted) (same : (n : ℕ) (volume : Option Volume) → (apply n command volume).1 ≡ volume) (reading : is_reading command ≡ true) where
  by_reply : (r : Reply) → CommandDid command r s t → IsReadOnly (reply_failed r) s t
  by_reply reply.Ok did = (did.cause, λ x y is now. inr (did.same reading x y is now))
  by_reply (reply.No code) did = (did.cause, λ x y is now. inr (did.same refl x y is now))
  by_reply reply.FaultMedium did = did.cause
  by_reply reply.FaultFrame did = absurd did.cause

  pub command_reads : (r : Reply) → CommandDid command r s t → OnlyReads (reply_failed r) s t
  command_reads r did = record {
    records = did.records;
    seen = did.seen;
    own = did.own;
    volume = λ own. by_tape s.tape t.tape did.seen (λ before is. by_whole r _ _ before _ _ (same s.records before) own (did.whole before is));
    tape = by_reply r did;
    reads = did.reads reading;
  }

-- ---- beside the tape

abbrev joined : Option (Option Volume) → Option Volume
joined None = None
joined (Some volume) = volume

seen_by : (tape : Option Tape) → volume_seen tape ≡ joined (volume_shown tape)
seen_by None = refl
seen_by (Some x) = refl

same_seen : (x y : Option Tape) → volume_shown y ≡ volume_shown x → volume_seen y ≡ volume_seen x
same_seen x y same = seen_by y ∙ ap joined same ∙ sym (seen_by x)

-- a stop in a later command leaves the volume too
pub stop_later : (failed : Bool) (s u : Mounted) (command : VolumeCommand) → ((n : ℕ) (volume : Option Volume) → (apply n command volume).1 ≡ volume) → OnlyReads failed s u
    → (x : Tape) → StopLeaves command u x → StopLeaves Dir s x
stop_later failed s u command same reads x leaves = λ own. inl (⊎_elim (λ is. is ∙ same_seen s.tape u.tape (reads.volume own)) (λ is. is ∙ same u.records (volume_seen u.tape) ∙ same_seen s.tape u.tape (reads.volume own)) (leaves (reads.own own)))

others_on : (a b : Option (List ℕ)) (x y z : Option Shelf) → b ≡ a → OthersAreKept a x y → OthersAreKept b y z → OthersAreKept a x z
others_on a b x y z same first last name s is old =
    let middle = first name s is old in
    let end = last name middle.0 (same ∙ is) middle.1 in
    (end.0, end.1, λ other not. end.2 other not ∙ middle.2 other not)

pub beside_none : (P : Tape → Type 0) (v : VolumesView) → GoesOnBeside P v v
beside_none P v = record {
  later = λ seen. omega arith;
  stops = λ seen m x le left. inl left;
  same = refl;
  others = λ name s is old. (s, old, λ other not. refl);
}

pub beside_on : (P Q : Tape → Type 0) (v u w : VolumesView) → is_some u.mounted.tape ≡ is_some v.mounted.tape → ((x : Tape) → Q x → P x) → GoesOnBeside P v u → GoesOnBeside Q u w → GoesOnBeside P v w
beside_on P Q v u w seen weak a b = record {
  later = λ told. omega (arith, a.later told, b.later (seen ∙ told));
  stops = λ told m x le left. ⊎_elim (a.stops told m x le) (λ is. inr (weak x is)) (b.stops (seen ∙ told) m x (omega (arith, le, a.later told)) left);
  same = b.same ∙ a.same;
  others = others_on v.inside u.inside v.images u.images w.images a.same a.others b.others;
}

pub beside_command : (P Q : Tape → Type 0) (v w : VolumesView) → ((x : Tape) → Q x → P x) → StaysBeside Q v w → GoesOnBeside P v w
beside_command P Q v w weak b = record {
  later = λ told. (b.stops told).later;
  stops = λ told m x le left. ⊎_elim inl (λ is. inr (weak x is)) ((b.stops told).earlier m x le left);
  same = b.same;
  others = b.others;
}

pub beside_then : (P Q : Tape → Type 0) (v u w : VolumesView) → is_some u.mounted.tape ≡ is_some v.mounted.tape → ((x : Tape) → Q x → P x) → StaysBeside P v u → GoesOnBeside Q u w → StaysBeside P v w
beside_then P Q v u w seen weak a b = record {
  stops = λ told. record {
    later = omega (arith, (a.stops told).later, b.later (seen ∙ told));
    each = λ x left. ⊎_elim ((a.stops told).each x) (weak x) (b.stops (seen ∙ told) v.moment x (a.stops told).later left);
    earlier = λ m x le left. ⊎_elim ((a.stops told).earlier m x le) (λ is. inr (weak x is)) (b.stops (seen ∙ told) m x (omega (arith, le, (a.stops told).later)) left);
  };
  same = b.same ∙ a.same;
  others = others_on v.inside u.inside v.images u.images w.images a.same a.others b.others;
}

-- ---- counts

pub counted_on : (p : Taken → Bool) (ends more : List Taken) → count_by p (ends ++ more) ≡ count_by p ends + count_by p more
counted_on p ends more = sum_by-append (λ taken. cond (p taken) 1 0) ends more

rose_on : (a b n x y z : ℕ) → n ≡ a + b → RoseBy a x y → RoseBy b y z → RoseBy n x z
rose_on a b n x y z is first last = omega (arith, is, first, last)

module _ (f h g : FolderView) (a : FolderKeeps f h) (b : FolderKeeps h g) where
  unable_on : (m k n : ℕ) → n ≡ m + k → WereUnable m f h → WereUnable k h g → WereUnable n f g
  unable_on m k n is first last = ⊎_elim (λ rose. ⊎_elim (λ more. inl (rose_on m k n f.failures h.failures g.failures is rose more)) since last)
      (⊎_elim (λ rose. inr (inl (rose_within f.unremoved f.unremoved h.unremoved g.unremoved (omega arith) rose b.unremoved))) (λ taken. inr (inr taken))) first
    where
      since : Rose h.unremoved g.unremoved ⊎ AreTaken part_numbers h → WereUnable n f g
      since = ⊎_elim (λ rose. inr (inl (rose_within f.unremoved h.unremoved g.unremoved g.unremoved a.unremoved rose (omega arith)))) (λ taken. inr (were_taken f h g a b taken))

-- ---- copies

pub copied_on : (a b : Bool) (ends more : List Taken) (s u t : Mounted) (f h g : FolderView) → Copied a ends s u f h → Copied b more u t h g → Copied (a || b) (ends ++ more) s t f g
copied_on a b ends more s u t f h g x y = record {
  reads = reads_on a b s u t x.reads y.reads;
  faults = rose_on _ _ _ s.faults u.faults t.faults (counted_on (λ taken. is_failed_read taken.end) ends more) x.faults y.faults;
  keeps = keeps_on f h g x.keeps y.keeps;
  not_written = unable_on f h g x.keeps y.keeps _ _ _ (counted_on (λ taken. is_not_written taken.end) ends more) x.not_written y.not_written;
  are_copied = λ v own shown. are_copied_on f h g x.keeps y.keeps s.records v ends more (x.are_copied v own shown)
      (subst (λ (n : ℕ). AreCopied n v more h g) x.reads.records (y.are_copied v (x.reads.own own) (x.reads.volume own ∙ shown)));
}

fault_free : (failed : Bool) (s t : Mounted) → IsReadOnly failed s t → RoseBy 0 s.faults t.faults
fault_free true s t is = omega (arith, is.later)
fault_free false s t is = omega (arith, is.0)

-- no file was copied
pub copied_none : (failed : Bool) (s t : Mounted) (f : FolderView) → f.part ≡ None → OnlyReads failed s t → Copied failed [] s t f f
copied_none failed s t f closed reads = record {
  reads = reads;
  faults = fault_free failed s t reads.tape;
  keeps = keeps_none f closed;
  not_written = inl (omega arith);
  are_copied = λ v own shown. record { ends_are = tt; gains = gains_none (WrittenBy v []) f };
}

-- a call of the folder that changes no file
pub copied_quiet : (s : Mounted) (f g : FolderView) → IsFolder f → g.part ≡ None → FolderGoesOn Nothing f g → Copied false [] s s f g
copied_quiet s f g folder closed on = record {
  reads = reads_none s;
  faults = omega arith;
  keeps = keeps_quiet f g closed on;
  not_written = inl (omega (arith, on.failures));
  are_copied = λ v own shown. record { ends_are = tt; gains = gains_quiet (WrittenBy v []) f g folder on };
}

abbrev pub end_taken : Name → FileEnd → Taken
end_taken name end = record { name = name; end = end }

module _ (name : Name) (s t : Mounted) where
  reads : (r : Reply) → CommandDid (Fetch (name_bytes name)) r s t → OnlyReads (reply_failed r) s t
  reads r did = command_reads (Fetch (name_bytes name)) s t (λ n volume. fetch_reads n (name_bytes name) volume) refl r did

  one_fault : IsReadOnly true s t → RoseBy 1 s.faults t.faults
  one_fault rose = omega (arith, rose.risen)

  unable_by : (host bytes : List ℕ) (k : Kept) (f g : FolderView) → FileKept host bytes k f g → WereUnable (not_written_count (end_taken name (file_end.Kept k) ∷ [])) f g
  unable_by host bytes kept.Written f g is = inl (omega (arith, is.failures))
  unable_by host bytes kept.WasThere f g is = inl (omega (arith, is.failures))
  unable_by host bytes kept.Differs f g is = inl (omega (arith, is.failures))
  unable_by host bytes kept.NotWritten f g is = ⊎_elim (λ (rose : Rose f.failures g.failures). inl (omega (arith, rose.risen))) (λ taken. inr (inr taken)) is.answer_is.1

  pub took_file : (file : FileContent) (k : Kept) (f g : FolderView) → CommandDid (Fetch (name_bytes name)) reply.Ok s t → IsFileAt (volume_shown s.tape) (name_bytes name) file
      → is_hidden (host_name (name_bytes name) file) ≡ false → FileKept (host_name (name_bytes name) file) file.bytes k f g → Copied false (end_taken name (file_end.Kept k) ∷ []) s t f g
  took_file file k f g did at plain is = record {
    reads = reads reply.Ok did;
    faults = omega (arith, did.cause);
    keeps = keeps_file _ _ k f g is;
    not_written = unable_by _ _ k f g is;
    are_copied = λ v own shown. record {
      ends_are = (end_of_file v name file (at v shown) f g s.records k plain is, tt);
      gains = gains_on (WritesFile v name (file_end.Kept k)) (WrittenBy v []) (WrittenBy v (end_taken name (file_end.Kept k) ∷ [])) f g g (λ other content made. inl made) (λ other content made. absurd made) is.known
          (gains_file v name file (at v shown) f g k is) (gains_none (WrittenBy v []) g);
    };
  }

  pub took_refused : (code : Code) (f : FolderView) → f.part ≡ None → CommandDid (Fetch (name_bytes name)) (reply.No code) s t → Copied false (end_taken name (file_end.Refused code) ∷ []) s t f f
  took_refused code f closed did = record {
    reads = reads (reply.No code) did;
    faults = omega (arith, did.cause);
    keeps = keeps_none f closed;
    not_written = inl (omega arith);
    are_copied = λ v own shown. record { ends_are = (sym (did.whole (Some v) shown).0, tt); gains = gains_none _ f };
  }

  pub took_fault : (r : Reply) (f : FolderView) → f.part ≡ None → reply_failed r ≡ true → CommandDid (Fetch (name_bytes name)) r s t → Copied true (end_taken name file_end.Fault ∷ []) s t f f
  took_fault r f closed failed did = record {
    reads = subst (λ (b : Bool). OnlyReads b s t) failed (reads r did);
    faults = one_fault (subst (λ (b : Bool). IsReadOnly b s t) failed (reads r did).tape);
    keeps = keeps_none f closed;
    not_written = inl (omega arith);
    are_copied = λ v own shown. record { ends_are = (tt, tt); gains = gains_none _ f };
  }

-- a stop within the command that reads a file
pub beside_fetch : (v w : VolumesView) (name : List ℕ) → StaysBeside (StopLeaves (Fetch name) v.mounted) v w → GoesOnBeside (StopLeaves Dir v.mounted) v w
beside_fetch v w name stays = beside_command (StopLeaves Dir v.mounted) (StopLeaves (Fetch name) v.mounted) v w
    (stop_later false v.mounted v.mounted (Fetch name) (λ n volume. fetch_reads n name volume) (reads_none v.mounted)) stays

-- ---- the loop

has_fault_on : (ends : List Taken) (taken : Taken) → has_fault (ends ++ taken ∷ []) ≡ (has_fault ends || is_failed_read taken.end)
has_fault_on [] taken = or_false (is_failed_read taken.end)
  where
    or_false : (b : Bool) → (b || false) ≡ b
    or_false true = refl
    or_false false = refl
has_fault_on (first ∷ rest) taken = or_on (has_fault (rest ++ taken ∷ [])) (has_fault rest) (is_failed_read taken.end) (is_failed_read first.end) (has_fault_on rest taken)
  where
    or_on : (a b c : Bool) (first : Bool) → a ≡ (b || c) → (first || a) ≡ ((first || b) || c)
    or_on a b c true e = refl
    or_on a b c false e = e

-- one file more
pub copied_next : (ends items : List Taken) (taken : Taken) (v u w : VolumesView) (f h g : FolderView) → items ≡ ends ++ taken ∷ [] → Copied (has_fault ends) ends v.mounted u.mounted f h
    → Copied (is_failed_read taken.end) (taken ∷ []) u.mounted w.mounted h g → Copied (has_fault items) items v.mounted w.mounted f g
copied_next ends items taken v u w f h g is x y =
    subst (λ (l : List Taken). Copied (has_fault l) l v.mounted w.mounted f g) (sym is)
    (subst (λ (b : Bool). Copied b (ends ++ taken ∷ []) v.mounted w.mounted f g) (sym (has_fault_on ends taken)) (copied_on (has_fault ends) (is_failed_read taken.end) ends (taken ∷ []) v.mounted u.mounted w.mounted f h g x y))

pub beside_next : (failed : Bool) (v u w : VolumesView) → OnlyReads failed v.mounted u.mounted → GoesOnBeside (StopLeaves Dir v.mounted) v u → GoesOnBeside (StopLeaves Dir u.mounted) u w
    → GoesOnBeside (StopLeaves Dir v.mounted) v w
beside_next failed v u w reads a b = beside_on (StopLeaves Dir v.mounted) (StopLeaves Dir u.mounted) v u w reads.seen (stop_later failed v.mounted u.mounted Dir dir_reads reads) a b

pub names_on : (ends items : List Taken) (taken : Taken) (names : List Name) (i : ℕ) → items ≡ ends ++ taken ∷ [] → take (i + 1) names ≡ take i names ++ taken.name ∷ []
    → map (λ taken. taken.name) ends ≡ take i names → map (λ taken. taken.name) items ≡ take (i + 1) names
names_on ends items taken names i is more so_far =
    ap (λ (l : List Taken). map (λ (t : Taken). t.name) l) is ∙ map-append (λ (t : Taken). t.name) ends (taken ∷ []) ∙ ap (λ (l : List Name). l ++ taken.name ∷ []) so_far ∙ sym more

pub count_on : (ends : List Taken) (names : List Name) (i : ℕ) → i < length names → map (λ taken. taken.name) ends ≡ take i names → length ends ≡ i
count_on ends names i lt so_far = omega (arith, lt, sym (length-map ends (λ (taken : Taken). taken.name)) ∙ ap length so_far, length-take i names)

-- a push into a vector that has room
pub pushed : {A T E : Type 0} (result : Result T E) (len cap : ℕ) (items more less : List A) → OnErr result (cap ≤ len) → len < cap → items ≡ (if is_ok result then more else less) → items ≡ more
pushed (Ok x) len cap items more less full room is = is
pushed (Err e) len cap items more less full room is = absurd (omega (arith, full, room))

-- the calls of the folder before and after the files
pub copied_around : (b : Bool) (ends : List Taken) (s t : Mounted) (f h k g : FolderView) → Copied false [] s s f h → Copied b ends s t h k → Copied false [] t t k g → Copied b ends s t f g
copied_around b ends s t f h k g first files last =
    let all = copied_on b false ends [] s t t f k g (copied_on false b [] ends s s t f h k first files) last in
    subst (λ (l : List Taken). Copied b l s t f g) (append-nil ends) (subst (λ (c : Bool). Copied c (ends ++ []) s t f g) (or_false b) all)
  where
    or_false : (b : Bool) → (b || false) ≡ b
    or_false true = refl
    or_false false = refl

-- ---- the names

pieces_next : {X A : Type 0} (f : X → List A) (xs : List X) (i : ℕ) (x : X) → slice_get xs i ≡ Some x → flat_map f (take (i + 1) xs) ≡ flat_map f (take i xs) ++ f x
pieces_next f xs i x at =
    ap (flat_map f) (take_more xs i x (slice_get_within xs i x at) ∙ ap (λ y. take i xs ++ y ∷ []) (get_or_from_slice_get xs i x x at))
    ∙ flat_map-append f (take i xs) (x ∷ []) ∙ ap (λ l. flat_map f (take i xs) ++ l) (append-nil (f x))

pub name_next : (n : ℕ) (slots : List Slot) (i : ℕ) (x : Slot) (name : Option Name) → slice_get slots i ≡ Some x
    → MatchOption name (shown_slot false n x ≡ []) (λ (m : Name). map (λ e. e.name) (shown_slot false n x) ≡ m ∷ [])
    → (before after : List Name) → before ≡ map (λ e. e.name) (shown_files false n (take i slots)) → after ≡ before ++ named name → after ≡ map (λ e. e.name) (shown_files false n (take (i + 1) slots))
name_next n slots i x name at is before after was more =
    more ∙ (λ j. was j ++ named_by name is j) ∙ sym (ap (λ (l : List FileEntry). map (λ e. e.name) l) (pieces_next (shown_slot false n) slots i x at) ∙ map-append (λ e. e.name) (shown_files false n (take i slots)) (shown_slot false n x))
  where
    named_by : (name : Option Name) → MatchOption name (shown_slot false n x ≡ []) (λ (m : Name). map (λ e. e.name) (shown_slot false n x) ≡ m ∷ []) → named name ≡ map (λ (e : FileEntry). e.name) (shown_slot false n x)
    named_by None is = sym (ap (λ (l : List FileEntry). map (λ e. e.name) l) is)
    named_by (Some m) is = sym is

-- ---- the job

-- the volume is the one before the directory was read
pub shown_by : (s t : Mounted) → CommandDid Dir reply.Ok s t → volume_shown t.tape ≡ volume_shown s.tape
shown_by s t did = by_tape s.tape t.tape did.seen (λ before is. (did.whole before is).1 ∙ ap Some (dir_reads s.records before))

-- the tape is finished by the command that reads the directory, and stays so
finished_on : (failed : Bool) (s u t : Mounted) → failed ≡ false → ((x y : Tape) → s.tape ≡ Some x → u.tape ≡ Some y → IsFinished x y) → OnlyReads failed u t
    → is_some u.tape ≡ is_some s.tape → (x z : Tape) → s.tape ≡ Some x → t.tape ≡ Some z → IsFinished x z
finished_on true s u t off first reads seen x z is now = cc
finished_on false s u t off first reads seen x z is now = between u.tape seen first reads.tape.1
  where
    joins : (y : Tape) → IsFinished x y → (z ≡ y) ⊎ IsFinished y z → IsFinished x z
    joins y is b = ⊎_elim (λ same. subst (IsFinished x) (sym same) is) (λ later. subst (IsFinished x) (sym (later.plain is.clear ∙ is.is_settled)) is) b

    between : (middle : Option Tape) → is_some middle ≡ is_some s.tape → ((x y : Tape) → s.tape ≡ Some x → middle ≡ Some y → IsFinished x y)
        → ((y z : Tape) → middle ≡ Some y → t.tape ≡ Some z → (z ≡ y) ⊎ IsFinished y z) → IsFinished x z
    between None seen first last = let no : false ≡ true = seen ∙ ap is_some is in cc
    between (Some y) seen first last = joins y (first x y is refl) (last y z refl now)

-- after the directory was read
pub out_listed : (w : Went) (asked : List Name) (ends : List Taken) (s u t : Mounted) (f g : FolderView) → f.part ≡ None → CommandDid Dir reply.Ok s u → CopyDid w asked ends u t f g → CopiedSo w asked ends s t f g
out_listed w asked ends s u t f g closed did copies = record {
  did = record {
    copied = copied_on false (has_failed w ends) [] ends s u t f f g (copied_none false s u f closed (command_reads Dir s u dir_reads refl reply.Ok did)) copies.copied;
    went_so = subst (λ (n : ℕ). WentSo w n asked (volume_shown s.tape) ends f g) did.records (subst (λ (o : Option (Option Volume)). WentSo w u.records asked o ends f g) (shown_by s u did) copies.went_so);
  };
  finished = λ off x z is now. finished_on (has_failed w ends) s u t off (λ x y is now. did.same refl x y is now) copies.copied.reads did.seen x z is now;
}

-- the command that reads the directory was refused
pub out_refused : (code : Code) (asked : List Name) (s t : Mounted) (f : FolderView) → f.part ≡ None → CommandDid Dir (reply.No code) s t → CopiedSo (went.Refused code) asked [] s t f f
out_refused code asked s t f closed did = record {
  did = record {
    copied = copied_none false s t f closed (command_reads Dir s t dir_reads refl (reply.No code) did);
    went_so = (refl, λ before is. sym (did.whole before is).0);
  };
  finished = λ off x z is now. did.same refl x z is now;
}

-- the medium failed
pub out_fault : (r : Reply) (asked : List Name) (s t : Mounted) (f : FolderView) → f.part ≡ None → reply_failed r ≡ true → CommandDid Dir r s t → CopiedSo went.Fault asked [] s t f f
out_fault r asked s t f closed failed did = record {
  did = record {
    copied = copied_none true s t f closed (subst (λ (b : Bool). OnlyReads b s t) failed (command_reads Dir s t dir_reads refl r did));
    went_so = refl;
  };
  finished = λ off x z is now. let no : true ≡ false = off in cc;
}

-- no file was copied, for want of memory
pub copy_unable : (asked : List Name) (s : Mounted) (f : FolderView) → f.part ≡ None → volume_shown s.tape ≡ None → CopyDid went.OutOfMemory asked [] s s f f
copy_unable asked s f closed unseen = record { copied = copied_none false s s f closed (reads_none s); went_so = (refl, unseen) }

went_named : (w : Went) (n : ℕ) (asked names : List Name) (shown : Option (Option Volume)) (ends : List Taken) (f g : FolderView) → AreNamesCopied n asked shown names
    → FolderWent w (λ copied. copied ≡ names) ends f g → WentSo w n asked shown ends f g
went_named went.Done n asked names shown ends f g are so = (so.0, subst (AreNamesCopied n asked shown) (sym so.1) are, so.2, so.3)
went_named went.NotAll n asked names shown ends f g are so = (so.0, subst (AreNamesCopied n asked shown) (sym so.1) are, so.2, so.3)
went_named went.FolderLost n asked names shown ends f g are so = (so.0, ⊎_elim inl (λ lost. inr (subst (AreNamesCopied n asked shown) (sym lost.0) are, lost.1, lost.2)) so.1)
went_named (went.Refused code) n asked names shown ends f g are so = absurd so
went_named went.Fault n asked names shown ends f g are so = absurd so
went_named went.OutOfMemory n asked names shown ends f g are so = absurd so
went_named went.Unwritten n asked names shown ends f g are so = absurd so
went_named went.NoSize n asked names shown ends f g are so = absurd so

folder_unfailed : (w : Went) (AreNames : List Name → Type 0) (ends : List Taken) (f g : FolderView) → FolderWent w AreNames ends f g → has_fault ends ≡ has_failed w ends
folder_unfailed went.Done AreNames ends f g so = refl
folder_unfailed went.NotAll AreNames ends f g so = refl
folder_unfailed went.FolderLost AreNames ends f g so = refl
folder_unfailed (went.Refused code) AreNames ends f g so = absurd so
folder_unfailed went.Fault AreNames ends f g so = absurd so
folder_unfailed went.OutOfMemory AreNames ends f g so = absurd so
folder_unfailed went.Unwritten AreNames ends f g so = absurd so
folder_unfailed went.NoSize AreNames ends f g so = absurd so

-- the files of these names were copied
pub copy_done : (w : Went) (asked names : List Name) (ends : List Taken) (s t : Mounted) (f g : FolderView) → AreNamesCopied s.records asked (volume_shown s.tape) names
    → Copied (has_fault ends) ends s t f g → FolderWent w (λ copied. copied ≡ names) ends f g → CopyDid w asked ends s t f g
copy_done w asked names ends s t f g are copied so = record {
  copied = subst (λ (b : Bool). Copied b ends s t f g) (folder_unfailed w _ ends f g so) copied;
  went_so = went_named w s.records asked names (volume_shown s.tape) ends f g are so;
}

pub touched : (w : Went) (AreNames : List Name → Type 0) (ends : List Taken) (f g : FolderView) → FolderWent w AreNames ends f g → is_before_folder w ≡ true → ⊥
touched went.Done AreNames ends f g so before = cc
touched went.NotAll AreNames ends f g so before = cc
touched went.FolderLost AreNames ends f g so before = cc
touched (went.Refused code) AreNames ends f g so before = so
touched went.Fault AreNames ends f g so before = so
touched went.OutOfMemory AreNames ends f g so before = so
touched went.Unwritten AreNames ends f g so before = so
touched went.NoSize AreNames ends f g so before = so

pub beside_listed : (v u w : VolumesView) → CommandDid Dir reply.Ok v.mounted u.mounted → StaysBeside (StopLeaves Dir v.mounted) v u → GoesOnBeside (StopLeaves Dir u.mounted) u w → StaysBeside (StopLeaves Dir v.mounted) v w
beside_listed v u w did a b = beside_then (StopLeaves Dir v.mounted) (StopLeaves Dir u.mounted) v u w did.seen
    (stop_later false v.mounted u.mounted Dir dir_reads (command_reads Dir v.mounted u.mounted dir_reads refl reply.Ok did)) a b
