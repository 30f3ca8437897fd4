-- How files are collected, one after the other.
use Rattle.std.proofs.Common.{◌≡◌, ◌++◌, ◌∷◌, ◌∙◌, ℕ, true, false, List, [], Option, Some, refl, sym, ap, subst}
use Rattle.std.specs.Prelude.{◌+◌, All, Contains, None, Ok, Err, map, take}
use Rattle.std.proofs.lemmas.List.{map-append}
use Rattle.std.proofs.lemmas.List.Elements.{All-append, All-contains}
use Rattle.lif_model.specs.Apply.{VolumeCommand, Dir, Fetch, apply, refusal_of}
use Rattle.lif_model.specs.Volume.{Volume}
use Rattle.lif_dir.specs.Entries.{name_bytes}
use Rattle.lif_dir.specs.declared.entries.Name.{Name}
use Rattle.il_script.specs.declared.reply.Code.{Code}
use Rattle.il_script.specs.declared.reply.Reply.{Reply}
use Rattle.il_script.specs.declared.reply.Reply.TheVariants as reply
use Rattle.tape_volumes.specs.Volumes.{CommandDid, FileContent, IsFileAt, Mounted, file_on, reply_by, volume_shown}
use Rattle.tape_jobs.specs.Out.{AreNamesCopied, AreSlotsExact, OnlyReads}
use Rattle.tape_jobs.specs.Collecting.{CollectDid, CollectedBy, FileCollected, IsAdded, IsFetchRefused, IsFileLeftOut, IsFileShown, NamedBy, NamedCollected, SameVolume, is_failure}
use Rattle.tape_jobs.specs.declared.collecting.Collected.{Collected}
use Rattle.tape_volumes.specs.declared.went.Went.{Went}
use Rattle.tape_volumes.specs.declared.went.Went.TheVariants as went
use Rattle.tape_jobs.proofs.Fetching.{all_one, listed_is_read}
use Rattle.tape_jobs.proofs.Copies.{by_tape, command_reads, dir_reads, fetch_reads, reads_none, reads_on, reply_failed}

-- a command that reads leaves the volume, if it replies ok
pub shown_after : (command : VolumeCommand) (s t : Mounted) → ((n : ℕ) (volume : Option Volume) → (apply n command volume).1 ≡ volume) → CommandDid command reply.Ok s t → SameVolume s t
shown_after command s t same did = by_tape s.tape t.tape did.seen (λ before is. (did.whole before is).1 ∙ ap Some (same s.records before))

-- ---- one file

module _ (name : Name) (files : List Collected) (s t : Mounted) where
  fetched : (r : Reply) → CommandDid (Fetch (name_bytes name)) r s t → OnlyReads (reply_failed r) s t
  fetched r did = command_reads (Fetch (name_bytes name)) s t (λ n volume. fetch_reads n (name_bytes name) volume) refl r did

  pub collected_file : (content : FileContent) (files_now : List Collected) → CommandDid (Fetch (name_bytes name)) reply.Ok s t → IsFileAt (volume_shown s.tape) (name_bytes name) content
      → IsAdded name content files files_now → FileCollected name files files_now (Ok tt) s t
  collected_file content files_now did at added = (
    fetched reply.Ok did,
    shown_after (Fetch (name_bytes name)) s t (λ n volume. fetch_reads n (name_bytes name) volume) did,
    (added.0, added.1, added.2, λ v here. ap (λ (n : Name). file_on v (name_bytes n)) added.2 ∙ at v here ∙ ap Some (sym added.3)),
  )

  pub collected_unable : (files_now : List Collected) → CommandDid (Fetch (name_bytes name)) reply.Ok s t → FileCollected name files files_now (Err went.OutOfMemory) s t
  collected_unable files_now did = (fetched reply.Ok did, tt)

  pub collected_refused : (code : Code) (files_now : List Collected) → CommandDid (Fetch (name_bytes name)) (reply.No code) s t → FileCollected name files files_now (Err (went.Refused code)) s t
  collected_refused code files_now did = (fetched (reply.No code) did, λ before is. sym (did.whole before is).0)

  pub collected_fault : (r : Reply) (files_now : List Collected) → reply_failed r ≡ true → CommandDid (Fetch (name_bytes name)) r s t → FileCollected name files files_now (Err went.Fault) s t
  collected_fault r files_now failed did = (subst (λ b. OnlyReads b s t) failed (fetched r did), tt)

-- ---- all files

-- one file more
pub names_more : (files files_now : List Collected) (file : Collected) (names : List Name) (i : ℕ) (name : Name) → files_now ≡ files ++ file ∷ [] → file.name ≡ name → take (i + 1) names ≡ take i names ++ name ∷ []
    → map (λ f. f.name) files ≡ take i names → map (λ f. f.name) files_now ≡ take (i + 1) names
names_more files files_now file names i name is named more so_far =
    ap (λ (l : List Collected). map (λ (f : Collected). f.name) l) is ∙ map-append (λ (f : Collected). f.name) files (file ∷ [])
    ∙ (λ j. so_far j ++ named j ∷ []) ∙ sym more

pub contents_more : (s u : Mounted) (files files_now : List Collected) (file : Collected) → files_now ≡ files ++ file ∷ [] → SameVolume s u → All (IsFileShown (volume_shown s.tape)) files → IsFileShown (volume_shown u.tape) file
    → All (IsFileShown (volume_shown s.tape)) files_now
contents_more s u files files_now file is same all at =
    subst (All (IsFileShown (volume_shown s.tape))) (sym is) (All-append (IsFileShown (volume_shown s.tape)) files (file ∷ []) all (all_one (IsFileShown (volume_shown s.tape)) file (subst (λ (o : Option (Option Volume)). IsFileShown o file) same at)))

-- the job ends at this file
pub named_ended : (w : Went) (names : List Name) (name : Name) (files : List Collected) (s u t : Mounted) → Contains names name → OnlyReads false s u → SameVolume s u → OnlyReads (is_failure w) u t
    → IsFileLeftOut w name u.records (volume_shown u.tape) → NamedCollected w names files s t
named_ended w names name files s u t contains first same last why = record {
  reads = reads_on false (is_failure w) s u t first last;
  named = by_cause w (subst (λ (n : ℕ). IsFileLeftOut w name n (volume_shown s.tape)) first.records (subst (λ (o : Option (Option Volume)). IsFileLeftOut w name u.records o) same why));
}
  where
    by_cause : (w : Went) → IsFileLeftOut w name s.records (volume_shown s.tape) → NamedBy w names files s t
    by_cause went.Done why = absurd why
    by_cause (went.Refused code) why = (name, contains, why)
    by_cause went.Fault why = (name, contains, why)
    by_cause went.OutOfMemory why = (name, contains, why)
    by_cause went.Unwritten why = (name, contains, why)
    by_cause went.NoSize why = (name, contains, why)
    by_cause went.NotAll why = (name, contains, why)
    by_cause went.FolderLost why = (name, contains, why)

-- ---- the job

-- the names are those of the directory, none of which is refused
pub collects_named : (w : Went) (names : List Name) (files : List Collected) (s t : Mounted) → AreNamesCopied s.records [] (volume_shown s.tape) names → AreSlotsExact (volume_shown s.tape)
    → NamedCollected w names files s t → CollectDid w files s t
collects_named w names files s t are exact did = record { reads = did.reads; went_so = by_names w did.named }
  where
    by_volume : (code : Code) (name : Name) → Contains names name → IsFetchRefused code name s.records (volume_shown s.tape) → (before : Option Volume) → volume_shown s.tape ≡ Some before
        → reply_by (apply s.records Dir before).0 ≡ reply.No code
    by_volume code name contains why None here = why None here
    by_volume code name contains why (Some v) here =
        let read = All-contains (λ (m : Name). refusal_of s.records (Fetch (name_bytes m)) (Some v) ≡ None) names name
        (subst (All (λ (m : Name). refusal_of s.records (Fetch (name_bytes m)) (Some v) ≡ None)) (sym (are v here)) (listed_is_read s.records s.tape v here (exact v here))) contains in
        let no : reply.Ok ≡ reply.No code = sym (ap reply_by read) ∙ why (Some v) here in cc

    by_names : (w : Went) → NamedBy w names files s t → CollectedBy w s.records (volume_shown s.tape) files
    by_names went.Done so = record { names = λ v here. so.1 ∙ are v here; contents = so.2 }
    by_names (went.Refused code) so = by_volume code so.0 so.1 so.2
    by_names went.Fault so = so.2
    by_names went.OutOfMemory so = so.2
    by_names went.Unwritten so = so.2
    by_names went.NoSize so = so.2
    by_names went.NotAll so = so.2
    by_names went.FolderLost so = so.2

-- there was no memory for the names
pub collects_unable : (files : List Collected) (s : Mounted) → CollectDid went.OutOfMemory files s s
collects_unable files s = record { reads = reads_none s; went_so = tt }

-- after the directory was read
pub collects_listed : (w : Went) (files : List Collected) (s u t : Mounted) → CommandDid Dir reply.Ok s u → CollectDid w files u t → CollectDid w files s t
collects_listed w files s u t did collects = record {
  reads = reads_on false (is_failure w) s u t (command_reads Dir s u dir_reads refl reply.Ok did) collects.reads;
  went_so = subst (λ (n : ℕ). CollectedBy w n (volume_shown s.tape) files) did.records
      (subst (λ (o : Option (Option Volume)). CollectedBy w u.records o files) (shown_after Dir s u dir_reads did) collects.went_so);
}

pub collects_refused : (code : Code) (files : List Collected) (s t : Mounted) → CommandDid Dir (reply.No code) s t → CollectDid (went.Refused code) files s t
collects_refused code files s t did = record {
  reads = command_reads Dir s t dir_reads refl (reply.No code) did;
  went_so = λ before is. sym (did.whole before is).0;
}

pub collects_fault : (r : Reply) (files : List Collected) (s t : Mounted) → reply_failed r ≡ true → CommandDid Dir r s t → CollectDid went.Fault files s t
collects_fault r files s t failed did = record {
  reads = subst (λ b. OnlyReads b s t) failed (command_reads Dir s t dir_reads refl r did);
  went_so = tt;
}
