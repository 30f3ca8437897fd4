-- What the definitions of the job accept and refuse.
use Rattle.std.proofs.Common.{◌≡◌, ◌∷◌, ◌∙◌, ℕ, zero, suc, Bool, true, false, List, [], Option, Some, None, codes, inl, refl, sym, ap, arith}
use Rattle.std.specs.Prelude.{if◌then◌else◌, ◌≢◌, ◌≤◌, is_some, length, take}
use Rattle.std.specs.List.{list_all}
use Rattle.std.specs.Io.KnownBytes.{Appends}
use Rattle.lif_model.specs.Apply.{IsWellFormed, VolumeCommand, apply}
use Rattle.lif_model.specs.Packing.{finished_volume_of}
use Rattle.lif_model.specs.Tape.{Tape}
use Rattle.lif_model.specs.Volume.{IsVolume, Volume}
use Rattle.il_script.specs.declared.reply.Code.{Code}
use Rattle.il_script.specs.declared.reply.Code.TheVariants as code
use Rattle.il_script.specs.declared.reply.Reply.{Reply}
use Rattle.il_script.specs.declared.reply.Reply.TheVariants as reply
use Rattle.lif_dir.specs.declared.entries.Name.{Name}
use Rattle.lif_dir.specs.Entries.{name_bytes}
use Rattle.lif_model.specs.Apply as volume
use Rattle.tape_volumes.specs.declared.change.Change.TheVariants as change
use Rattle.tape_volumes.specs.declared.ending.Ending.TheVariants as ending
use Rattle.tape_volumes.specs.declared.went.Went.{Went}
use Rattle.tape_volumes.specs.declared.went.Went.TheVariants as went
use Rattle.tape_volumes.specs.Changes.{change_command}
use Rattle.tape_volumes.specs.Endings.{ending_message}
use Rattle.tape_volumes.specs.Volumes.{CommandDid, Mounted, OwnsGate, file_on, volume_seen, volume_shown}
use Rattle.tape_changes.specs.declared.changing.Step.{Step}
use Rattle.tape_changes.specs.declared.changing.Next.{Next}
use Rattle.tape_changes.specs.declared.changing.Next.TheVariants as next
use Rattle.tape_changes.specs.declared.replacing.NewFile.{NewFile}
use Rattle.tape_changes.specs.declared.replacing.Stored.{Stored}
use Rattle.tape_changes.specs.declared.replacing.Stored.TheVariants as stored
use Rattle.tape_changes.specs.Changing.{Attempt, ChangesDid, FrontIsLeft, NextBy, Output, StepTried, StepsTaken, ThenDid, after, attempted, says_exists, was_made}
use Rattle.tape_changes.specs.ChangeMessages.{change_message}
use Rattle.tape_changes.specs.ReplaceMessages.{kind_digits, replaced_message}
use Rattle.tape_changes.specs.Replacing.{AskedFor, IsKindAt, OldOrNewIsLeft, ReplaceDid, StoredBy, command_by, kind_named, new_name_bytes, replaced_went, replacing_parts, store_change}
use Rattle.tape_changes.proofs.Replaced.{left_has_some}

-- a step that purges the file of that name
abbrev purge_of : Name → Step → Step
purge_of name step = record { change = change.Purge name; instead = None; subject = step.subject; line = step.line }

-- a step that has no other change was tried
tried_alone : (name : Name) (step : Step) (r : Reply) (s t : Mounted) → CommandDid (volume.Purge (name_bytes name)) r s t → StepTried (purge_of name step) r s t
tried_alone name step r s t did = record { first = r; between = t; did = did; rest = none_then (says_exists r) }
  where
    none_then : (exists : Bool) → ThenDid (if exists then None else None) r r t t
    none_then true = (refl, refl)
    none_then false = (refl, refl)

-- The first purge is refused, the job goes on, and the second is made. Only the line of the second is printed.
refused_then_made : (first second : Name) (a b : Step) (code : Code) (s u t : Mounted) (old now : Output)
    → CommandDid (volume.Purge (name_bytes first)) (reply.No code) s u → CommandDid (volume.Purge (name_bytes second)) reply.Ok u t
    → Appends old.text now.text b.line.now → now.faults ≡ old.faults
    → ChangesDid false (purge_of first a ∷ purge_of second b ∷ []) went.NotAll (reply.No code ∷ reply.Ok ∷ []) s t old now
refused_then_made first second a b code s u t old now refused made line faults = record {
  lost = false;
  taken = (next.GoesOn, u, old, record { tried = tried_alone first a (reply.No code) s u refused; tells = (refl, (refl, refl)) }, (next.GoesOn, t, now, record { tried = tried_alone second b reply.Ok u t made; tells = (line, faults) }, (refl, refl, refl)));
  went_so = refl;
}

-- a step after which the job goes on is not the last with a reply
not_left_out : (a b : Step) (s t : Mounted) (old now : Output) → StepsTaken false (a ∷ b ∷ []) (reply.Ok ∷ []) false s t old now → ⊥
not_left_out a b s t old now (next.GoesOn, u, told, taken, follows) = follows
not_left_out a b s t old now (next.Ends, u, told, taken, follows) = taken.tells
not_left_out a b s t old now (next.LosesOutput, u, told, taken, follows) = let no : false ≡ true = follows.1 in cc

-- if standard output did not fail and all replies are ok, each step has one
all_replied : (early : Bool) (steps : List Step) (replies : List Reply) (s t : Mounted) (old now : Output) → StepsTaken early steps replies false s t old now → list_all was_made replies ≡ true
    → length replies ≡ length steps
all_replied early [] [] s t old now taken made = refl
all_replied early [] (r ∷ replies) s t old now taken made = absurd taken
all_replied early (step ∷ steps) [] s t old now taken made = absurd taken
all_replied early (step ∷ steps) (reply.Ok ∷ replies) s t old now (next.GoesOn, u, told, first, follows) made = ap suc (all_replied early steps replies u t told now follows made)
all_replied early (step ∷ steps) (reply.Ok ∷ replies) s t old now (next.Ends, u, told, first, follows) made = absurd first.tells
all_replied early (step ∷ steps) (reply.Ok ∷ replies) s t old now (next.LosesOutput, u, told, first, follows) made = let no : false ≡ true = follows.1 in cc
all_replied early (step ∷ steps) (reply.No code ∷ replies) s t old now taken made = cc
all_replied early (step ∷ steps) (reply.FaultFrame ∷ replies) s t old now taken made = cc
all_replied early (step ∷ steps) (reply.FaultMedium ∷ replies) s t old now taken made = cc

-- a power stop within two changes does not leave the second one alone, if that makes another volume
not_second_alone : (a b : Attempt) (s : Mounted) (x : Tape) → OwnsGate s.tape → finished_volume_of x ≡ attempted s.records b (volume_seen s.tape)
    → attempted s.records b (volume_seen s.tape) ≢ volume_seen s.tape
    → attempted s.records b (volume_seen s.tape) ≢ attempted s.records a (volume_seen s.tape)
    → attempted s.records b (volume_seen s.tape) ≢ attempted s.records b (attempted s.records a (volume_seen s.tape))
    → FrontIsLeft (a ∷ b ∷ []) s x → ⊥
not_second_alone a b s x own only none first both left = at (left own)
  where
    at : (k : ℕ) × (k ≤ 2) × (finished_volume_of x ≡ after s.records (take k (a ∷ b ∷ [])) (volume_seen s.tape)) → ⊥
    at (zero, le, is) = none (sym only ∙ is)
    at (suc zero, le, is) = first (sym only ∙ is)
    at (suc (suc zero), le, is) = both (sym only ∙ is)
    at (suc (suc (suc k)), le, is) = absurd (omega (arith, le))

-- ---- a file that is stored

-- a file as a text
abbrev as_text : NewFile → NewFile
as_text file = record file { kind = 1 }

-- A text is stored alone or in place of a text. If its name is that of a program, there is no command.
by_kind : (file : NewFile) → (command_by (as_text file) None ≡ Some (change_command (store_change (as_text file))))
    × (command_by (as_text file) (Some 1) ≡ Some (volume.Batch (replacing_parts (as_text file)))) × (command_by (as_text file) (Some 0xE080) ≡ None)
by_kind file = (refl, refl, refl)

-- the type that was found is that of the volume, if contracts can see one
kind_found : (v : Volume) (name : List ℕ) → IsKindAt (Some (Some v)) name (kind_named v name) × (IsKindAt None name (Some 7))
kind_found v name = (λ w same. let is : v ≡ w = of same in ap (λ (u : Volume). kind_named u name) is, λ w seen. cc)
  where
    of : {u w : Volume} → Some (Some u) ≡ Some (Some w) → u ≡ w
    of e = cc

not_other_kind : (v : Volume) (name : List ℕ) → kind_named v name ≡ Some 1 → IsKindAt (Some (Some v)) name (Some 2) → ⊥
not_other_kind v name one is = let no : ◌≡◌ {A = Option ℕ} (Some 2) (Some 1) = is v refl ∙ one in cc

-- A text is found and replaced, and the line is printed.
replaced : (file : NewFile) (line : List ℕ) (s u t : Mounted) (old now : Output) → CommandDid volume.Dir reply.Ok s u → IsKindAt (volume_shown u.tape) (new_name_bytes file) (Some 1)
    → CommandDid (volume.Batch (replacing_parts (as_text file))) reply.Ok u t → Appends old.text now.text line → now.faults ≡ old.faults
    → ReplaceDid (as_text file) line (stored.Asked reply.Ok) went.Done s t old now
replaced file line s u t old now listed kind made printed faults = record {
  listed = reply.Ok;
  between = u;
  did = listed;
  rest = (Some 1, kind, record { reply = reply.Ok; next = next.GoesOn; did = made; tells = (printed, faults); told = refl; went_so = refl });
}

-- if there is no command, nothing was asked for
not_asked : (found : Option ℕ) (line : List ℕ) (r : Reply) (w : Went) (s t : Mounted) (old now : Output) → StoredBy None found line (stored.Asked r) w s t old now → ⊥
not_asked None line r w s t old now by = let no : ◌≡◌ {A = Option Stored} None (Some (stored.Asked r)) = by.0 in cc
not_asked (Some kind) line r w s t old now by = let no : Some (stored.OtherType kind) ≡ Some (stored.Asked r) = by.0 in cc

-- if the volume refused it, nothing was printed, and not all was done
not_printed : (command : VolumeCommand) (line : List ℕ) (code : Code) (w : Went) (s t : Mounted) (old now : Output) → AskedFor command line (stored.Asked (reply.No code)) w s t old now
    → (now.text ≡ old.text) × (w ≡ went.NotAll)
not_printed command line code w s t old now asked = go asked.reply asked.next (same asked.told) asked.tells asked.went_so
  where
    same : {q r : Reply} → stored.Asked q ≡ stored.Asked r → q ≡ r
    same e = cc

    go : (r : Reply) (n : Next) → reply.No code ≡ r → NextBy true r line n old.text now.text old.faults now.faults → w ≡ replaced_went n → (now.text ≡ old.text) × (w ≡ went.NotAll)
    go reply.Ok n is tells went_so = cc
    go (reply.No other) n is tells went_so = (tells.1.0, went_so ∙ ap replaced_went tells.0)
    go reply.FaultFrame n is tells went_so = cc
    go reply.FaultMedium n is tells went_so = cc

-- A power stop may leave the volume before the job. It does not leave the volume without a file of that name, if there was one.
old_is_left : (file : NewFile) (s : Mounted) (x : Tape) → finished_volume_of x ≡ volume_seen s.tape → OldOrNewIsLeft file s x
old_is_left file s x same own = inl same

not_purged_alone : (file : NewFile) (s : Mounted) (v w : Volume) (x : Tape) → volume_seen s.tape ≡ Some v → IsVolume s.records v
    → IsWellFormed (volume.Store (new_name_bytes file) file.kind file.field file.bytes.now) → OwnsGate s.tape → is_some (file_on v (new_name_bytes file)) ≡ true
    → finished_volume_of x ≡ Some w → is_some (file_on w (new_name_bytes file)) ≡ false → OldOrNewIsLeft file s x → ⊥
not_purged_alone file s v w x seen is formed own had here gone left =
    let has = left_has_some file s v x seen is formed own left had in
    let same : w ≡ has.0 = of (sym here ∙ has.1) in
    let no : false ≡ true = sym gone ∙ ap (λ (u : Volume). is_some (file_on u (new_name_bytes file))) same ∙ has.2 in cc
  where
    of : {u w : Volume} → Some u ≡ Some w → u ≡ w
    of e = cc

-- ---- the message of a file

digits : (kind_digits 0xE080 ≡ codes "E080") × (kind_digits 1 ≡ codes "0001")
digits = (refl, refl)

-- a program of that name stays, and the message tells its type
other_told : (file : NewFile) → replaced_message (codes "a.dat") (codes "NOTES") (ending.Went went.NotAll) file (stored.OtherType 0xE080)
    ≡ codes "tape: a.dat: NOTES: no text file (E080): purge it first\n"
other_told file = refl

-- a file that is stored has no message, and one that finds no place has the one of a store
stored_told : (file : NewFile) → (replaced_message (codes "a.dat") (codes "NOTES") (ending.Went went.Done) file (stored.Asked reply.Ok) ≡ [])
    × (replaced_message (codes "a.dat") (codes "NOTES") (ending.Went went.NotAll) file (stored.Asked (reply.No code.NoRoom))
    ≡ change_message (codes "a.dat") (codes "NOTES") (store_change file) (Some (reply.No code.NoRoom)))
stored_told file = (refl, refl)

-- a directory that was not listed, and standard output that failed, have the messages of an ending
unlisted_told : (file : NewFile) → (replaced_message (codes "a.dat") (codes "NOTES") (ending.Went went.NotAll) file (stored.Unlisted reply.FaultMedium)
    ≡ ending_message (codes "a.dat") (ending.Went went.Fault))
    × (replaced_message (codes "a.dat") (codes "NOTES") (ending.Went went.Unwritten) file (stored.Asked reply.Ok) ≡ ending_message (codes "a.dat") (ending.Went went.Unwritten))
unlisted_told file = (refl, refl)
