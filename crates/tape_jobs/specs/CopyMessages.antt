-- What the job `out` writes on standard error.
use Rattle.std.specs.Prelude.{◌++◌, ℕ, Bool, true, false, List, [], codes, if◌then◌else◌}
use Rattle.std.specs.List.{flat_map}
use Rattle.lif_model.specs.Printed.{printed}
use Rattle.lif_dir.specs.Entries.{name_bytes}
use Rattle.tape_folder.specs.declared.keeping.Kept.TheVariants as kept
use Rattle.tape_jobs.specs.Out.{is_copied}
use Rattle.tape_jobs.specs.declared.copying.FileEnd.{FileEnd}
use Rattle.tape_jobs.specs.declared.copying.FileEnd.TheVariants as file_end
use Rattle.tape_jobs.specs.declared.copying.Taken.{Taken}
use Rattle.tape_volumes.specs.declared.went.Went.TheVariants as went
use Rattle.tape_volumes.specs.declared.ending.Ending.{Ending}
use Rattle.tape_volumes.specs.declared.ending.Ending.TheVariants as ending
use Rattle.tape_volumes.specs.Endings.{advice_of, cause_of, ending_message, of_image, told_line}

-- the messages of the files tell what was not done
abbrev pub is_by_files : Ending → Bool
is_by_files (ending.Went went.Done) = true
is_by_files (ending.Went went.NotAll) = true
is_by_files e = false

-- what the message concerns: the image, or the folder of that path
abbrev pub concerned : (image path : List ℕ) → Ending → List ℕ
concerned image path (ending.Went went.FolderLost) = path
concerned image path e = image

abbrev pub copy_message : (image path : List ℕ) → Ending → List ℕ
copy_message image path e = if is_by_files e then [] else ending_message (concerned image path e) e

-- the ending of a job on that file, if the file was not read
abbrev pub ending_by : FileEnd → Ending
ending_by (file_end.Refused code) = ending.Went (went.Refused code)
ending_by _ = ending.Went went.Fault

-- why a file was not copied
abbrev pub end_cause : FileEnd → List ℕ
end_cause (file_end.Kept kept.Differs) = codes "the folder has something else of that name"
end_cause (file_end.Kept _) = codes "it could not be written to the folder"
end_cause e = cause_of (ending_by e)

abbrev pub end_advice : FileEnd → List ℕ
end_advice (file_end.Kept _) = []
end_advice e = advice_of (ending_by e)

-- the message of a file, if it was not copied
abbrev pub end_message : (image : List ℕ) → Taken → List ℕ
end_message image taken = if is_copied taken.end then []
    else told_line (of_image image (printed (name_bytes taken.name))) (end_cause taken.end) (end_advice taken.end)

-- the messages of the job: that of its ending, and one for each file that was not copied
abbrev pub copy_messages : (image path : List ℕ) → Ending → List Taken → List ℕ
copy_messages image path e ends = copy_message image path e ++ flat_map (end_message image) ends
