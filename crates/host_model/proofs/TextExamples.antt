-- Worked examples of requests, replies and their texts, computed by the checker.
use Rattle.std.proofs.Common.{◌≡◌, ◌++◌, ◌∙◌, ℕ, List, [], ◌∷◌, Option, Some, None, true, refl, sym, ap, codes, replicate}
use Rattle.std.specs.Fmt.{digits}
use Rattle.std.specs.Ordering.{nat_cmp}
use Rattle.std.specs.Cmp.Lexicographic.{slice_cmp}
use Rattle.std.specs.FinMap.{get, insert, empty, get-insert}
use Rattle.std.proofs.lemmas.Cmp.{nat_list_cmp_total}
use Rattle.hex.proofs.OnLiterals.{hex_on_literals}
use Rattle.hex.specs.Hex.{encode_with}
use Rattle.lif_model.specs.Numbers.{two_at, four_at}
use Rattle.lif_model.specs.Header.{label_of}
use Rattle.lif_model.specs.Gate.{is_open}
use Rattle.lif_model.specs.Directory.{name_of, implementation_of, entry_at, entries_of}
use Rattle.lif_model.specs.Made.{filled, new_entry, with_type}
use Rattle.lif_model.specs.Printed.{printed}
use Rattle.lif_model.specs.Volume.{volume_of}
use Rattle.lif_model.specs.Apply as volume
use Rattle.lif_model.specs.declared.refusal.Refusal.TheVariants as refusal
use Rattle.lif_model.proofs.Examples as base
use Rattle.lif_model.proofs.VolumeExamples.{file, purged, a_name, b_name}
use Rattle.il_frames.specs.declared.frame.Class.TheVariants as class
use Rattle.il_frames.specs.Frames.{framed}
use Rattle.il_script.specs.Replies.{code_of, reply_line}
use Rattle.il_script.specs.declared.reply.Code.TheVariants as code
use Rattle.il_script.specs.declared.reply.Reply.TheVariants as reply
use Rattle.host_model.specs.Requests.{OfVolume, Devices, Status, Poll, Say, Paper, Item, Asks, NoCommand, items_of, item_of}
use Rattle.host_model.specs.LoopStates.{LoopState, printer_at, poll_frame, all_ids}
use Rattle.host_model.specs.HostStates.{HostState, volume_at}
use Rattle.host_model.specs.Listing.{volume_line, file_line, listing}
use Rattle.host_model.specs.Replies.{reply_of, volume_behind, reply_text, label_line, data_line}
use Rattle.host_model.proofs.Small.{texts_differ, empty_host, a_host, a_tape, host_with, printer, quiet}

-- ---- requests

-- a comment and an empty line are skipped; a last line needs no line feed
items : items_of (codes "dir" ++ 10 ∷ codes "# all" ++ 10 ∷ 10 ∷ codes "store A 0001 00000000 4142" ++ 10 ∷ codes "list" ++ 10 ∷ codes "say -")
    ≡ Asks (OfVolume volume.Dir) ∷ Asks (OfVolume (volume.Store a_name 1 (replicate 4 0) (codes "AB"))) ∷ NoCommand code.BadLine ∷ Asks (Say []) ∷ []
unfolding hex_on_literals
items = refl

-- a name in small letters may be fetched and not made; a line that is too long has its own code
names : (items_of (codes "fetch a") ≡ Asks (OfVolume (volume.Fetch (codes "a         "))) ∷ [])
    × (items_of (codes "store a 0001 00000000 41") ≡ NoCommand code.BadName ∷ []) × (item_of None ≡ Some (NoCommand code.LineTooLong))
unfolding hex_on_literals
names = (refl, refl, refl)

-- ---- the volume's commands

abbrev pub asks_dir : Item
asks_dir = Asks (OfVolume volume.Dir)

abbrev pub asks_fetch : List ℕ → Item
asks_fetch name = Asks (OfVolume (volume.Fetch name))

abbrev pub asks_store : List ℕ → Item
asks_store name = Asks (OfVolume (volume.Store name 1 (replicate 4 0) (codes "AB")))

abbrev pub asks_rename : List ℕ → List ℕ → Item
asks_rename old new = Asks (OfVolume (volume.Rename old new))

abbrev pub asks_purge : List ℕ → Item
asks_purge name = Asks (OfVolume (volume.Purge name))

redo_name : List ℕ
redo_name = codes "REDOFILE  "

dir_reply : reply_of asks_dir empty_host ≡ reply.Ok
unfolding two_at four_at name_of is_open entry_at entries_of
dir_reply = refl

dir_text : reply_text asks_dir empty_host [] reply.Ok ≡ codes "volume HPTAPE 2 2 1 16" ++ 10 ∷ codes "file REDOFILE E0D0 8 4 00000000" ++ 10 ∷ codes "ok" ++ 10 ∷ []
unfolding two_at four_at name_of label_of implementation_of is_open entry_at entries_of printed volume_line file_line listing digits encode_with
dir_text = refl

-- with a file
dir_of_two : reply_text asks_dir a_host [] reply.Ok
    ≡ codes "volume HPTAPE 2 2 2 16" ++ 10 ∷ codes "file A 0001 4 1 00000000" ++ 10 ∷ codes "file REDOFILE E0D0 8 4 00000000" ++ 10 ∷ codes "ok" ++ 10 ∷ []
unfolding two_at four_at name_of label_of implementation_of is_open entry_at entries_of printed volume_line file_line listing digits encode_with
dir_of_two = refl

-- a reply without ok has its last line alone
dir_faulted : reply_text asks_dir a_host [] reply.FaultMedium ≡ codes "fault medium" ++ 10 ∷ []
dir_faulted = refl

label_text : reply_text (Asks (OfVolume volume.Label)) empty_host [] reply.Ok ≡ codes "label HPTAPE" ++ 10 ∷ codes "ok" ++ 10 ∷ []
unfolding two_at four_at name_of label_of is_open entry_at entries_of printed label_line
label_text = refl

-- all bytes of the file's record, and not only those that were stored
abbrev pub a_bytes : List ℕ
a_bytes = base.filled (codes "AB")

pub a_found : get {R = slice_cmp nat_cmp} (insert empty a_name a_bytes) a_name ≡ Some a_bytes
a_found = get-insert nat_list_cmp_total empty a_name a_bytes a_name

abbrev pub data_text : Option (List ℕ) → List ℕ
data_text found = data_line (Some (file a_name 4 1)) found ++ reply_line reply.Ok

fetch_text : reply_text (asks_fetch a_name) a_host [] reply.Ok ≡ codes "data 0001 00000000 4142" ++ (replicate 508 48 ++ 10 ∷ codes "ok" ++ 10 ∷ [])
unfolding two_at four_at name_of implementation_of is_open entry_at entries_of encode_with
fetch_text = ap data_text a_found

-- a file without records
fetch_text_of_none : data_text (Some []) ≡ codes "data 0001 00000000 -" ++ 10 ∷ codes "ok" ++ 10 ∷ []
unfolding two_at name_of implementation_of encode_with
fetch_text_of_none = refl

-- the first refusal whose condition is met, on the volume before
refusals : (reply_of (asks_fetch b_name) a_host ≡ reply.No code.NoFile) × (reply_of (asks_store a_name) a_host ≡ reply.No code.Exists)
    × (reply_of (asks_rename a_name a_name) a_host ≡ reply.Ok) × (reply_of (asks_rename a_name redo_name) a_host ≡ reply.No code.Protected)
    × (reply_of (asks_rename b_name a_name) a_host ≡ reply.No code.NoFile) × (reply_of (asks_purge redo_name) a_host ≡ reply.No code.Protected)
    × (reply_of (asks_fetch redo_name) a_host ≡ reply.No code.Protected) × (reply_of (NoCommand code.BadName) a_host ≡ reply.No code.BadName)
unfolding two_at four_at name_of is_open entry_at entries_of redo_name
refusals = (refl, refl, refl, refl, refl, refl, refl, refl)

-- the code of each refusal has its name
codes_of : (code_of refusal.NotLif ≡ code.NotLif) × (code_of refusal.NoRedo ≡ code.NoRedo) × (code_of refusal.Protected ≡ code.Protected) × (code_of refusal.NoFile ≡ code.NoFile)
    × (code_of refusal.Exists ≡ code.Exists) × (code_of refusal.NoSlot ≡ code.NoSlot) × (code_of refusal.NoRoom ≡ code.NoRoom) × (code_of refusal.InUse ≡ code.InUse)
    × (code_of refusal.NeedsUpgrade ≡ code.NeedsUpgrade) × (code_of refusal.OutOfOrder ≡ code.OutOfOrder)
codes_of = (refl, refl, refl, refl, refl, refl, refl, refl, refl, refl)

refusal_text : reply_text (asks_store a_name) a_host [] (reply.No code.Exists) ≡ codes "error 5 Exists" ++ 10 ∷ []
unfolding digits
refusal_text = refl

-- a store makes the volume with the file, and a refused one leaves the volume
store_turns : (volume_behind (asks_store a_name) empty_host ≡ volume_of a_tape) × (volume_behind (asks_store a_name) a_host ≡ volume_at a_host)
unfolding two_at four_at name_of is_open entry_at entries_of filled new_entry
store_turns = (refl, refl)

-- ---- the loop's commands

devices_text : reply_text (Asks Devices) empty_host [] reply.Ok ≡ codes "device 1 10" ++ 10 ∷ codes "device 2 20" ++ 10 ∷ codes "ok" ++ 10 ∷ []
unfolding digits encode_with
devices_text = refl

-- a device without an accessory ID
quiet_text : reply_text (Asks Devices) (host_with base.formatted (quiet ∷ [])) [] reply.Ok ≡ codes "device 1 10" ++ 10 ∷ codes "device 2 --" ++ 10 ∷ codes "ok" ++ 10 ∷ []
unfolding digits encode_with
quiet_text = refl

-- a device that stands before the drive has the lower address
before_the_drive : all_ids (record { before = printer ∷ []; status = 0; drive = empty_host.loop.drive; after = quiet ∷ []; guest = None }) ≡ Some 32 ∷ Some 16 ∷ None ∷ []
before_the_drive = refl

status_text : reply_text (Asks Status) empty_host [] reply.Ok ≡ codes "status 00" ++ 10 ∷ codes "ok" ++ 10 ∷ []
unfolding encode_with
status_text = refl

-- with another status of the drive
abbrev pub with_status : ℕ → HostState → HostState
with_status n s = record s { loop = record s.loop { status = n } }

-- the status and, since it is not 0, the bit that asks for service
status_2_text : reply_text (Asks Status) (with_status 2 empty_host) [] reply.Ok ≡ codes "status 42" ++ 10 ∷ codes "ok" ++ 10 ∷ []
unfolding encode_with
status_2_text = refl

-- with a printer that wants service in the place of the other
abbrev pub with_waiting : HostState → HostState
with_waiting s = record s { loop = record s.loop { after = record printer { wants = true } ∷ [] } }

poll_text : reply_text (Asks Poll) empty_host [] reply.Ok ≡ codes "poll 00 quiet" ++ 10 ∷ codes "ok" ++ 10 ∷ []
unfolding encode_with
poll_text = refl

-- party 2 has bit 1, the drive bit 0
poll_waiting : (reply_text (Asks Poll) (with_waiting empty_host) [] reply.Ok ≡ codes "poll 02 service" ++ 10 ∷ codes "ok" ++ 10 ∷ [])
    × (reply_text (Asks Poll) (with_status 1 (with_waiting empty_host)) [] reply.Ok ≡ codes "poll 03 service" ++ 10 ∷ codes "ok" ++ 10 ∷ [])
unfolding encode_with
poll_waiting = (refl, refl)

-- the ninth party has no bit, but its service bit
abbrev pub nine : LoopState
nine = record { before = replicate 8 printer; status = 3; drive = empty_host.loop.drive; after = []; guest = None }

poll_of_nine : poll_frame nine ≡ framed class.Isr 0
poll_of_nine = refl

-- ---- the printer

-- with a printer that heard HI
abbrev pub with_paper : HostState → HostState
with_paper s = record s { loop = record s.loop { after = record printer { heard = codes "HI"; heard_count = 2 } ∷ [] } }

say_replies : (reply_of (Asks (Say (codes "HI"))) empty_host ≡ reply.Ok) × (printer_at empty_host.loop ≡ Some 2)
    × (reply_of (Asks (Say (codes "A"))) (host_with base.formatted (quiet ∷ [])) ≡ reply.No code.NoPrinter)
say_replies = (refl, refl, refl)

paper_text : (reply_text (Asks Paper) (with_paper empty_host) [] reply.Ok ≡ codes "paper 4849 2" ++ 10 ∷ codes "ok" ++ 10 ∷ [])
    × (reply_text (Asks Paper) empty_host [] reply.Ok ≡ codes "paper - 0" ++ 10 ∷ codes "ok" ++ 10 ∷ [])
unfolding digits encode_with
paper_text = (refl, refl)

-- the drive alone
no_paper : (reply_of (Asks Paper) (host_with base.formatted []) ≡ reply.No code.NoPrinter)
    × (reply_text (Asks Paper) (host_with base.formatted []) [] (reply.No code.NoPrinter) ≡ codes "error 12 NoPrinter" ++ 10 ∷ [])
unfolding digits
no_paper = (refl, refl)

-- ---- what is not printed

-- a purged slot counts as used, and has no line
abbrev pub purged_host : HostState
purged_host = host_with (base.tape_with (purged (file a_name 4 1) ++ base.redo_entry ++ base.end_entry)) (printer ∷ [])

dir_of_purged : reply_text asks_dir purged_host [] reply.Ok ≡ codes "volume HPTAPE 2 2 2 16" ++ 10 ∷ codes "file REDOFILE E0D0 8 4 00000000" ++ 10 ∷ codes "ok" ++ 10 ∷ []
unfolding two_at four_at name_of label_of implementation_of is_open entry_at entries_of printed with_type volume_line file_line listing digits encode_with
dir_of_purged = refl

used_without_purged : reply_text asks_dir purged_host [] reply.Ok ≡ codes "volume HPTAPE 2 2 1 16" ++ 10 ∷ codes "file REDOFILE E0D0 8 4 00000000" ++ 10 ∷ codes "ok" ++ 10 ∷ [] → ⊥
unfolding two_at four_at name_of label_of implementation_of is_open entry_at entries_of printed with_type volume_line file_line listing digits encode_with
used_without_purged = texts_differ _ _ refl

-- numbers are decimal
dir_in_hex : reply_text asks_dir empty_host [] reply.Ok ≡ codes "volume HPTAPE 2 2 1 10" ++ 10 ∷ codes "file REDOFILE E0D0 8 4 00000000" ++ 10 ∷ codes "ok" ++ 10 ∷ [] → ⊥
unfolding two_at four_at name_of label_of implementation_of is_open entry_at entries_of printed volume_line file_line listing digits encode_with
dir_in_hex = texts_differ _ _ refl

fetch_cut_short : data_text (Some a_bytes) ≡ codes "data 0001 00000000 4142" ++ 10 ∷ codes "ok" ++ 10 ∷ [] → ⊥
unfolding two_at name_of implementation_of encode_with
fetch_cut_short = texts_differ _ _ refl

-- of two refusals the first in their order
exists_before_missing : reply_of (asks_rename b_name a_name) a_host ≡ reply.No code.Exists → ⊥
unfolding two_at four_at name_of is_open entry_at entries_of
exists_before_missing h = other_code (sym no_file ∙ h)
  where
    no_file : reply_of (asks_rename b_name a_name) a_host ≡ reply.No code.NoFile
    no_file = refl

    other_code : reply.No code.NoFile ≡ reply.No code.Exists → ⊥
    other_code same = cc

no_id_as_zero : reply_text (Asks Devices) (host_with base.formatted (quiet ∷ [])) [] reply.Ok ≡ codes "device 1 10" ++ 10 ∷ codes "device 2 00" ++ 10 ∷ codes "ok" ++ 10 ∷ [] → ⊥
unfolding digits encode_with
no_id_as_zero = texts_differ _ _ refl

status_of_one_digit : reply_text (Asks Status) empty_host [] reply.Ok ≡ codes "status 0" ++ 10 ∷ codes "ok" ++ 10 ∷ [] → ⊥
unfolding encode_with
status_of_one_digit = texts_differ _ _ refl

status_without_service : reply_text (Asks Status) (with_status 2 empty_host) [] reply.Ok ≡ codes "status 02" ++ 10 ∷ codes "ok" ++ 10 ∷ [] → ⊥
unfolding encode_with
status_without_service = texts_differ _ _ refl

poll_by_the_drive : reply_text (Asks Poll) (with_waiting empty_host) [] reply.Ok ≡ codes "poll 01 service" ++ 10 ∷ codes "ok" ++ 10 ∷ [] → ⊥
unfolding encode_with
poll_by_the_drive = texts_differ _ _ refl

paper_of_nothing : reply_text (Asks Paper) empty_host [] reply.Ok ≡ codes "paper  0" ++ 10 ∷ codes "ok" ++ 10 ∷ [] → ⊥
unfolding digits encode_with
paper_of_nothing = texts_differ _ _ refl

fault_with_lines : reply_text (Asks Status) empty_host [] reply.FaultFrame ≡ codes "status 00" ++ 10 ∷ codes "fault frame" ++ 10 ∷ [] → ⊥
fault_with_lines = texts_differ _ _ refl
