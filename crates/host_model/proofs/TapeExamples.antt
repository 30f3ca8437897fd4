-- Events that a command of the volume is refused for what it leaves of the tape.
use Rattle.std.proofs.Common.{◌≡◌, ◌∙◌, ◌*◌, ◌++◌, ℕ, true, List, [], ◌∷◌, Some, None, map, refl, sym, ap, subst, arith, codes, get_or, length, replicate, set}
use Rattle.lif_model.specs.Numbers.{two_at, four_at}
use Rattle.lif_model.specs.Shelf.{piece}
use Rattle.lif_model.specs.Tape.{Tape, record_at}
use Rattle.lif_model.specs.Gate.{is_open}
use Rattle.lif_model.specs.Redo.{Changes, is_valid, redo_of, targets_record, zeros}
use Rattle.lif_model.specs.Directory.{name_of, entry_at, entries_of}
use Rattle.lif_model.specs.Made.{with_type}
use Rattle.lif_model.specs.Writing.{with_entry}
use Rattle.lif_model.specs.Volume.{volume_of}
use Rattle.lif_model.specs.Apply as volume
use Rattle.lif_model.proofs.Examples as base
use Rattle.lif_model.proofs.VolumeExamples.{file, a_name}
use Rattle.lif_model.specs.Changing.{IsWrittenOn}
use Rattle.il_script.specs.declared.reply.Code.TheVariants as code
use Rattle.il_script.specs.declared.reply.Reply.{Reply}
use Rattle.il_script.specs.declared.reply.Reply.TheVariants as reply
use Rattle.host_model.specs.Requests.{OfVolume, Asks, Item}
use Rattle.host_model.specs.Steps.{Event, LeavesOnTape, event}
use Rattle.lif_model.specs.Commit.{IsSettleWrite}
use Rattle.il_ports.specs.Transfers.{WritesOnly}
use Rattle.lif_model.specs.Transfers.{Transfer}
use Rattle.lif_redo.specs.Writing.{writes_among}
use Rattle.loop_model.specs.Effect.{Transferred, transfer_of}
use Rattle.loop_model.specs.Exchanges.{IsWhole, Piece, Receive, Send, Sst, Stopped, Whole}
use Rattle.loop_model.specs.Loops.{host_loop}
use Rattle.loop_model.specs.Units.{units_of}
use Rattle.loop_model.proofs.WholeReadings.{same_transfers}
use Rattle.host_model.specs.Directories.{AreFilesAndCommit}
use Rattle.host_model.specs.Tapes.{CommitsOnly, OnlySettling}
use Rattle.host_model.proofs.Tapes.{settles_each}
use Rattle.host_model.proofs.FetchExample.{fetch_event, fetch_pieces}
use Rattle.host_model.proofs.LoopExamples.{byte}
use Rattle.host_model.proofs.StepExamples.{log_of}
use Rattle.host_model.proofs.TextExamples.{a_bytes}
use Rattle.host_model.proofs.Small.{a_tape, host_on, numbers_differ}

abbrev asks : volume.VolumeCommand → Item
asks command = Asks (OfVolume command)

-- the item replied so, and made one tape of the other
abbrev turns : Item → Reply → Tape → Tape → ℕ → Event
turns item r t u n = event item r [] (host_on t n) (host_on u n)

-- byte 0 of a record
abbrev first_byte : Tape → ℕ → ℕ
first_byte t k = get_or (record_at t k) 0 0

-- ---- a `fetch` writes back what it read

-- the pieces of a fetch, and then a seek of record 4, its bytes, and the status 00
abbrev wrote_pieces : List Piece
wrote_pieces = fetch_pieces ++ Whole (Send 1 (Some 4) (map byte (0 ∷ 4 ∷ []))) ∷ Whole (Send 1 (Some 2) (map byte a_bytes)) ∷ Whole (Receive 1 None Sst (Stopped 1 [] (byte 0))) ∷ []

abbrev wrote_event : Event
wrote_event = record fetch_event { log = log_of wrote_pieces }

wrote_whole : IsWhole (host_loop 2 1) (log_of wrote_pieces)
wrote_whole = record { reading = record { pieces = wrote_pieces; legal = refl; entries = refl }; whole = refl }

-- its units, however the log is read
wrote_units : (so : OnlySettling 12 (host_loop 2 1) (log_of wrote_pieces) a_tape) → WritesOnly (IsSettleWrite 12 (redo_of a_tape)) (map transfer_of (units_of (host_loop 2 1) wrote_pieces))
unfolding wrote_whole
wrote_units so =
    settles_each 2 1 12 (log_of wrote_pieces) a_tape wrote_whole so (map transfer_of (units_of (host_loop 2 1) wrote_pieces))
    (record { reading = wrote_whole.reading; outside = refl; good = refl; are = refl })

fetch_wrote : LeavesOnTape wrote_event → ⊥
unfolding two_at four_at name_of is_open entry_at entries_of is_valid targets_record piece zeros
fetch_wrote so =
    let covers = (wrote_units (so.writes refl a_tape refl refl)).1.0 refl in
    let size : 256 ≡ 256 * covers.count = covers.whole in
    covers.each 0 (omega (arith, size))

-- ---- `adopt` of an adopted volume writes back what a record has

abbrev again_pieces : List Piece
again_pieces = Whole (Send 1 (Some 4) (map byte (0 ∷ 4 ∷ []))) ∷ Whole (Send 1 (Some 2) (map byte a_bytes)) ∷ Whole (Receive 1 None Sst (Stopped 1 [] (byte 0))) ∷ []

abbrev again_event : Event
again_event = record fetch_event { item = asks volume.Adopt; log = log_of again_pieces }

again_whole : IsWhole (host_loop 2 1) (log_of again_pieces)
again_whole = record { reading = record { pieces = again_pieces; legal = refl; entries = refl }; whole = refl }

abbrev put_back : Transfer
put_back = record { writes = true; first = 4; bytes = a_bytes }

-- its one unit
again_units : (list : List Transfer) → Transferred (host_loop 2 1) (log_of again_pieces) list → (put_back ∷ []) ≡ list
unfolding again_whole
again_units list told = same_transfers 2 1 (log_of again_pieces) list again_whole told

-- nothing is to be settled, and `adopt` changes nothing: that unit is one too many
not_one_more : (first rest : List Transfer) → (put_back ∷ []) ≡ (first ++ rest) → WritesOnly (λ k. ⊥) first → AreFilesAndCommit 12 [] [] rest → ⊥
not_one_more [] rest is settles commits =
    let none : (4, a_bytes) ∷ [] ≡ [] = ap writes_among (is ∙ commits.are) ∙ commits.commit in
    numbers_differ 1 0 refl (ap (λ (ws : Changes). length ws) none)
not_one_more (x ∷ first) rest is settles commits =
    let same : put_back ≡ x = ap (λ (ts : List Transfer). get_or ts 0 put_back) is in
    let covers = settles.0 (sym (ap (λ (t : Transfer). t.writes) same)) in
    let size : 256 ≡ 256 * covers.count = ap (λ (t : Transfer). length t.bytes) same ∙ covers.whole in
    covers.each 0 (omega (arith, size))

-- it sends nothing
adopted_quiet : CommitsOnly volume.Adopt 12 (host_loop 2 1) [] a_tape
unfolding two_at four_at name_of is_open entry_at entries_of is_valid targets_record piece zeros
adopted_quiet = record {
  first = [];
  rest = [];
  transferred = record { reading = record { pieces = []; legal = refl; entries = refl }; outside = refl; good = refl; are = refl };
  settles = tt;
  commits = record { more = []; are = refl; single = tt; commit = refl };
}

adopted_wrote : LeavesOnTape again_event → ⊥
unfolding two_at four_at name_of is_open entry_at entries_of is_valid targets_record piece zeros
adopted_wrote so =
    let is = so.commits refl refl a_tape refl refl in
    not_one_more is.first is.rest (again_units (is.first ++ is.rest) is.transferred) is.settles is.commits

-- ---- `dir` leaves the redo open that it found

abbrev open_tape : Tape
open_tape = set (set (set a_tape 8 (base.filled (codes "LIFREDO1 OPEN   "))) 9 (base.filled (codes "LIFREDO1" ++ (0 ∷ 1 ∷ 0 ∷ 2 ∷ []))))
    10 (base.filled (file a_name 4 1 ++ base.redo_entry ++ base.end_entry))

left_open : LeavesOnTape (turns (asks volume.Dir) reply.Ok open_tape open_tape 12) → ⊥
unfolding two_at four_at name_of is_open entry_at entries_of is_valid targets_record piece zeros
left_open so = numbers_differ 0 76 refl (ap (λ t. first_byte t 8) (so.plain refl refl open_tape open_tape refl refl).is_settled)

-- ---- `dir` of an image that holds no volume replies NotLif, and writes over record 5

abbrev blanks : Tape
blanks = replicate 12 base.blank

not_lif : LeavesOnTape (turns (asks volume.Dir) (reply.No code.NotLif) blanks (set blanks 5 (replicate 256 7)) 12) → ⊥
unfolding two_at four_at name_of is_open entry_at entries_of is_valid targets_record piece zeros
not_lif so = numbers_differ 7 0 refl (ap (λ t. first_byte t 5) ((so.same refl blanks (set blanks 5 (replicate 256 7)) refl refl).plain refl))

-- nor if the medium fails
faulted_dir : LeavesOnTape (turns (asks volume.Dir) reply.FaultMedium blanks (set blanks 5 (replicate 256 7)) 12) → ⊥
unfolding two_at four_at name_of is_open entry_at entries_of is_valid targets_record piece zeros
faulted_dir so =
    let alike = so.reads refl blanks (set blanks 5 (replicate 256 7)) refl refl refl in
    numbers_differ 7 0 refl (ap (λ (r : List ℕ). get_or r 0 0) (alike.same 5 (numbers_differ 5 8 refl)))

-- ---- a `store` that is refused wrote its file's records; so may no fetch

refused_store : LeavesOnTape (turns (asks (volume.Store a_name 1 (0 ∷ 0 ∷ 0 ∷ 0 ∷ []) (7 ∷ []))) (reply.No code.Exists) a_tape (set a_tape 5 (replicate 256 7)) 12) → ⊥
unfolding two_at four_at name_of is_open entry_at entries_of is_valid targets_record piece zeros
refused_store so = numbers_differ 7 0 refl (ap (λ t. first_byte t 5) ((so.same refl a_tape (set a_tape 5 (replicate 256 7)) refl refl).plain refl))

-- ---- a `purge` that is ok also writes over a free record

-- the file's entry is that of a purged one
abbrev purged_tape : Tape
unfolding with_type with_entry
purged_tape = set a_tape 2 (with_entry (record_at a_tape 2) 0 (with_type 0 (file a_name 4 1)))

-- what purging leaves is told of each record below the redo file
by_purge : (x u : Tape) → x ≡ a_tape → IsWrittenOn 12 (volume.Purge a_name) (volume_of x) x u → record_at u 5 ≡ record_at a_tape 5
unfolding two_at four_at name_of is_open entry_at entries_of is_valid targets_record piece zeros with_type with_entry
by_purge x u is written = (subst (λ (y : Tape). IsWrittenOn 12 (volume.Purge a_name) (volume_of y) y u) is written).below 5 (omega arith)

free_written : LeavesOnTape (turns (asks (volume.Purge a_name)) reply.Ok a_tape (set purged_tape 5 (replicate 256 7)) 12) → ⊥
unfolding two_at four_at name_of is_open entry_at entries_of is_valid targets_record piece zeros with_type with_entry
free_written so =
    let u = set purged_tape 5 (replicate 256 7) in
    let did = so.written a_tape u refl refl in
    numbers_differ 7 0 refl (ap (λ (r : List ℕ). get_or r 0 0) (by_purge did.0 u (did.1.plain refl) did.2))
