-- A command of the volume, as a host performs it.
use Rattle.std.proofs.Common.{◌≡◌, ◌∙◌, ◌≤◌, ◌+◌, ◌-◌, ◌*◌, ◌++◌, ℕ, true, List, length, [], Option, None, Some, refl, sym, ap, subst, arith}
use Rattle.std.specs.Prelude.{◌≢◌, if◌then◌else◌, Bool, false, Result, Ok, Err, IfSome, is_some, map}
use Rattle.lif_dir.specs.Entries.{name_bytes, slot_bytes}
use Rattle.lif_dir.specs.Names.{label_bytes, made_name}
use Rattle.lif_model.proofs.Legal.{legal_tells}
use Rattle.lif_model.proofs.Slots.{readable_tells}
use Rattle.lif_model.specs.Header.{HeaderParts}
use Rattle.lif_model.specs.Tape.{Tape}
use Rattle.lif_model.specs.Volume.{volume_of, Volume as LifVolume}
use Rattle.lif_model.specs.Packing.{finished, finished_volume_of, has_mark}
use Rattle.lif_plan.specs.Directories.{IsLegalDirectory}
use Rattle.lif_model.specs.Apply.{VolumeCommand, Dir, Label, Fetch, Store, Rename, Purge, Adopt, Upgrade, Batch, Format}
use Rattle.lif_model.specs.Shelf.{IsSize}
use Rattle.lif_model.proofs.Sizes.{size_bounds}
use Rattle.il_ports.specs.Media.{MediumView, IsMedium}
use Rattle.il_ports.specs.Stores.{RecordsView, Begun, Continues, GoesOn}
use Rattle.il_ports.specs.declared.records.Trouble.{Trouble}
use Rattle.il_ports.specs.declared.records.Trouble.TheVariants as trouble
use Rattle.lif_volume.specs.Views.{IsOpen, VolumeView}
use Rattle.lif_volume.specs.Answers.{store_answer}
use Rattle.lif_volume.specs.Commands.{directory_records, mounting}
use Rattle.lif_volume.specs.declared.fault.VolumeFault.{VolumeFault}
use Rattle.lif_volume.specs.declared.fault.VolumeFault.TheVariants.{Refused, Trouble as Troubled}
use Rattle.lif_volume.specs.declared.volume.Volume.{Volume}
use Rattle.il_ring.specs.declared.ring.Ring.{Ring}
use Rattle.il_ring.specs.Rings.{RingView}
use Rattle.il_record.specs.declared.records.LoopRecords.{LoopRecords}
use Rattle.loop_model.specs.Effect.{Transferred}
use Rattle.il_record.specs.LoopStores.{LoopView, calls_in, view_of}
use Rattle.il_record.specs.IsStore.{is_store_of}
use Rattle.il_script.specs.declared.reply.Reply.{Reply}
use Rattle.il_script.specs.declared.reply.Reply.TheVariants as reply
use Rattle.il_script.specs.declared.command.Command.{Command}
use Rattle.il_script.specs.declared.command.Command.TheVariants as command
use Rattle.il_script.specs.Sheet.{Sheet}
use Rattle.il_script.specs.Replies.{code_of, reply_line}
use Rattle.host_model.specs.Requests.{Asks, Item, OfVolume, is_of_volume, request_of}
use Rattle.host_model.specs.HostStates.{HostState, log_room, text_room, volume_at}
use Rattle.host_model.specs.Replies.{reply_text, told_of}
use Rattle.host_model.specs.Directories.{IsKeptBehind}
use Rattle.host_model.specs.Steps.{Event, KeepsDirectory, LeavesOnTape, TellsReply}
use Rattle.lif_model.specs.Finished.{IsPlain}
use Rattle.host_model.specs.Tapes.{CommitsOnly, IsWritten}
use Rattle.host_model.proofs.Tapes.{is_fault, tape_faulted, tape_other}
use Rattle.lif_model.specs.Redo.{redo_of, settled}
use Rattle.lif_model.specs.Changing.{changes_filed}
use Rattle.lif_redo.specs.Writing.{writes_among}
use Rattle.host_model.specs.LoopStates.{ring_of}
use Rattle.lif_model.specs.Commit.{IsSettleWrite, SettlesAs}
use Rattle.lif_model.proofs.Commit.{settles_self}
use Rattle.il_ports.specs.Transfers.{WritesOnly}
use Rattle.il_host.proofs.LeftTapes.{one_tape, plain_kept}
use Rattle.host_model.proofs.Steps.{ring_stays}
use Rattle.il_host.specs.HostView.{HostView, Performed, TakesAtMost, calls_behind, calls_to_pack, calls_to_prepare, is_packing, most_beside, records_asked}
use Rattle.il_host.specs.Hosts.{HasSpaceFor, Space, IsUnmarked, IsUsable, host_in, loop_in, store_in, volume_in}
use Rattle.il_host.specs.Preparing.{StaysUnsound}
use Rattle.il_host.specs.PlainCommands.{ChangesVolume, IsOnVolume, OnVolume}
use Rattle.il_host.specs.Shorts.{AllShort}
use Rattle.il_host.proofs.Shorts.{short_behind}
use Rattle.il_host.specs.Standings.{Ends, HasDriveStatus, IsHostRing, KeepsPage, MakesSound, MakesSoundBy, event_at, fault_of, state_at, volume_reply}
use Rattle.il_host.proofs.Texts.{ok_text}
use Rattle.il_host.proofs.VolumeCarries.{CarriesAs, IsFormedAs, none_carried, not_carried}
use Rattle.il_host.proofs.VolumeCommands.{KeepsRing}
use Rattle.il_host.proofs.VolumePerforms.{Performs, volume_asked, volume_failed, volume_not_asked}
use Rattle.il_host.proofs.KeptDirectories.{TellsNothing, forgets_it, is_commit, kept_before, ok_is_kept, some_beside, sound_kept, still_kept, told_log}
use Rattle.il_host.proofs.FinishedFirst.{MindsFirst}
use Rattle.il_host.proofs.Sounding.{acts_keeping, keeping, stops_keeping}
use Rattle.il_host.proofs.VolumeStarts.{Emptied, volume_begun}
use Rattle.il_host.proofs.VolumeAsked.{asked_seen, asked_transferred}
use Rattle.il_host.proofs.VolumeReplied.{AnswersSo, IsSeenAs, broke_quiet, tape_still, seen_as, told_tape, TurnsSo}
use Rattle.il_frames.specs.declared.entry.Entry.{Entry}

-- ---- room

-- how many calls the log of a host is enough for
room_of : {M S : Type 0} (view : M → MediumView) (seen : S → RingView M) (p : S) (l : LoopView M) → IsHostRing view l.ring → (view_of view seen p l).room ≡ calls_in (log_room (view_of view seen p l).record_count)
room_of view seen p l own = ap calls_in own

-- how many calls are left after a log
left_of : {M S : Type 0} (view : M → MediumView) (seen : S → RingView M) (p : S) (l : LoopView M) → IsHostRing view l.ring → (view_of view seen p l).calls_left ≡ calls_behind (view_of view seen p l).record_count (l.ring.books.log)
left_of view seen p l own = ap (λ room. calls_in (room - length l.ring.books.log)) own

pub enough_calls : (n : ℕ) → IsSize n → 18 * n + 199 ≤ calls_in (log_room n)
enough_calls n size = let bounds = size_bounds n size in omega (arith, bounds.0, bounds.1)

-- no command of a volume takes more on a tape of n records: to mount, to write its files, and to commit
abbrev pub most_calls : ℕ → ℕ
most_calls n = n + 138

-- to make a directory kept takes fewer
pub mounts_few : {R S : Type 0} (view : R → RecordsView S) (old new : VolumeView R) → IsOpen view new → (view new.records).record_count ≡ (view old.records).record_count
    → mounting (view old.records).record_count old.kept new.kept ≤ (view old.records).record_count + 66
mounts_few view old new is same = subst (λ n. mounting n old.kept new.kept ≤ n + 66) same (by old.kept new.kept is.legal)
  where
    by : (was kept : Option HeaderParts) → IfSome kept (λ header. IsLegalDirectory (view new.records).record_count header (map slot_bytes new.slots)) → mounting (view new.records).record_count was kept ≤ (view new.records).record_count + 66
    by (Some header) kept legal = omega arith
    by None None legal = omega (arith, is.size)
    by None (Some header) legal =
        let n = (view new.records).record_count in
        let readable = readable_tells n legal.bytes (legal_tells n legal.bytes (map slot_bytes new.slots) legal.legal).readable in
        let long = ap (λ (h : HeaderParts). h.length) legal.told in
        omega (arith, is.size, readable.0, readable.2, long)

pub mounting_few : {R S : Type 0} (view : R → RecordsView S) (old new : VolumeView R) → IsOpen view new → (view new.records).record_count ≡ (view old.records).record_count
    → mounting (view old.records).record_count old.kept new.kept ≤ most_calls (view old.records).record_count
mounting_few view old new is same = omega (arith, mounts_few view old new is same, is.size, same)

-- ---- the text of a reply other than ok

pub fault_text : (item : Item) (s : HostState) (log : List Entry) (e : Trouble) → reply_text item s log (fault_of e) ≡ reply_line (fault_of e)
fault_text item s log trouble.Frame = refl
fault_text item s log trouble.Medium = refl

no_lines : (command : VolumeCommand) (volume : Option LifVolume) → TellsNothing command → told_of command volume ≡ []
no_lines command None nothing = refl
no_lines Dir (Some v) nothing = absurd nothing
no_lines Label (Some v) nothing = absurd nothing
no_lines (Fetch name) (Some v) nothing = absurd nothing
no_lines (Store name kind implementation bytes) (Some v) nothing = refl
no_lines (Rename old new) (Some v) nothing = refl
no_lines (Purge name) (Some v) nothing = refl
no_lines Adopt (Some v) nothing = refl
no_lines Upgrade (Some v) nothing = refl
no_lines (Batch parts) (Some v) nothing = refl
no_lines (Format label slots) (Some v) nothing = refl

nothing_told : (command : VolumeCommand) (volume : Option LifVolume) (s : HostState) (log : List Entry) (r : Reply) → volume_at s ≡ volume → TellsNothing command → reply_text (Asks (OfVolume command)) s log r ≡ reply_line r
nothing_told command volume s log reply.Ok is nothing = ap (λ lines. lines ++ reply_line reply.Ok) (no_lines command (volume_at s) nothing)
nothing_told command volume s log _ is nothing = refl

-- ---- requests

-- a command of the volume, as one that the volume performs
pub volume_request : (c : Command) (bytes : List ℕ) → IsOnVolume c → (command : VolumeCommand) × (request_of c bytes ≡ OfVolume command)
volume_request command.Dir bytes on = (Dir, refl)
volume_request command.Label bytes on = (Label, refl)
volume_request (command.Store name kind implementation) bytes on = (Store (name_bytes (made_name name)) kind implementation bytes, refl)
volume_request (command.Rename old new) bytes on = (Rename (name_bytes old) (name_bytes (made_name new)), refl)
volume_request (command.Purge name) bytes on = (Purge (name_bytes name), refl)
volume_request (command.Format label slots) bytes on = (Format (label_bytes label) slots, refl)
volume_request command.Adopt bytes on = (Adopt, refl)
volume_request command.Upgrade bytes on = (Upgrade, refl)
volume_request _ bytes on = absurd on

-- one that is neither of the two that tell something changes the volume, and tells nothing
pub changes_volume : (c : Command) → IsOnVolume c → c ≢ command.Dir → c ≢ command.Label → ChangesVolume c
changes_volume command.Dir on no_dir no_label = absurd (no_dir refl)
changes_volume command.Label on no_dir no_label = absurd (no_label refl)
changes_volume (command.Store name kind implementation) on no_dir no_label = tt
changes_volume (command.Rename old new) on no_dir no_label = tt
changes_volume (command.Purge name) on no_dir no_label = tt
changes_volume (command.Format label slots) on no_dir no_label = tt
changes_volume command.Adopt on no_dir no_label = tt
changes_volume command.Upgrade on no_dir no_label = tt
changes_volume _ on no_dir no_label = absurd on

-- what is said of it
pub on_volume : (P : VolumeCommand → Type 0) (c : Command) (bytes : List ℕ) → ChangesVolume c → OnVolume (request_of c bytes) P
    → (command : VolumeCommand) × (request_of c bytes ≡ OfVolume command) × TellsNothing command × ((answer : Result (Unit {0}) VolumeFault) → IsFormedAs command answer) × P command
on_volume P (command.Store name kind implementation) bytes changes has = (Store (name_bytes (made_name name)) kind implementation bytes, refl, tt, λ answer. tt, has)
on_volume P (command.Rename old new) bytes changes has = (Rename (name_bytes old) (name_bytes (made_name new)), refl, tt, λ answer. tt, has)
on_volume P (command.Purge name) bytes changes has = (Purge (name_bytes name), refl, tt, λ answer. tt, has)
on_volume P (command.Format label slots) bytes changes has = (Format (label_bytes label) slots, refl, tt, λ answer. tt, has)
on_volume P command.Adopt bytes changes has = (Adopt, refl, tt, λ answer. tt, has)
on_volume P command.Upgrade bytes changes has = (Upgrade, refl, tt, λ answer. tt, has)
on_volume _ _ bytes changes has = absurd changes

-- ---- the page and the volume after the last line

pub page_kept : {X : Type 0} (page : Sheet) (room : X) → KeepsPage page room page room
page_kept page room = record { page = refl; room = refl }

-- the last line ended the text, after these lines on a page that was blank
ends_at : {M I : Type 0} {D : I → Type 0} (view : M → MediumView) (seen : Ring M I D → RingView M) (item : Item) (answered told : Reply) (v : HostView) (n m : Volume (LoopRecords M I D)) (first page last : Sheet) (f g h : Space) (lines : List ℕ)
    → page ≡ record first { text = lines } → g ≡ f → Ends answered n page g told m last h
    → Performed item answered v (host_in view seen n (lines ++ reply_line answered) first.room f) → Performed item told v (host_in view seen m last.text last.room h)
ends_at {M} {I} {D} view seen item answered told v n m first page last f g h lines begun same ends did =
    let end : last ≡ record first { text = lines ++ reply_line answered } = ends.page ∙ ap (λ (p : Sheet). record p { text = p.text ++ reply_line answered }) begun in
    subst (λ told. Performed item told v (host_in view seen m last.text last.room h)) (sym ends.reply)
    (subst (λ (m : Volume (LoopRecords M I D)). Performed item answered v (host_in view seen m last.text last.room h)) (sym ends.volume)
    (subst (λ (p : Sheet). Performed item answered v (host_in view seen n p.text p.room h)) (sym end)
    (subst (λ (room : Space). Performed item answered v (host_in view seen n (lines ++ reply_line answered) first.room room)) (sym (ends.room ∙ same)) did)))

module _ {M I : Type 0} {D : I → Type 0} {view : M → MediumView} {seen : Ring M I D → RingView M} {item : Item} {answered told : Reply} {v : HostView} {n m : Volume (LoopRecords M I D)} {first mid last : Sheet} {f g h : Space} where
  -- nothing else was written
  pub ends_blank : KeepsPage first f mid g → first.text ≡ [] → Ends answered n mid g told m last h
      → Performed item answered v (host_in view seen n (reply_line answered) first.room f) → Performed item told v (host_in view seen m last.text last.room h)
  ends_blank keeps blank ends did =
      ends_at view seen item answered told v n m first mid last f g h [] (keeps.page ∙ ap (λ text. record first { text = text }) blank) keeps.room ends did

  -- these lines were written
  pub ends_told : {page : Sheet} (lines : List ℕ) → KeepsPage first f mid g → first.text ≡ [] → page ≡ record mid { text = mid.text ++ lines } → Ends answered n page g told m last h
      → Performed item answered v (host_in view seen n (lines ++ reply_line answered) first.room f) → Performed item told v (host_in view seen m last.text last.room h)
  ends_told {page} lines keeps blank put ends did =
      ends_at view seen item answered told v n m first page last f g h lines
      (put ∙ ap (λ (p : Sheet). record p { text = p.text ++ lines }) keeps.page ∙ ap (λ text. record first { text = text ++ lines }) blank) keeps.room ends did

-- ---- a host over a volume that was o before, b after the emptying of its log and n in the end

module _ {M I : Type 0} {D : I → Type 0} (view : M → MediumView) (seen : Ring M I D → RingView M) (o b n : Volume (LoopRecords M I D)) (text_space : ℕ) (space : Space)
    (usable : IsUsable view (store_in view seen) (volume_in o) (loop_in seen o.records) text_space space) (began : Begun (store_in view seen o.records) (store_in view seen b.records)) where
  abbrev count : ℕ
  count = (store_in view seen o.records).record_count

  -- where the store is made sound, a directory that was kept is kept
  pub same_kept : (m : Volume (LoopRecords M I D)) → b.kept ≡ o.kept → m.kept ≡ (if b.records.sound then b.kept else None) → is_some m.kept ≡ is_some o.kept
  same_kept m begun made = ap is_some made ∙ by b.records.sound refl
    where
      emptied : Emptied view (loop_in seen o.records) (loop_in seen b.records)
      emptied = volume_begun view seen o.records.ring b.records.ring (loop_in seen o.records) (loop_in seen b.records) usable.volume_open.valid refl refl began

      none : (kept : Bool) → is_some o.kept ≡ kept → b.records.sound ≡ false → false ≡ kept
      none true is off = let clash : false ≡ true = sym off ∙ emptied.sound ∙ usable.kept is in cc
      none false is off = refl

      by : (sound : Bool) → b.records.sound ≡ sound → is_some (if sound then b.kept else None) ≡ is_some o.kept
      by true is = ap is_some begun
      by false is = none (is_some o.kept) refl is

  -- the log has room for so many calls
  pub begun_calls : calls_in (log_room count) ≤ (store_in view seen b.records).calls_left
  begun_calls = let room = room_of view seen o.records.ring (loop_in seen o.records) usable.log in omega (arith, began.enough, room)

  -- so for every command of the volume, for a packing that is finished before it, and for one call more
  pub begun_left : 18 * count + 199 ≤ (store_in view seen b.records).calls_left
  begun_left =
      let calls = begun_calls in
      let enough = enough_calls count usable.size in
      omega (arith, calls, enough)

  module _ (opens : IsOpen (store_in view seen) (volume_in n)) where
    -- it can be used again
    usable_behind : (store_in view seen n.records).record_count ≡ count → KeepsRing view (loop_in seen o.records) (loop_in seen n.records) → AllShort (state_at view (loop_in seen n.records)).loop
        → (is_some n.kept ≡ true → n.records.sound ≡ true) → IsUnmarked (store_in view seen) (volume_in n) → IsUsable view (store_in view seen) (volume_in n) (loop_in seen n.records) text_space space
    usable_behind size keeps short kept unmarked = record {
      volume_open = opens;
      size = subst IsSize (sym size) usable.size;
      stands = opens.valid;
      kept = kept;
      log = keeps.room;
      short = short;
      text = usable.text ∙ ap text_room (sym size);
      space_is = subst (λ n. HasSpaceFor n space) (sym size) usable.space_is;
      unmarked = unmarked;
    }

    -- the event of the item, with what is kept of the directory
    abbrev pub event_kept : Item → Reply → Event
    event_kept item answered = keeping (event_at view item answered (loop_in seen o.records) (loop_in seen n.records)) (is_some o.kept) (is_some n.kept)

    -- so many records at most were read and written since the log was emptied
    abbrev pub Took : ℕ → Type 0
    Took most = (store_in view seen b.records).calls_left ≤ (store_in view seen n.records).calls_left + most

    abbrev pub TookFew : Item → Type 0
    TookFew item = Took (2 * count + 40 + calls_to_pack count)
        × (is_packing item ≡ false → (t : Tape) → (state_at view (loop_in seen o.records)).tape ≡ Some t
        → Took (directory_records (finished t) + records_asked item (finished t) + 200 + calls_to_prepare count (volume_of t)))
        × (is_packing item ≡ false → (t : Tape) → (state_at view (loop_in seen o.records)).tape ≡ Some t → is_some o.kept ≡ true
        → Took (records_asked item (finished t) + most_beside item))

    pub performed : (item : Item) (answered : Reply) (before after : List ℕ) → (store_in view seen n.records).record_count ≡ count
        → Performs view seen o.records.ring n.records.ring item answered (loop_in seen o.records) (loop_in seen n.records) → KeepsDirectory (event_kept item answered)
        → (TellsReply item (host_in view seen o before text_space space).state → after ≡ reply_text item (host_in view seen o before text_space space).state ((loop_in seen n.records).ring.books.log) answered)
        → (is_of_volume item ≡ true → TookFew item × IsUnmarked (store_in view seen) (volume_in n) × LeavesOnTape (event_kept item answered))
        → Performed item answered (host_in view seen o before text_space space) (host_in view seen n after text_space space)
    performed item answered before after size did directory text few = record {
      valid = usable_behind size did.keeps (short_behind _ did.step usable.short) sound unmarked;
      plan = did.keeps.plan;
      step = record {
        acts = acts_keeping ((loop_in seen o.records).ring.books.plan) (event_at view item answered (loop_in seen o.records) (loop_in seen n.records)) (is_some o.kept) (is_some n.kept)
            (λ none. still_kept item (is_some o.kept) answered (is_some n.kept) none directory.kept) did.step;
        directory = directory;
        tape = tape;
      };
      text = text;
      stops = stops_keeping (event_at view item answered (loop_in seen o.records) (loop_in seen n.records)) (is_some o.kept) (is_some n.kept) _ _ _ _ did.stops;
      images = did.keeps.images;
      calls = λ is.
          let most = (few is).0 in
          record {
            all = subst (λ k. TakesAtMost k (2 * k + 40 + calls_to_pack k) ((loop_in seen n.records).ring.books.log)) (sym records) (takes (2 * count + 40 + calls_to_pack count) most.0);
            on_tape = λ other t told.
                subst (λ k. TakesAtMost k (directory_records (finished t) + records_asked item (finished t) + 200 + calls_to_prepare k (volume_of t)) ((loop_in seen n.records).ring.books.log)) (sym records)
                (takes _ (most.1 other t told));
            from_kept = λ other t told on. subst (λ k. TakesAtMost k (records_asked item (finished t) + most_beside item) ((loop_in seen n.records).ring.books.log)) (sym records) (takes _ (most.2 other t told on));
          };
    }
      where
        records : (state_at view (loop_in seen o.records)).records ≡ count
        records = refl

        left : (store_in view seen n.records).calls_left ≡ calls_behind count ((loop_in seen n.records).ring.books.log)
        left = left_of view seen n.records.ring (loop_in seen n.records) did.keeps.room ∙ ap (λ count. calls_behind count ((loop_in seen n.records).ring.books.log)) size

        takes : (most : ℕ) → Took most → TakesAtMost count most ((loop_in seen n.records).ring.books.log)
        takes most took = omega (arith, begun_calls, took, left)

        sound : is_some n.kept ≡ true → n.records.sound ≡ true
        sound on =
            sound_kept item answered (is_some o.kept) (is_some n.kept) (state_at view (loop_in seen o.records)).sound (state_at view (loop_in seen n.records)).sound
            did.step.sound (λ none. ap (λ (s : HostState). s.sound) (did.step.still none).1)
            usable.kept directory.kept on

        tape : LeavesOnTape (event_kept item answered)
        tape = by (is_of_volume item) refl
          where
            by : (of : Bool) → is_of_volume item ≡ of → LeavesOnTape (event_kept item answered)
            by true is = (few is).2
            by false other = tape_other (event_kept item answered) other

        -- an item that is not of the volume leaves the tape
        unmarked : IsUnmarked (store_in view seen) (volume_in n)
        unmarked = by (is_of_volume item) refl
          where
            by : (of : Bool) → is_of_volume item ≡ of → IsUnmarked (store_in view seen) (volume_in n)
            by true is = (few is).1
            by false other = λ t told on.
                let before = seen_as view seen o.records.ring (loop_in seen o.records) in
                let after = seen_as view seen n.records.ring (loop_in seen n.records) in
                let here : (store_in view seen o.records).tape ≡ Some t = sym before.tape ∙ sym (did.step.replied.stays other) ∙ after.tape ∙ told in
                ap (λ (k : ℕ). has_mark k (volume_of t)) size ∙ usable.unmarked t here (kept_before item (is_some o.kept) answered (is_some n.kept) other directory.kept on)

  -- the store could not be made sound: it was not sound
  pub unsound : (e : Trouble) (new : LoopView M) → MakesSound {T = Unit {0}} view (loop_in seen b.records) new (Err e) → b.records.sound ≡ false
  unsound e new makes = by b.records.sound makes
    where
      by : (sound : Bool) → MakesSoundBy {T = Unit {0}} view sound (loop_in seen b.records) new (Err e) → sound ≡ false
      by true makes = absurd makes
      by false makes = refl

  -- then no directory is kept
  pub forgotten_unsound : (e : Trouble) → StaysUnsound view seen b n e → is_some n.kept ≡ false
  forgotten_unsound e stays = ap is_some (stays.kept ∙ ap (λ sound. if sound then b.kept else None) (unsound e (loop_in seen n.records) stays.makes))

  -- and the tape is as it was
  unsound_tape : (e : Trouble) → StaysUnsound view seen b n e → (state_at view (loop_in seen n.records)).tape ≡ (state_at view (loop_in seen o.records)).tape
  unsound_tape e stays =
      let emptied = volume_begun view seen o.records.ring b.records.ring (loop_in seen o.records) (loop_in seen b.records) usable.volume_open.valid refl refl began in
      let still = broke_quiet view seen b.records.ring n.records.ring (loop_in seen b.records) (loop_in seen n.records) emptied.stands (Unit {0}) e stays.makes in
      tape_still (Asks (OfVolume Dir)) (store_in view seen b.records) (store_in view seen n.records) (state_at view (loop_in seen b.records)) (state_at view (loop_in seen n.records)) [] (seen_as view seen b.records.ring (loop_in seen b.records))
      (seen_as view seen n.records.ring (loop_in seen n.records)) still
      ∙ ap (λ (s : HostState). s.tape) emptied.state

  module _ (command : VolumeCommand) (opens : IsOpen (store_in view seen) (volume_in n)) (low : HasDriveStatus (loop_in seen n.records).ring) where
    -- and the volume was not asked
    pub not_asked : (e : Trouble) (before : List ℕ) → ((m : M) → IsMedium (view m)) → StaysUnsound view seen b n e
        → Performed (Asks (OfVolume command)) (fault_of e) (host_in view seen o before text_space space) (host_in view seen n (reply_line (fault_of e)) text_space space)
    not_asked e before law stays =
        let store = is_store_of view seen o.records.ring (loop_in seen o.records) law in
        let used = stays.sounds.left in
        let left : 1 ≤ (store_in view seen n.records).calls_left = let enough = begun_left in omega (arith, enough, used) in
        let off = forgotten_unsound e stays in
        let same = unsound_tape e stays in
        let did = volume_not_asked view seen o.records.ring b.records.ring n.records.ring command (loop_in seen o.records) (loop_in seen b.records) (loop_in seen n.records)
        usable.volume_open.valid refl refl began usable.log low left (Unit {0}) e store stays.makes in
        performed opens (Asks (OfVolume command)) (fault_of e) before (reply_line (fault_of e)) (stays.sounds.size ∙ began.size)
        (subst (λ e. Performs view seen o.records.ring n.records.ring (Asks (OfVolume command)) (fault_of e) (loop_in seen o.records) (loop_in seen n.records)) (sym did.0) did.1)
        (subst (λ e. KeepsDirectory (event_kept opens (Asks (OfVolume command)) (fault_of e))) (sym did.0)
        (record { kept = subst (IsKeptBehind command (is_some o.kept) reply.FaultFrame) (sym off) (forgets_it command (is_some o.kept) trouble.Frame); log = λ on. tt }))
        (λ told. sym (fault_text (Asks (OfVolume command)) (host_in view seen o before text_space space).state ((loop_in seen n.records).ring.books.log) e))
        (λ is. (
          (omega (arith, used), λ other t told. omega (arith, used), λ other t told on. omega (arith, used, some_beside (Asks (OfVolume command)))),
          λ t told on. let clash : true ≡ false = sym on ∙ off in cc,
          tape_faulted (event_kept opens (Asks (OfVolume command)) (fault_of e)) (ap (λ x. is_fault (fault_of x)) did.0)
              (λ on t u was now none. subst (SettlesAs (settled t)) (one_tape (state_at view (loop_in seen n.records)).tape t u (same ∙ was) now) (settles_self t)),
        ))

    -- the store was made sound as m, and the volume was asked
    module _ (m : Volume (LoopRecords M I D)) (u : Unit {0}) (makes : MakesSound view (loop_in seen b.records) (loop_in seen m.records) (Ok u)) (sounds : Continues {T = Unit {0}} 1 (store_in view seen b.records) (store_in view seen m.records) (Ok u)) (same : is_some m.kept ≡ is_some o.kept) where
      -- where the volume is asked, its store has the tape of the host, and nothing was read or written yet
      pub seen_asked : (before : List ℕ) → IsSeenAs (host_in view seen o before text_space space).state (store_in view seen m.records)
      seen_asked before =
          let so = asked_seen view seen o.records.ring b.records.ring m.records.ring (loop_in seen o.records) (loop_in seen b.records) (loop_in seen m.records)
          usable.volume_open.valid refl refl began u makes in
          record { tape = so.tape; records = so.records }

      pub none_asked : (store_in view seen m.records).transferred []
      none_asked =
          asked_transferred view seen o.records.ring b.records.ring m.records.ring (loop_in seen o.records) (loop_in seen b.records) (loop_in seen m.records)
          usable.volume_open.valid refl refl began u makes

      -- the tape that is told
      pub told_asked : (before : List ℕ) → TellsReply (Asks (OfVolume command)) (host_in view seen o before text_space space).state
          → (t : Tape) × ((host_in view seen o before text_space space).state.tape ≡ Some t) × ((store_in view seen m.records).tape ≡ Some t)
      told_asked before told =
          let t = told_tape (host_in view seen o before text_space space).state.tape (told refl) in
          (t.0, t.1, sym (seen_asked before).tape ∙ t.1)

      pub asked : {T : Type 0} (answer : Result T VolumeFault) (calls : ℕ) (before after : List ℕ) → calls ≤ calls_to_pack (store_in view seen m.records).record_count + most_calls (store_in view seen m.records).record_count
          → GoesOn calls (store_in view seen m.records) (store_in view seen n.records) (store_answer answer)
          → TurnsSo command (store_in view seen) (volume_in m) (volume_in n) → AnswersSo command (store_in view seen) (volume_in m) (volume_in n) answer
          → CarriesAs command (volume_reply answer) (host_in view seen o before text_space space).state.records (volume_at (host_in view seen o before text_space space).state) (store_in view seen n.records).transferred
          → MindsFirst (store_in view seen) (volume_in m) (volume_in n) command answer
          → (TellsReply (Asks (OfVolume command)) (host_in view seen o before text_space space).state → after ≡ reply_text (Asks (OfVolume command)) (host_in view seen o before text_space space).state ((loop_in seen n.records).ring.books.log) (volume_reply answer))
          → Performed (Asks (OfVolume command)) (volume_reply answer) (host_in view seen o before text_space space) (host_in view seen n after text_space space)
      asked {T} answer calls before after few goes turns answers carries minds text =
          performed opens (Asks (OfVolume command)) (volume_reply answer) before after (goes.continues.size ∙ sounds.size ∙ began.size) ran (directory ran) text
          (λ is. (
            (
              most,
              λ other t told. omega (arith, sounds.left, minds.on_tape t (at_asked t told), prepares t),
              λ other t told on. omega (arith, sounds.left, minds.from_kept t (at_asked t told) (same ∙ on)),
            ),
            minds.unmarked,
            tape ran,
          ))
        where
          prepares : (t : Tape) → calls_to_prepare (store_in view seen m.records).record_count (volume_of t) ≡ calls_to_prepare count (volume_of t)
          prepares t = ap (λ k. calls_to_prepare k (volume_of t)) (sounds.size ∙ began.size)

          most : (store_in view seen b.records).calls_left ≤ (store_in view seen n.records).calls_left + (2 * count + 40 + calls_to_pack count)
          most =
              let used = sounds.left in
              let more = goes.continues.left in
              let size = sounds.size ∙ began.size in
              let bounds = size_bounds count usable.size in
              omega (arith, used, more, few, size, bounds.0)

          left : 1 ≤ (store_in view seen n.records).calls_left
          left =
              let enough = begun_left in
              let used = sounds.left in
              let more = goes.continues.left in
              let size = sounds.size ∙ began.size in
              let bounds = size_bounds count usable.size in
              omega (arith, enough, used, more, few, size, bounds.0)

          did : (answer : Result T VolumeFault) → GoesOn calls (store_in view seen m.records) (store_in view seen n.records) (store_answer answer) → AnswersSo command (store_in view seen) (volume_in m) (volume_in n) answer
              → CarriesAs command (volume_reply answer) (host_in view seen o before text_space space).state.records (volume_at (host_in view seen o before text_space space).state) (store_in view seen n.records).transferred
              → Performs view seen o.records.ring n.records.ring (Asks (OfVolume command)) (volume_reply answer) (loop_in seen o.records) (loop_in seen n.records)
          did (Ok x) goes answers carries =
              volume_asked view seen o.records.ring b.records.ring n.records.ring command (loop_in seen o.records) (loop_in seen b.records) (loop_in seen n.records)
              usable.volume_open.valid refl refl began usable.log low left u m.records.ring calls (loop_in seen m.records) makes refl turns.0 turns.1 None goes answers carries
          did (Err (Refused why)) goes answers carries =
              volume_asked view seen o.records.ring b.records.ring n.records.ring command (loop_in seen o.records) (loop_in seen b.records) (loop_in seen n.records)
              usable.volume_open.valid refl refl began usable.log low left u m.records.ring calls (loop_in seen m.records) makes refl turns.0 turns.1 (Some why) goes answers carries
          did (Err (Troubled e)) goes answers carries =
              volume_failed view seen o.records.ring b.records.ring n.records.ring command (loop_in seen o.records) (loop_in seen b.records) (loop_in seen n.records)
              usable.volume_open.valid refl refl began usable.log low left u m.records.ring calls (loop_in seen m.records) makes refl turns.0 turns.1 e goes

          ran : Performs view seen o.records.ring n.records.ring (Asks (OfVolume command)) (volume_reply answer) (loop_in seen o.records) (loop_in seen n.records)
          ran = did answer goes answers carries

          at_asked : (t : Tape) → (state_at view (loop_in seen o.records)).tape ≡ Some t → (store_in view seen m.records).tape ≡ Some t
          at_asked t told = sym (seen_asked before).tape ∙ told

          emptied : Emptied view (loop_in seen o.records) (loop_in seen b.records)
          emptied = volume_begun view seen o.records.ring b.records.ring (loop_in seen o.records) (loop_in seen b.records) usable.volume_open.valid refl refl began

          -- where the directory is kept the store was sound, and its log is empty
          empty : is_some o.kept ≡ true → (loop_in seen m.records).ring.books.log ≡ []
          empty on =
              let still : loop_in seen m.records ≡ loop_in seen b.records = subst (λ sound. MakesSoundBy view sound (loop_in seen b.records) (loop_in seen m.records) (Ok u)) (emptied.sound ∙ usable.kept on) makes in
              ap (λ (l : LoopView M). l.ring.books.log) still ∙ emptied.log

          size_asked : (store_in view seen m.records).record_count ≡ count
          size_asked = sounds.size ∙ began.size

          told_behind : (x : Tape) → (state_at view (loop_in seen n.records)).tape ≡ Some x → (store_in view seen n.records).tape ≡ Some x
          told_behind x after = sym (seen_as view seen n.records.ring (loop_in seen n.records)).tape ∙ after

          tape : Performs view seen o.records.ring n.records.ring (Asks (OfVolume command)) (volume_reply answer) (loop_in seen o.records) (loop_in seen n.records)
              → LeavesOnTape (event_kept opens (Asks (OfVolume command)) (volume_reply answer))
          tape ran = record {
            plain = λ of ok x y was now.
                subst (λ k. IsPlain k y) (goes.continues.size ∙ size_asked)
                (plain_kept (store_in view seen) (volume_in n) opens minds.unmarked (ok_is_kept command (is_some m.kept) (volume_reply answer) (is_some n.kept) minds.kept ok) y (told_behind y now));
            same = λ on x y was now. minds.tape.same on x y (at_asked x was) (told_behind y now);
            writes = λ on x was off.
                let ring = ring_stays _ (state_at view (loop_in seen o.records)).loop (state_at view (loop_in seen n.records)).loop ran.step.next.devices in
                let more = (minds.tape.writes on x (at_asked x was) (ap (λ k. has_mark k (volume_of x)) size_asked ∙ off)).goes_on [] none_asked in
                record {
                  list = more.0;
                  transferred = subst (λ l. Transferred l ((loop_in seen n.records).ring.books.log) more.0) ring (told_log view seen n.records.ring (loop_in seen n.records) more.0 more.1);
                  only = subst (λ k. WritesOnly (IsSettleWrite k (redo_of x)) more.0) size_asked more.2;
                };
            reads = λ on x y was now off. minds.tape.reads on x y (at_asked x was) (told_behind y now) (ap (λ k. has_mark k (volume_of x)) size_asked ∙ off);
            commits = λ ok changes x was off.
                let ring = ring_stays _ (state_at view (loop_in seen o.records)).loop (state_at view (loop_in seen n.records)).loop ran.step.next.devices in
                let all = (minds.tape.commits ok changes x (at_asked x was) (ap (λ k. has_mark k (volume_of x)) size_asked ∙ off)).goes_on [] none_asked in
                subst (λ k. CommitsOnly command k (ring_of (state_at view (loop_in seen o.records)).loop) ((loop_in seen n.records).ring.books.log) x) size_asked (record {
                  first = all.0;
                  rest = all.1;
                  transferred = subst (λ l. Transferred l ((loop_in seen n.records).ring.books.log) (all.0 ++ all.1)) ring (told_log view seen n.records.ring (loop_in seen n.records) (all.0 ++ all.1) all.2);
                  settles = all.3;
                  commits = record {
                    more = all.5.more;
                    are = all.5.are;
                    single = all.5.single;
                    commit = is_commit _ _ _ (changes_filed (store_in view seen m.records).record_count command (volume_of x) (settled x)) (writes_among all.5.more) all.5.writes;
                  };
                });
            written = λ x y was now. subst (λ k. IsWritten (volume_reply answer) (Asks (OfVolume command)) k x y) size_asked (minds.tape.written x y (at_asked x was) (told_behind y now));
            again = λ is. cc;
          }

          directory : Performs view seen o.records.ring n.records.ring (Asks (OfVolume command)) (volume_reply answer) (loop_in seen o.records) (loop_in seen n.records)
              → KeepsDirectory (event_kept opens (Asks (OfVolume command)) (volume_reply answer))
          directory ran = record {
            kept = subst (λ was. IsKeptBehind command was (volume_reply answer) (is_some n.kept)) same minds.kept;
            log = λ on.
                let ring = ring_stays _ (state_at view (loop_in seen o.records)).loop (state_at view (loop_in seen n.records)).loop ran.step.next.devices in
                minds.log (same ∙ on) (host_in view seen o before text_space space).state ((loop_in seen n.records).ring.books.log) (seen_asked before).tape
                (sym (sounds.size ∙ began.size))
                (λ rests. ap (λ (r : LoopRecords M I D). (loop_in seen r).ring.books.log) rests ∙ empty on)
                (λ list was. subst (λ l. Transferred l ((loop_in seen n.records).ring.books.log) list) ring (told_log view seen n.records.ring (loop_in seen n.records) list was));
          }

      -- it replied ok: what it tells of a told tape was written
      pub done : {T : Type 0} (x : T) (calls : ℕ) (before lines : List ℕ) → calls ≤ calls_to_pack (store_in view seen m.records).record_count + most_calls (store_in view seen m.records).record_count
          → GoesOn {T = Unit {0}} calls (store_in view seen m.records) (store_in view seen n.records) (Ok tt)
          → TurnsSo command (store_in view seen) (volume_in m) (volume_in n) → AnswersSo command (store_in view seen) (volume_in m) (volume_in n) (Ok x)
          → CarriesAs command reply.Ok (host_in view seen o before text_space space).state.records (volume_at (host_in view seen o before text_space space).state) (store_in view seen n.records).transferred
          → MindsFirst (store_in view seen) (volume_in m) (volume_in n) command (Ok x)
          → ((t : Tape) → (store_in view seen m.records).tape ≡ Some t → told_of command (finished_volume_of t) ≡ lines)
          → Performed (Asks (OfVolume command)) reply.Ok (host_in view seen o before text_space space) (host_in view seen n (lines ++ reply_line reply.Ok) text_space space)
      done x calls before lines few goes turns answers carries minds text =
          asked (Ok x) calls before (lines ++ reply_line reply.Ok) few goes turns answers carries minds
          (λ told. let t = told_asked before told in sym (ok_text command (host_in view seen o before text_space space).state ((loop_in seen n.records).ring.books.log) t.0 lines t.1 (text t.0 t.2)))

      -- it was refused, or the store failed
      pub refused : (T : Type 0) (fault : VolumeFault) (calls : ℕ) (before : List ℕ) → calls ≤ calls_to_pack (store_in view seen m.records).record_count + most_calls (store_in view seen m.records).record_count
          → GoesOn calls (store_in view seen m.records) (store_in view seen n.records) (store_answer {T = T} (Err fault))
          → TurnsSo command (store_in view seen) (volume_in m) (volume_in n) → AnswersSo {T = T} command (store_in view seen) (volume_in m) (volume_in n) (Err fault)
          → MindsFirst {T = T} (store_in view seen) (volume_in m) (volume_in n) command (Err fault)
          → Performed (Asks (OfVolume command)) (volume_reply {T = Unit {0}} (Err fault)) (host_in view seen o before text_space space) (host_in view seen n (reply_line (volume_reply {T = Unit {0}} (Err fault))) text_space space)
      refused T fault calls before few goes turns answers minds = by fault goes answers minds
        where
          by : (fault : VolumeFault) → GoesOn calls (store_in view seen m.records) (store_in view seen n.records) (store_answer {T = T} (Err fault)) → AnswersSo {T = T} command (store_in view seen) (volume_in m) (volume_in n) (Err fault)
              → MindsFirst {T = T} (store_in view seen) (volume_in m) (volume_in n) command (Err fault)
              → Performed (Asks (OfVolume command)) (volume_reply {T = Unit {0}} (Err fault)) (host_in view seen o before text_space space) (host_in view seen n (reply_line (volume_reply {T = Unit {0}} (Err fault))) text_space space)
          by (Refused why) goes answers minds =
              asked {T = T} (Err (Refused why)) calls before (reply_line (reply.No (code_of why))) few goes turns answers (not_carried command (reply.No (code_of why)) _ _ _ tt) minds (λ told. refl)
          by (Troubled e) goes answers minds =
              asked {T = T} (Err (Troubled e)) calls before (reply_line (fault_of e)) few goes turns answers (none_carried command e _ _ _) minds (λ told. sym (fault_text (Asks (OfVolume command)) (host_in view seen o before text_space space).state ((loop_in seen n.records).ring.books.log) e))

      -- a command that tells nothing answered
      pub changed : {T : Type 0} (answer : Result T VolumeFault) (calls : ℕ) (before : List ℕ) → TellsNothing command → calls ≤ calls_to_pack (store_in view seen m.records).record_count + most_calls (store_in view seen m.records).record_count
          → GoesOn calls (store_in view seen m.records) (store_in view seen n.records) (store_answer answer)
          → TurnsSo command (store_in view seen) (volume_in m) (volume_in n) → AnswersSo command (store_in view seen) (volume_in m) (volume_in n) answer
          → CarriesAs command (volume_reply answer) (host_in view seen o before text_space space).state.records (volume_at (host_in view seen o before text_space space).state) (store_in view seen n.records).transferred
          → MindsFirst (store_in view seen) (volume_in m) (volume_in n) command answer
          → Performed (Asks (OfVolume command)) (volume_reply answer) (host_in view seen o before text_space space) (host_in view seen n (reply_line (volume_reply answer)) text_space space)
      changed answer calls before nothing few goes turns answers carries minds =
          asked answer calls before (reply_line (volume_reply answer)) few goes turns answers carries minds
          (λ told. sym (nothing_told command (volume_at (host_in view seen o before text_space space).state) (host_in view seen o before text_space space).state ((loop_in seen n.records).ring.books.log) (volume_reply answer) refl nothing))
