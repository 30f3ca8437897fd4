-- A host whose volume is ready for a command: the store is sound, and no packing is to be finished.
use Rattle.std.proofs.Common.{◌≡◌, ◌∙◌, ◌<◌, ◌≤◌, ◌+◌, ◌-◌, ◌*◌, ℕ, Bool, true, false, List, length, Option, Some, None, inl, inr, refl, sym, ap, subst, arith}
use Rattle.std.specs.Prelude.{Result, Ok, Err, IfSome, is_ok, is_some, option_and_then}
use Rattle.lif_model.specs.Tape.{Tape, record_at}
use Rattle.lif_model.specs.Header.{HeaderParts}
use Rattle.lif_model.specs.Redo.{IsSettled, settled}
use Rattle.lif_model.specs.Volume.{volume_of}
use Rattle.lif_model.specs.Apply.{VolumeCommand}
use Rattle.lif_model.proofs.Sizes.{size_bounds}
use Rattle.il_ports.specs.Media.{IsMedium, MediumView}
use Rattle.il_ports.specs.Stores.{Begun, Continues, GoesOn, IsReady, IsStore}
use Rattle.il_ports.specs.declared.records.Trouble.{Trouble}
use Rattle.il_ports.proofs.Stores.{goes_further, goes_nowhere, goes_within, quiet_nowhere, quiet_run}
use Rattle.lif_volume.specs.Views.{IsDirectoryOf, IsOpen}
use Rattle.lif_volume.specs.Changing.{SettlesForeign, TurnsVolume}
use Rattle.lif_volume.specs.Commands.{AnswersTo, IsTold, batch_calls_needed, calls_needed}
use Rattle.lif_volume.specs.declared.fault.VolumeFault.{VolumeFault}
use Rattle.lif_volume.specs.declared.fault.VolumeFault.TheVariants.{Trouble as Troubled}
use Rattle.lif_volume.specs.declared.volume.Volume.{Volume}
use Rattle.lif_model.specs.Packing.{finished_volume_of, has_mark}
use Rattle.lif_pack.specs.Packers.{IsPackerFor}
use Rattle.lif_pack.specs.declared.memory.Packer.{Packer}
use Rattle.lif_pack.specs.Tasks.{IsShownAs}
use Rattle.lif_model.specs.Finished.{IsFinished}
use Rattle.lif_pack.proofs.Finishes.{finished_unmarked, unmarked_volume}
use Rattle.il_ring.specs.declared.ring.Ring.{Ring}
use Rattle.il_ring.specs.Rings.{RingView}
use Rattle.il_record.specs.declared.records.LoopRecords.{LoopRecords}
use Rattle.il_record.specs.IsStore.{is_store_of}
use Rattle.il_script.specs.Replies.{reply_line}
use Rattle.host_model.specs.Requests.{Asks, OfVolume}
use Rattle.host_model.specs.Replies.{told_of}
use Rattle.il_ports.proofs.Transfers.{nothing_yet}
use Rattle.il_host.specs.HostView.{Performed, calls_to_pack}
use Rattle.il_host.specs.declared.file_buffer.FileBuffer.{FileBuffer}
use Rattle.il_host.specs.Hosts.{Space, space_of, IsUnmarked, IsUsable, host_in, loop_in, store_in, volume_in}
use Rattle.lif_pack.proofs.Stopped.{settles_here}
use Rattle.il_host.specs.Preparing.{Finishes, IsMadeSound, Prepares}
use Rattle.il_host.specs.Standings.{HasDriveStatus, MakesSound, fault_of}
use Rattle.il_host.proofs.FileCarries.{ShowsVolume, TellsSome}
use Rattle.il_host.proofs.FinishedFirst.{FinishedAs, MindsFirst, answered, behind, minds_failed, minds_first, turns_failed, turns_first}
use Rattle.il_host.proofs.HostVolumes.{begun_left, most_calls, none_asked, not_asked, refused, same_kept, seen_asked}
use Rattle.il_host.proofs.KeptDirectories.{Minds}
use Rattle.il_host.proofs.VolumeAsked.{asked_lists, asked_seen}
use Rattle.il_host.proofs.VolumeReplied.{AnswersSo, IsSeenAs, TurnsSo, seen_as}

-- the store was made sound as m, and where no directory was kept a packing was finished as f
pub record IsPrepared {M I : Type 0} {D : I → Type 0} (view : M → MediumView) (seen : Ring M I D → RingView M) (o b f : Volume (LoopRecords M I D)) : Type 0 where
  pub m : Volume (LoopRecords M I D)
  pub makes : MakesSound {T = Unit {0}} view (loop_in seen b.records) (loop_in seen m.records) (Ok tt)
  pub sounds : Continues {T = Unit {0}} 1 (store_in view seen b.records) (store_in view seen m.records) (Ok tt)
  pub opens : IsOpen (store_in view seen) (volume_in m)
  pub same : is_some m.kept ≡ is_some o.kept
  pub still : is_some m.kept ≡ true → f ≡ m
  pub first : Finishes {T = Unit {0}} (store_in view seen) (volume_in m) (volume_in f) (Ok tt)
  pub unmarked : IsUnmarked (store_in view seen) (volume_in m)

-- there is room and memory to finish a packing
module _ {M I : Type 0} {D : I → Type 0} (view : M → MediumView) (seen : Ring M I D → RingView M) (o b : Volume (LoopRecords M I D)) (text_space : ℕ) (file : FileBuffer) (packer : Packer)
    (usable : IsUsable view (store_in view seen) (volume_in o) (loop_in seen o.records) text_space (space_of file packer)) (began : Begun (store_in view seen o.records) (store_in view seen b.records)) where
  pub room_to_prepare : 15 * (store_in view seen b.records).record_count + 121 ≤ (store_in view seen b.records).calls_left
  room_to_prepare = omega (arith, begun_left view seen o b o text_space (space_of file packer) usable began, began.size)

  pub memory_to_pack : IsPackerFor (store_in view seen b.records).record_count packer
  memory_to_pack = record { room = usable.space_is.slots ∙ ap (λ (n : ℕ). 8 * (n - 5)) (sym began.size) }

err_not_ok : (x : Result (Unit {0}) Trouble) → is_ok x ≡ false → x ≡ Ok tt → ⊥
err_not_ok x off is = let clash : false ≡ true = sym off ∙ ap is_ok is in cc

module _ {M I : Type 0} {D : I → Type 0} (view : M → MediumView) (seen : Ring M I D → RingView M) (o b f : Volume (LoopRecords M I D)) (text_space : ℕ) (space : Space)
    (usable : IsUsable view (store_in view seen) (volume_in o) (loop_in seen o.records) text_space space) (began : Begun (store_in view seen o.records) (store_in view seen b.records))
    (law : (x : M) → IsMedium (view x)) where
  pub store_law : (r : LoopRecords M I D) → IsStore (store_in view seen r)
  store_law r = is_store_of view seen r.ring (loop_in seen r) law

  -- ---- it was prepared

  module _ (m : Volume (LoopRecords M I D)) (makes : MakesSound {T = Unit {0}} view (loop_in seen b.records) (loop_in seen m.records) (Ok tt))
      (sounds : Continues {T = Unit {0}} 1 (store_in view seen b.records) (store_in view seen m.records) (Ok tt)) (opened : IsOpen (store_in view seen) (volume_in m)) where
    -- the tape is the one before
    tape_made : (store_in view seen m.records).tape ≡ (store_in view seen o.records).tape
    tape_made =
        let now = asked_seen view seen o.records.ring b.records.ring m.records.ring (loop_in seen o.records) (loop_in seen b.records) (loop_in seen m.records)
        usable.volume_open.valid refl refl began tt makes in
        let before = seen_as view seen o.records.ring (loop_in seen o.records) in
        sym now.tape ∙ before.tape

    unmarked_made : is_some m.kept ≡ is_some o.kept → IsUnmarked (store_in view seen) (volume_in m)
    unmarked_made same t told on =
        ap (λ (k : ℕ). has_mark k (volume_of t)) (sounds.size ∙ began.size) ∙ usable.unmarked t (sym tape_made ∙ told) (sym same ∙ on)

    -- where the directory is kept nothing is to be finished
    still_finishes : is_some m.kept ≡ true → IsUnmarked (store_in view seen) (volume_in m) → Finishes {T = Unit {0}} (store_in view seen) (volume_in m) (volume_in m) (Ok tt)
    still_finishes on unmarked = record {
      goes_on = goes_within 0 (calls_to_pack (store_in view seen m.records).record_count) _ _ _ (omega arith) (goes_nowhere 0 (store_in view seen m.records) (record { valid = sounds.valid; sound = sounds.sound; left = omega arith }));
      finished = λ t told. (t, told, finished_here t told);
      shown = λ t told own.
          let here : IsShownAs t t = record { volume = refl; own_gate = own } in
          record { stops = quiet_run _ _ (IsShownAs t) t (store_law m.records) (quiet_nowhere (store_in view seen m.records)) told here; after = (t, told, here) };
      foreign = λ t told held. settles_here (store_in view seen m.records) t (store_law m.records) told;
      mounts = λ t v told is clear. record { few = omega arith; keeps = on };
      writes = λ t told off. (settles_here (store_in view seen m.records) t (store_law m.records) told, nothing_yet _ _);
      forgets = tt;
    }
      where
        kept_settled : (t : Tape) → (old : Option HeaderParts) → is_some old ≡ true → IfSome old (λ h. IsDirectoryOf t h (volume_in m).slots) → IsSettled t
        kept_settled t (Some header) on known = known.settled
        kept_settled t None on known = cc

        finished_here : (t : Tape) → IsTold (store_in view seen) (volume_in m) t → IsFinished t t
        finished_here t told =
            let rests : settled t ≡ t = kept_settled t (volume_in m).kept on (opened.known t told) in
            let clear : has_mark (length t) (volume_of t) ≡ false = ap (λ (k : ℕ). has_mark k (volume_of t)) ((store_law m.records).is_tape t told).records ∙ unmarked t told on in
            record {
              is_settled = rests;
              records = refl;
              plain = λ none. sym rests;
              below = λ k lt. ap (λ (x : Tape). record_at x k) (sym (finished_unmarked t clear ∙ rests));
              volume = sym (unmarked_volume t clear);
              clear = clear;
            }

  prepared_as : b.kept ≡ o.kept → (m : Volume (LoopRecords M I D)) → IsMadeSound view seen b m f (Ok tt) → IsPrepared view seen o b f
  prepared_as begun m is =
      let same = same_kept view seen o b m text_space space usable began m begun is.kept in
      let unmarked = unmarked_made m is.makes is.sounds is.opens same in
      record {
        m = m;
        makes = is.makes;
        sounds = is.sounds;
        opens = is.opens;
        same = same;
        still = λ on. (is.still on).0;
        first = by unmarked (is_some m.kept) refl;
        unmarked = unmarked;
      }
    where
      by : IsUnmarked (store_in view seen) (volume_in m) → (kept : Bool) → is_some m.kept ≡ kept → Finishes {T = Unit {0}} (store_in view seen) (volume_in m) (volume_in f) (Ok tt)
      by unmarked true on =
          subst (λ (v : Volume (LoopRecords M I D)). Finishes {T = Unit {0}} (store_in view seen) (volume_in m) (volume_in v) (Ok tt)) (sym (is.still on).0)
          (still_finishes m is.makes is.sounds is.opens on unmarked)
      by unmarked false off = is.finishes off

  pub prepared : (u : Unit {0}) → b.kept ≡ o.kept → Prepares view seen b f (Ok u) → IsPrepared view seen o b f
  prepared u begun (inl never) = absurd never
  prepared u begun (inr so) = prepared_as begun so.0 so.1

  -- ---- it was not

  module _ (command : VolumeCommand) (opens : IsOpen (store_in view seen) (volume_in f)) (low : HasDriveStatus (loop_in seen f.records).ring) where
    unfinished : (e : Trouble) (before : List ℕ) → b.kept ≡ o.kept → (m : Volume (LoopRecords M I D)) → IsMadeSound view seen b m f (Err e)
        → Performed (Asks (OfVolume command)) (fault_of e) (host_in view seen o before text_space space) (host_in view seen f (reply_line (fault_of e)) text_space space)
    unfinished e before begun m is = by (is_some m.kept) refl
      where
        by : (kept : Bool) → is_some m.kept ≡ kept → Performed (Asks (OfVolume command)) (fault_of e) (host_in view seen o before text_space space) (host_in view seen f (reply_line (fault_of e)) text_space space)
        by true on = absurd (err_not_ok (Err e) refl (is.still on).1)
        by false off =
            let fails = is.finishes off in
            refused view seen o b f text_space space usable began command opens low m tt is.makes is.sounds
            (same_kept view seen o b m text_space space usable began m begun is.kept)
            (Unit {0}) (Troubled e) (calls_to_pack (store_in view seen m.records).record_count) before (omega arith) fails.goes_on
            (turns_failed (store_in view seen) (volume_in m) (volume_in f) store_law e fails off command)
            (λ t u told now. tt)
            (minds_failed (store_in view seen) (volume_in m) (volume_in f) store_law e fails off command)

    pub unprepared : (e : Trouble) (before : List ℕ) → b.kept ≡ o.kept → Prepares view seen b f (Err e)
        → Performed (Asks (OfVolume command)) (fault_of e) (host_in view seen o before text_space space) (host_in view seen f (reply_line (fault_of e)) text_space space)
    unprepared e before begun (inl stays) = not_asked view seen o b f text_space space usable began command opens low e before law stays
    unprepared e before begun (inr so) = unfinished e before begun so.0 so.1

  -- ---- the volume is asked

  module _ (p : IsPrepared view seen o b f) where
    abbrev made : ℕ
    made = (store_in view seen p.m.records).record_count

    size_made : made ≡ (store_in view seen o.records).record_count
    size_made = p.sounds.size ∙ began.size

    size_first : (store_in view seen f.records).record_count ≡ made
    size_first = p.first.goes_on.continues.size

    pub size_prepared : (store_in view seen f.records).record_count ≡ (store_in view seen o.records).record_count
    size_prepared = size_first ∙ size_made

    left_first : 3 * (store_in view seen f.records).record_count + 78 ≤ (store_in view seen f.records).calls_left
    left_first = omega (arith, begun_left view seen o b f text_space space usable began, p.sounds.left, p.first.goes_on.continues.left, size_made, size_first)

    pub ready_prepared : IsReady (calls_needed (store_in view seen f.records).record_count) (store_in view seen f.records)
    ready_prepared =
        let now = p.first.goes_on.continues in
        record { valid = now.valid; sound = now.sound; left = omega (arith, left_first) }

    pub batch_prepared : IsReady (batch_calls_needed (store_in view seen f.records).record_count) (store_in view seen f.records)
    batch_prepared =
        let now = p.first.goes_on.continues in
        let bounds = size_bounds (store_in view seen o.records).record_count usable.size in
        record { valid = now.valid; sound = now.sound; left = omega (arith, left_first, bounds.0, size_made, size_first) }

    wide : 37 < made
    wide = omega (arith, usable.volume_open.size, size_made)

    still_seen : is_some p.m.kept ≡ true → volume_in f ≡ volume_in p.m
    still_seen on = ap volume_in (p.still on)

    pub some_prepared : TellsSome (store_in view seen f.records).transferred
    some_prepared =
        asked_lists view seen o.records.ring b.records.ring p.m.records.ring (loop_in seen o.records) (loop_in seen b.records) (loop_in seen p.m.records)
        usable.volume_open.valid refl refl began tt p.makes
        f.records.ring (calls_to_pack made) (loop_in seen f.records) refl p.first.goes_on

    -- the tape of the volume that is asked is that before, finished
    pub behind_prepared : (n : Volume (LoopRecords M I D)) (command : VolumeCommand) (t : Tape) → IsTold (store_in view seen) (volume_in p.m) t → FinishedAs (store_in view seen) (volume_in f) made t
    behind_prepared n command t told = behind (store_in view seen) (volume_in p.m) (volume_in f) (volume_in n) store_law p.first still_seen p.unmarked wide command t told

    module _ (n : Volume (LoopRecords M I D)) (command : VolumeCommand) (opens : IsOpen (store_in view seen) (volume_in n)) (low : HasDriveStatus (loop_in seen n.records).ring) where
      pub shows_prepared : (before : List ℕ) → ShowsVolume (host_in view seen o before text_space space).state (store_in view seen f.records)
      shows_prepared before = record { volume = ap (option_and_then finished_volume_of) asked.tape ∙ by (store_in view seen p.m.records).tape refl; records = asked.records ∙ sym size_first }
        where
          asked : IsSeenAs (host_in view seen o before text_space space).state (store_in view seen p.m.records)
          asked = seen_asked view seen o b n text_space space usable began command opens low p.m tt p.makes p.sounds p.same before

          none : (tape : Option Tape) → is_some tape ≡ false → None ≡ option_and_then volume_of tape
          none None off = refl
          none (Some t) off = cc

          by : (tape : Option Tape) → (store_in view seen p.m.records).tape ≡ tape → option_and_then finished_volume_of tape ≡ option_and_then volume_of (store_in view seen f.records).tape
          by None is = none (store_in view seen f.records).tape (p.first.goes_on.continues.told ∙ ap is_some is)
          by (Some t) is =
              let so = behind_prepared n command t is in
              sym so.finished.volume ∙ ap (option_and_then volume_of) (sym so.told)

      pub goes_prepared : {T : Type 0} (calls : ℕ) (answer : Result T Trouble) → GoesOn calls (store_in view seen f.records) (store_in view seen n.records) answer
          → GoesOn (calls_to_pack made + calls) (store_in view seen p.m.records) (store_in view seen n.records) answer
      goes_prepared calls answer goes = goes_further (calls_to_pack made) calls _ _ _ tt answer p.first.goes_on goes

      pub few_prepared : (calls : ℕ) → calls ≤ most_calls (store_in view seen f.records).record_count → calls_to_pack made + calls ≤ calls_to_pack made + most_calls made
      few_prepared calls few = omega (arith, few, size_first)

      pub turns_prepared : TurnsVolume command (store_in view seen) (volume_in f) (volume_in n) → SettlesForeign (store_in view seen) (volume_in f) (volume_in n)
          → TurnsSo command (store_in view seen) (volume_in p.m) (volume_in n)
      turns_prepared = turns_first (store_in view seen) (volume_in p.m) (volume_in f) (volume_in n) store_law p.first still_seen p.unmarked wide command

      pub answers_prepared : {T : Type 0} (answer : Result T VolumeFault) → TurnsVolume command (store_in view seen) (volume_in f) (volume_in n) → AnswersTo command (store_in view seen) (volume_in f) (volume_in n) answer
          → AnswersSo command (store_in view seen) (volume_in p.m) (volume_in n) answer
      answers_prepared answer turns answers t u told now =
          answered (store_in view seen) (volume_in p.m) (volume_in f) (volume_in n) store_law p.first still_seen p.unmarked wide command t told answer turns answers u now

      pub minds_prepared : {T E : Type 0} (answer : Result T VolumeFault) (calls : ℕ) (result : Result E Trouble) → TurnsVolume command (store_in view seen) (volume_in f) (volume_in n)
          → GoesOn calls (store_in view seen f.records) (store_in view seen n.records) result
          → Minds (store_in view seen) (volume_in f) (volume_in n) command answer → MindsFirst (store_in view seen) (volume_in p.m) (volume_in n) command answer
      minds_prepared answer calls result turns goes minds =
          minds_first (store_in view seen) (volume_in p.m) (volume_in f) (volume_in n) store_law p.first still_seen p.unmarked wide command answer minds
          (none_asked view seen o b n text_space space usable began command opens low p.m tt p.makes p.sounds p.same) turns
          (goes.continues.told ∙ p.first.goes_on.continues.told) (goes.continues.size ∙ size_first)

      pub told_prepared : (lines : List ℕ) → ((t : Tape) → IsTold (store_in view seen) (volume_in f) t → told_of command (volume_of t) ≡ lines)
          → (t : Tape) → IsTold (store_in view seen) (volume_in p.m) t → told_of command (finished_volume_of t) ≡ lines
      told_prepared lines text t told =
          let so = behind_prepared n command t told in
          ap (told_of command) (sym so.finished.volume) ∙ text so.tape so.told
