-- A run of records that is written: its three exchanges make one unit, and the records hold the bytes, or the first of them do.
use Rattle.std.proofs.Common.{◌≡◌, ◌∙◌, ◌≤◌, ◌<◌, ◌+◌, ◌*◌, ◌/◌, ◌^◌, ◌++◌, ◌==◌, inl, ⊎_elim, ℕ, suc, Bool, true, false, List, [], ◌∷◌, Option, Some, None, take, length, get_or, refl, sym, ap, subst, arith}
use Rattle.std.specs.Prelude.{MatchBool, is_some}
use Rattle.std.specs.List.{list_all}
use Rattle.std.specs.Int.{to_be_bytes, w16}
use Rattle.std.proofs.Math.Seq.{take-length}
use Rattle.std.proofs.lemmas.Bool.{eq-eqb, ne_eqb}
use Rattle.std.proofs.lemmas.List.{length-map, length-take-le, get_or-take}
use Rattle.il_frames.specs.declared.frame.Frame.{Frame}
use Rattle.il_frames.specs.Frames.{byte_of}
use Rattle.il_poll.specs.Service.{status_byte_of}
use Rattle.il_device.specs.declared.device.Out.{Out}
use Rattle.il_ports.specs.Media.{MediumView, IsMedium}
use Rattle.lif_model.specs.Tape.{Tape}
use Rattle.lif_model.specs.Causes.{Rose}
use Rattle.lif_model.specs.Shelf.{cut, bytes_of as joined}
use Rattle.lif_model.specs.Transfers.{Replaced, PartlyReplaced, cut_up, all_pieces, full_pieces}
use Rattle.lif_model.proofs.Transfers.{PartlyReplaced-nothing}
use Rattle.il_drive.specs.State.{DriveView}
use Rattle.il_drive.specs.Steps.{IsStill}
use Rattle.il_drive.specs.Runs as runs
use Rattle.il_drive.specs.Resting.{IsFree, HasKept}
use Rattle.il_drive.proofs.ExchangesBroken.{AsSent, breaks_off}
use Rattle.il_drive.proofs.ExchangesStill.{leaves_records, puts-taken, puts-write}
use Rattle.il_drive.proofs.ExchangesWriting.{HasSentOut, WroteAll, WrotePart, left_partly, writes_run}
use Rattle.loop_model.specs.Effect.{UnitsEffect, is_good}
use Rattle.loop_model.specs.Exchanges.{Echo, Exchange, Send, Receive, Sst, Stopped, Piece, Whole as WholeOne, Cut, Break, entries_of, cut_at, is_echo, bytes_of}
use Rattle.loop_model.specs.Units.{RecordUnit, units_of, ends_within, sent_bytes}
use Rattle.loop_model.proofs.EffectLaws.{ends_within-broken}
use Rattle.loop_model.proofs.RecordLaws.{one_unit, units_of-write, units_of-write_untold, units_of-write_cut, units_of-write_unbegun, sought-write}
use Rattle.il_ring.specs.Rings.{RingView, devices_of, drive_party}
use Rattle.il_control.specs.Brought.{AllCome}
use Rattle.il_control.specs.Calls.{IsIdle, loop_of}
use Rattle.il_control.proofs.Brings.{send_brings, send_from_here}
use Rattle.il_record.specs.Came.{OnlyHeard, CameUnits}
use Rattle.il_record.specs.Runs.{LeavesRecords, WrotePartly, Polled, NotPolled, unit, WriteRun, NotWritten, WriteBroke, WroteAs}
use Rattle.il_record.specs.Sends.{filled, SentAll, SendBroke}
use Rattle.il_record.specs.Talks.{Talked}
use Rattle.il_record.proofs.Asked.{all_data}
use Rattle.il_record.proofs.Cuts.{counts_up}
use Rattle.il_record.proofs.CutSends.{CutSend, InFront, InData, CutData, cut_send, send_front, none_sent, some_sent, cut_within}
use Rattle.il_record.proofs.Pieces.{cut_filled, bytes_filled, all_of, full_of}
use Rattle.il_record.proofs.Readings.{legal_answer}
use Rattle.il_record.proofs.HeardLogs.{heard_none, heard_then, send_echoes}
use Rattle.il_record.proofs.ReadRuns.{same_party, SoughtBy, sought_by, seek_broke, outside_three, leaves_same, sent_received, talked_three, count_same}
use Rattle.il_record.proofs.Sends.{length-filled}
use Rattle.il_record.proofs.Talks.{made_talked, broken_talked, talked_then}

-- ---- the medium

-- what was kept before stays so where no record changes after it
keep_still : (first : ℕ) (pieces : List (List ℕ)) (v w x : MediumView) → HasKept first pieces v w → IsStill w x → HasKept first pieces v x
keep_still first pieces v w x kept still = record {
  stays_in = record {
    told = still.stays_in.told ∙ kept.stays_in.told;
    inside = still.stays_in.inside ∙ kept.stays_in.inside;
    size = still.stays_in.size ∙ kept.stays_in.size;
  };
  shelf_told = ap is_some still.shelf ∙ kept.shelf_told;
  others = λ name s at told. let one = kept.others name s at told in (one.0, still.shelf ∙ one.1, one.2);
  time = record {
    later = let a = kept.time.later in let b = still.moment in omega (arith, a, b);
    nothing_else = λ t told m c le left. kept.time.nothing_else t told m c le (still.since.nothing_else m c left);
    keeps = λ m c le left. still.since.keeps m c (kept.time.keeps m c le left);
  };
}

partly_still : {M : Type 0} (view : M → MediumView) (first : ℕ) (pieces : List (List ℕ)) (v w x : DriveView M) → WrotePartly view first pieces v w → LeavesRecords view w x → WrotePartly view first pieces v x
partly_still view first pieces v w x wrote left = record {
  kept = keep_still first pieces (view v.medium) (view w.medium) (view x.medium) wrote.kept left.still;
  stand = λ t told. let u = wrote.stand t told in (u.0, left.still.tape ∙ u.1, u.2);
  count = let a = wrote.count in let b = left.count in omega (arith, a, b);
}

-- nothing was written
wrote_nothing : {M : Type 0} (view : M → MediumView) (first : ℕ) (pieces : List (List ℕ)) (v w : DriveView M) → LeavesRecords view v w → WrotePartly view first pieces v w
wrote_nothing view first pieces v w left = partly_still view first pieces v v w
    (record {
      kept = record {
        stays_in = record { told = refl; inside = refl; size = refl };
        shelf_told = refl;
        others = λ name s at told. (s, told, λ other ne. refl);
        time = record { later = omega arith; nothing_else = λ t told m c le left. inl left; keeps = λ m c le left. left };
      };
      stand = λ t told. (t, told, PartlyReplaced-nothing first pieces t);
      count = omega arith;
    })
    left

-- from the medium as it was before the seek
from_before : {M : Type 0} (view : M → MediumView) (first : ℕ) (pieces : List (List ℕ)) (u v w : DriveView M) → v.medium ≡ u.medium → WrotePartly view first pieces v w → WrotePartly view first pieces u w
from_before view first pieces u v w same wrote = record {
  kept = subst (λ m. HasKept first pieces (view m) (view w.medium)) same wrote.kept;
  stand = λ t told. wrote.stand t (ap (λ m. (view m).tape) same ∙ told);
  count = let a = wrote.count in let b = ap (λ m. (view m).faults) same in omega (arith, a, b);
}

-- ---- the send

come_bytes : (ds : List Echo) (gs : List Frame) → AllCome ds gs → runs.bytes_of gs ≡ bytes_of ds
come_bytes [] [] come = refl
come_bytes (d ∷ ds) (g ∷ gs) come = λ i. ap byte_of come.0.1 i ∷ come_bytes ds gs come.1 i
come_bytes _ _ come = absurd come

module _ {M : Type 0} (view : M → MediumView) (c first : ℕ) (sent : List ℕ) (r a : RingView M) (low : drive_party r ≤ 30) (idle : IsIdle r) (so : SoughtBy view first r a) (medium : IsMedium (view r.drive.medium))
    (fits : first + c ≤ (view r.drive.medium).record_count) (room : length r.drive.state.buffer_0 ≡ 256) (long : length sent ≡ 256 * c) where
  abbrev d : ℕ
  d = drive_party r

  abbrev pieces : List (List ℕ)
  pieces = cut_up c sent

  there : first + c ≤ (view a.drive.medium).record_count
  there = let same = ap (λ m. (view m).record_count) so.drive.medium in omega (arith, fits, same)

  medium_there : IsMedium (view a.drive.medium)
  medium_there = subst (λ m. IsMedium (view m)) (sym so.drive.medium) medium

  room_there : length a.drive.state.buffer_0 ≡ 256
  room_there = ap length so.drive.buffer_0 ∙ room

  -- whole: the drive put them
  sent_out : (b : RingView M) → SentAll view d (Some 2) sent a b → HasSentOut view d first pieces a.drive b.drive
  sent_out b all =
      let brings = send_brings view d (Some 2) all.ds a b all.made in
      let adds = all.made.whole.adds in
      let bytes : runs.bytes_of brings.0 ≡ sent = come_bytes all.ds brings.0 brings.2 ∙ all.sent ∙ take-length sent in
      let many : length brings.0 ≡ 256 * c = sym (length-map brings.0 byte_of) ∙ ap length bytes ∙ long in
      let put = writes_run view d c brings.0 adds.answers a.drive b.drive low so.drive.rests.free room_there medium_there (all_data all.ds brings.0 brings.2) (omega (arith, many)) (omega (arith, many))
      (let at = so.drive.position in omega (arith, there, at)) (subst (λ fs. runs.Ran view a.drive fs adds.answers b.drive) brings.1 adds.drive) in
      subst (λ bytes. HasSentOut view d first (cut_up c bytes) a.drive b.drive) bytes (subst (λ n. HasSentOut view d n (cut_up c (runs.bytes_of brings.0)) a.drive b.drive) so.drive.position put)

  left_of : (b : RingView M) → SentAll view d (Some 2) sent a b → WrotePartly view first pieces a.drive b.drive
  left_of b all =
      let put = sent_out b all in
      let adds = all.made.whole.adds in
      record { kept = put.kept; stand = λ t told. left_partly view d first pieces a.drive b.drive put t told; count = counts_up view adds.came adds.answers a.drive b.drive adds.drive }

  -- broken: of the bytes that had been sent by then the first whole pieces stand
  record BrokeSend (b : RingView M) (bytes : List ℕ) : Type 0 where
    left : WrotePartly view first pieces a.drive b.drive
    stand : (t : Tape) → (view a.drive.medium).tape ≡ Some t → (u : Tape) × ((view b.drive.medium).tape ≡ Some u) × PartlyReplaced first (full_pieces bytes) t u

  broke_data : (i : ℕ) (ds : List Echo) (fs came : List Frame) (outs : List Out) (b : RingView M) → i < length ds → length ds ≤ length sent → bytes_of ds ≡ take (length ds) sent → CutData i ds fs → came ≡ send_front d 2 ++ fs
      → runs.Ran view a.drive came outs b.drive → BrokeSend b (take (suc i) (bytes_of ds))
  broke_data i ds fs came outs b within few bytes cut are ran =
      let run = subst (λ fs. runs.Ran view a.drive fs outs b.drive) are ran in
      let fs_long = length-map fs byte_of in
      let ds_long : length (bytes_of ds) ≡ length ds = length-map ds (λ (d : Echo). byte_of d.sent) in
      let so_far : List ℕ = take (suc i) (bytes_of ds) in
      let so_far_long : length so_far ≡ suc i = length-take-le (suc i) (bytes_of ds) (omega (arith, within, ds_long)) in
      let at = so.drive.position in
      let all_sent : AsSent (runs.bytes_of fs) sent =
      λ j lt. cut.same j lt ∙ ap (λ bytes. get_or bytes j 0) bytes ∙ get_or-take (length ds) sent j 0 (let w = cut.within in omega (arith, lt, fs_long, w)) in
      let so_far_sent : AsSent (runs.bytes_of fs) so_far = λ j lt. cut.same j lt ∙ sym (get_or-take (suc i) (bytes_of ds) j 0 (let f = cut.few in omega (arith, lt, fs_long, f))) in
      let all = breaks_off view d c sent fs outs a.drive b.drive low so.drive.rests.free room_there medium_there cut.data_frames (omega (arith, long)) (let w = cut.within in omega (arith, w, few, long)) all_sent (omega (arith, there, at)) run in
      let some = breaks_off view d (length so_far / 256) so_far fs outs a.drive b.drive low so.drive.rests.free room_there medium_there cut.data_frames (omega arith) (let f = cut.few in omega (arith, f, so_far_long)) so_far_sent
      (omega (arith, there, at, so_far_long, within, few, long)) run in
      record {
        left = record {
          kept = subst (λ n. HasKept n pieces (view a.drive.medium) (view b.drive.medium)) at all.kept;
          stand = λ t told. let u = all.stand t told in (u.0, u.1, subst (λ n. PartlyReplaced n pieces t u.0) at u.2);
          count = counts_up view came outs a.drive b.drive ran;
        };
        stand = λ t told. let u = some.stand t told in (u.0, u.1, subst (λ n. PartlyReplaced n (full_pieces so_far) t u.0) at u.2);
      }

-- as a run's bytes and pieces
abbrev pub WrittenAs : {M : Type 0} → (M → MediumView) → ℕ → ℕ → List ℕ → List (List ℕ) → Bool → RingView M → RingView M → Type 0
WrittenAs view d first bytes pieces true r s = WriteRun view d first bytes pieces r s
WrittenAs view d first bytes pieces false r s = NotWritten view d first bytes pieces r s

-- ---- what exchanges that write make of the ring

-- by their units, and what these make of the tape
pub came_by : {M : Type 0} (view : M → MediumView) (whole : Bool) (ps : List Piece) (us : List RecordUnit) (r s : RingView M) → Talked view whole ps r s → ends_within (loop_of r) ps ≡ false → units_of (loop_of r) ps ≡ us
    → ((t : Tape) → (view r.drive.medium).tape ≡ Some t → (u : Tape) × ((view s.drive.medium).tape ≡ Some u) × UnitsEffect us t u) → CameUnits view whole us r s
came_by view whole ps us r s talked outside units effect = record {
  came = record {
    pieces = ps;
    talked = talked;
    outside = outside;
    effect = λ t told. let u = effect t told in (u.0, u.1, subst (λ us. UnitsEffect us t u.0) (sym units) u.2);
  };
  are = units;
}

-- what a unit that has no status 0 makes of the tape
bad_unit : (first : ℕ) (bytes : List ℕ) (status : Option ℕ) (t u : Tape) → is_good status ≡ false → PartlyReplaced first (full_pieces bytes) t u → UnitsEffect (record { writes = true; first = first; bytes = bytes; status = status } ∷ []) t u
bad_unit first bytes status t u bad part = (u, subst (λ b. MatchBool b (Replaced first (all_pieces bytes) t u) (PartlyReplaced first (full_pieces bytes) t u)) (sym bad) part, refl)

module _ {M : Type 0} (view : M → MediumView) (c first : ℕ) (sent : List ℕ) (r a : RingView M) (low : drive_party r ≤ 30) (idle : IsIdle r) (so : SoughtBy view first r a) (medium : IsMedium (view r.drive.medium))
    (fits : first + c ≤ (view r.drive.medium).record_count) (room : length r.drive.state.buffer_0 ≡ 256) (long : length sent ≡ 256 * c) (some : 1 ≤ c) where
  abbrev drive : ℕ
  drive = drive_party r

  abbrev all : List (List ℕ)
  all = cut_up c sent

  abbrev seek_exchange : Exchange
  seek_exchange = Send drive (Some 4) (so.high ∷ so.low ∷ [])

  before : (view a.drive.medium).tape ≡ (view r.drive.medium).tape
  before = ap (λ m. (view m).tape) so.drive.medium

  -- after so many entries, where these frames came to the drive
  write_broke_by : (m : ℕ) (b : Break) (ds : List Echo) (came : List Frame) (outs : List Out) (s : RingView M) → CutSend m drive 2 ds came → Talked view false (WholeOne seek_exchange ∷ Cut (Send drive (Some 2) ds) m b ∷ []) r s → m < 6 + length ds
      → runs.Ran view a.drive came outs s.drive → list_all is_echo ds ≡ true → bytes_of ds ≡ take (length ds) sent → length ds ≤ length sent → OnlyHeard drive a s → WriteBroke view drive first all r s
  write_broke_by m b ds came outs s (InFront j few are) talked within ran legal bytes less unheard =
      let left : LeavesRecords view a.drive s.drive = record {
        still = leaves_records view (take j (send_front drive 2)) outs a.drive s.drive (puts-taken j (send_front drive 2) (puts-write drive low)) (subst (λ fs. runs.Ran view a.drive fs outs s.drive) are ran);
        count = counts_up view came outs a.drive s.drive ran;
      } in
      record {
        came = (came_by view false (WholeOne seek_exchange ∷ Cut (Send drive (Some 2) ds) m b ∷ []) [] r s talked (ends_within-broken (loop_of r) (WholeOne seek_exchange ∷ Cut (Send drive (Some 2) ds) m b ∷ []) talked.ends)
            (units_of-write_unbegun (loop_of r) so.high so.low ds m b so.right_high so.right_low (none_sent m drive 2 ds b few)) (λ t told. (t, left.still.tape ∙ before ∙ told, refl))).came;
        unheard = heard_then drive r a s so.unheard unheard;
        left = from_before view first all r.drive a.drive s.drive so.drive.medium (wrote_nothing view first all a.drive s.drive left);
      }
  write_broke_by m b ds came outs s (InData i fs place are cut) talked within ran legal bytes less unheard =
      let here : i < length ds = omega (arith, place, within) in
      let broke = broke_data view c first sent r a low idle so medium fits room long i ds fs came outs s here less bytes cut are ran in
      let ds_long : length (bytes_of ds) ≡ length ds = length-map ds (λ (d : Echo). byte_of d.sent) in
      let so_far = length-take-le (suc i) (bytes_of ds) (omega (arith, here, ds_long)) in
      record {
        came = (came_by view false (WholeOne seek_exchange ∷ Cut (Send drive (Some 2) ds) m b ∷ []) (one_unit (loop_of r) true first (take (suc i) (bytes_of ds)) None ∷ []) r s talked
            (ends_within-broken (loop_of r) (WholeOne seek_exchange ∷ Cut (Send drive (Some 2) ds) m b ∷ []) talked.ends)
            (units_of-write_cut (loop_of r) so.high so.low ds m b (take (suc i) (bytes_of ds)) so.right_high so.right_low (ap (λ m. sent_bytes (cut_at (entries_of 0 (Send drive (Some 2) ds)) m b)) place ∙ some_sent i drive 2 ds b legal here) (omega (arith, so_far))
            ∙ (λ j. one_unit (loop_of r) true (so.named j) (take (suc i) (bytes_of ds)) None ∷ []))
            (λ t told. let u = broke.stand t (before ∙ told) in (u.0, u.1, bad_unit first (take (suc i) (bytes_of ds)) None t u.0 refl u.2))).came;
        unheard = heard_then drive r a s so.unheard unheard;
        left = from_before view first all r.drive a.drive s.drive so.drive.medium broke.left;
      }

  -- the send broke off
  pub write_broke_at_send : (s : RingView M) → SendBroke view drive (Some 2) sent a s → WriteBroke view drive first all r s
  write_broke_at_send s not =
      let broke = not.broken.broke in
      let x : Exchange = Send drive (Some 2) not.ds in
      let legal = send_echoes a drive (Some 2) not.ds not.broken.legal in
      let talked = talked_then view false (WholeOne seek_exchange ∷ []) (Cut x broke.standing broke.break ∷ []) r a s idle.free (made_talked view seek_exchange r a so.made) (broken_talked view x a s not.broken) in
      let cut = cut_send (length (devices_of a)) (drive_party a) broke.standing drive 2 not.ds broke.adds.came low refl refl legal (broke.brought (send_from_here (drive_party a) drive (Some 2) not.ds)) in
      write_broke_by broke.standing broke.break not.ds broke.adds.came broke.adds.answers s cut talked (cut_within broke.standing drive 2 not.ds broke.break broke.legal) broke.adds.drive legal not.sent not.within not.unheard

  -- the bytes of the unit
  sent_is : (b : RingView M) (whole : SentAll view drive (Some 2) sent a b) → bytes_of whole.ds ≡ sent
  sent_is b whole = whole.sent ∙ take-length sent

  -- the poll of the status broke off
  pub write_broke_at_status : (b s : RingView M) → SentAll view drive (Some 2) sent a b → NotPolled view drive b s → WriteBroke view drive first all r s
  write_broke_at_status b s whole not =
      let broke = not.broken.broke in
      let transfer : Exchange = Send drive (Some 2) whole.ds in
      let poll : Exchange = Receive drive None Sst not.answer in
      let legal = send_echoes a drive (Some 2) whole.ds whole.made.legal in
      let talked = talked_then view false (WholeOne seek_exchange ∷ []) (WholeOne transfer ∷ Cut poll broke.standing broke.break ∷ []) r a s idle.free (made_talked view seek_exchange r a so.made)
      (talked_then view false (WholeOne transfer ∷ []) (Cut poll broke.standing broke.break ∷ []) a b s so.made.idle.free (made_talked view transfer a b whole.made) (broken_talked view poll b s not.broken)) in
      let left = partly_still view first all a.drive b.drive s.drive (left_of view c first sent r a low idle so medium fits room long b whole) not.drive in
      let bytes = sent_is b whole in
      record {
        came = (came_by view false (WholeOne seek_exchange ∷ WholeOne transfer ∷ Cut poll broke.standing broke.break ∷ []) (one_unit (loop_of r) true first sent None ∷ []) r s talked
            (ends_within-broken (loop_of r) (WholeOne seek_exchange ∷ WholeOne transfer ∷ Cut poll broke.standing broke.break ∷ []) talked.ends)
            (units_of-write_untold (loop_of r) so.high so.low whole.ds not.answer broke.standing broke.break so.right_high so.right_low legal (let n = ap (λ (bytes : List ℕ). length bytes) bytes in omega (arith, n, long, some))
            ∙ (λ j. one_unit (loop_of r) true (so.named j) (bytes j) None ∷ []))
            (λ t told. let u = left.stand t (before ∙ told) in (u.0, u.1, bad_unit first sent None t u.0 refl (subst (λ ps. PartlyReplaced first ps t u.0) (sym (full_of c sent long)) u.2)))).came;
        unheard = heard_then drive r b s (heard_then drive r a b so.unheard whole.unheard) (heard_none drive b s not.unheard);
        left = from_before view first all r.drive a.drive s.drive so.drive.medium left;
      }

  -- ---- whole

  -- the log and the units, by the status byte
  write_units : (byte : ℕ) (b s : RingView M) → SentAll view drive (Some 2) sent a b → Polled view drive byte b s → ((t : Tape) → (view r.drive.medium).tape ≡ Some t → (u : Tape) × ((view s.drive.medium).tape ≡ Some u) × UnitsEffect (unit true first sent byte ∷ []) t u)
      → CameUnits view true (unit true first sent byte ∷ []) r s
  write_units byte b s whole told effect =
      let transfer : Exchange = Send drive (Some 2) whole.ds in
      let poll : Exchange = Receive drive None Sst (Stopped drive [] told.echo) in
      let legal = send_echoes a drive (Some 2) whole.ds whole.made.legal in
      let poll_legal = legal_answer b drive None Sst (Stopped drive [] told.echo) told.made.legal in
      let talked = talked_three view seek_exchange transfer poll r a b s idle so.made whole.made told.made in
      let bytes = sent_is b whole in
      came_by view true (WholeOne seek_exchange ∷ WholeOne transfer ∷ WholeOne poll ∷ []) (unit true first sent byte ∷ []) r s talked (outside_three (loop_of r) seek_exchange transfer poll (sought-write (loop_of r) whole.ds) refl)
      (units_of-write (loop_of r) so.high so.low whole.ds (Stopped drive [] told.echo) (byte_of told.echo.sent) so.right_high so.right_low legal (let n = ap (λ (bytes : List ℕ). length bytes) bytes in omega (arith, n, long, some))
      (sent_received drive (Stopped drive [] told.echo) poll_legal None Sst) ∙ (λ j. one_unit (loop_of r) true (so.named j) (bytes j) (Some (sym told.byte_is j)) ∷ []))
      effect

  -- all stand, and the status is 0; or one could not be written, and the status tells it
  pub write_done : (byte : ℕ) (b s : RingView M) → SentAll view drive (Some 2) sent a b → Polled view drive byte b s → (good : Bool) → good ≡ (byte == 0) → WrittenAs view drive first sent all good r s
  write_done byte b s whole told good is =
      let put = sent_out view c first sent r a low idle so medium fits room long b whole in
      let left = left_of view c first sent r a low idle so medium fits room long b whole in
      let behind = from_before view first all r.drive a.drive s.drive so.drive.medium (partly_still view first all a.drive b.drive s.drive left (leaves_same view b.drive s.drive told.drive.medium)) in
      let unheard = heard_then drive r b s (heard_then drive r a b so.unheard whole.unheard) (heard_none drive b s told.unheard) in
      let after : (view s.drive.medium).tape ≡ (view b.drive.medium).tape = ap (λ m. (view m).tape) told.drive.medium in
      let count_before = count_same view r.drive a.drive so.drive.medium in
      let count_behind = count_same view b.drive s.drive told.drive.medium in
      ⊎_elim
      (λ (done : WroteAll view drive first all a.drive.medium b.drive).
      let zero : byte ≡ 0 = told.drive.byte_is ∙ ap status_byte_of done.free.status in
      let stand : (t : Tape) → (view r.drive.medium).tape ≡ Some t → (u : Tape) × ((view s.drive.medium).tape ≡ Some u) × Replaced first all t u =
      λ t is. let u = done.tape t (before ∙ is) in (u.0, after ∙ u.1, u.2) in
      let units : CameUnits view true (unit true first sent 0 ∷ []) r s =
      subst (λ byte. CameUnits view true (unit true first sent byte ∷ []) r s) zero
      (write_units byte b s whole told
      (λ t is. let u = stand t is in (u.0, u.1, subst (λ byte. UnitsEffect (unit true first sent byte ∷ []) t u.0) (sym zero) (u.0, subst (λ ps. Replaced first ps t u.0) (sym (all_of c sent long)) u.2, refl)))) in
      subst (λ good. WrittenAs view drive first sent all good r s) (sym (is ∙ eq-eqb byte 0 zero))
      (record {
        came = units;
        unheard = unheard;
        kept = behind.kept;
        stand = stand;
        count = count_behind ∙ done.count ∙ count_before;
        rests = told.drive.rests;
      }))
      (λ (part : WrotePart view drive first all a.drive.medium b.drive).
      let two : byte ≡ 66 = told.drive.byte_is ∙ ap status_byte_of part.status in
      let bad : (byte == 0) ≡ false = ne_eqb byte 0 (λ zero. absurd (omega (arith, zero, two))) in
      subst (λ good. WrittenAs view drive first sent all good r s) (sym (is ∙ bad))
      (record {
        status = byte;
        bad = λ zero. absurd (omega (arith, zero, two));
        came = write_units byte b s whole told (λ t is. let u = behind.stand t is in (u.0, u.1, bad_unit first sent (Some byte) t u.0 bad (subst (λ ps. PartlyReplaced first ps t u.0) (sym (full_of c sent long)) u.2)));
        unheard = unheard;
        rests = told.drive.rests;
        left = behind;
        rose = subst (λ n. Rose n (view s.drive.medium).faults) count_before (subst (λ n. Rose (view a.drive.medium).faults n) (sym count_behind) part.rose);
      }))
      put.end

-- ---- for the drive's address by another name, and a run by its bytes

as_run : {M : Type 0} (view : M → MediumView) (d first c : ℕ) (from : List ℕ) (good : Bool) (r s : RingView M) → WrittenAs view d first (filled (256 * c) from) (cut_up c (filled (256 * c) from)) good r s → WroteAs view d first (cut c from) good r s
as_run view d first c from true r s wrote = subst (λ ps. WriteRun view d first (joined (cut c from)) ps r s) (cut_filled c from) (subst (λ bytes. WriteRun view d first bytes (cut_up c (filled (256 * c) from)) r s) (bytes_filled c from) wrote)
as_run view d first c from false r s wrote = subst (λ ps. NotWritten view d first (joined (cut c from)) ps r s) (cut_filled c from) (subst (λ bytes. NotWritten view d first bytes (cut_up c (filled (256 * c) from)) r s) (bytes_filled c from) wrote)

module _ {M : Type 0} (view : M → MediumView) (d first c : ℕ) (from : List ℕ) (r : RingView M) (low : d ≤ 30) (at : d ≡ drive_party r) (idle : IsIdle r) (small : first < 2 ^ 16) (free : IsFree (drive_party r) r.drive.state) (room : length r.drive.state.buffer_0 ≡ 256)
    (medium : IsMedium (view r.drive.medium)) (fits : first + c ≤ (view r.drive.medium).record_count) (some : 1 ≤ c) where
  abbrev bytes : List ℕ
  bytes = filled (256 * c) from

  low_party : drive_party r ≤ 30
  low_party = omega (arith, low, at)

  so_at : (s : RingView M) → SentAll view d (Some 4) (filled 2 (to_be_bytes w16 first)) r s → SoughtBy view first r s
  so_at s so = sought_by view first r s low_party small free (omega (arith, fits, some)) (subst (λ d. SentAll view d (Some 4) (filled 2 (to_be_bytes w16 first)) r s) at so)

  -- the drive has this address after the send too
  polled_at : (n : ℕ) (a b : RingView M) → SentAll view d (Some 4) (filled 2 (to_be_bytes w16 first)) r a → SentAll view d (Some 2) (filled n from) a b → drive_party b ≡ drive_party r
  polled_at n a b so whole = same_party view _ a b whole.made ∙ same_party view _ r a so.made

  broke_as : (s : RingView M) → WriteBroke view (drive_party r) first (cut_up c bytes) r s → WriteBroke view (drive_party r) first (cut c from) r s
  broke_as s broke = subst (λ ps. WriteBroke view (drive_party r) first ps r s) (cut_filled c from) broke

  pub wrote_not_at_seek : (sought : List ℕ) (s : RingView M) → SendBroke view d (Some 4) sought r s → WriteBroke view (drive_party r) first (cut c from) r s
  wrote_not_at_seek sought s not =
      let broke = seek_broke view sought r s low_party idle (subst (λ d. SendBroke view d (Some 4) sought r s) at not) in
      broke_as s (record { came = broke.came; unheard = broke.unheard; left = wrote_nothing view first (cut_up c bytes) r.drive s.drive broke.drive })

  pub wrote_not_at_send : (n : ℕ) (a s : RingView M) → n ≡ 256 * c → SentAll view d (Some 4) (filled 2 (to_be_bytes w16 first)) r a → SendBroke view d (Some 2) (filled n from) a s → WriteBroke view (drive_party r) first (cut c from) r s
  wrote_not_at_send n a s is so not =
      broke_as s (write_broke_at_send view c first bytes r a low_party idle (so_at a so) medium fits room (length-filled (256 * c) from) some s (subst (λ d. SendBroke view d (Some 2) bytes a s) at (subst (λ n. SendBroke view d (Some 2) (filled n from) a s) is not)))

  pub wrote_not_at_status : (n : ℕ) (a b s : RingView M) → n ≡ 256 * c → SentAll view d (Some 4) (filled 2 (to_be_bytes w16 first)) r a → SentAll view d (Some 2) (filled n from) a b → NotPolled view (drive_party b) b s → WriteBroke view (drive_party r) first (cut c from) r s
  wrote_not_at_status n a b s is so whole not =
      broke_as s (write_broke_at_status view c first bytes r a low_party idle (so_at a so) medium fits room (length-filled (256 * c) from) some b s (subst (λ d. SentAll view d (Some 2) bytes a b) at (subst (λ n. SentAll view d (Some 2) (filled n from) a b) is whole)) (subst (λ d. NotPolled view d b s) (polled_at n a b so whole) not))

  pub wrote : (n byte : ℕ) (a b s : RingView M) → n ≡ 256 * c → SentAll view d (Some 4) (filled 2 (to_be_bytes w16 first)) r a → SentAll view d (Some 2) (filled n from) a b → Polled view (drive_party b) byte b s → (good : Bool) → good ≡ (byte == 0) → WroteAs view (drive_party r) first (cut c from) good r s
  wrote n byte a b s long so whole told good is =
      as_run view (drive_party r) first c from good r s
      (write_done view c first bytes r a low_party idle (so_at a so) medium fits room (length-filled (256 * c) from) some byte b s (subst (λ d. SentAll view d (Some 2) bytes a b) at (subst (λ n. SentAll view d (Some 2) (filled n from) a b) long whole)) (subst (λ d. Polled view d byte b s) (polled_at n a b so whole) told) good is)
