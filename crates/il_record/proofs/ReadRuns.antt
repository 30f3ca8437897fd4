-- A run of records that is read: its three exchanges make one unit, and the bytes are those of the records.
use Rattle.std.proofs.Common.{◌≡◌, ◌∙◌, ◌≤◌, ◌<◌, ◌+◌, ◌*◌, ◌/◌, ◌^◌, ◌++◌, ◌&&◌, ◌==◌, ◌⊎◌, inl, inr, ⊎_elim, ℕ, Bool, true, false, List, [], ◌∷◌, Option, Some, None, drop, length, refl, sym, ap, ap₂, subst, arith, length-append, append-nil}
use Rattle.std.specs.Prelude.{IfSome, is_some}
use Rattle.std.specs.Int.{to_be_bytes, w16}
use Rattle.std.specs.List.{list_all}
use Rattle.std.proofs.lemmas.Bool.{and_parts, and_from, cases_lt, eqb-true, eq-eqb, ne_eqb}
use Rattle.std.proofs.lemmas.List.{length-map, length-drop}
use Rattle.std.proofs.Math.Seq.{take-length, drop-length}
use Rattle.il_frames.specs.Frames.{byte_of}
use Rattle.il_poll.specs.Service.{status_byte_of}
use Rattle.il_ports.specs.Media.{MediumView, IsMedium}
use Rattle.lif_model.specs.Tape.{Tape, bytes_from}
use Rattle.lif_model.specs.Causes.{Rose}
use Rattle.il_drive.specs.State.{DriveView}
use Rattle.il_drive.specs.Steps.{IsStill}
use Rattle.il_drive.specs.Resting.{IsFree, HasSought}
use Rattle.il_drive.proofs.Reading.{nothing_read, still_longer}
use Rattle.loop_model.specs.Loops.{Loop}
use Rattle.loop_model.specs.Effect.{UnitsEffect}
use Rattle.loop_model.specs.Exchanges.{Echo, Exchange, Send, Receive, Start, Sda, Sst, Answer, NotTaken, ToItsEnd, Stopped, Piece, Whole as WholeOne, Cut, entries_of, is_echo, is_answer, bytes_of}
use Rattle.loop_model.specs.Units.{RecordUnit, units_of, ends_within, sent_bytes, sought as named_by}
use Rattle.loop_model.proofs.EffectLaws.{ends_within-broken}
use Rattle.loop_model.proofs.RecordLaws.{one_unit, units_of-read, units_of-read_cut, units_of-read_untold}
use Rattle.loop_model.proofs.UnitLaws.{sent_bytes-not_taken, sent_bytes-to_its_end, sent_bytes-stopped}
use Rattle.il_ring.specs.Rings.{RingView, devices_of, drive_party}
use Rattle.il_control.specs.Calls.{IsIdle, Made, loop_of}
use Rattle.il_control.specs.Receives.{Received, NotReceived, SpokenBy, received, is_stopped, talker_of}
use Rattle.il_record.specs.Came.{OnlyHeard, CameUnits}
use Rattle.il_record.specs.Sends.{filled, SentAll, SendBroke}
use Rattle.il_record.specs.Talks.{Talked}
use Rattle.il_record.specs.Runs.{LeavesRecords, TellsStatus, ReadAll, ReadPart, Polled, NotPolled, unit, ReadBroke, ReadAs}
use Rattle.il_control.proofs.Brings.{send_from_here}
use Rattle.il_record.proofs.Cuts.{receive_cut, receive_from_here}
use Rattle.il_record.proofs.CutSends.{seek_cut}
use Rattle.il_record.proofs.HeardLogs.{heard_none, heard_then, none_not_received, none_received, send_echoes}
use Rattle.il_record.proofs.Polling.{meant_for}
use Rattle.il_record.proofs.Readings.{legal_answer, end_echoes, stop_echoes, party_within, idle_address, not_taken, to_its_end, stopped}
use Rattle.il_record.proofs.Sends.{two_bytes, filled_exact, sought}
use Rattle.il_record.proofs.Talks.{made_talked, broken_talked, talked_then}

-- ---- the seek

-- its two bytes
record TwoEchoes (ds : List Echo) (high low : ℕ) : Type 0 where
  first : Echo
  second : Echo
  are : ds ≡ first ∷ second ∷ []
  high_is : byte_of first.sent ≡ high
  low_is : byte_of second.sent ≡ low

two_echoes : (ds : List Echo) (high low : ℕ) → bytes_of ds ≡ high ∷ low ∷ [] → TwoEchoes ds high low
two_echoes (c ∷ d ∷ []) high low are = record { first = c; second = d; are = refl; high_is = cc; low_is = cc }
two_echoes _ high low are = cc

-- the drive has sought record n
pub record SoughtBy {M : Type 0} (view : M → MediumView) (n : ℕ) (r s : RingView M) : Type 0 where
  pub high : Echo
  pub low : Echo
  pub made : Made view (Send (drive_party r) (Some 4) (high ∷ low ∷ [])) r s
  pub right_high : is_echo high ≡ true
  pub right_low : is_echo low ≡ true
  pub named : 256 * byte_of high.sent + byte_of low.sent ≡ n
  pub unheard : OnlyHeard (drive_party r) r s
  pub drive : HasSought view (drive_party r) n r.drive s.drive

pub sought_by : {M : Type 0} (view : M → MediumView) (n : ℕ) (r s : RingView M) → drive_party r ≤ 30 → n < 2 ^ 16 → IsFree (drive_party r) r.drive.state → n < (view r.drive.medium).record_count
    → SentAll view (drive_party r) (Some 4) (filled 2 (to_be_bytes w16 n)) r s → SoughtBy view n r s
sought_by view n r s low small free there so =
    let bytes = two_bytes n small in
    let exact : filled 2 (to_be_bytes w16 n) ≡ to_be_bytes w16 n = filled_exact 2 (to_be_bytes w16 n) (ap length bytes.2) in
    let two = two_echoes so.ds bytes.0 bytes.1 (so.sent ∙ take-length (filled 2 (to_be_bytes w16 n)) ∙ exact ∙ bytes.2) in
    let made = subst (λ ds. Made view (Send (drive_party r) (Some 4) ds) r s) two.are so.made in
    let echoes = send_echoes r (drive_party r) (Some 4) (two.first ∷ two.second ∷ []) made.legal in
    let first = and_parts (is_echo two.first) (list_all is_echo (two.second ∷ [])) echoes in
    record {
      high = two.first;
      low = two.second;
      made = made;
      right_high = first.0;
      right_low = (and_parts (is_echo two.second) true first.1).0;
      named = ap₂ (λ high low. 256 * high + low) two.high_is two.low_is ∙ bytes.3;
      unheard = so.unheard;
      drive = sought view (drive_party r) n r s low small so refl free there;
    }

-- ---- the receive

-- all k records came, or the medium could not read one of them
pub ReadSo : {M : Type 0} → (M → MediumView) → (d k first n : ℕ) → List ℕ → List ℕ → DriveView M → DriveView M → Type 0
ReadSo view d k first n old new v w = ((n ≡ length old) × ReadAll view d k first new v w) ⊎ ReadPart view v w

module _ {M : Type 0} (view : M → MediumView) (d k₀ : ℕ) (low : d ≤ 30) (some : 1 ≤ d) (within : d ≤ k₀) where
  read_by : (answer : Answer) (k n first : ℕ) (old new : List ℕ) (r s : RingView M) → IsFree d r.drive.state → IsMedium (view r.drive.medium) → r.drive.state.position ≡ first → first + k ≤ (view r.drive.medium).record_count → 1 ≤ k
      → length old ≡ 256 * k → is_answer 0 answer ≡ true → IfSome (talker_of answer) (λ p. p ≡ d) → n ≡ length (received answer) → n ≤ length old → new ≡ received answer ++ drop n old → is_stopped answer ≡ (n == length old)
      → (made : Made view (Receive d (Some 2) Sda answer) r s) → SpokenBy k₀ d d (Some 2) Sda answer made.whole.adds.came made.whole.adds.answers → ReadSo view d k first n old new r.drive s.drive
  unfolding ReadSo
  read_by NotTaken k n first old new r s free medium at fits many long legal talker count less bytes stops made sp =
      inr (not_taken view d k₀ low some within k first made.whole.adds.came made.whole.adds.answers r.drive s.drive free medium at fits many sp sp.said made.whole.adds.drive)
  read_by (ToItsEnd p ds) k n first old new r s free medium at fits many long legal talker count less bytes stops made sp =
      let count_ds : length (bytes_of ds) ≡ length ds = length-map ds (λ (d : Echo). byte_of d.sent) in
      let not_all : n ≡ length old → ⊥ = λ is. let clash : false ≡ true = stops ∙ eq-eqb n (length old) is in cc in
      let few : n < length old = elim (cases_lt n (length old)) [ inl lt ↦ lt | inr ge ↦ absurd (not_all (omega (arith, ge, less))) ] in
      let spoken : SpokenBy k₀ d d (Some 2) Sda (ToItsEnd d ds) made.whole.adds.came made.whole.adds.answers = subst (λ p. SpokenBy k₀ d d (Some 2) Sda (ToItsEnd p ds) made.whole.adds.came made.whole.adds.answers) talker sp in
      inr (to_its_end view d k₀ low some within k n first ds made.whole.adds.came made.whole.adds.answers r.drive s.drive free medium at fits (omega (arith, few, long)) (omega (arith, count, count_ds)) (end_echoes p ds legal).1 spoken spoken.said made.whole.adds.drive)
  read_by (Stopped p ds last) k n first old new r s free medium at fits many long legal talker count less bytes stops made sp =
      let all : n ≡ length old = eqb-true n (length old) (sym stops) in
      let count_ds : length (bytes_of ds) ≡ length ds = length-map ds (λ (d : Echo). byte_of d.sent) in
      let one_more = length-append (bytes_of ds) (byte_of last.sent ∷ []) in
      let spoken : SpokenBy k₀ d d (Some 2) Sda (Stopped d ds last) made.whole.adds.came made.whole.adds.answers = subst (λ p. SpokenBy k₀ d d (Some 2) Sda (Stopped p ds last) made.whole.adds.came made.whole.adds.answers) talker sp in
      let echoes = stop_echoes p ds last legal in
      let read = stopped view d k₀ low some within k first ds last made.whole.adds.came made.whole.adds.answers r.drive s.drive free medium at fits many (omega (arith, all, count, one_more, count_ds, long)) echoes.0 echoes.1 spoken spoken.said made.whole.adds.drive in
      let whole : new ≡ bytes_of ds ++ byte_of last.sent ∷ [] = bytes ∙ ap (λ n. (bytes_of ds ++ byte_of last.sent ∷ []) ++ drop n old) all ∙ ap (λ rest. (bytes_of ds ++ byte_of last.sent ∷ []) ++ rest) (drop-length old) ∙ append-nil (bytes_of ds ++ byte_of last.sent ∷ []) in
      inl (all, subst (λ bytes. ReadAll view d k first bytes r.drive s.drive) (sym whole) read)

pub read_so : {M : Type 0} (view : M → MediumView) (k n first : ℕ) (old new : List ℕ) (r s : RingView M) → drive_party r ≤ 30 → IsFree (drive_party r) r.drive.state → IsMedium (view r.drive.medium) → r.drive.state.position ≡ first
    → first + k ≤ (view r.drive.medium).record_count → 1 ≤ k → length old ≡ 256 * k → Received view (drive_party r) (Some 2) Sda n r old new s → ReadSo view (drive_party r) k first n old new r.drive s.drive
read_so view k n first old new r s low free medium at fits many long got =
    let party = party_within r in
    let meant = meant_for (length (devices_of r)) (drive_party r) (drive_party r) (Some 2) Sda got.answer got.asked refl in
    read_by view (drive_party r) (length (devices_of r)) low party.0 party.1 got.answer k n first old new r s free medium at fits many long (legal_answer r (drive_party r) (Some 2) Sda got.answer got.made.legal) meant got.count got.within got.bytes got.stops got.made (got.spoken meant)

-- the bytes that an answer brought were sent
pub sent_received : (a : ℕ) (answer : Answer) → is_answer 0 answer ≡ true → (number : Option ℕ) (s : Start) → sent_bytes (entries_of 0 (Receive a number s answer)) ≡ received answer
sent_received a NotTaken legal number s = sent_bytes-not_taken 0 a number s
sent_received a (ToItsEnd p ds) legal number s = sent_bytes-to_its_end 0 a number s p ds (end_echoes p ds legal).1
sent_received a (Stopped p ds last) legal number s = let echoes = stop_echoes p ds last legal in sent_bytes-stopped 0 a number s p ds last echoes.0 echoes.1

-- ---- exchanges one after the other

pub talked_three : {M : Type 0} (view : M → MediumView) (x y z : Exchange) (r a b s : RingView M) → IsIdle r → Made view x r a → Made view y a b → Made view z b s → Talked view true (WholeOne x ∷ WholeOne y ∷ WholeOne z ∷ []) r s
talked_three view x y z r a b s idle one two three =
    talked_then view true (WholeOne x ∷ []) (WholeOne y ∷ WholeOne z ∷ []) r a s idle.free (made_talked view x r a one) (talked_then view true (WholeOne y ∷ []) (WholeOne z ∷ []) a b s one.idle.free (made_talked view y a b two) (made_talked view z b s three))

-- a read that broke off: the seek, the receive of records, or the poll of the status
pub leaves_then : {M : Type 0} (view : M → MediumView) (u v w : DriveView M) → LeavesRecords view u v → LeavesRecords view v w → LeavesRecords view u w
leaves_then view u v w first more = record { still = still_longer _ _ _ first.still more.still; count = let a = first.count in let b = more.count in omega (arith, a, b) }

still_same : {M : Type 0} (view : M → MediumView) (v w : DriveView M) → w.medium ≡ v.medium → IsStill (view v.medium) (view w.medium)
still_same view v w same = subst (λ m. IsStill (view v.medium) (view m)) (sym same) (nothing_read (view v.medium)).still

pub leaves_same : {M : Type 0} (view : M → MediumView) (v w : DriveView M) → w.medium ≡ v.medium → LeavesRecords view v w
leaves_same view v w same = record { still = still_same view v w same; count = let e = ap (λ m. (view m).faults) same in omega (arith, e) }

-- ---- what exchanges that read make of the ring

and_false : (b : Bool) → (b && false) ≡ false
and_false true = refl
and_false false = refl

-- the three exchanges of a run end outside a unit
pub outside_three : (l : Loop) (x y z : Exchange) → named_by l (WholeOne y) ≡ None → named_by l (WholeOne z) ≡ None → ends_within l (WholeOne x ∷ WholeOne y ∷ WholeOne z ∷ []) ≡ false
outside_three l x y z none_y none_z =
    let first = and_false (is_some (named_by l (WholeOne x))) in
    rw (first, none_y, none_z) refl

-- the tape is as it was, and so the units leave it
abbrev pub came_still : {M : Type 0} (view : M → MediumView) (whole : Bool) (ps : List Piece) (us : List RecordUnit) (r s : RingView M) → Talked view whole ps r s → ends_within (loop_of r) ps ≡ false → units_of (loop_of r) ps ≡ us
    → ((t : Tape) → UnitsEffect us t t) → (view s.drive.medium).tape ≡ (view r.drive.medium).tape → CameUnits view whole us r s
came_still view whole ps us r s talked outside units leaves same = record {
  came = record {
    pieces = ps;
    talked = talked;
    outside = outside;
    effect = λ t told. (t, same ∙ told, subst (λ us. UnitsEffect us t t) (sym units) (leaves t));
  };
  are = units;
}

-- a seek that broke off
pub seek_broke : {M : Type 0} (view : M → MediumView) (bytes : List ℕ) (r s : RingView M) → drive_party r ≤ 30 → IsIdle r → SendBroke view (drive_party r) (Some 4) bytes r s → ReadBroke view (drive_party r) r s
seek_broke view bytes r s low idle so =
    let d = drive_party r in
    let broke = so.broken.broke in
    let left = seek_cut view (length (devices_of r)) d broke.standing d so.ds broke.adds.came broke.adds.answers r.drive s.drive low (idle_address r idle) (send_echoes r d (Some 4) so.ds so.broken.legal)
    (broke.brought (send_from_here d d (Some 4) so.ds)) broke.adds.drive in
    let talked = broken_talked view (Send d (Some 4) so.ds) r s so.broken in
    record {
      came = (came_still view false (Cut (Send d (Some 4) so.ds) broke.standing broke.break ∷ []) [] r s talked (ends_within-broken (loop_of r) (Cut (Send d (Some 4) so.ds) broke.standing broke.break ∷ []) talked.ends) refl (λ t. refl) left.still.tape).came;
      unheard = so.unheard;
      drive = left;
    }

-- party d is the drive's at each step
pub same_party : {M : Type 0} (view : M → MediumView) (x : Exchange) (r s : RingView M) → Made view x r s → drive_party s ≡ drive_party r
same_party view x r s made = ap (λ n. n + 1) made.whole.adds.before

-- no device heard anything of a receive
pub heard_got : {M : Type 0} (view : M → MediumView) (d n : ℕ) (number : Option ℕ) (start : Start) (r a b : RingView M) (old new : List ℕ) → OnlyHeard d r a → Received view d number start n a old new b → OnlyHeard d r b
heard_got view d n number start r a b old new first got = heard_then d r a b first (heard_none d a b (none_received view a b d number start got.answer got.made got.unheard))

-- a receive of records that broke off
pub receive_broke : {M : Type 0} (view : M → MediumView) (first w : ℕ) (r a s : RingView M) → drive_party r ≤ 30 → IsIdle r → SoughtBy view first r a → NotReceived view (drive_party r) (Some 2) Sda w a s → ReadBroke view (drive_party r) r s
receive_broke view first w r a s low idle so got =
    let d = drive_party r in
    let broke = got.broken.broke in
    let at : d ≡ drive_party a = sym (same_party view _ r a so.made) in
    let meant = meant_for (length (devices_of a)) d (drive_party a) (Some 2) Sda got.answer got.asked at in
    let legal = legal_answer a d (Some 2) Sda got.answer got.broken.legal in
    let left = receive_cut view (length (devices_of a)) (drive_party a) broke.standing d (Some 2) Sda got.answer broke.adds.came broke.adds.answers a.drive s.drive low refl legal
    (broke.brought (receive_from_here (drive_party a) d (Some 2) Sda got.answer meant)) broke.adds.drive in
    let seek : Exchange = Send d (Some 4) (so.high ∷ so.low ∷ []) in
    let read : Exchange = Receive d (Some 2) Sda got.answer in
    let talked = talked_then view false (WholeOne seek ∷ []) (Cut read broke.standing broke.break ∷ []) r a s idle.free (made_talked view seek r a so.made) (broken_talked view read a s got.broken) in
    let all = leaves_then view r.drive a.drive s.drive (leaves_same view r.drive a.drive so.drive.medium) left in
    record {
      came = (came_still view false (WholeOne seek ∷ Cut read broke.standing broke.break ∷ []) _ r s talked (ends_within-broken (loop_of r) (WholeOne seek ∷ Cut read broke.standing broke.break ∷ []) talked.ends)
          (units_of-read_cut (loop_of r) so.high so.low got.answer broke.standing broke.break so.right_high so.right_low) (λ t. (t, refl, refl)) all.still.tape).came;
      unheard = heard_then d r a s so.unheard (heard_none d a s (none_not_received view a s d (Some 2) Sda got.answer got.broken got.unheard));
      drive = all;
    }

-- what was read changed no record
read_leaves : {M : Type 0} (view : M → MediumView) (d k first n : ℕ) (old new : List ℕ) (v w : DriveView M) → ReadSo view d k first n old new v w → LeavesRecords view v w
unfolding ReadSo
read_leaves view d k first n old new v w so = ⊎_elim
    (λ all. record { still = all.1.medium.still; count = let e = all.1.medium.count in omega (arith, e) })
    (λ part. record { still = part.still; count = part.rose.later })
    so

-- a poll of the status that broke off
pub poll_broke : {M : Type 0} (view : M → MediumView) (k first n : ℕ) (old new : List ℕ) (r a b s : RingView M) → drive_party r ≤ 30 → IsIdle r → SoughtBy view first r a → Received view (drive_party r) (Some 2) Sda n a old new b
    → ReadSo view (drive_party r) k first n old new a.drive b.drive → NotPolled view (drive_party r) b s → ReadBroke view (drive_party r) r s
poll_broke view k first n old new r a b s low idle so got read not =
    let d = drive_party r in
    let broke = not.broken.broke in
    let legal = legal_answer a d (Some 2) Sda got.answer got.made.legal in
    let seek : Exchange = Send d (Some 4) (so.high ∷ so.low ∷ []) in
    let transfer : Exchange = Receive d (Some 2) Sda got.answer in
    let poll : Exchange = Receive d None Sst not.answer in
    let talked = talked_then view false (WholeOne seek ∷ []) (WholeOne transfer ∷ Cut poll broke.standing broke.break ∷ []) r a s idle.free (made_talked view seek r a so.made)
    (talked_then view false (WholeOne transfer ∷ []) (Cut poll broke.standing broke.break ∷ []) a b s so.made.idle.free (made_talked view transfer a b got.made) (broken_talked view poll b s not.broken)) in
    let all = leaves_then view r.drive a.drive s.drive (leaves_same view r.drive a.drive so.drive.medium) (leaves_then view a.drive b.drive s.drive (read_leaves view d k first n old new a.drive b.drive read) not.drive) in
    record {
      came = (came_still view false (WholeOne seek ∷ WholeOne transfer ∷ Cut poll broke.standing broke.break ∷ []) _ r s talked (ends_within-broken (loop_of r) (WholeOne seek ∷ WholeOne transfer ∷ Cut poll broke.standing broke.break ∷ []) talked.ends)
          (units_of-read_untold (loop_of r) so.high so.low got.answer not.answer (received got.answer) broke.standing broke.break so.right_high so.right_low (sent_received d got.answer legal (Some 2) Sda)) (λ t. (t, refl, refl)) all.still.tape).came;
      unheard = heard_then d r b s (heard_got view d n (Some 2) Sda r a b old new so.unheard got) (heard_none d b s not.unheard);
      drive = all;
    }

-- ---- all of it

pub count_same : {M : Type 0} (view : M → MediumView) (v w : DriveView M) → w.medium ≡ v.medium → (view w.medium).faults ≡ (view v.medium).faults
count_same view v w same = ap (λ m. (view m).faults) same

no_status : (byte : ℕ) → byte ≡ 65 → (byte == 0) ≡ false
no_status byte is = ne_eqb byte 0 (λ zero. absurd (omega (arith, is, zero)))

-- by what the drive did, and by its status
read_ends : {M : Type 0} (view : M → MediumView) (d k first n byte : ℕ) (old new : List ℕ) (r a b s : RingView M) → length old ≡ 256 * k → HasSought view d first r.drive a.drive → ReadSo view d k first n old new a.drive b.drive
    → TellsStatus d byte b.drive s.drive → (bytes : List ℕ) → (n ≡ length old → new ≡ bytes) → CameUnits view true (unit false first bytes byte ∷ []) r s → OnlyHeard d r s → LeavesRecords view r.drive s.drive
    → (good : Bool) → good ≡ ((n == length old) && (byte == 0)) → ReadAs view d first new good r s
unfolding ReadSo
read_ends view d k first n byte old new r a b s long so (inl all) told bytes brought units unheard left true is =
    let zero : byte ≡ 0 = told.byte_is ∙ ap status_byte_of all.1.rests.free.status in
    let tape : (view a.drive.medium).tape ≡ (view r.drive.medium).tape = ap (λ m. (view m).tape) so.medium in
    let size : length new / 256 ≡ k = omega (arith, all.1.long) in
    record {
      came = subst (λ byte. CameUnits view true (unit false first new byte ∷ []) r s) zero (subst (λ bytes. CameUnits view true (unit false first bytes byte ∷ []) r s) (sym (brought all.0)) units);
      unheard = unheard;
      drive = record {
        long = all.1.long ∙ ap (λ k. 256 * k) (sym size);
        content = λ t is. all.1.content t (tape ∙ is) ∙ ap (λ k. bytes_from t first k) (sym size);
        rests = told.rests;
        medium = record { still = left.still; count = count_same view b.drive s.drive told.medium ∙ all.1.medium.count ∙ count_same view r.drive a.drive so.medium };
      };
    }
read_ends view d k first n byte old new r a b s long so (inl all) told bytes brought units unheard left false is =
    let zero : byte ≡ 0 = told.byte_is ∙ ap status_byte_of all.1.rests.free.status in
    let clash : false ≡ true = is ∙ and_from (n == length old) (byte == 0) (eq-eqb n (length old) all.0) (eq-eqb byte 0 zero) in
    cc
read_ends view d k first n byte old new r a b s long so (inr part) told bytes brought units unheard left true is =
    let some = no_status byte (told.byte_is ∙ ap status_byte_of part.status) in
    let both = and_parts (n == length old) (byte == 0) (sym is) in
    let clash : false ≡ true = sym some ∙ both.1 in
    cc
read_ends view d k first n byte old new r a b s long so (inr part) told bytes brought units unheard left false is = record {
  bytes = bytes;
  status = byte;
  bad = λ zero. absurd (omega (arith, zero, told.byte_is ∙ ap status_byte_of part.status));
  came = units;
  unheard = unheard;
  rests = told.rests;
  still = left.still;
  rose =
      let before = count_same view r.drive a.drive so.medium in
      let behind = count_same view b.drive s.drive told.medium in
      subst (λ n. Rose n (view s.drive.medium).faults) before (subst (λ n. Rose (view a.drive.medium).faults n) (sym behind) part.rose);
}

pub read_whole : {M : Type 0} (view : M → MediumView) (k first n byte : ℕ) (old new : List ℕ) (r a b s : RingView M) → IsIdle r → length old ≡ 256 * k → SoughtBy view first r a → (got : Received view (drive_party r) (Some 2) Sda n a old new b)
    → ReadSo view (drive_party r) k first n old new a.drive b.drive → Polled view (drive_party r) byte b s → (good : Bool) → good ≡ ((n == length old) && (byte == 0)) → ReadAs view (drive_party r) first new good r s
read_whole view k first n byte old new r a b s idle long so got read told good is =
    let d = drive_party r in
    let legal = legal_answer a d (Some 2) Sda got.answer got.made.legal in
    let seek : Exchange = Send d (Some 4) (so.high ∷ so.low ∷ []) in
    let transfer : Exchange = Receive d (Some 2) Sda got.answer in
    let poll : Exchange = Receive d None Sst (Stopped d [] told.echo) in
    let talked = talked_three view seek transfer poll r a b s idle so.made got.made told.made in
    let poll_legal = legal_answer b d None Sst (Stopped d [] told.echo) told.made.legal in
    let units : units_of (loop_of r) (WholeOne seek ∷ WholeOne transfer ∷ WholeOne poll ∷ []) ≡ one_unit (loop_of r) false first (received got.answer) (Some byte) ∷ [] =
    units_of-read (loop_of r) so.high so.low got.answer (Stopped d [] told.echo) (received got.answer) (byte_of told.echo.sent) so.right_high so.right_low (sent_received d got.answer legal (Some 2) Sda) (sent_received d (Stopped d [] told.echo) poll_legal None Sst)
    ∙ (λ i. one_unit (loop_of r) false (so.named i) (received got.answer) (Some (sym told.byte_is i)) ∷ []) in
    let left = leaves_then view r.drive a.drive s.drive (leaves_same view r.drive a.drive so.drive.medium) (leaves_then view a.drive b.drive s.drive (read_leaves view d k first n old new a.drive b.drive read) (leaves_same view b.drive s.drive told.drive.medium)) in
    let units_came = came_still view true (WholeOne seek ∷ WholeOne transfer ∷ WholeOne poll ∷ []) (unit false first (received got.answer) byte ∷ []) r s talked (outside_three (loop_of r) seek transfer poll refl refl) units (λ t. (t, refl, refl)) left.still.tape in
    let brought : n ≡ length old → new ≡ received got.answer = λ all. got.bytes ∙ ap (λ n. received got.answer ++ drop n old) all ∙ ap (λ rest. received got.answer ++ rest) (drop-length old) ∙ append-nil (received got.answer) in
    read_ends view d k first n byte old new r a b s long so.drive read told.drive (received got.answer) brought units_came (heard_then d r b s (heard_got view d n (Some 2) Sda r a b old new so.unheard got) (heard_none d b s told.unheard)) left good is

-- ---- for the drive's address by another name

module _ {M : Type 0} (view : M → MediumView) (d first k : ℕ) (r : RingView M) (low : d ≤ 30) (at : d ≡ drive_party r) (idle : IsIdle r) (small : first < 2 ^ 16) (free : IsFree (drive_party r) r.drive.state) (medium : IsMedium (view r.drive.medium))
    (fits : first + k ≤ (view r.drive.medium).record_count) (many : 1 ≤ k) where
  low_party : drive_party r ≤ 30
  low_party = omega (arith, low, at)

  there : first < (view r.drive.medium).record_count
  there = omega (arith, fits, many)

  sought_at : (s : RingView M) → SentAll view d (Some 4) (filled 2 (to_be_bytes w16 first)) r s → SoughtBy view first r s
  sought_at s so = sought_by view first r s low_party small free there (subst (λ d. SentAll view d (Some 4) (filled 2 (to_be_bytes w16 first)) r s) at so)

  -- the receive after the seek
  read_at : (n : ℕ) (old new : List ℕ) (a b : RingView M) → length old ≡ 256 * k → SoughtBy view first r a → Received view (drive_party r) (Some 2) Sda n a old new b → ReadSo view (drive_party r) k first n old new a.drive b.drive
  read_at n old new a b long so got =
      let party : drive_party a ≡ drive_party r = same_party view _ r a so.made in
      let same : a.drive.medium ≡ r.drive.medium = so.drive.medium in
      subst (λ d. ReadSo view d k first n old new a.drive b.drive) party
      (read_so view k n first old new a b (omega (arith, party, low_party)) (subst (λ d. IsFree d a.drive.state) (sym party) so.drive.rests.free) (subst (λ m. IsMedium (view m)) (sym same) medium) so.drive.position
      (omega (arith, fits, ap (λ m. (view m).record_count) same)) many long (subst (λ d. Received view d (Some 2) Sda n a old new b) (sym party) got))

  -- the drive has this address after the receive too
  polled_at : (n : ℕ) (old new : List ℕ) (a b : RingView M) → SoughtBy view first r a → Received view (drive_party r) (Some 2) Sda n a old new b → drive_party b ≡ drive_party r
  polled_at n old new a b so got = same_party view _ a b got.made ∙ same_party view _ r a so.made

  pub read_broke_at_seek : (bytes : List ℕ) (s : RingView M) → SendBroke view d (Some 4) bytes r s → ReadBroke view (drive_party r) r s
  read_broke_at_seek bytes s so = seek_broke view bytes r s low_party idle (subst (λ d. SendBroke view d (Some 4) bytes r s) at so)

  pub read_broke_at_receive : (w : ℕ) (a s : RingView M) → SentAll view d (Some 4) (filled 2 (to_be_bytes w16 first)) r a → NotReceived view d (Some 2) Sda w a s → ReadBroke view (drive_party r) r s
  read_broke_at_receive w a s so not = receive_broke view first w r a s low_party idle (sought_at a so) (subst (λ d. NotReceived view d (Some 2) Sda w a s) at not)

  pub read_broke_at_status : (n : ℕ) (old new : List ℕ) (a b s : RingView M) → length old ≡ 256 * k → SentAll view d (Some 4) (filled 2 (to_be_bytes w16 first)) r a → Received view d (Some 2) Sda n a old new b → NotPolled view (drive_party b) b s
      → ReadBroke view (drive_party r) r s
  read_broke_at_status n old new a b s long so got not =
      let seek = sought_at a so in
      let here : Received view (drive_party r) (Some 2) Sda n a old new b = subst (λ d. Received view d (Some 2) Sda n a old new b) at got in
      poll_broke view k first n old new r a b s low_party idle seek here (read_at n old new a b long seek here) (subst (λ d. NotPolled view d b s) (polled_at n old new a b seek here) not)

  pub read_done : (n byte : ℕ) (old new : List ℕ) (a b s : RingView M) → length old ≡ 256 * k → SentAll view d (Some 4) (filled 2 (to_be_bytes w16 first)) r a → Received view d (Some 2) Sda n a old new b → Polled view (drive_party b) byte b s
      → (good : Bool) → good ≡ ((n == length old) && (byte == 0)) → ReadAs view (drive_party r) first new good r s
  read_done n byte old new a b s long so got told good is =
      let seek = sought_at a so in
      let here : Received view (drive_party r) (Some 2) Sda n a old new b = subst (λ d. Received view d (Some 2) Sda n a old new b) at got in
      read_whole view k first n byte old new r a b s idle long seek here (read_at n old new a b long seek here) (subst (λ d. Polled view d byte b s) (polled_at n old new a b seek here) told) good is

-- ---- whether all came

pub same_length : {M : Type 0} (view : M → MediumView) (a n : ℕ) (number : Option ℕ) (start : Start) (r : RingView M) (old new : List ℕ) (s : RingView M) → Received view a number start n r old new s → length new ≡ length old
same_length view a n number start r old new s got =
    let all = ap length got.bytes in
    let parts = length-append (received got.answer) (drop n old) in
    let rest = length-drop n old in
    let many = got.count in
    let within = got.within in
    omega (arith, all, parts, rest, many, within)

pub all_came : (n m k byte : ℕ) (good : Bool) → m ≡ k → good ≡ ((n == m) && (byte == 0)) → good ≡ ((n == k) && (byte == 0))
all_came n m k byte good same is = subst (λ m. good ≡ ((n == m) && (byte == 0))) same is
