-- Several records that are read in one transmission: each is read as its first byte is due, and goes out byte by byte
-- while the echoes are right. A record that could not be read ends it by ETO, and so does the end of the tape.
use Rattle.std.proofs.Common.{◌≡◌, ◌<◌, ◌≤◌, ◌+◌, ◌*◌, ◌++◌, ◌⊎◌, inl, inr, ℕ, suc, List, [], ◌∷◌, length, get_or, map, take, true, false, refl, sym, ap, subst, ◌∙◌, arith, ⊎_elim, append_assoc, append-nil}
use Rattle.std.specs.Prelude.{Some, None}
use Rattle.std.proofs.Math.Nat.{mod-eq_of_lt, eq-or-lt_of_le}
use Rattle.std.proofs.lemmas.List.{take_all, take_more}
use Rattle.lif_model.specs.Tape.{Tape, record_at, bytes_from}
use Rattle.lif_model.specs.Causes.{Rose}
use Rattle.lif_model.proofs.Runs.{bytes_from_more}
use Rattle.il_ports.specs.Media.{MediumView, IsMedium}
use Rattle.il_frames.specs.declared.frame.Class.{Class}
use Rattle.il_frames.specs.declared.frame.Class.TheVariants as class
use Rattle.il_frames.specs.declared.frame.Frame.{Frame}
use Rattle.il_frames.specs.Frames.{framed, byte_of, class_of, is_data, is_data_class, same_but_service}
use Rattle.il_frames.specs.declared.message.Message.TheVariants as msg
use Rattle.il_device.specs.declared.device.Out.{Out}
use Rattle.il_device.specs.declared.device.Out.TheVariants.{Pass, Source}
use Rattle.il_device.specs.declared.interface.OwnFrame.{OwnFrame}
use Rattle.il_device.specs.declared.roles.Roles.{Roles}
use Rattle.il_device.specs.Roles.{own_after}
use Rattle.il_device.specs.Takes.{just_sent, eto}
use Rattle.il_device.proofs.Laws.{roles_after-data}
use Rattle.il_drive.specs.declared.mode.Fault.TheVariants as fault
use Rattle.il_drive.specs.declared.mode.Mode.TheVariants as mode
use Rattle.il_drive.specs.declared.mode.Start.TheVariants as start
use Rattle.il_drive.specs.State.{DriveState, DriveView, status_of}
use Rattle.il_drive.specs.Steps.{Now, Reads, IsStill, Did}
use Rattle.il_drive.specs.Table as table
use Rattle.il_drive.specs.Runs.{Ran, AllData}
use Rattle.il_drive.proofs.Sending.{sda, later, one_sent, step_reads, step_reads_on, step_reads_past, step_ends}
use Rattle.il_drive.specs.Resting.{IsRead}

-- ---- what a reading leaves of the medium

pub nothing_read : (v : MediumView) → IsRead v v
nothing_read v = record {
  still = record {
    stays_in = record { told = refl; inside = refl; size = refl };
    tape = refl;
    shelf = refl;
    moment = refl;
    since = record { nothing_else = λ m t left. left; keeps = λ m t left. left };
  };
  count = refl;
}

pub still_longer : (v w u : MediumView) → IsStill v w → IsStill w u → IsStill v u
still_longer v w u first next = record {
  stays_in = record {
    told = next.stays_in.told ∙ first.stays_in.told;
    inside = next.stays_in.inside ∙ first.stays_in.inside;
    size = next.stays_in.size ∙ first.stays_in.size;
  };
  tape = next.tape ∙ first.tape;
  shelf = next.shelf ∙ first.shelf;
  moment = next.moment ∙ first.moment;
  since = record {
    nothing_else = λ m t left. first.since.nothing_else m t (next.since.nothing_else m t left);
    keeps = λ m t left. next.since.keeps m t (first.since.keeps m t left);
  };
}

-- ---- how far a transmission has come

-- Since the medium was m the drive has sent the records from `first` on: so many of them whole, and of the next one the
-- bytes up to place `last`. That byte is on the loop.
pub record HasSent {M : Type 0} (view : M → MediumView) (first whole last : ℕ) (m : M) (w : DriveView M) : Type 0 where
  pub place : last < 256
  pub record_there : first + whole < (view m).record_count
  pub talks : w.state.interface.roles.talks ≡ true
  pub mode : w.state.mode ≡ mode.Read
  pub begun : w.state.begun ≡ start.Data
  pub status : status_of w.state ≡ 0
  pub pointer : w.state.pointer ≡ table.next_pointer last
  pub position : w.state.position ≡ suc (first + whole)
  pub own : w.state.interface.own ≡ Some (just_sent (framed class.Dab (get_or w.state.buffer_0 last 0)) false)
  pub buffer : (t : Tape) → (view m).tape ≡ Some t → w.state.buffer_0 ≡ record_at t (first + whole)
  pub medium : IsRead (view m) (view w.medium)

-- the bytes that have been sent then
abbrev pub sent_bytes : Tape → ℕ → ℕ → ℕ → List ℕ
sent_bytes t first whole last = bytes_from t first whole ++ take (last + 1) (record_at t (first + whole))

-- The transmission is over, since record k could not be read, with status 1, or since the tape has no record k, with
-- status 3.
pub record HasEnded {M : Type 0} (view : M → MediumView) (k : ℕ) (m : M) (w : DriveView M) : Type 0 where
  pub rests : w.state.mode ≡ mode.Rest
  pub silent : w.state.interface.own ≡ None
  pub still : IsStill (view m) (view w.medium)
  pub why : ((status_of w.state ≡ 1) × Rose (view m).faults (view w.medium).faults)
      ⊎ ((k ≡ (view m).record_count) × (status_of w.state ≡ 3) × ((view w.medium).faults ≡ (view m).faults))

-- the message NRD
abbrev pub nrd : Frame
nrd = framed class.Rdy 0x42

-- The transmission was ended by NRD, after the right echo of the byte that was on the loop.
pub record HasStopped {M : Type 0} (v : DriveView M) (outs : List Out) (w : DriveView M) : Type 0 where
  pub answers : outs ≡ Pass nrd ∷ Source eto ∷ []
  pub rests : w.state.mode ≡ mode.Rest
  pub silent : w.state.interface.own ≡ None
  pub status : status_of w.state ≡ 0
  pub medium : w.medium ≡ v.medium

-- a byte that goes out
abbrev pub sent : ℕ → Out
sent byte = Source (framed class.Dab byte)

-- what came of the next record: its first byte goes out, or none
abbrev pub Opened : {M : Type 0} → (M → MediumView) → ℕ → ℕ → Out → M → DriveView M → Out → Type 0
Opened view first whole instead m w out =
    (HasSent view first whole 0 m w × (out ≡ sent (get_or w.state.buffer_0 0 0)))
    ⊎ (HasEnded view (first + whole) m w × (out ≡ instead))

-- the frame is the echo of what the drive sent
abbrev pub IsEcho : Out → Frame → Type 0
IsEcho (Source own) f = same_but_service own f ≡ true
IsEcho (Pass g) f = ⊥

-- each frame is the echo of what went out before it
abbrev pub ComeBack : Out → List Frame → List Out → Type 0
ComeBack out [] outs = Unit {0}
ComeBack out (f ∷ fs) [] = ⊥
ComeBack out (f ∷ fs) (next ∷ outs) = IsEcho out f × ComeBack next fs outs

-- data are no echo of ETO
no_echo_class : (k : Class) (byte : ℕ) → is_data_class k ≡ true → same_but_service eto (framed k byte) ≡ true → ⊥
no_echo_class class.Dab byte is_byte right = cc
no_echo_class class.Dsr byte is_byte right = cc
no_echo_class class.End byte is_byte right = cc
no_echo_class class.Esr byte is_byte right = cc
no_echo_class _ byte is_byte right = cc

pub no_echo : (f : Frame) → is_data f ≡ true → IsEcho (Source eto) f → ⊥
no_echo f = no_echo_class (class_of f) (byte_of f)

module _ {M : Type 0} (view : M → MediumView) where
  -- ---- one record more

  -- the drive as a record comes into its buffer, and its first byte goes out
  opened : (first whole : ℕ) (instead : Out) (s u : DriveState) (out : Out) (m : M) (v w : DriveView M) → s.interface.roles.talks ≡ true → s.mode ≡ mode.Read → status_of s ≡ 0 → s.pointer ≡ 0
      → s.position ≡ first + whole → first + whole < (view m).record_count → IsRead (view m) (view v.medium)
      → u.interface.own ≡ None → u.mode ≡ mode.Rest → status_of u ≡ 1
      → Did view (Reads s.position (λ bytes. table.sends start.Data false (get_or bytes s.pointer 0) (table.advanced (record s { buffer_0 = bytes; position = s.position + 1 }))) (u, instead)) (w.state, out) v.medium w.medium
      → Opened view first whole instead m w out
  opened first whole instead s u out m v w talks in_mode good empty at there before silent rests unread (still, inl gave) =
      let later = record s { buffer_0 = gave.bytes; position = s.position + 1 } in
      let sends = table.sends start.Data false (get_or gave.bytes s.pointer 0) (table.advanced later) in
      let is : w.state ≡ sends.0 = ap (λ x. x.0) gave.value in
      let zero_place : get_or gave.bytes s.pointer 0 ≡ get_or w.state.buffer_0 0 0 =
      ap (λ p. get_or gave.bytes p 0) empty ∙ ap (λ (s : DriveState). get_or s.buffer_0 0 0) (sym is) in
      inl (
        record {
          place = omega arith;
          record_there = there;
          talks = ap (λ (s : DriveState). s.interface.roles.talks) is ∙ talks;
          mode = ap (λ (s : DriveState). s.mode) is ∙ in_mode;
          begun = ap (λ (s : DriveState). s.begun) is;
          status = ap status_of is ∙ good;
          pointer = ap (λ (s : DriveState). s.pointer) is ∙ ap table.next_pointer empty;
          position = omega (arith, ap (λ (s : DriveState). s.position) is, at);
          own = ap (λ (s : DriveState). s.interface.own) is ∙ ap (λ byte. Some (just_sent (framed class.Dab byte) false)) zero_place;
          buffer = λ t told. ap (λ (s : DriveState). s.buffer_0) is ∙ gave.content t (before.still.tape ∙ told) ∙ ap (record_at t) at;
          medium = record { still = still_longer _ _ _ before.still still; count = gave.count ∙ before.count };
        },
        ap (λ x. x.1) gave.value ∙ ap sent zero_place,
      )
  opened first whole instead s u out m v w talks in_mode good empty at there before silent rests unread (still, inr (is, rose)) =
      let now : w.state ≡ u = ap (λ x. x.0) is in
      inr (
        record {
          rests = ap (λ (s : DriveState). s.mode) now ∙ rests;
          silent = ap (λ (s : DriveState). s.interface.own) now ∙ silent;
          still = still_longer _ _ _ before.still still;
          why = inl (ap status_of now ∙ unread, subst (λ n. Rose n (view w.medium).faults) before.count rose);
        },
        ap (λ x. x.1) is,
      )

  -- SDA, after DDT 2: the first record is read
  pub opens : (v w : DriveView M) (out : Out) → v.state.interface.roles.talks ≡ true → v.state.interface.own ≡ None → v.state.mode ≡ mode.Read → status_of v.state ≡ 0 → v.state.pointer ≡ 0
      → v.state.position < (view v.medium).record_count
      → Did view (table.drive_step (view v.medium).record_count v.state sda) (w.state, out) v.medium w.medium → Opened view v.state.position 0 (Pass sda) v.medium w out
  opens v w out talks silent in_mode good empty there did =
      let s = v.state in
      let at : s.position ≡ s.position + 0 = omega arith in
      opened s.position 0 (Pass sda) (table.behind_effect sda s) (table.faulty fault.Unread (table.behind_effect sda s)) out v.medium v w talks in_mode good empty at (omega (arith, there)) (nothing_read (view v.medium)) silent refl refl
      (subst (λ step. Did view step (w.state, out) v.medium w.medium) (step_reads (view v.medium).record_count s talks silent in_mode empty (λ e. absurd (omega (arith, e, there)))) did)

  -- ---- one echo more

  -- within a record the next byte goes out
  goes_on : (first whole last : ℕ) (f : Frame) (out : Out) (m : M) (v w : DriveView M) → HasSent view first whole last m v → last < 255 → is_data f ≡ true → IsEcho (sent (get_or v.state.buffer_0 last 0)) f
      → Did view (table.drive_step (view v.medium).record_count v.state f) (w.state, out) v.medium w.medium
      → HasSent view first whole (last + 1) m w × (out ≡ sent (get_or w.state.buffer_0 (last + 1) 0))
  goes_on first whole last f out m v w has lt is_byte right did =
      let s = v.state in
      let up : table.next_pointer last ≡ last + 1 = mod-eq_of_lt (omega (arith, lt)) in
      let pointer : s.pointer ≡ last + 1 = has.pointer ∙ up in
      let one = one_sent view last f out v w (record { talks = has.talks; mode = has.mode; pointer = omega (arith, pointer); sent = has.own }) is_byte right did in
      let sending : HasSent view first whole (last + 1) m (record { state = later s f; medium = v.medium }) = record {
        place = omega (arith, lt);
        record_there = has.record_there;
        talks = ap (λ (r : Roles). r.talks) (roles_after-data s.interface.roles f is_byte) ∙ has.talks;
        mode = has.mode;
        begun = refl;
        status = has.status;
        pointer = ap table.next_pointer pointer;
        position = has.position;
        own = ap (λ p. Some (just_sent (framed class.Dab (get_or s.buffer_0 p 0)) false)) pointer;
        buffer = has.buffer;
        medium = has.medium;
      } in
      let is : w ≡ record { state = later s f; medium = v.medium } = one.1 in (
        subst (HasSent view first whole (last + 1) m) (sym is) sending,
        one.0 ∙ ap (λ p. sent (get_or s.buffer_0 p 0)) pointer ∙ ap (λ (w : DriveView M). sent (get_or w.state.buffer_0 (last + 1) 0)) (sym is),
      )

  -- after the last byte of a record the next one is read, where the tape has one
  opens_next : (first whole : ℕ) (f : Frame) (out : Out) (m : M) (v w : DriveView M) → HasSent view first whole 255 m v → is_data f ≡ true → IsEcho (sent (get_or v.state.buffer_0 255 0)) f
      → suc (first + whole) ≤ (view v.medium).record_count
      → Did view (table.drive_step (view v.medium).record_count v.state f) (w.state, out) v.medium w.medium → Opened view first (suc whole) (Source eto) m w out
  opens_next first whole f out m v w has is_byte right most did =
      let s = v.state in
      let byte = get_or s.buffer_0 255 0 in
      let n = (view v.medium).record_count in
      let size : n ≡ (view m).record_count = has.medium.still.stays_in.size in
      ⊎_elim
      (λ e.
      let past : Did view (Now (table.ends eto (table.faulty fault.NoRecord (table.behind_effect f s)))) (w.state, out) v.medium w.medium =
      subst (λ step. Did view step (w.state, out) v.medium w.medium) (step_reads_past n byte s f has.own has.mode has.pointer is_byte right (omega (arith, has.position, e))) did in
      let is : w.state ≡ (table.ends eto (table.faulty fault.NoRecord (table.behind_effect f s))).0 = ap (λ x. x.0) past.0 in
      inr (
        record {
          rests = ap (λ (s : DriveState). s.mode) is;
          silent = ap (λ (s : DriveState). s.interface.own) is;
          still = subst (λ m₂. IsStill (view m) (view m₂)) (sym past.1) has.medium.still;
          why = inr (omega (arith, e, size), ap status_of is, ap (λ m₂. (view m₂).faults) past.1 ∙ has.medium.count);
        },
        ap (λ x. x.1) past.0,
      ))
      (λ lt. opened first (suc whole) (Source eto) (table.behind_effect f s) (table.ends eto (table.faulty fault.Unread (table.behind_effect f s))).0 out m v w
      (ap (λ (r : Roles). r.talks) (roles_after-data s.interface.roles f is_byte) ∙ has.talks) has.mode has.status has.pointer (omega (arith, has.position)) (omega (arith, lt, size)) has.medium refl refl refl
      (subst (λ step. Did view step (w.state, out) v.medium w.medium) (step_reads_on n byte s f has.own has.mode has.pointer is_byte right (λ e. absurd (omega (arith, e, lt, has.position)))) did))
      (eq-or-lt_of_le most)

  -- ---- any number of echoes

  -- What went out after these echoes, where the byte `start` was on the loop: bytes that lead from that place to another
  -- one, the last of which is on the loop; and then, where the transmission is over, ETO.
  pub record WentOut (first whole last start : ℕ) (m : M) (fs : List Frame) (outs : List Out) (w : DriveView M) : Type 0 where
    pub bytes : List ℕ
    pub to_whole : ℕ
    pub to_last : ℕ
    pub place : 256 * to_whole + to_last ≡ 256 * whole + last + length bytes
    pub content : (t : Tape) → (view m).tape ≡ Some t → sent_bytes t first to_whole to_last ≡ sent_bytes t first whole last ++ bytes
    pub end : (HasSent view first to_whole to_last m w × (outs ≡ map sent bytes) × (length fs ≡ length bytes) × (get_or w.state.buffer_0 to_last 0 ≡ get_or (start ∷ bytes) (length bytes) 0))
        ⊎ (HasEnded view (first + suc to_whole) m w × (to_last ≡ 255) × (outs ≡ map sent bytes ++ Source eto ∷ []) × (length fs ≡ suc (length bytes)))

  nothing_went : (first whole last : ℕ) (m : M) (v w : DriveView M) → HasSent view first whole last m v → w ≡ v → WentOut first whole last (get_or v.state.buffer_0 last 0) m [] [] w
  nothing_went first whole last m v w has is = record {
    bytes = [];
    to_whole = whole;
    to_last = last;
    place = omega arith;
    content = λ t told. sym (append-nil (sent_bytes t first whole last));
    end = inl (subst (HasSent view first whole last m) (sym is) has, refl, refl, ap (λ (w : DriveView M). get_or w.state.buffer_0 last 0) is);
  }

  -- a byte, and then what went out after it
  byte_and : (first whole last next_whole next_last start byte : ℕ) (m : M) (f : Frame) (fs : List Frame) (out : Out) (outs : List Out) (w : DriveView M)
      → 256 * next_whole + next_last ≡ suc (256 * whole + last) → ((t : Tape) → (view m).tape ≡ Some t → sent_bytes t first next_whole next_last ≡ sent_bytes t first whole last ++ byte ∷ [])
      → out ≡ sent byte → WentOut first next_whole next_last byte m fs outs w → WentOut first whole last start m (f ∷ fs) (out ∷ outs) w
  byte_and first whole last next_whole next_last start byte m f fs out outs w place content is more = record {
    bytes = byte ∷ more.bytes;
    to_whole = more.to_whole;
    to_last = more.to_last;
    place = omega (arith, place, more.place);
    content = λ t told. more.content t told ∙ ap (λ xs. xs ++ more.bytes) (content t told) ∙ append_assoc (sent_bytes t first whole last) (byte ∷ []) more.bytes;
    end = ⊎_elim
        (λ going. inl (going.0, (λ i. is i ∷ going.1 i), ap suc going.2, going.3))
        (λ over. inr (over.0, over.1, (λ i. is i ∷ over.2 i), ap suc over.3))
        more.end;
  }

  -- the bytes sent, one place on and one record on
  place_on : (t : Tape) (first whole last : ℕ) → last + 1 < length (record_at t (first + whole)) → sent_bytes t first whole (last + 1) ≡ sent_bytes t first whole last ++ get_or (record_at t (first + whole)) (last + 1) 0 ∷ []
  place_on t first whole last within =
      ap (λ xs. bytes_from t first whole ++ xs) (take_more (record_at t (first + whole)) (last + 1) 0 within) ∙ sym (append_assoc (bytes_from t first whole) (take (last + 1) (record_at t (first + whole))) (get_or (record_at t (first + whole)) (last + 1) 0 ∷ []))

  record_on : (t : Tape) (first whole : ℕ) → length (record_at t (first + whole)) ≡ 256 → 0 < length (record_at t (first + suc whole))
      → sent_bytes t first (suc whole) 0 ≡ sent_bytes t first whole 255 ++ get_or (record_at t (first + suc whole)) 0 0 ∷ []
  record_on t first whole long some =
      ap (λ xs. bytes_from t first (suc whole) ++ xs) (take_more (record_at t (first + suc whole)) 0 0 some)
      ∙ ap (λ xs. xs ++ get_or (record_at t (first + suc whole)) 0 0 ∷ []) (bytes_from_more t first whole ∙ ap (λ xs. bytes_from t first whole ++ xs) (sym (take_all 256 (record_at t (first + whole)) (omega (arith, long)))))

  -- the transmission that is over has no further frame
  ended : (first whole last start : ℕ) (m : M) (f : Frame) (fs : List Frame) (out : Out) (outs : List Out) (u w : DriveView M) → last ≡ 255 → HasEnded view (first + suc whole) m u
      → out ≡ Source eto → AllData fs → ComeBack out fs outs → Ran view u fs outs w → WentOut first whole last start m (f ∷ fs) (out ∷ outs) w
  ended first whole last start m f [] out [] u w e over is all echoes ran = record {
    bytes = [];
    to_whole = whole;
    to_last = last;
    place = omega arith;
    content = λ t told. sym (append-nil (sent_bytes t first whole last));
    end = inr (subst (λ w. HasEnded view (first + suc whole) m w) (sym ran) over, e, (λ i. is i ∷ []), refl);
  }
  ended first whole last start m f [] out (next ∷ outs) u w e over is all echoes ran = absurd ran
  ended first whole last start m f (g ∷ fs) out [] u w e over is all echoes ran = absurd ran
  ended first whole last start m f (g ∷ fs) out (next ∷ outs) u w e over is all echoes ran = absurd (no_echo g all.0 (subst (λ out. IsEcho out g) is echoes.0))

  -- While each frame is the echo of what went out before it, the records follow each other byte by byte; the transmission
  -- ends by ETO where one could not be read or the tape has no more.
  pub sends_records : (fs : List Frame) (outs : List Out) (first whole last : ℕ) (m : M) (v w : DriveView M) → IsMedium (view m) → HasSent view first whole last m v → AllData fs
      → ComeBack (sent (get_or v.state.buffer_0 last 0)) fs outs → Ran view v fs outs w → WentOut first whole last (get_or v.state.buffer_0 last 0) m fs outs w
  sends_records [] [] first whole last m v w medium has all echoes ran = nothing_went first whole last m v w has ran
  sends_records [] (out ∷ outs) first whole last m v w medium has all echoes ran = absurd ran
  sends_records (f ∷ fs) [] first whole last m v w medium has all echoes ran = absurd ran
  sends_records (f ∷ fs) (out ∷ outs) first whole last m v w medium has all echoes ran =
      let u = ran.0 in
      let size = has.medium.still.stays_in.size in
      ⊎_elim
      (λ (e : last ≡ 255).
      let full : HasSent view first whole 255 m v = subst (λ last. HasSent view first whole last m v) e has in
      let right : IsEcho (sent (get_or v.state.buffer_0 255 0)) f = subst (λ last. IsEcho (sent (get_or v.state.buffer_0 last 0)) f) e echoes.0 in
      ⊎_elim
      (λ went.
      byte_and first whole last (suc whole) 0 (get_or v.state.buffer_0 last 0) (get_or u.state.buffer_0 0 0) m f fs out outs w (omega (arith, e))
      (λ t told.
      let tape = medium.is_tape t told in
      subst (λ last. sent_bytes t first (suc whole) 0 ≡ sent_bytes t first whole last ++ get_or u.state.buffer_0 0 0 ∷ []) (sym e)
      (record_on t first whole (tape.bytes (first + whole) has.record_there) (omega (arith, tape.bytes (first + suc whole) went.0.record_there)) ∙ ap (λ bytes. sent_bytes t first whole 255 ++ get_or bytes 0 0 ∷ []) (sym (went.0.buffer t told))))
      went.1 (sends_records fs outs first (suc whole) 0 m u w medium went.0 all.1 (subst (λ out. ComeBack out fs outs) went.1 echoes.1) ran.2))
      (λ over. ended first whole last (get_or v.state.buffer_0 last 0) m f fs out outs u w e over.0 over.1 all.1 echoes.1 ran.2)
      (opens_next first whole f out m v u full all.0 right (omega (arith, has.record_there, size)) ran.1))
      (λ (lt : last < 255).
      let went = goes_on first whole last f out m v u has lt all.0 echoes.0 ran.1 in
      byte_and first whole last whole (last + 1) (get_or v.state.buffer_0 last 0) (get_or u.state.buffer_0 (last + 1) 0) m f fs out outs w (omega arith)
      (λ t told.
      let tape = medium.is_tape t told in
      place_on t first whole last (omega (arith, lt, tape.bytes (first + whole) has.record_there)) ∙ ap (λ bytes. sent_bytes t first whole last ++ get_or bytes (last + 1) 0 ∷ []) (sym (went.0.buffer t told)))
      went.1 (sends_records fs outs first whole (last + 1) m u w medium went.0 all.1 (subst (λ out. ComeBack out fs outs) went.1 echoes.1) ran.2))
      (eq-or-lt_of_le (omega (arith, has.place)))

  -- NRD, and then the echo of the byte that is on the loop: no further byte goes out, and no record is read
  pub stops : (first whole last : ℕ) (f : Frame) (outs : List Out) (m : M) (v w : DriveView M) → HasSent view first whole last m v → is_data f ≡ true → IsEcho (sent (get_or v.state.buffer_0 last 0)) f
      → Ran view v (nrd ∷ f ∷ []) outs w → HasStopped v outs w
  stops first whole last f [] m v w has is_byte right ran = absurd ran
  stops first whole last f (one ∷ []) m v w has is_byte right ran = absurd ran.2
  stops first whole last f (one ∷ two ∷ three ∷ outs) m v w has is_byte right ran = absurd ran.2.2
  stops first whole last f (one ∷ two ∷ []) m v w has is_byte right ran =
      let s = v.state in
      let u = ran.0 in
      let heard : Did view (Now (table.passes s.interface.roles nrd (table.behind_effect nrd s))) (u.state, one) v.medium u.medium = ran.1 in
      let stopped : OwnFrame = record { frame = framed class.Dab (get_or s.buffer_0 last 0); last = false; stopped = true } in
      let is : u.state ≡ table.behind_effect nrd s = ap (λ x. x.0) heard.0 in
      let own : u.state.interface.own ≡ Some stopped = ap (λ (s : DriveState). s.interface.own) is ∙ ap (λ own. own_after s.interface.roles own msg.Nrd) has.own in
      let over : Did view (Now (table.ends eto (table.acknowledged u.state.begun (table.behind_effect f u.state)))) (ran.2.0.state, two) u.medium ran.2.0.medium =
      subst (λ step. Did view step (ran.2.0.state, two) u.medium ran.2.0.medium) (step_ends (view u.medium).record_count u.state f stopped own is_byte right refl) ran.2.1 in
      let now : w.state ≡ (table.ends eto (table.acknowledged u.state.begun (table.behind_effect f u.state))).0 = ap (λ (w : DriveView M). w.state) ran.2.2 ∙ ap (λ x. x.0) over.0 in
      record {
        answers = λ i. ap (λ x. x.1) heard.0 i ∷ ap (λ x. x.1) over.0 i ∷ [];
        rests = ap (λ (s : DriveState). s.mode) now;
        silent = ap (λ (s : DriveState). s.interface.own) now;
        status = ap status_of now ∙ ap (λ begun. status_of (table.acknowledged begun (table.behind_effect f u.state))) (ap (λ (s : DriveState). s.begun) is ∙ has.begun) ∙ ap status_of is ∙ has.status;
        medium = ap (λ (w : DriveView M). w.medium) ran.2.2 ∙ over.1 ∙ heard.1;
      }
