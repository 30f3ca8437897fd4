-- The receive that reads records, as one exchange: the bytes of the records from the position on go out in order; NRD
-- before the echo of the last one ends it. Where a record could not be read, it ends by itself, and the status tells it.
use Rattle.std.proofs.Common.{◌≡◌, ◌<◌, ◌≤◌, ◌+◌, ◌*◌, ◌++◌, ◌⊎◌, inl, inr, ℕ, suc, List, [], ◌∷◌, length, get_or, drop, map, true, false, refl, sym, ap, subst, ◌∙◌, arith, ⊎_elim, append_assoc}
use Rattle.std.specs.Prelude.{Some, None, if◌then◌else◌}
use Rattle.std.proofs.lemmas.Bool.{eq-eqb}
use Rattle.std.proofs.lemmas.List.{take_all, take_more, length-map, get_or-map, get_or-append-add}
use Rattle.std.proofs.Math.Seq.{get_or-append_seam}
use Rattle.lif_model.specs.Tape.{Tape, record_at, bytes_from}
use Rattle.lif_model.specs.Causes.{Rose}
use Rattle.lif_model.proofs.Runs.{bytes_from_more}
use Rattle.il_ports.specs.Media.{MediumView, IsMedium}
use Rattle.il_frames.specs.declared.frame.Frame.{Frame}
use Rattle.il_frames.specs.declared.message.Message.TheVariants as msg
use Rattle.il_frames.specs.Frames.{is_data}
use Rattle.il_device.specs.declared.device.Out.{Out}
use Rattle.il_device.specs.declared.device.Out.TheVariants.{Pass, Source}
use Rattle.il_device.specs.Takes.{eto}
use Rattle.il_drive.specs.declared.mode.Mode.TheVariants as mode
use Rattle.il_drive.specs.State.{DriveView, status_of}
use Rattle.il_drive.specs.Steps.{IsStill}
use Rattle.il_drive.specs.Runs.{Ran, AllData}
use Rattle.il_drive.proofs.Beginning.{read_message}
use Rattle.il_drive.proofs.Sending.{sda}
use Rattle.il_drive.specs.Resting.{IsRead, IsFree, IsAtRest}
use Rattle.il_drive.proofs.Reading.{nrd, sent, sent_bytes, HasSent, HasEnded, Opened, WentOut, IsEcho, ComeBack, opens, sends_records, stops, no_echo}
use Rattle.il_drive.proofs.Exchanges.{Stance, stance_of, parts}
use Rattle.il_drive.proofs.ExchangesAddressed.{unl, unt, rfc, tad, talker, turned, goes_talking, rests_at}
use Rattle.il_drive.proofs.ExchangesStatus.{untalks}
use Rattle.il_drive.proofs.ExchangesStill.{roles_behind-data, roles-ran}

-- the messages of the exchange before SDA
abbrev pub to_read : ℕ → List Frame
to_read p = unl ∷ rfc ∷ tad p ∷ rfc ∷ read_message ∷ rfc ∷ []

abbrev pub passed : List Frame → List Out
passed fs = map (λ (f : Frame). Pass f) fs

-- the frames are the echoes of these answers, one after the other
abbrev pub EchoesOf : List Out → List Frame → Type 0
EchoesOf [] fs = ⊥
EchoesOf (out ∷ outs) fs = ComeBack out fs outs

module _ {M : Type 0} (view : M → MediumView) where
  -- DDT 2 with status 0
  pub begins_reading : (p : ℕ) (outs : List Out) (v w : DriveView M) → p ≤ 30 → IsFree p v.state → Ran view v (to_read p) outs w
      → (stance_of w.state ≡ record (turned (talker p) (stance_of v.state)) { mode = mode.Read; pointer = 0 }) × (w.medium ≡ v.medium) × (outs ≡ passed (to_read p))
  begins_reading p outs v w le free ran =
      let σ = turned (talker p) (stance_of v.state) in
      let went = goes_talking view p (msg.Ddt 2 ∷ msg.Rfc ∷ []) (read_message ∷ rfc ∷ []) outs v w le free.address free.mute (refl, (refl, tt)) refl refl ran in
      (went.0 ∙ ap (λ b. if b then record σ { mode = mode.Read; pointer = 0 } else record σ { mode = mode.Rest }) (eq-eqb (status_of v.state) 0 free.status), went.1, went.2)

  -- ---- echoes

  -- These bytes have gone out, one more than echoes came, and the last one is on the loop: the whole records before record
  -- first + whole, and its bytes up to place `last`.
  pub record IsReadOut (p first : ℕ) (fs : List Frame) (outs : List Out) (v w : DriveView M) : Type 0 where
    pub bytes : List ℕ
    pub whole : ℕ
    pub last : ℕ
    pub has : HasSent view first whole last v.medium w
    pub roles : w.state.interface.roles ≡ talker p
    pub answers : outs ≡ passed (to_read p) ++ map sent bytes
    pub so_many : length bytes ≡ suc (length fs)
    pub place : length bytes ≡ suc (256 * whole + last)
    pub content : (t : Tape) → (view v.medium).tape ≡ Some t → bytes ≡ sent_bytes t first whole last
    pub on_loop : get_or w.state.buffer_0 last 0 ≡ get_or bytes (length fs) 0

  -- The transmission ended by itself in the place of the next record: these bytes had gone out, so many whole records; or SDA
  -- came back, and none had.
  pub record IsCutShort (p first : ℕ) (fs : List Frame) (outs : List Out) (v w : DriveView M) : Type 0 where
    pub bytes : List ℕ
    pub whole : ℕ
    pub ended : HasEnded view (first + whole) v.medium w
    pub roles : w.state.interface.roles ≡ talker p
    pub so_many : length bytes ≡ length fs
    pub place : length bytes ≡ 256 * whole
    pub answers : (outs ≡ passed (to_read p) ++ map sent bytes ++ Source eto ∷ []) ⊎ ((outs ≡ passed (to_read p) ++ Pass sda ∷ []) × (whole ≡ 0))

  first_byte : (t : Tape) (first : ℕ) (buffer : List ℕ) → buffer ≡ record_at t (first + 0) → 0 < length (record_at t (first + 0)) → sent_bytes t first 0 0 ≡ get_or buffer 0 0 ∷ []
  first_byte t first buffer is some = take_more (record_at t (first + 0)) 0 0 some ∙ ap (λ bytes. get_or bytes 0 0 ∷ []) (sym is)

  -- what went out after the first byte
  went_is : (p first : ℕ) (fs : List Frame) (out : Out) (outs all : List Out) (v x w : DriveView M) → IsMedium (view v.medium) → HasSent view first 0 0 v.medium x → out ≡ sent (get_or x.state.buffer_0 0 0)
      → all ≡ passed (to_read p) ++ out ∷ outs → w.state.interface.roles ≡ talker p → WentOut view first 0 0 (get_or x.state.buffer_0 0 0) v.medium fs outs w → IsReadOut p first fs all v w ⊎ IsCutShort p first fs all v w
  went_is p first fs out outs all v x w medium has is all_are roles went =
      let byte = get_or x.state.buffer_0 0 0 in
      let bytes = byte ∷ went.bytes in
      let content : (t : Tape) → (view v.medium).tape ≡ Some t → bytes ≡ sent_bytes t first went.to_whole went.to_last =
      λ t told.
      let long = (medium.is_tape t told).bytes (first + 0) has.record_there in
      sym (went.content t told ∙ ap (λ xs. xs ++ went.bytes) (first_byte t first x.state.buffer_0 (has.buffer t told) (omega (arith, long)))) in
      ⊎_elim
      (λ going.
      inl (record {
        bytes = bytes;
        whole = went.to_whole;
        last = went.to_last;
        has = going.0;
        roles = roles;
        answers = all_are ∙ (λ i. passed (to_read p) ++ is i ∷ going.1 i);
        so_many = omega (arith, going.2);
        place = omega (arith, went.place);
        content = content;
        on_loop = going.3 ∙ ap (λ n. get_or bytes n 0) (sym going.2);
      }))
      (λ over.
      inr (record {
        bytes = bytes;
        whole = suc went.to_whole;
        ended = over.0;
        roles = roles;
        so_many = omega (arith, over.3);
        place = omega (arith, went.place, over.1);
        answers = inl (all_are ∙ (λ i. passed (to_read p) ++ is i ∷ over.2 i));
      }))
      went.end

  -- SDA came back
  refused_is : (p first : ℕ) (fs : List Frame) (outs all : List Out) (v x w : DriveView M) → HasEnded view (first + 0) v.medium x → all ≡ passed (to_read p) ++ Pass sda ∷ outs
      → w.state.interface.roles ≡ talker p → ComeBack (Pass sda) fs outs → Ran view x fs outs w → IsCutShort p first fs all v w
  refused_is p first [] [] all v x w over all_are roles echoes ran = record {
    bytes = [];
    whole = 0;
    ended = subst (HasEnded view (first + 0) v.medium) (sym ran) over;
    roles = roles;
    so_many = refl;
    place = refl;
    answers = inr (all_are, refl);
  }
  refused_is p first [] (out ∷ outs) all v x w over all_are roles echoes ran = absurd ran
  refused_is p first (f ∷ fs) [] all v x w over all_are roles echoes ran = absurd echoes
  refused_is p first (f ∷ fs) (out ∷ outs) all v x w over all_are roles echoes ran = absurd echoes.0

  -- SDA after DDT 2, and then echoes
  reads_from : (p first : ℕ) (fs : List Frame) (outs all : List Out) (v u w : DriveView M) → IsMedium (view v.medium) → first < (view v.medium).record_count
      → stance_of u.state ≡ record (turned (talker p) (stance_of v.state)) { mode = mode.Read; pointer = 0 } → u.medium ≡ v.medium → v.state.position ≡ first → status_of v.state ≡ 0
      → all ≡ passed (to_read p) ++ outs → AllData fs → EchoesOf outs fs → Ran view u (sda ∷ fs) outs w → IsReadOut p first fs all v w ⊎ IsCutShort p first fs all v w
  reads_from p first fs [] all v u w medium there stance same at good all_are data_come echoes ran = absurd ran
  reads_from p first fs (out ∷ outs) all v u w medium there stance same at good all_are data_come echoes ran =
      let x = ran.0 in
      let position : u.state.position ≡ first = ap (λ (σ : Stance). σ.position) stance ∙ at in
      let roles : w.state.interface.roles ≡ talker p = roles-ran view (sda ∷ fs) (out ∷ outs) u w ran ∙ roles_behind-data fs u.state.interface.roles data_come ∙ ap (λ (σ : Stance). σ.roles) stance in
      let opened =
      opens view u x out (ap (λ (σ : Stance). σ.roles.talks) stance) (ap (λ (σ : Stance). σ.own) stance) (ap (λ (σ : Stance). σ.mode) stance) (ap (λ (σ : Stance). σ.status) stance ∙ good)
      (ap (λ (σ : Stance). σ.pointer) stance) (omega (arith, there, position, ap (λ m. (view m).record_count) same)) ran.1 in
      let here : Opened view first 0 (Pass sda) v.medium x out = subst (λ m. Opened view first 0 (Pass sda) m x out) same (subst (λ n. Opened view n 0 (Pass sda) u.medium x out) position opened) in
      ⊎_elim
      (λ went. went_is p first fs out outs all v x w medium went.0 went.1 all_are roles (sends_records view fs outs first 0 0 v.medium x w medium went.0 data_come (subst (λ out. ComeBack out fs outs) went.1 echoes) ran.2))
      (λ over. inr (refused_is p first fs outs all v x w over.0 (all_are ∙ ap (λ out. passed (to_read p) ++ out ∷ outs) over.1) roles (subst (λ out. ComeBack out fs outs) over.1 echoes) ran.2))
      here

  -- Frames that are each the echo of what went out before it: the bytes of the records from the position on follow each
  -- other; or the transmission ends by itself.
  pub reads_on : (p : ℕ) (fs : List Frame) (outs : List Out) (v w : DriveView M) → p ≤ 30 → IsFree p v.state → IsMedium (view v.medium) → v.state.position < (view v.medium).record_count
      → AllData fs → EchoesOf (drop 6 outs) fs → Ran view v (unl ∷ rfc ∷ tad p ∷ rfc ∷ read_message ∷ rfc ∷ sda ∷ fs) outs w
      → IsReadOut p v.state.position fs outs v w ⊎ IsCutShort p v.state.position fs outs v w
  reads_on p fs outs v w le free medium there data_come echoes ran =
      let part = parts view (to_read p) (sda ∷ fs) outs v w ran in
      let begins = begins_reading p part.first v part.middle le free part.before in
      let all_are : outs ≡ passed (to_read p) ++ part.more = part.answers ∙ ap (λ xs. xs ++ part.more) begins.2 in
      reads_from p v.state.position fs part.more outs v part.middle w medium there begins.0 begins.1 refl free.status all_are data_come (subst (λ outs. EchoesOf (drop 6 outs) fs) all_are echoes) part.behind

  -- ---- NRD, and the last echo

  pub record HasRead (p k first : ℕ) (outs : List Out) (v w : DriveView M) : Type 0 where
    pub bytes : List ℕ
    pub so_many : length bytes ≡ 256 * k
    pub content : (t : Tape) → (view v.medium).tape ≡ Some t → bytes ≡ bytes_from t first k
    pub answers : outs ≡ passed (to_read p) ++ map sent bytes ++ Pass nrd ∷ Source eto ∷ Pass unt ∷ Pass rfc ∷ []
    pub rests : IsAtRest p w.state
    pub medium : IsRead (view v.medium) (view w.medium)

  -- the place after 256 * k bytes
  whole_place : (whole last k : ℕ) → last < 256 → suc (256 * whole + last) ≡ 256 * k → (suc whole ≡ k) × (last ≡ 255)
  whole_place whole last k lt is = (omega (arith, lt, is), omega (arith, lt, is))

  all_of_them : (t : Tape) (first whole last : ℕ) → last ≡ 255 → length (record_at t (first + whole)) ≡ 256 → sent_bytes t first whole last ≡ bytes_from t first (suc whole)
  all_of_them t first whole last is long =
      ap (λ last. sent_bytes t first whole last) is ∙ ap (λ xs. bytes_from t first whole ++ xs) (take_all 256 (record_at t (first + whole)) (omega (arith, long))) ∙ sym (bytes_from_more t first whole)

  -- All bytes of k records have gone out: NRD, the echo of the last one, and UNT end the exchange, with the drive at rest.
  pub ends_reading : (p k first : ℕ) (fs : List Frame) (f : Frame) (outs more : List Out) (v u w : DriveView M) → IsMedium (view v.medium) → suc (length fs) ≡ 256 * k → is_data f ≡ true
      → (out : IsReadOut p first fs outs v u) → IsEcho (sent (get_or out.bytes (length fs) 0)) f → Ran view u (nrd ∷ f ∷ unt ∷ rfc ∷ []) more w → HasRead p k first (outs ++ more) v w
  ends_reading p k first fs f outs more v u w medium long h out right ran =
      let part = parts view (nrd ∷ f ∷ []) (unt ∷ rfc ∷ []) more u w ran in
      let x = part.middle in
      let stopped = stops view first out.whole out.last f part.first v.medium u x out.has h (subst (λ byte. IsEcho (sent byte) f) (sym out.on_loop) right) part.before in
      let roles : x.state.interface.roles ≡ talker p = roles-ran view (nrd ∷ f ∷ []) part.first u x part.before ∙ roles_behind-data (f ∷ []) u.state.interface.roles (h, tt) ∙ out.roles in
      let ends = untalks view p part.more x w roles part.behind in
      let place = whole_place out.whole out.last k out.has.place (omega (arith, out.place, out.so_many, long)) in
      record {
        bytes = out.bytes;
        so_many = omega (arith, out.so_many, long);
        content = λ t told.
            out.content t told ∙ all_of_them t first out.whole out.last place.1 ((medium.is_tape t told).bytes (first + out.whole) out.has.record_there) ∙ ap (bytes_from t first) place.0;
        answers = (λ i. out.answers i ++ (part.answers ∙ (λ j. stopped.answers j ++ ends.2 j)) i) ∙ append_assoc (passed (to_read p)) (map sent out.bytes) (Pass nrd ∷ Source eto ∷ Pass unt ∷ Pass rfc ∷ []);
        rests = rests_at p w.state _ ends.0 refl refl refl refl stopped.status;
        medium = subst (λ m. IsRead (view v.medium) (view m)) (sym (ends.1 ∙ stopped.medium)) out.has.medium;
      }

  -- ---- where a record could not be read

  pub record HasNotRead (p k : ℕ) (v w : DriveView M) : Type 0 where
    pub address : w.state.interface.roles.address ≡ Some p
    pub mute : w.state.interface.roles.talks ≡ false
    pub silent : w.state.interface.own ≡ None
    pub mode : w.state.mode ≡ mode.Rest
    pub still : IsStill (view v.medium) (view w.medium)
    pub why : ((status_of w.state ≡ 1) × Rose (view v.medium).faults (view w.medium).faults)
        ⊎ ((k ≡ (view v.medium).record_count) × (status_of w.state ≡ 3) × ((view w.medium).faults ≡ (view v.medium).faults))

  -- UNT after the end of a transmission that ended by itself
  pub ends_short : (p first : ℕ) (fs : List Frame) (outs more : List Out) (v u w : DriveView M) → (short : IsCutShort p first fs outs v u) → Ran view u (unt ∷ rfc ∷ []) more w → HasNotRead p (first + short.whole) v w
  ends_short p first fs outs more v u w short ran =
      let ends = untalks view p more u w short.roles ran in
      let status : status_of w.state ≡ status_of u.state = ap (λ (σ : Stance). σ.status) ends.0 in
      record {
        address = ap (λ (σ : Stance). σ.roles.address) ends.0;
        mute = ap (λ (σ : Stance). σ.roles.talks) ends.0;
        silent = ap (λ (σ : Stance). σ.own) ends.0;
        mode = ap (λ (σ : Stance). σ.mode) ends.0;
        still = subst (λ m. IsStill (view v.medium) (view m)) (sym ends.1) short.ended.still;
        why = ⊎_elim
            (λ one. inl (status ∙ one.0, subst (λ m. Rose (view v.medium).faults (view m).faults) (sym ends.1) one.1))
            (λ three. inr (three.0, status ∙ three.1, ap (λ m. (view m).faults) ends.1 ∙ three.2))
            short.ended.why;
      }

  -- where the tape has all k records, it is a record that could not be read
  pub is_unread : (p k first : ℕ) (fs : List Frame) (outs more : List Out) (v u w : DriveView M) → first + k ≤ (view v.medium).record_count → length fs < 256 * k → IsCutShort p first fs outs v u
      → Ran view u (unt ∷ rfc ∷ []) more w → (status_of w.state ≡ 1) × Rose (view v.medium).faults (view w.medium).faults
  is_unread p k first fs outs more v u w fits few short ran =
      ⊎_elim (λ one. one) (λ three. absurd (omega (arith, fits, few, short.so_many, short.place, three.0))) (ends_short p first fs outs more v u w short ran).why

  -- ---- all of it

  -- the frame is the echo of the last of these answers
  abbrev pub IsLastEcho : List Out → List Frame → Frame → Type 0
  IsLastEcho outs fs f = IsEcho (get_or outs (6 + length fs) (Pass sda)) f

  not_short : (p first : ℕ) (fs : List Frame) (f : Frame) (outs : List Out) (v u : DriveView M) → is_data f ≡ true → IsCutShort p first fs outs v u → IsLastEcho outs fs f → ⊥
  not_short p first fs f outs v u h short right = ⊎_elim
      (λ ended.
      let size : length (map sent short.bytes) ≡ length fs = length-map short.bytes sent ∙ short.so_many in
      let last : get_or outs (6 + length fs) (Pass sda) ≡ Source eto =
      (λ i. get_or (ended i) (6 + sym size i) (Pass sda)) ∙ get_or-append-add (passed (to_read p)) (map sent short.bytes ++ Source eto ∷ []) (length (map sent short.bytes)) (Pass sda) ∙ get_or-append_seam (map sent short.bytes) (Source eto) [] (Pass sda) in
      no_echo f h (subst (λ out. IsEcho out f) last right))
      (λ refused.
      let none : length fs ≡ 0 = omega (arith, short.so_many, short.place, refused.1) in
      let last : get_or outs (6 + length fs) (Pass sda) ≡ Pass sda = λ i. get_or (refused.0 i) (6 + none i) (Pass sda) in
      subst (λ out. IsEcho out f) last right)
      short.answers

  -- A read of k records whose frames are all echoes: the bytes that went out are theirs, as the tape has them.
  pub reads_run : (p k : ℕ) (fs : List Frame) (f : Frame) (outs more : List Out) (v u w : DriveView M) → p ≤ 30 → IsFree p v.state → IsMedium (view v.medium) → v.state.position < (view v.medium).record_count
      → suc (length fs) ≡ 256 * k → AllData fs → is_data f ≡ true → EchoesOf (drop 6 outs) fs → IsLastEcho outs fs f
      → Ran view v (unl ∷ rfc ∷ tad p ∷ rfc ∷ read_message ∷ rfc ∷ sda ∷ fs) outs u → Ran view u (nrd ∷ f ∷ unt ∷ rfc ∷ []) more w → HasRead p k v.state.position (outs ++ more) v w
  reads_run p k fs f outs more v u w le free medium there long data_come h echoes right first behind = ⊎_elim
      (λ out.
      let size : length (map sent out.bytes) ≡ suc (length fs) = length-map out.bytes sent ∙ out.so_many in
      let last : get_or outs (6 + length fs) (Pass sda) ≡ sent (get_or out.bytes (length fs) 0) =
      (λ i. get_or (out.answers i) (6 + length fs) (Pass sda)) ∙ get_or-append-add (passed (to_read p)) (map sent out.bytes) (length fs) (Pass sda) ∙ get_or-map sent out.bytes (length fs) 0 (Pass sda) (omega (arith, out.so_many)) in
      ends_reading p k v.state.position fs f outs more v u w medium long h out (subst (λ out. IsEcho out f) last right) behind)
      (λ short. absurd (not_short p v.state.position fs f outs v u h short right))
      (reads_on p fs outs v u le free medium there data_come echoes first)
