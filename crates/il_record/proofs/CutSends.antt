-- A send that broke off: which frames came to the drive, and which bytes had been sent.
use Rattle.std.proofs.Common.{◌≡◌, ◌∙◌, ◌≤◌, ◌<◌, ◌+◌, ◌++◌, ⊎_elim, ℕ, zero, suc, true, false, List, [], ◌∷◌, Some, map, take, length, get_or, refl, sym, ap, subst, arith}
use Rattle.std.specs.Prelude.{if◌then◌else◌, Bool}
use Rattle.std.specs.List.{list_all}
use Rattle.std.proofs.lemmas.Bool.{and_parts}
use Rattle.std.proofs.lemmas.List.{length-map}
use Rattle.il_frames.specs.declared.frame.Frame.{Frame}
use Rattle.il_frames.specs.declared.entry.Entry.{Entry}
use Rattle.il_frames.specs.Frames.{byte_of, is_data, same_but_service}
use Rattle.il_frames.specs.Messages.{message_of}
use Rattle.il_device.specs.declared.device.Out.{Out}
use Rattle.il_ports.specs.Media.{MediumView}
use Rattle.il_drive.specs.State.{DriveView}
use Rattle.il_drive.specs.Steps.{IsStill}
use Rattle.il_drive.specs.Runs as runs
use Rattle.il_drive.proofs.ExchangesAddressed.{message_of-lad}
use Rattle.il_drive.proofs.ExchangesBroken.{AsSent}
use Rattle.il_drive.proofs.ExchangesStill.{leaves_records, puts-seek, puts-taken, seek_leaves}
use Rattle.il_drive.proofs.Reading.{nothing_read}
use Rattle.il_frames.specs.NamedFrames.{unl, rfc, lad, ddl}
use Rattle.loop_model.specs.Exchanges.{Echo, Break, FrameLost, HostAltered, TalkerAltered, Send, echoed, returned, entries_of, break_entries, cut_at, can_cut, is_echo, bytes_of}
use Rattle.loop_model.specs.Units.{sent_bytes}
use Rattle.loop_model.proofs.UnitLaws.{one_byte}
use Rattle.il_ring.specs.Journeys.{is_exact}
use Rattle.il_control.specs.Brought.{MayComeAs, CutBrought, is_auto_address}
use Rattle.il_record.specs.Runs.{LeavesRecords}
use Rattle.il_record.proofs.Cuts.{counts_up, comes_may}

-- ---- commands in front

-- each of these frames comes as it was sent, if it comes
abbrev ComeExactly : ℕ → List Frame → Type 0
ComeExactly q [] = Unit {0}
ComeExactly q (f ∷ fs) = ((g : Frame) → MayComeAs q f g → g ≡ f) × ComeExactly q fs

-- It broke off among them; or all of them came, and it broke off after them.
data CutFront (k q m : ℕ) (fs : List Frame) (rest : List Entry) (gs : List Frame) : Type 0 where
  Among : (j : ℕ) → m < length fs → gs ≡ take j fs → CutFront k q m fs rest gs
  BehindThem : (n : ℕ) (hs : List Frame) → m ≡ length fs + n → gs ≡ fs ++ hs → CutBrought k q rest n hs → CutFront k q m fs rest gs

cut_front : (k q m : ℕ) (fs : List Frame) (rest : List Entry) (gs : List Frame) → ComeExactly q fs → CutBrought k q (map (returned 0) fs ++ rest) m gs → CutFront k q m fs rest gs
cut_front k q m [] rest gs exact came = BehindThem m gs (omega arith) refl came
cut_front k q zero (f ∷ fs) rest gs exact came = ⊎_elim (λ nothing. Among 0 (omega arith) nothing) (λ one. Among 1 (omega arith) (one.2 ∙ ap (λ g. g ∷ []) (exact.0 one.0 one.1))) came
cut_front k q (suc m) (f ∷ fs) rest [] exact came = absurd came
cut_front k q (suc m) (f ∷ fs) rest (g ∷ gs) exact came = by (cut_front k q m fs rest gs exact.1 came.1)
  where
    first : g ≡ f
    first = exact.0 g (comes_may q f g came.0)

    by : CutFront k q m fs rest gs → CutFront k q (suc m) (f ∷ fs) rest (g ∷ gs)
    by (Among j within are) = Among (suc j) (omega (arith, within)) (λ i. first i ∷ are i)
    by (BehindThem n hs place are more) = BehindThem n hs (omega (arith, place)) (λ i. first i ∷ are i) more

-- ---- data frames

-- the data frames that came: all but the last one with their bytes
pub record CutData (m : ℕ) (ds : List Echo) (fs : List Frame) : Type 0 where
  pub data_frames : runs.AllData fs
  pub few : length fs ≤ suc m
  pub within : length fs ≤ length ds
  pub same : AsSent (runs.bytes_of fs) (bytes_of ds)

as_sent_more : (byte sent : ℕ) (came bytes : List ℕ) → byte ≡ sent → AsSent came bytes → AsSent (byte ∷ came) (sent ∷ bytes)
as_sent_more byte sent came bytes is more = by
  where
    by : (i : ℕ) → suc i < suc (length came) → get_or (byte ∷ came) i 0 ≡ get_or (sent ∷ bytes) i 0
    by zero lt = is
    by (suc i) lt = more i (omega (arith, lt))

cut_data : (k q m : ℕ) (ds : List Echo) (fs : List Frame) → list_all is_echo ds ≡ true → CutBrought k q (map (echoed 0) ds) m fs → CutData m ds fs
cut_data k q m [] fs legal came = subst (CutData m []) (sym came) (record { data_frames = tt; few = omega arith; within = omega arith; same = λ i lt. absurd (omega (arith, lt)) })
cut_data k q zero (d ∷ ds) fs legal came =
    let both = and_parts (is_echo d) (list_all is_echo ds) legal in
    let h = (and_parts (is_data d.sent) (same_but_service d.sent d.back) both.0).0 in
    ⊎_elim
    (λ nothing. subst (CutData 0 (d ∷ ds)) (sym nothing) (record { data_frames = tt; few = omega arith; within = omega arith; same = λ i lt. absurd (omega (arith, lt)) }))
    (λ one. subst (CutData 0 (d ∷ ds)) (sym one.2) (record { data_frames = (one.1.data_frame h, tt); few = omega arith; within = omega arith; same = λ i lt. absurd (omega (arith, lt)) }))
    came
cut_data k q (suc m) (d ∷ ds) [] legal came = absurd came
cut_data k q (suc m) (d ∷ ds) (f ∷ fs) legal came =
    let both = and_parts (is_echo d) (list_all is_echo ds) legal in
    let h = (and_parts (is_data d.sent) (same_but_service d.sent d.back) both.0).0 in
    let here = came.0.data_frame h in
    let more = cut_data k q m ds fs both.1 came.1 in
    record {
      data_frames = (here.0, more.data_frames);
      few = omega (arith, more.few);
      within = omega (arith, more.within);
      same = as_sent_more (byte_of f) (byte_of d.sent) (runs.bytes_of fs) (bytes_of ds) (ap byte_of here.1) more.same;
    }

-- ---- a send under DDL n

abbrev pub send_front : ℕ → ℕ → List Frame
send_front a n = unl ∷ rfc ∷ lad a ∷ rfc ∷ ddl n ∷ rfc ∷ []

front_exact : (q a n : ℕ) → a ≤ 30 → is_exact (message_of (ddl n)) ≡ true → is_auto_address (message_of (ddl n)) ≡ false → ComeExactly q (send_front a n)
front_exact q a n low exact other =
    let handshake : (g : Frame) → MayComeAs q rfc g → g ≡ rfc = λ g comes. comes.other refl refl in (
      (λ g comes. comes.other refl refl),
      (handshake, ((λ g comes. comes.other (ap is_exact (message_of-lad a low)) (ap is_auto_address (message_of-lad a low))), (handshake, ((λ g comes. comes.other exact other), (handshake, tt))))),
    )

-- It broke off among the commands; or these data frames came after them.
pub data CutSend (m a n : ℕ) (ds : List Echo) (gs : List Frame) : Type 0 where
  InFront : (j : ℕ) → m < 6 → gs ≡ take j (send_front a n) → CutSend m a n ds gs
  InData : (i : ℕ) (fs : List Frame) → m ≡ 6 + i → gs ≡ send_front a n ++ fs → CutData i ds fs → CutSend m a n ds gs

pub cut_send : (k q m a n : ℕ) (ds : List Echo) (gs : List Frame) → a ≤ 30 → is_exact (message_of (ddl n)) ≡ true → is_auto_address (message_of (ddl n)) ≡ false → list_all is_echo ds ≡ true
    → CutBrought k q (entries_of 0 (Send a (Some n) ds)) m gs → CutSend m a n ds gs
cut_send k q m a n ds gs low exact other legal came = by (cut_front k q m (send_front a n) (map (echoed 0) ds) gs (front_exact q a n low exact other) came)
  where
    by : CutFront k q m (send_front a n) (map (echoed 0) ds) gs → CutSend m a n ds gs
    by (Among j within are) = InFront j within are
    by (BehindThem i hs place are more) = InData i hs place are (cut_data k q i ds hs legal more)

-- ---- a seek that broke off changed no record

pub seek_cut : {M : Type 0} (view : M → MediumView) (k q m d : ℕ) (ds : List Echo) (gs : List Frame) (outs : List Out) (v w : DriveView M) → d ≤ 30 → v.state.interface.roles.address ≡ Some d → list_all is_echo ds ≡ true
    → CutBrought k q (entries_of 0 (Send d (Some 4) ds)) m gs → runs.Ran view v gs outs w → LeavesRecords view v w
seek_cut view k q m d ds gs outs v w low address legal came ran = record {
  still = by (cut_send k q m d 4 ds gs low refl refl legal came);
  count = counts_up view gs outs v w ran;
}
  where
    by : CutSend m d 4 ds gs → IsStill (view v.medium) (view w.medium)
    by (InFront j within are) = leaves_records view (take j (send_front d 4)) outs v w (puts-taken j (send_front d 4) (puts-seek d low)) (subst (λ gs. runs.Ran view v gs outs w) are ran)
    by (InData i fs place are cut) =
        subst (λ n. IsStill (view v.medium) (view n)) (sym (seek_leaves view d fs outs v w low address cut.data_frames (subst (λ gs. runs.Ran view v gs outs w) are ran))) (nothing_read (view v.medium)).still

-- ---- the bytes that had been sent

NoData : List Frame → Type 0
NoData [] = Unit {0}
NoData (f ∷ fs) = (is_data f ≡ false) × NoData fs

can_cut_within : (es : List Entry) (n : ℕ) (b : Break) → can_cut 0 es n b ≡ true → n < length es
can_cut_within [] n b legal = cc
can_cut_within (e ∷ es) zero b legal = omega arith
can_cut_within (e ∷ es) (suc n) b legal = let more = can_cut_within es n b legal in omega (arith, more)

no_byte : (b : Bool) (byte : ℕ) (bytes : List ℕ) → b ≡ false → (if b then byte ∷ [] else []) ++ bytes ≡ bytes
no_byte true byte bytes h = cc
no_byte false byte bytes h = refl

-- none where it broke off among frames that are no data
sent_in_front : (fs : List Frame) (rest : List Entry) (m : ℕ) (b : Break) → NoData fs → m < length fs → sent_bytes (cut_at (map (returned 0) fs ++ rest) m b) ≡ []
unfolding NoData
sent_in_front [] rest m b none within = absurd (omega (arith, within))
sent_in_front (f ∷ fs) rest zero (FrameLost q) none within = no_byte (is_data f) (byte_of f) [] none.0
sent_in_front (f ∷ fs) rest zero (HostAltered g) none within = no_byte (is_data f) (byte_of f) [] none.0
sent_in_front (f ∷ fs) rest zero (TalkerAltered g o) none within = no_byte (is_data f) (byte_of f) [] none.0
sent_in_front (f ∷ fs) rest (suc m) b none within = no_byte (is_data f) (byte_of f) (sent_bytes (cut_at (map (returned 0) fs ++ rest) m b)) none.0 ∙ sent_in_front fs rest m b none.1 (omega (arith, within))

sent_behind : (fs : List Frame) (rest : List Entry) (n : ℕ) (b : Break) → NoData fs → sent_bytes (cut_at (map (returned 0) fs ++ rest) (length fs + n) b) ≡ sent_bytes (cut_at rest n b)
unfolding NoData
sent_behind [] rest n b none = let same : 0 + n ≡ n = omega arith in ap (λ n. sent_bytes (cut_at rest n b)) same
sent_behind (f ∷ fs) rest n b none =
    let up : suc (length fs) + n ≡ suc (length fs + n) = omega arith in
    ap (λ n. sent_bytes (cut_at (map (returned 0) (f ∷ fs) ++ rest) n b)) up ∙ no_byte (is_data f) (byte_of f) (sent_bytes (cut_at (map (returned 0) fs ++ rest) (length fs + n) b)) none.0 ∙ sent_behind fs rest n b none.1

-- the last one too
sent_echoes : (ds : List Echo) (i : ℕ) (b : Break) → list_all is_echo ds ≡ true → i < length ds → sent_bytes (cut_at (map (echoed 0) ds) i b) ≡ take (suc i) (bytes_of ds)
sent_echoes [] i b legal within = absurd (omega (arith, within))
sent_echoes (d ∷ ds) zero b legal within = by b (and_parts (is_data d.sent) (same_but_service d.sent d.back) (and_parts (is_echo d) (list_all is_echo ds) legal).0).0
  where
    by : (b : Break) → is_data d.sent ≡ true → sent_bytes (break_entries (echoed 0 d) b) ≡ byte_of d.sent ∷ []
    by (FrameLost q) h = one_byte (is_data d.sent) (byte_of d.sent) [] h
    by _ h = one_byte (is_data d.sent) (byte_of d.sent) [] h
sent_echoes (d ∷ ds) (suc i) b legal within =
    let both = and_parts (is_echo d) (list_all is_echo ds) legal in
    let h = (and_parts (is_data d.sent) (same_but_service d.sent d.back) both.0).0 in
    one_byte (is_data d.sent) (byte_of d.sent) (sent_bytes (cut_at (map (echoed 0) ds) i b)) h ∙ ap (λ bytes. byte_of d.sent ∷ bytes) (sent_echoes ds i b both.1 (omega (arith, within)))

front_no_data : (a n : ℕ) → NoData (send_front a n)
unfolding NoData
front_no_data a n = (refl, (refl, (refl, (refl, (refl, (refl, tt))))))

pub none_sent : (m a n : ℕ) (ds : List Echo) (b : Break) → m < 6 → sent_bytes (cut_at (entries_of 0 (Send a (Some n) ds)) m b) ≡ []
none_sent m a n ds b within = sent_in_front (send_front a n) (map (echoed 0) ds) m b (front_no_data a n) within

pub some_sent : (i a n : ℕ) (ds : List Echo) (b : Break) → list_all is_echo ds ≡ true → i < length ds → sent_bytes (cut_at (entries_of 0 (Send a (Some n) ds)) (6 + i) b) ≡ take (suc i) (bytes_of ds)
some_sent i a n ds b legal within = sent_behind (send_front a n) (map (echoed 0) ds) i b (front_no_data a n) ∙ sent_echoes ds i b legal within

pub cut_within : (m a n : ℕ) (ds : List Echo) (b : Break) → can_cut 0 (entries_of 0 (Send a (Some n) ds)) m b ≡ true → m < 6 + length ds
cut_within m a n ds b legal =
    let within = can_cut_within (entries_of 0 (Send a (Some n) ds)) m b legal in
    let long = length-map ds (echoed 0) in
    omega (arith, within, long)
