-- The receives of records and of the status: which bytes they brought, and what the drive stands at after them.
pub use Rattle.il_control.proofs.IdleDrives.{idle_address, idle_mute, idle_silent, numbered_here, own_is}
use Rattle.std.proofs.Common.{◌≡◌, ◌∙◌, ◌≤◌, ◌<◌, ◌+◌, ◌*◌, ◌++◌, ◌&&◌, ◌==◌, ⊎_elim, ℕ, suc, true, false, List, [], ◌∷◌, Option, Some, None, not, map, get_or, length, refl, sym, ap, subst, arith, length-append, append_assoc}
use Rattle.std.specs.Prelude.{drop, nat_le}
use Rattle.std.specs.List.{list_all}
use Rattle.std.proofs.lemmas.List.{length-map, get_or-append-add}
use Rattle.std.proofs.lemmas.Bool.{and_parts, eqb-true}
use Rattle.std.proofs.Math.Seq.{drop-append_seam}
use Rattle.il_frames.specs.declared.frame.Frame.{Frame}
use Rattle.il_frames.specs.declared.frame.Class.TheVariants as class
use Rattle.il_frames.specs.Frames.{byte_of, framed, class_of, same_class, same_but_service}
use Rattle.il_device.specs.declared.device.Out.{Out}
use Rattle.il_device.specs.declared.device.Out.TheVariants.{Pass, Source}
use Rattle.il_device.specs.Takes.{eto}
use Rattle.il_ports.specs.Media.{MediumView, IsMedium}
use Rattle.lif_model.specs.Tape.{bytes_from}
use Rattle.il_drive.specs.State.{DriveView, device_of}
use Rattle.il_drive.specs.Runs.{Ran, AllData}
use Rattle.il_drive.proofs.Beginning.{joins}
use Rattle.il_drive.specs.Resting.{IsFree}
use Rattle.il_drive.proofs.Exchanges.{parts}
use Rattle.il_drive.proofs.ExchangesReading.{EchoesOf, IsReadOut, IsCutShort, reads_on, reads_run, ends_short, is_unread, to_read, passed}
use Rattle.il_drive.proofs.ExchangesStatus.{polls, status_frame, tells}
use Rattle.il_drive.proofs.Reading.{IsEcho, sent}
use Rattle.il_frames.specs.NamedFrames.{unl, unt, rfc, nrd, tad}
use Rattle.loop_model.specs.Exchanges.{Echo, Start, Sda, Sst, Answer, NotTaken, ToItsEnd, Stopped, Receive, start_frame, is_echo, is_answer, is_exchange, is_address, is_number, is_some_data, answers_as_asked, bytes_of}
use Rattle.il_ring.specs.Rings.{RingView, devices_of, drive_party}
use Rattle.il_control.specs.Brought.{AllCome}
use Rattle.il_control.specs.Calls.{loop_of}
use Rattle.il_control.specs.Receives.{SpokenBy, frames_of, talker_of, own_frames}
use Rattle.il_control.proofs.Brings.{command_frames}
use Rattle.il_record.specs.Runs.{TellsStatus, ReadAll, ReadPart}
use Rattle.il_record.proofs.Asked.{front_plain, front_numbered, untaken_frames, to_end_frames, stopped_frames, all_own, all_data, come_length, echo_of, come_back, RanAsked, ran_asked, append_same, same_frames, ran_length, stop_answers}

-- ---- the drive of an idle loop

pub party_within : {M : Type 0} (r : RingView M) → (1 ≤ drive_party r) × (drive_party r ≤ length (devices_of r))
party_within r = let long = length-append r.before (device_of r.drive.state ∷ r.after) in (omega arith, omega (arith, long))

-- ---- answers

-- the talker is the device that was asked
pub asked_talker : (k a p : ℕ) (number : Option ℕ) (s : Start) (answer : Answer) → answers_as_asked k (Receive a number s answer) ≡ true → talker_of answer ≡ Some p → p ≡ a
asked_talker k a p number s NotTaken asked is = cc
asked_talker k a p number s (ToItsEnd q ds) asked is = some_same is ∙ eqb-true q a (and_parts (q == a) (nat_le 1 a && nat_le a k) asked).0
  where
    some_same : Some q ≡ Some p → p ≡ q
    some_same is = cc
asked_talker k a p number s (Stopped q ds last) asked is = some_same is ∙ eqb-true q a (and_parts (q == a) (nat_le 1 a && nat_le a k) asked).0
  where
    some_same : Some q ≡ Some p → p ≡ q
    some_same is = cc

pub legal_answer : {M : Type 0} (r : RingView M) (a : ℕ) (number : Option ℕ) (s : Start) (answer : Answer) → is_exchange (loop_of r) (Receive a number s answer) ≡ true → is_answer 0 answer ≡ true
legal_answer r a number s answer legal = (and_parts (is_number number) (is_answer 0 answer) (and_parts (is_address a) (is_number number && is_answer 0 answer) legal).1).1

pub end_echoes : (p : ℕ) (ds : List Echo) → is_answer 0 (ToItsEnd p ds) ≡ true → (is_some_data ds ≡ true) × (list_all is_echo ds ≡ true)
end_echoes p ds legal = and_parts (is_some_data ds) (list_all is_echo ds) (and_parts (not (p == 0)) (is_some_data ds && list_all is_echo ds) legal).1

pub stop_echoes : (p : ℕ) (ds : List Echo) (last : Echo) → is_answer 0 (Stopped p ds last) ≡ true → (list_all is_echo ds ≡ true) × (is_echo last ≡ true)
stop_echoes p ds last legal = and_parts (list_all is_echo ds) (is_echo last) (and_parts (not (p == 0)) (list_all is_echo ds && is_echo last) legal).1

-- ---- own frames

abbrev pub sources : List Frame → List Out
sources gs = map (λ (g : Frame). Source g) gs

own_sources : (gs : List Frame) → own_frames (sources gs) ≡ gs
own_sources [] = refl
own_sources (g ∷ gs) = ap (λ gs. g ∷ gs) (own_sources gs)

abbrev byte_frames : List ℕ → List Frame
byte_frames [] = []
byte_frames (byte ∷ bytes) = framed class.Dab byte ∷ byte_frames bytes

own_sent : (bytes : List ℕ) → own_frames (map sent bytes) ≡ byte_frames bytes
own_sent [] = refl
own_sent (byte ∷ bytes) = ap (λ gs. framed class.Dab byte ∷ gs) (own_sent bytes)

their_bytes : (bytes : List ℕ) → map byte_of (byte_frames bytes) ≡ bytes
their_bytes [] = refl
their_bytes (byte ∷ bytes) = ap (λ bytes. byte ∷ bytes) (their_bytes bytes)

-- ETO is no byte
no_end : (gs : List Frame) (bytes : List ℕ) → gs ++ eto ∷ [] ≡ byte_frames bytes → ⊥
no_end [] (byte ∷ []) is = let clash : true ≡ false = ap (λ (g : Frame). same_class (class_of g) class.Rdy) (first is) in cc
  where
    first : {f g : Frame} {fs gs : List Frame} → f ∷ fs ≡ g ∷ gs → f ≡ g
    first is = cc
no_end (g ∷ gs) (byte ∷ bytes) is = no_end gs bytes (tails is)
  where
    tails : {f g : Frame} {fs gs : List Frame} → f ∷ fs ≡ g ∷ gs → fs ≡ gs
    tails is = cc
no_end _ _ is = cc

-- the bytes of frames and one more
bytes_then : (ds : List Echo) (last : Frame) → map byte_of (frames_of ds ++ last ∷ []) ≡ bytes_of ds ++ byte_of last ∷ []
bytes_then [] last = refl
bytes_then (d ∷ ds) last = ap (λ bytes. byte_of d.sent ∷ bytes) (bytes_then ds last)

frames-length : (ds : List Echo) → length (frames_of ds) ≡ length ds
frames-length ds = length-map ds (λ (d : Echo). d.sent)

-- ---- a receive of records

module _ {M : Type 0} (view : M → MediumView) (d k₀ : ℕ) (low : d ≤ 30) (some : 1 ≤ d) (within : d ≤ k₀) where
  asked : (answer : Answer) (came : List Frame) (outs : List Out) (v w : DriveView M) (during said : List Frame) (sp : SpokenBy k₀ d d (Some 2) Sda answer came outs) → sp.during ≡ during → own_frames sp.answers_during ≡ said → Ran view v came outs w
      → RanAsked view (to_read d) during (unt ∷ rfc ∷ []) said v w
  asked answer came outs v w during said sp is says ran =
      let front = front_numbered k₀ d d 2 sp.before sp.first in
      let tail = command_frames k₀ d unt sp.after refl sp.last in
      let whole = ran_asked view sp.before sp.during sp.after said sp.answers_before sp.answers_during sp.answers_after came outs v w sp.all sp.all_answers sp.many_before sp.many_during says ran in
      subst (λ before. RanAsked view before during (unt ∷ rfc ∷ []) said v w) front
      (subst (λ during. RanAsked view sp.before during (unt ∷ rfc ∷ []) said v w) is (subst (λ behind. RanAsked view sp.before sp.during behind said v w) tail whole))

  six : (outs : List Out) (v w : DriveView M) → Ran view v (to_read d) outs w → length outs ≡ 6
  six outs v w ran = ran_length view (to_read d) outs v w ran

  drop_six : (outs more : List Out) → length outs ≡ 6 → drop 6 (outs ++ more) ≡ more
  drop_six outs more long = ap (λ n. drop n (outs ++ more)) (sym long) ∙ drop-append_seam outs more

  -- the frames that came before the drive ended by itself, or let the start message pass
  ended : (k n first : ℕ) (fs said : List Frame) (v w : DriveView M) → IsFree d v.state → IsMedium (view v.medium) → v.state.position ≡ first → first + k ≤ (view v.medium).record_count → n < 256 * k → length fs ≡ n
      → AllData fs → (ran : RanAsked view (to_read d) (start_frame Sda ∷ fs) (unt ∷ rfc ∷ []) said v w) → EchoesOf ran.outs_during fs → ((bytes : List ℕ) → said ≡ byte_frames bytes → length bytes ≡ suc n → ⊥)
      → ReadPart view v w
  ended k n first fs said v w free medium at fits few long all ran echoes none =
      let before_long = six ran.outs_before v ran.first ran.ran_before in
      let joined = joins view (to_read d) (start_frame Sda ∷ fs) ran.outs_before ran.outs_during v ran.first ran.last ran.ran_before ran.ran_during in
      let there : v.state.position < (view v.medium).record_count = omega (arith, at, fits, few) in
      let on = reads_on view d fs (ran.outs_before ++ ran.outs_during) v ran.last low free medium there all (subst (λ outs. EchoesOf outs fs) (sym (drop_six ran.outs_before ran.outs_during before_long)) echoes) joined in
      ⊎_elim
      (λ (out : IsReadOut view d v.state.position fs (ran.outs_before ++ ran.outs_during) v ran.last).
      let same = append_same ran.outs_before (passed (to_read d)) ran.outs_during (map sent out.bytes) before_long out.answers in
      absurd (none out.bytes (sym ran.says ∙ ap own_frames same.1 ∙ own_sent out.bytes) (out.so_many ∙ ap suc long)))
      (λ (short : IsCutShort view d v.state.position fs (ran.outs_before ++ ran.outs_during) v ran.last).
      let why = is_unread view d k v.state.position fs (ran.outs_before ++ ran.outs_during) ran.outs_behind v ran.last w (omega (arith, at, fits)) (omega (arith, few, long)) short ran.ran_behind in
      record {
        status = why.0;
        still = (ends_short view d v.state.position fs (ran.outs_before ++ ran.outs_during) ran.outs_behind v ran.last w short ran.ran_behind).still;
        rose = why.1;
      })
      on

  -- SDA came back
  pub not_taken : (k first : ℕ) (came : List Frame) (outs : List Out) (v w : DriveView M) → IsFree d v.state → IsMedium (view v.medium) → v.state.position ≡ first → first + k ≤ (view v.medium).record_count → 1 ≤ k
      → (sp : SpokenBy k₀ d d (Some 2) Sda NotTaken came outs) → own_frames sp.answers_during ≡ [] → Ran view v came outs w → ReadPart view v w
  not_taken k first came outs v w free medium at fits many sp says ran =
      let so = asked NotTaken came outs v w (start_frame Sda ∷ []) [] sp (untaken_frames k₀ d Sda sp.during sp.middle) says ran in
      ended k 0 first [] [] v w free medium at fits (omega (arith, many)) refl tt so (by so.outs_during (ran_length view (start_frame Sda ∷ []) so.outs_during so.first so.last so.ran_during)) no_bytes
    where
      by : (outs : List Out) → length outs ≡ 1 → EchoesOf outs []
      by [] long = cc
      by (out ∷ outs) long = tt

      no_bytes : (bytes : List ℕ) → [] ≡ byte_frames bytes → length bytes ≡ 1 → ⊥
      no_bytes [] is long = cc
      no_bytes (byte ∷ bytes) is long = cc

  -- it ended by itself
  pub to_its_end : (k n first : ℕ) (ds : List Echo) (came : List Frame) (outs : List Out) (v w : DriveView M) → IsFree d v.state → IsMedium (view v.medium) → v.state.position ≡ first → first + k ≤ (view v.medium).record_count
      → n < 256 * k → length ds ≡ n → list_all is_echo ds ≡ true → (sp : SpokenBy k₀ d d (Some 2) Sda (ToItsEnd d ds) came outs) → own_frames sp.answers_during ≡ frames_of ds ++ eto ∷ [] → Ran view v came outs w
      → ReadPart view v w
  to_its_end k n first ds came outs v w free medium at fits few long legal sp says ran =
      let end = to_end_frames k₀ d Sda ds sp.during some within legal sp.middle in
      let so = asked (ToItsEnd d ds) came outs v w (start_frame Sda ∷ end.echoes) (frames_of ds ++ eto ∷ []) sp end.are says ran in
      let outs_long = ran_length view (start_frame Sda ∷ end.echoes) so.outs_during so.first so.last so.ran_during in
      let come_long = come_length ds end.echoes end.come in
      let said_long = length-append (frames_of ds) (eto ∷ []) in
      let all = all_own so.outs_during (omega (arith, outs_long, come_long, said_long, ap length so.says, frames-length ds)) ∙ ap sources so.says in
      ended k n first end.echoes (frames_of ds ++ eto ∷ []) v w free medium at fits few (come_long ∙ long) (all_data ds end.echoes end.come) so
      (subst (λ outs. EchoesOf outs end.echoes) (sym all) (come_back ds end.echoes (eto ∷ []) end.come refl)) (λ bytes is more. no_end (frames_of ds) bytes is)

  -- it was stopped at the last byte
  pub stopped : (k first : ℕ) (ds : List Echo) (last : Echo) (came : List Frame) (outs : List Out) (v w : DriveView M) → IsFree d v.state → IsMedium (view v.medium) → v.state.position ≡ first → first + k ≤ (view v.medium).record_count
      → 1 ≤ k → suc (length ds) ≡ 256 * k → list_all is_echo ds ≡ true → is_echo last ≡ true → (sp : SpokenBy k₀ d d (Some 2) Sda (Stopped d ds last) came outs)
      → own_frames sp.answers_during ≡ (frames_of ds ++ last.sent ∷ []) ++ eto ∷ [] → Ran view v came outs w → ReadAll view d k first (bytes_of ds ++ byte_of last.sent ∷ []) v w
  stopped k first ds last came outs v w free medium at fits many long legal echo sp says ran =
      let stop = stopped_frames k₀ d Sda ds last sp.during some within legal echo sp.middle in
      let front : List Frame = start_frame Sda ∷ stop.echoes in
      let back : List Frame = nrd ∷ stop.end ∷ [] in
      let sent_frames : List Frame = frames_of ds ++ last.sent ∷ [] in
      let so = asked (Stopped d ds last) came outs v w (front ++ back) (sent_frames ++ eto ∷ []) sp stop.are says ran in
      let come_long = come_length ds stop.echoes stop.come in
      let answers = stop_answers view Sda ds last.sent stop.echoes stop.end so.outs_during so.first so.last come_long so.says so.ran_during in
      let part = parts view front back so.outs_during so.first so.last so.ran_during in
      let part_long = ran_length view front part.first so.first part.middle part.before in
      let sources_long : length (sources sent_frames) ≡ suc (length ds) =
      let a = length-map sent_frames (λ (g : Frame). Source g) in let b = length-append (frames_of ds) (last.sent ∷ []) in let c = frames-length ds in omega (arith, a, b, c) in
      let went = append_same part.first (sources sent_frames) part.more (Pass nrd ∷ Source eto ∷ []) (omega (arith, part_long, come_long, sources_long)) (sym part.answers ∙ answers) in
      let before_long = six so.outs_before v so.first so.ran_before in
      let up_to = joins view (to_read d) front so.outs_before part.first v so.first part.middle so.ran_before part.before in
      let behind = joins view back (unt ∷ rfc ∷ []) part.more so.outs_behind part.middle so.last w part.behind so.ran_behind in
      let echoes : EchoesOf (drop 6 (so.outs_before ++ part.first)) stop.echoes =
      subst (λ outs. EchoesOf outs stop.echoes) (sym (drop_six so.outs_before part.first before_long ∙ went.0)) (come_back ds stop.echoes (last.sent ∷ []) stop.come refl) in
      let last_out : get_or (so.outs_before ++ part.first) (6 + length stop.echoes) (Pass (start_frame Sda)) ≡ Source last.sent =
      (λ i. get_or (so.outs_before ++ went.0 i) (sym before_long i + come_long i) (Pass (start_frame Sda)))
      ∙ get_or-append-add so.outs_before (sources sent_frames) (length ds) (Pass (start_frame Sda)) ∙ last_source ds last.sent (Pass (start_frame Sda)) in
      let right : IsEcho (get_or (so.outs_before ++ part.first) (6 + length stop.echoes) (Pass (start_frame Sda))) stop.end = subst (λ out. IsEcho out stop.end) (sym last_out) (echo_of last.sent stop.end stop.same) in
      let has =
      reads_run view d k stop.echoes stop.end (so.outs_before ++ part.first) (part.more ++ so.outs_behind) v part.middle w low free medium (omega (arith, at, fits, many)) (omega (arith, come_long, long))
      (all_data ds stop.echoes stop.come) stop.data_frame echoes right up_to behind in
      let all : (so.outs_before ++ part.first) ++ (part.more ++ so.outs_behind) ≡ passed (to_read d) ++ (map sent has.bytes ++ Pass nrd ∷ Source eto ∷ Pass unt ∷ Pass rfc ∷ []) = has.answers in
      let inner = append_same so.outs_before (passed (to_read d)) (part.first ++ (part.more ++ so.outs_behind)) (map sent has.bytes ++ Pass nrd ∷ Source eto ∷ Pass unt ∷ Pass rfc ∷ []) before_long (sym (append_assoc so.outs_before part.first (part.more ++ so.outs_behind)) ∙ all) in
      let bytes_long = length-map has.bytes sent in
      let same = append_same part.first (map sent has.bytes) (part.more ++ so.outs_behind) (Pass nrd ∷ Source eto ∷ Pass unt ∷ Pass rfc ∷ []) (omega (arith, part_long, come_long, long, bytes_long, has.so_many)) inner.1 in
      let frames : sent_frames ≡ byte_frames has.bytes = sym (own_sources sent_frames) ∙ ap own_frames (sym went.0 ∙ same.0) ∙ own_sent has.bytes in
      let bytes : bytes_of ds ++ byte_of last.sent ∷ [] ≡ has.bytes = sym (bytes_then ds last.sent) ∙ ap (map byte_of) frames ∙ their_bytes has.bytes in
      record {
        long = ap length bytes ∙ has.so_many;
        content = λ t told. bytes ∙ has.content t told ∙ ap (λ first. bytes_from t first k) at;
        rests = has.rests;
        medium = has.medium;
      }
    where
      last_source : (ds : List Echo) (g : Frame) (none : Out) → get_or (sources (frames_of ds ++ g ∷ [])) (length ds) none ≡ Source g
      last_source [] g none = refl
      last_source (d ∷ ds) g none = last_source ds g none

  -- ---- the status

  pub told_status : (last : Echo) (came : List Frame) (outs : List Out) (v w : DriveView M) → v.state.interface.roles.address ≡ Some d → v.state.interface.roles.talks ≡ false → is_echo last ≡ true
      → (sp : SpokenBy k₀ d d None Sst (Stopped d [] last) came outs) → own_frames sp.answers_during ≡ last.sent ∷ eto ∷ [] → Ran view v came outs w → TellsStatus d (byte_of last.sent) v w
  told_status last came outs v w address mute echo sp says ran =
      let stop = stopped_frames k₀ d Sst [] last sp.during some within refl echo sp.middle in
      let none : stop.echoes ≡ [] = none_come stop.echoes stop.come in
      let front = front_plain k₀ d d sp.before sp.first in
      let tail = command_frames k₀ d unt sp.after refl sp.last in
      let so = ran_asked view sp.before sp.during sp.after (last.sent ∷ eto ∷ []) sp.answers_before sp.answers_during sp.answers_after came outs v w sp.all sp.all_answers sp.many_before sp.many_during says ran in
      let during : sp.during ≡ start_frame Sst ∷ nrd ∷ stop.end ∷ [] = stop.are ∙ ap (λ fs. (start_frame Sst ∷ fs) ++ nrd ∷ stop.end ∷ []) none in
      let answers = stop_answers view Sst [] last.sent [] stop.end so.outs_during so.first so.last refl so.says (subst (λ fs. Ran view so.first fs so.outs_during so.last) during so.ran_during) in
      let whole : Ran view v (unl ∷ rfc ∷ tad d ∷ rfc ∷ start_frame Sst ∷ nrd ∷ stop.end ∷ unt ∷ rfc ∷ []) outs w =
      subst (λ fs. Ran view v fs outs w) (sp.all ∙ λ i. front i ++ (during i ++ tail i)) ran in
      let part = parts view (start_frame Sst ∷ []) (nrd ∷ stop.end ∷ []) so.outs_during so.first so.last (subst (λ fs. Ran view so.first fs so.outs_during so.last) during so.ran_during) in
      let one = ran_length view (start_frame Sst ∷ []) part.first so.first part.middle part.before in
      let went = append_same part.first (Source last.sent ∷ []) part.more (Pass nrd ∷ Source eto ∷ []) one (sym part.answers ∙ answers) in
      let up_to : Ran view v (unl ∷ rfc ∷ tad d ∷ rfc ∷ start_frame Sst ∷ []) (so.outs_before ++ part.first) part.middle =
      subst (λ fs. Ran view v (fs ++ start_frame Sst ∷ []) (so.outs_before ++ part.first) part.middle) front (joins view sp.before (start_frame Sst ∷ []) so.outs_before part.first v so.first part.middle so.ran_before part.before) in
      let told = tells view d (so.outs_before ++ part.first) v part.middle low address mute up_to in
      let four : length so.outs_before ≡ 4 = ran_length view sp.before so.outs_before v so.first so.ran_before ∙ ap length front in
      let out = append_same so.outs_before (Pass unl ∷ Pass rfc ∷ Pass (tad d) ∷ Pass rfc ∷ []) part.first (Source (status_frame view v.state) ∷ []) four told.answers in
      let frame : last.sent ≡ status_frame view v.state = source_is (sym went.0 ∙ out.1) in
      let polled = polls view d stop.end outs v w low address mute stop.data_frame (ap (λ f. same_but_service f stop.end) (sym frame) ∙ same_frames last.sent stop.end stop.same) whole in
      record {
        byte_is = ap byte_of frame;
        rests = polled.rests;
        medium = polled.medium;
      }
    where
      none_come : (fs : List Frame) → AllCome [] fs → fs ≡ []
      none_come [] come = refl
      none_come (f ∷ fs) come = absurd come

      source_is : {f g : Frame} → Source f ∷ [] ≡ Source g ∷ [] → f ≡ g
      source_is is = cc
