-- A receive of which the drive is the talker: which frames came to it, what it answered to each part of them, and which of
-- its own frames went out.
use Rattle.std.proofs.Common.{◌≡◌, ◌∙◌, ◌≤◌, ◌++◌, ◌==◌, ℕ, suc, true, List, [], ◌∷◌, Some, None, map, length, refl, sym, ap, subst, arith, length-append, append-nil}
use Rattle.std.specs.List.{list_all}
use Rattle.std.specs.Prelude.{take, drop}
use Rattle.std.proofs.Math.Seq.{take-append_seam, drop-append_seam}
use Rattle.std.proofs.lemmas.List.{length-map}
use Rattle.std.proofs.lemmas.Bool.{and_parts, and_from, eq-eqb}
use Rattle.il_frames.specs.declared.frame.Frame.{Frame}
use Rattle.il_frames.specs.declared.entry.Entry.{Entry}
use Rattle.il_frames.specs.declared.entry.Outcome.TheVariants as outcome
use Rattle.il_frames.specs.declared.message.Message.TheVariants as msg
use Rattle.il_frames.specs.Frames.{byte_of, class_of, is_data, number_of_class, same_class, same_but_service, with_service}
use Rattle.il_device.specs.declared.device.Out.{Out}
use Rattle.il_device.specs.declared.device.Out.TheVariants.{Pass, Source}
use Rattle.il_device.specs.Takes.{eto}
use Rattle.il_ports.specs.Media.{MediumView}
use Rattle.il_drive.specs.State.{DriveView}
use Rattle.il_drive.specs.Runs.{Ran, AllData}
use Rattle.il_drive.proofs.Exchanges.{parts, goes_by, all_pass}
use Rattle.il_drive.proofs.ExchangesReading.{EchoesOf}
use Rattle.il_drive.proofs.Reading.{IsEcho}
use Rattle.il_frames.specs.NamedFrames.{entry, unl, rfc, nrd, tad, ddt}
use Rattle.loop_model.specs.Exchanges.{Echo, Start, Sda, NotTaken, ToItsEnd, Stopped, start_frame, echoed, returned, answer_entries, is_echo, receive_front}
use Rattle.il_control.specs.Brought.{ComesAs, Brought, BroughtIf, AllCome}
use Rattle.il_control.specs.Receives.{own_frames, frames_of}
use Rattle.il_control.proofs.Brings.{command_comes}
use Rattle.il_control.proofs.Spoken.{eto_not, taken_brings}

-- ---- the commands before the start message

pub front_plain : (k q a : ℕ) (gs : List Frame) → Brought k q (receive_front 0 a None) gs → gs ≡ unl ∷ rfc ∷ tad a ∷ rfc ∷ []
front_plain k q a [] brought = absurd brought
front_plain k q a (f ∷ []) brought = absurd brought.1
front_plain k q a (f ∷ g ∷ []) brought = absurd brought.1.1
front_plain k q a (f ∷ g ∷ h ∷ []) brought = absurd brought.1.1.1
front_plain k q a (f ∷ g ∷ h ∷ i ∷ gs) brought =
    λ j. command_comes q unl f refl brought.0 j ∷ brought.1.0.other refl refl j ∷ command_comes q (tad a) h refl brought.1.1.0 j ∷ brought.1.1.1.0.other refl refl j ∷ brought.1.1.1.1 j

pub front_numbered : (k q a n : ℕ) (gs : List Frame) → Brought k q (receive_front 0 a (Some n)) gs → gs ≡ unl ∷ rfc ∷ tad a ∷ rfc ∷ ddt n ∷ rfc ∷ []
front_numbered k q a n [] brought = absurd brought
front_numbered k q a n (f ∷ []) brought = absurd brought.1
front_numbered k q a n (f ∷ g ∷ []) brought = absurd brought.1.1
front_numbered k q a n (f ∷ g ∷ h ∷ []) brought = absurd brought.1.1.1
front_numbered k q a n (f ∷ g ∷ h ∷ i ∷ []) brought = absurd brought.1.1.1.1
front_numbered k q a n (f ∷ g ∷ h ∷ i ∷ x ∷ []) brought = absurd brought.1.1.1.1.1
front_numbered k q a n (f ∷ g ∷ h ∷ i ∷ x ∷ y ∷ gs) brought =
    λ j. command_comes q unl f refl brought.0 j ∷ brought.1.0.other refl refl j ∷ command_comes q (tad a) h refl brought.1.1.0 j ∷ brought.1.1.1.0.other refl refl j
    ∷ command_comes q (ddt n) x refl brought.1.1.1.1.0 j ∷ brought.1.1.1.1.1.0.other refl refl j ∷ brought.1.1.1.1.1.1 j

-- ---- the start message and what came of it

start_is : (q : ℕ) (s : Start) (g : Frame) → ComesAs q (start_frame s) g → g ≡ start_frame s
start_is q Sda g comes = comes.other refl refl
start_is q _ g comes = comes.other refl refl

-- it came back
pub untaken_frames : (k q : ℕ) (s : Start) (gs : List Frame) → Brought k q (answer_entries 0 (start_frame s) NotTaken) gs → gs ≡ start_frame s ∷ []
untaken_frames k q s [] brought = absurd brought
untaken_frames k q s (g ∷ gs) brought = λ j. start_is q s g brought.0 j ∷ brought.1 j

-- these frames came first, and then those of the rest
record Behind (k q : ℕ) (P : List Frame → Type 0) (rest : List Entry) (gs : List Frame) : Type 0 where
  first : List Frame
  frames : List Frame
  are : gs ≡ first ++ frames
  so : P first
  brought : Brought k q rest frames

-- the drive took it
taken_first : (k q : ℕ) (s : Start) (rest : List Entry) (gs : List Frame) → 1 ≤ q → Brought k q (entry 0 (start_frame s) (outcome.Taken q) ∷ rest) gs → Behind k q (λ fs. fs ≡ start_frame s ∷ []) rest gs
taken_first k q s rest gs some brought = by gs (subst (λ b. BroughtIf b (ComesAs q (start_frame s)) (Brought k q rest) gs) (taken_brings k q q (start_frame s) some (omega arith)) brought)
  where
    by : (gs : List Frame) → BroughtIf true (ComesAs q (start_frame s)) (Brought k q rest) gs → Behind k q (λ fs. fs ≡ start_frame s ∷ []) rest gs
    by [] brought = absurd brought
    by (g ∷ gs) brought = record { first = g ∷ []; frames = gs; are = refl; so = λ j. start_is q s g brought.0 j ∷ []; brought = brought.1 }

-- the echoes
echoes_next : (k q p : ℕ) (ds : List Echo) (rest : List Entry) (gs : List Frame) → list_all is_echo ds ≡ true → Brought k q (map (echoed p) ds ++ rest) gs → Behind k q (AllCome ds) rest gs
echoes_next k q p [] rest gs legal brought = record { first = []; frames = gs; are = refl; so = tt; brought = brought }
echoes_next k q p (d ∷ ds) rest [] legal brought = absurd brought
echoes_next k q p (d ∷ ds) rest (g ∷ gs) legal brought =
    let both = and_parts (is_echo d) (list_all is_echo ds) legal in
    let data_frame = and_parts (is_data d.sent) (same_but_service d.sent d.back) both.0 in
    let more = echoes_next k q p ds rest gs both.1 brought.1 in
    record { first = g ∷ more.first; frames = more.frames; are = ap (λ gs. g ∷ gs) more.are; so = (brought.0.data_frame data_frame.0, more.so); brought = more.brought }

-- the end comes to no device up to the drive
end_none : (k q : ℕ) (gs : List Frame) → 1 ≤ q → q ≤ k → Brought k q (entry q eto (outcome.Taken 0) ∷ []) gs → gs ≡ []
end_none k q gs some within brought = subst (λ b. BroughtIf b (ComesAs q eto) (λ gs. gs ≡ []) gs) (eto_not k q q some (omega arith) within) brought

-- the drive talked to its end
pub record ToEnd (s : Start) (ds : List Echo) (gs : List Frame) : Type 0 where
  pub echoes : List Frame
  pub are : gs ≡ start_frame s ∷ echoes
  pub come : AllCome ds echoes

pub to_end_frames : (k q : ℕ) (s : Start) (ds : List Echo) (gs : List Frame) → 1 ≤ q → q ≤ k → list_all is_echo ds ≡ true → Brought k q (answer_entries 0 (start_frame s) (ToItsEnd q ds)) gs → ToEnd s ds gs
to_end_frames k q s ds gs some within echoes brought =
    let one = taken_first k q s (map (echoed q) ds ++ entry q eto (outcome.Taken 0) ∷ []) gs some brought in
    let two = echoes_next k q q ds (entry q eto (outcome.Taken 0) ∷ []) one.frames echoes one.brought in
    let none = end_none k q two.frames some within two.brought in
    record {
      echoes = two.first;
      are = one.are ∙ (λ i. one.so i ++ (two.are ∙ ap (λ gs. two.first ++ gs) none ∙ append-nil two.first) i);
      come = two.so;
    }

-- it was stopped: NRD went ahead of the last frame
pub record ToStop (s : Start) (ds : List Echo) (last : Echo) (gs : List Frame) : Type 0 where
  pub echoes : List Frame
  pub end : Frame
  pub are : gs ≡ (start_frame s ∷ echoes) ++ nrd ∷ end ∷ []
  pub come : AllCome ds echoes
  pub data_frame : is_data end ≡ true
  pub same : with_service end ≡ with_service last.sent

stop_tail : (k q : ℕ) (s : Start) (ds : List Echo) (last : Echo) (fs hs gs : List Frame) → 1 ≤ q → q ≤ k → is_data last.sent ≡ true → gs ≡ start_frame s ∷ (fs ++ hs) → AllCome ds fs
    → Brought k q (returned 0 nrd ∷ echoed q last ∷ entry q eto (outcome.Taken 0) ∷ []) hs → ToStop s ds last gs
stop_tail k q s ds last fs [] gs some within h are come brought = absurd brought
stop_tail k q s ds last fs (g ∷ []) gs some within h are come brought = absurd brought.1
stop_tail k q s ds last fs (g ∷ f ∷ hs) gs some within h are come brought =
    let none = end_none k q hs some within brought.1.1 in
    let nrd_is : g ≡ nrd = brought.0.other refl refl in
    let last_is = brought.1.0.data_frame h in
    record {
      echoes = fs;
      end = f;
      are = are ∙ λ i. start_frame s ∷ (fs ++ nrd_is i ∷ f ∷ none i);
      come = come;
      data_frame = last_is.0;
      same = last_is.1;
    }

pub stopped_frames : (k q : ℕ) (s : Start) (ds : List Echo) (last : Echo) (gs : List Frame) → 1 ≤ q → q ≤ k → list_all is_echo ds ≡ true → is_echo last ≡ true
    → Brought k q (answer_entries 0 (start_frame s) (Stopped q ds last)) gs → ToStop s ds last gs
stopped_frames k q s ds last gs some within echoes echo brought =
    let rest : List Entry = returned 0 nrd ∷ echoed q last ∷ entry q eto (outcome.Taken 0) ∷ [] in
    let one = taken_first k q s (map (echoed q) ds ++ rest) gs some brought in
    let two = echoes_next k q q ds rest one.frames echoes one.brought in
    stop_tail k q s ds last two.first two.frames gs some within (and_parts (is_data last.sent) (same_but_service last.sent last.back) echo).0 (one.are ∙ (λ i. one.so i ++ two.are i)) two.so two.brought

-- ---- what the drive answered

pub few_own : (outs : List Out) → length (own_frames outs) ≤ length outs
few_own [] = omega arith
few_own (Pass g ∷ outs) = let less = few_own outs in omega (arith, less)
few_own (Source g ∷ outs) = let less = few_own outs in omega (arith, less)

pub own_then : (outs more : List Out) → own_frames (outs ++ more) ≡ own_frames outs ++ own_frames more
own_then [] more = refl
own_then (Pass g ∷ outs) more = own_then outs more
own_then (Source g ∷ outs) more = ap (λ gs. g ∷ gs) (own_then outs more)

-- as many own frames as answers: each answer is one
pub all_own : (outs : List Out) → length outs ≤ length (own_frames outs) → outs ≡ map (λ (g : Frame). Source g) (own_frames outs)
all_own [] many = refl
all_own (Pass g ∷ outs) many = let less = few_own outs in absurd (omega (arith, less, many))
all_own (Source g ∷ outs) many = ap (λ outs. Source g ∷ outs) (all_own outs (omega (arith, many)))

-- ---- echoes

pub all_data : (ds : List Echo) (gs : List Frame) → AllCome ds gs → AllData gs
all_data [] [] come = tt
all_data (d ∷ ds) (g ∷ gs) come = (come.0.0, all_data ds gs come.1)
all_data _ _ come = absurd come

pub come_length : (ds : List Echo) (gs : List Frame) → AllCome ds gs → length gs ≡ length ds
come_length [] [] come = refl
come_length (d ∷ ds) (g ∷ gs) come = ap suc (come_length ds gs come.1)
come_length _ _ come = absurd come

pub same_frames : (f g : Frame) → with_service g ≡ with_service f → same_but_service f g ≡ true
same_frames f g same =
    let classes = ap (λ (h : Frame). number_of_class (class_of h)) same in
    and_from (same_class (class_of (with_service f)) (class_of (with_service g))) (byte_of f == byte_of g)
    (eq-eqb (number_of_class (class_of (with_service f))) (number_of_class (class_of (with_service g))) (sym classes)) (eq-eqb (byte_of f) (byte_of g) (sym (ap byte_of same)))

pub echo_of : (f g : Frame) → with_service g ≡ with_service f → IsEcho (Source f) g
echo_of f g same = same_frames f g same

-- each frame that came is the echo of what was sent before it, and what was sent goes on by these frames
pub come_back : (ds : List Echo) (gs rest : List Frame) → AllCome ds gs → length rest ≡ 1 → EchoesOf (map (λ (g : Frame). Source g) (frames_of ds ++ rest)) gs
come_back [] [] (r ∷ []) come one = tt
come_back [] (g ∷ gs) rest come one = absurd come
come_back (d ∷ ds) [] rest come one = absurd come
come_back (d ∷ ds) (g ∷ gs) rest come one = by d g come.0.1 (frames_of ds ++ rest) (come_back ds gs rest come.1 one)
  where
    by : (d : Echo) (g : Frame) → with_service g ≡ with_service d.sent → (sent : List Frame) → EchoesOf (map (λ (g : Frame). Source g) sent) gs → EchoesOf (Source d.sent ∷ map (λ (g : Frame). Source g) sent) (g ∷ gs)
    by d g same [] more = absurd more
    by d g same (next ∷ sent) more = (same_frames d.sent g same, more)
come_back _ _ _ come one = cc

-- ---- the run in its parts

pub append_same : {A : Type 0} (xs ys zs ws : List A) → length xs ≡ length ys → xs ++ zs ≡ ys ++ ws → (xs ≡ ys) × (zs ≡ ws)
append_same {A} xs ys zs ws long is =
    (sym (take-append_seam xs zs) ∙ ap (λ n. take n (xs ++ zs)) long ∙ ap (take (length ys)) is ∙ take-append_seam ys ws, sym (drop-append_seam xs zs) ∙ ap (λ n. drop n (xs ++ zs)) long ∙ ap (drop (length ys)) is ∙ drop-append_seam ys ws)

module _ {M : Type 0} (view : M → MediumView) where
  pub ran_length : (fs : List Frame) (outs : List Out) (v w : DriveView M) → Ran view v fs outs w → length outs ≡ length fs
  ran_length [] [] v w ran = refl
  ran_length (f ∷ fs) (out ∷ outs) v w ran = ap suc (ran_length fs outs ran.0 w ran.2)
  ran_length _ _ v w ran = absurd ran

  -- Before the start message, from it to the last echo, and after that; in the middle part these own frames went out.
  pub record RanAsked (before during behind said : List Frame) (v w : DriveView M) : Type 0 where
    pub outs_before : List Out
    pub outs_during : List Out
    pub outs_behind : List Out
    pub first : DriveView M
    pub last : DriveView M
    pub ran_before : Ran view v before outs_before first
    pub ran_during : Ran view first during outs_during last
    pub ran_behind : Ran view last behind outs_behind w
    pub says : own_frames outs_during ≡ said

  pub ran_asked : (before during behind said : List Frame) (xs ys zs : List Out) (came : List Frame) (outs : List Out) (v w : DriveView M) → came ≡ before ++ (during ++ behind) → outs ≡ xs ++ (ys ++ zs)
      → length xs ≡ length before → length ys ≡ length during → own_frames ys ≡ said → Ran view v came outs w → RanAsked before during behind said v w
  ran_asked before during behind said xs ys zs came outs v w are answers long_xs long_ys says ran =
      let one = parts view before (during ++ behind) outs v w (subst (λ fs. Ran view v fs outs w) are ran) in
      let two = parts view during behind one.more one.middle w one.behind in
      let at_first = append_same one.first xs one.more (ys ++ zs) (ran_length before one.first v one.middle one.before ∙ sym long_xs) (sym one.answers ∙ answers) in
      let at_second = append_same two.first ys two.more zs (ran_length during two.first one.middle two.middle two.before ∙ sym long_ys) (sym two.answers ∙ at_first.1) in
      record {
        outs_before = one.first;
        outs_during = two.first;
        outs_behind = two.more;
        first = one.middle;
        last = two.middle;
        ran_before = one.before;
        ran_during = two.before;
        ran_behind = two.behind;
        says = ap own_frames at_second.0 ∙ says;
      }

  -- NRD goes on, and the drive answers the frame after it
  nrd_passes : (end : Frame) (outs : List Out) (v w : DriveView M) → Ran view v (nrd ∷ end ∷ []) outs w → (out : Out) × (outs ≡ Pass nrd ∷ out ∷ [])
  nrd_passes end [] v w ran = absurd ran
  nrd_passes end (a ∷ []) v w ran = absurd ran.2
  nrd_passes end (a ∷ b ∷ c ∷ outs) v w ran = absurd ran.2.2
  nrd_passes end (a ∷ b ∷ []) v w ran =
      let went = goes_by view (msg.Nrd ∷ []) (nrd ∷ []) (a ∷ []) v ran.0 (refl, tt) refl (ran.0, ran.1, refl) in
      (b, λ i. all_pass (msg.Nrd ∷ []) (nrd ∷ []) (a ∷ []) refl went.answers i ++ b ∷ [])

  -- The drive was stopped: it sent these frames one after the other, let NRD pass, and sent ETO.
  pub stop_answers : (s : Start) (ds : List Echo) (last : Frame) (echoes : List Frame) (end : Frame) (outs : List Out) (v w : DriveView M) → length echoes ≡ length ds
      → own_frames outs ≡ (frames_of ds ++ last ∷ []) ++ eto ∷ [] → Ran view v ((start_frame s ∷ echoes) ++ nrd ∷ end ∷ []) outs w
      → outs ≡ map (λ (g : Frame). Source g) (frames_of ds ++ last ∷ []) ++ Pass nrd ∷ Source eto ∷ []
  stop_answers s ds last echoes end outs v w many says ran =
      let part = parts view (start_frame s ∷ echoes) (nrd ∷ end ∷ []) outs v w ran in
      let long = ran_length (start_frame s ∷ echoes) part.first v part.middle part.before in
      let two = nrd_passes end part.more part.middle w part.behind in
      by part.first two.0 (part.answers ∙ ap (λ more. part.first ++ more) two.1) long
    where
      sent : List Frame
      sent = frames_of ds ++ last ∷ []

      sent_many : length sent ≡ suc (length ds)
      sent_many = let a = length-append (frames_of ds) (last ∷ []) in let b = length-map ds (λ (d : Echo). d.sent) in omega (arith, a, b)

      by : (first : List Out) (out : Out) → outs ≡ first ++ Pass nrd ∷ out ∷ [] → length first ≡ suc (length echoes) → outs ≡ map (λ (g : Frame). Source g) sent ++ Pass nrd ∷ Source eto ∷ []
      by first (Pass g) are long =
          let own = sym (own_then first (Pass nrd ∷ Pass g ∷ [])) ∙ ap own_frames (sym are) ∙ says in
          let few = few_own first in
          let a = length-append (own_frames first) [] in
          let b = length-append sent (eto ∷ []) in
          absurd (omega (arith, few, a, b, ap length own, sent_many, many, long))
      by first (Source g) are long =
          let own = sym (own_then first (Pass nrd ∷ Source g ∷ [])) ∙ ap own_frames (sym are) ∙ says in
          let a = length-append (own_frames first) (g ∷ []) in
          let b = length-append sent (eto ∷ []) in
          let all = all_own first (omega (arith, a, b, ap length own, sent_many, many, long)) in
          let same = append_same (own_frames first) sent (g ∷ []) (eto ∷ []) (omega (arith, a, b, ap length own)) own in
          are ∙ (λ i. all i ++ Pass nrd ∷ Source g ∷ []) ∙ (λ i. map (λ (g : Frame). Source g) (same.0 i) ++ Pass nrd ∷ map (λ (g : Frame). Source g) (same.1 i))
