-- A parallel poll, command by command.
use Rattle.std.proofs.Common.{◌≡◌, ◌≢◌, ◌∙◌, ◌≤◌, ◌<◌, ◌+◌, ◌-◌, ◌*◌, ◌==◌, ◌++◌, inl, inr, ⊎_elim, ℕ, Bool, true, false, List, [], ◌∷◌, Some, None, length, refl, sym, ap, ap₂, subst, arith, nat_le}
use Rattle.std.specs.Prelude.{if◌then◌else◌, min}
use Rattle.std.specs.List.{list_all}
use Rattle.std.proofs.lemmas.Bool.{cases_lt, eqb-true, eqb-false, le-leb, lt-leb}
use Rattle.il_frames.specs.declared.frame.Frame.{Frame}
use Rattle.il_frames.specs.declared.message.Message.{Message}
use Rattle.il_frames.specs.declared.message.Message.TheVariants as msg
use Rattle.il_frames.specs.Messages.{message_of}
use Rattle.il_poll.specs.Service.{assigned}
use Rattle.il_device.specs.Passing.{identified}
use Rattle.il_device.specs.State.{DeviceState}
use Rattle.il_device.specs.Takes.{may_change_service}
use Rattle.il_ports.specs.Media.{MediumView}
use Rattle.il_frames.specs.NamedFrames.{lad, unl}
use Rattle.loop_model.specs.Exchanges.{Command, Identify, commanded, entries_of}
use Rattle.loop_model.specs.Hearing.{has_no_data}
use Rattle.loop_model.specs.Devices.{EachBecomes}
use Rattle.loop_model.specs.Polls.{poll_enable, poll_place, poll_unconfigure, polled_along}
use Rattle.il_ring.proofs.RoundPlaces.{place_kept}
use Rattle.il_ring.specs.Lists.{Each, First}
use Rattle.il_ring.specs.Outcomes.{Obeys}
use Rattle.il_ring.specs.Polls.{identified_along, is_poll}
use Rattle.il_ring.specs.Rings.{RingView, devices_of, spare_of}
use Rattle.il_control.specs.Calls.{AllStay, BrokenOff, IsIdle, Made, Obeyed, ObeyedInPart, idy}
use Rattle.il_control.specs.Places.{GivenPlace}
use Rattle.il_control.proofs.Assigning.{place_given, place_in_part}
use Rattle.il_control.proofs.Calls.{hears_then}
use Rattle.loop_model.proofs.DeviceLaws.{each_then, each_weaker}
use Rattle.loop_model.proofs.SendLaws.{message_of-lad}
use Rattle.il_record.specs.Asks.{Ask, AskCommand, AskIdentify, CameAsked, up_to}
use Rattle.il_record.specs.Came.{NoneHeard}
use Rattle.il_record.specs.LoopCalls.{LeavesDrive}
use Rattle.il_record.specs.Polls.{Assigned, Collected, HasPolled, MayPoll, PollBroke, PollsOn, collect_asks, place_asks, poll_asks}
use Rattle.il_record.proofs.Asking.{asked_broken, asked_made, asked_nothing, asked_on, asked_up_to, up_to_next}
use Rattle.il_record.proofs.CameLaws.{tape_same}
use Rattle.il_record.proofs.Commands.{PlacedTo, all_polls, all_released, command_broken, command_made, command_room, identify_broken, identify_made, identify_room, may_polls, obeyed_polls, part_polls, place_is, ppe_mild, ppu_polls, ppu_released, stays_polls, unl_broken, unl_made}
use Rattle.il_record.proofs.HeardLogs.{heard_same, heard_then, none_broke, none_whole}
use Rattle.il_drive.proofs.Mild.{StaysMild, mild_then}
use Rattle.il_record.proofs.MildCame.{left_as_was, left_by, leaves_mild, leaves_then, mild_frame}
use Rattle.il_record.proofs.Readings.{idle_mute}
use Rattle.il_record.proofs.Saying.{lad_mild}
use Rattle.il_record.proofs.Used.{broken_used, command_not_used, command_used}

-- ---- commands and the poll, one after the other, from UNL on

pub record Begun {M : Type 0} (view : M → MediumView) (n : ℕ) (asks : List Ask) (r s : RingView M) : Type 0 where
  pub came : CameAsked view true asks r s
  pub devices : EachBecomes PollsOn 1 (devices_of r) (devices_of s)
  pub unheard : NoneHeard r s
  pub drive : StaysMild view r.drive s.drive
  pub idle : IsIdle s
  pub room : spare_of r ≤ spare_of s + n

module _ {M : Type 0} (view : M → MediumView) (r s : RingView M) (f : Frame) (plain : list_all has_no_data (commanded 0 f) ≡ true) where
  command_heard : Made view (Command f) r s → NoneHeard r s
  command_heard made = none_whole view r s (commanded 0 f) plain made.whole

  command_unheard : BrokenOff view (Command f) r s → NoneHeard r s
  command_unheard broken = none_broke view r s (commanded 0 f) plain broken.broke

module _ {M : Type 0} (view : M → MediumView) (r : RingView M) (idle : IsIdle r) (silent : r.drive.state.interface.own ≡ None) where
  begun_by : (m : RingView M) → 2 ≤ spare_of r → Made view (Command unl) r m → Obeyed msg.Unl r m → Begun view 2 (AskCommand unl ∷ []) r m
  begun_by m room made obeyed =
      let drive = unl_made view r m silent made in
      record {
        came = asked_made view (Command unl) r m made refl (tape_same view r.drive m.drive drive.medium);
        devices = obeyed_polls r m msg.Unl refl refl obeyed;
        unheard = command_heard view r m unl refl made;
        drive = drive;
        idle = made.idle;
        room = command_room view r m unl room made;
      }

  pub begun : (f : Frame) (m : RingView M) → f ≡ unl → 2 ≤ spare_of r → Made view (Command f) r m → Obeyed (message_of f) r m → Begun view 2 (AskCommand unl ∷ []) r m
  begun f m is room made obeyed = begun_by m room (subst (λ f. Made view (Command f) r m) is made) (subst (λ f. Obeyed (message_of f) r m) is obeyed)

  not_begun_by : (more : List Ask) (s : RingView M) → BrokenOff view (Command unl) r s → ObeyedInPart msg.Unl r s → PollBroke view 3 (AskCommand unl ∷ more) r s
  not_begun_by more s broken part =
      let came = unl_broken view r s broken in
      let drive = left_by view came.0 came.2.0 r.drive s.drive silent came.1 came.2.1 in
      record {
        came = asked_broken view (AskCommand unl) more (Command unl) r s refl broken (tape_same view r.drive s.drive drive.medium);
        devices = part_polls r s msg.Unl refl refl part;
        unheard = command_unheard view r s unl refl broken;
        drive = drive;
        room = command_not_used view unl r s broken;
      }

  pub not_begun : (more : List Ask) (f : Frame) (s : RingView M) → f ≡ unl → BrokenOff view (Command f) r s → ObeyedInPart (message_of f) r s → PollBroke view 3 (AskCommand unl ∷ more) r s
  not_begun more f s is broken part = not_begun_by more s (subst (λ f. BrokenOff view (Command f) r s) is broken) (subst (λ f. ObeyedInPart (message_of f) r s) is part)

  pub next_made : (n : ℕ) (asks : List Ask) (f : Frame) (m s : RingView M) → mild_frame f ≡ true → list_all has_no_data (commanded 0 f) ≡ true → Begun view n asks r m → 2 ≤ spare_of m → Made view (Command f) m s → EachBecomes PollsOn 1 (devices_of m) (devices_of s) → Begun view (n + 2) (asks ++ AskCommand f ∷ []) r s
  next_made n asks f m s mild plain so room made devices =
      let drive = command_made view m s f mild so.drive.mild made in
      let before = so.room in
      let spent = command_room view m s f room made in
      record {
        came = asked_on view true asks (AskCommand f ∷ []) r m s idle so.came (asked_made view (Command f) m s made refl (tape_same view m.drive s.drive drive.medium));
        devices = all_polls r m s so.devices devices;
        unheard = heard_then 0 r m s so.unheard (command_heard view m s f plain made);
        drive = mild_then view r.drive m.drive s.drive so.drive drive;
        idle = made.idle;
        room = omega (arith, before, spent);
      }

  pub identified_next : (n : ℕ) (asks : List Ask) (f : Frame) (m s : RingView M) → Begun view n asks r m → 1 ≤ spare_of m → Made view (Identify f) m s → AllStay true m s → Begun view (n + 1) (asks ++ AskIdentify f ∷ []) r s
  identified_next n asks f m s so room made stays =
      let drive = identify_made view m s f so.drive.mild made in
      let before = so.room in
      let spent = identify_room view m s f room made in
      record {
        came = asked_on view true asks (AskIdentify f ∷ []) r m s idle so.came (asked_made view (Identify f) m s made refl (tape_same view m.drive s.drive drive.medium));
        devices = all_polls r m s so.devices (stays_polls m s stays);
        unheard = heard_then 0 r m s so.unheard (none_whole view m s (entries_of 0 (Identify f)) refl made.whole);
        drive = mild_then view r.drive m.drive s.drive so.drive drive;
        idle = made.idle;
        room = omega (arith, before, spent);
      }

  pub next_broken : (n : ℕ) (asks more : List Ask) (f : Frame) (m s : RingView M) → mild_frame f ≡ true → list_all has_no_data (commanded 0 f) ≡ true → Begun view n asks r m → BrokenOff view (Command f) m s → EachBecomes PollsOn 1 (devices_of m) (devices_of s) → PollBroke view (n + 3) (asks ++ AskCommand f ∷ more) r s
  next_broken n asks more f m s mild plain so broken devices =
      let drive = command_broken view m s f mild so.drive.mild broken in
      let before = so.room in
      let spent = command_not_used view f m s broken in
      record {
        came = asked_on view false asks (AskCommand f ∷ more) r m s idle so.came (asked_broken view (AskCommand f) more (Command f) m s refl broken (tape_same view m.drive s.drive drive.medium));
        devices = all_polls r m s so.devices devices;
        unheard = heard_then 0 r m s so.unheard (command_unheard view m s f plain broken);
        drive = leaves_mild view r.drive s.drive (mild_then view r.drive m.drive s.drive so.drive drive);
        room = omega (arith, before, spent);
      }

  pub identify_not : (n : ℕ) (asks more : List Ask) (g : Frame) (m s : RingView M) → Begun view n asks r m → BrokenOff view (Identify idy) m s → AllStay true m s → PollBroke view (n + 2) (asks ++ AskIdentify g ∷ more) r s
  identify_not n asks more g m s so broken stays =
      let drive = identify_broken view m s idy so.drive.mild broken in
      let before = so.room in
      let spent : spare_of m ≤ spare_of s + 2 = broken_used view (Identify idy) 2 m s broken (omega arith) in
      record {
        came = asked_on view false asks (AskIdentify g ∷ more) r m s idle so.came (asked_broken view (AskIdentify g) more (Identify idy) m s (g, refl) broken (tape_same view m.drive s.drive drive.medium));
        devices = all_polls r m s so.devices (stays_polls m s stays);
        unheard = heard_then 0 r m s so.unheard (none_broke view m s (entries_of 0 (Identify idy)) refl broken.broke);
        drive = leaves_mild view r.drive s.drive (mild_then view r.drive m.drive s.drive so.drive drive);
        room = omega (arith, before, spent);
      }

  -- ---- a place is given

  module _ (a : ℕ) (some : 1 ≤ a) (few : a ≤ 8) where
    low : a ≤ 30
    low = omega (arith, few)

    small : 7 + a < 16
    small = omega (arith, few)

    lad_says : message_of (lad a) ≡ msg.Lad a
    lad_says = message_of-lad a (le-leb a 30 low)

    pub told_next : (g : Frame) (m u : RingView M) → g ≡ lad a → Begun view 2 (AskCommand unl ∷ []) r m → 2 ≤ spare_of m → Made view (Command g) m u → Obeyed (message_of g) m u → Begun view 4 (AskCommand unl ∷ AskCommand (lad a) ∷ []) r u
    told_next g m u is so room made obeyed =
        next_made 2 (AskCommand unl ∷ []) (lad a) m u (lad_mild a low) refl so room (subst (λ f. Made view (Command f) m u) is made)
        (obeyed_polls m u (msg.Lad a) refl refl (subst (λ message. Obeyed message m u) (ap message_of is ∙ lad_says) obeyed))

    pub told_not : (g : Frame) (m s : RingView M) → g ≡ lad a → Begun view 2 (AskCommand unl ∷ []) r m → BrokenOff view (Command g) m s → ObeyedInPart (message_of g) m s → PollBroke view 5 (place_asks a) r s
    told_not g m s is so broken part =
        next_broken 2 (AskCommand unl ∷ []) (AskCommand (poll_enable (7 + a)) ∷ []) (lad a) m s (lad_mild a low) refl so (subst (λ f. BrokenOff view (Command f) m s) is broken)
        (part_polls m s (msg.Lad a) refl refl (subst (λ message. ObeyedInPart message m s) (ap message_of is ∙ lad_says) part))

    pub assigned_by : (f g h : Frame) (m u s : RingView M) → f ≡ unl → g ≡ lad a → h ≡ poll_enable (7 + a) → Begun view 2 (AskCommand unl ∷ []) r m → Begun view 4 (AskCommand unl ∷ AskCommand (lad a) ∷ []) r u → 2 ≤ spare_of u → Obeyed (message_of f) r m → Obeyed (message_of g) m u → Made view (Command h) u s → Obeyed (message_of h) u s → Assigned view a r s
    assigned_by f g h m u s is_unl is_lad is_ppe begun so room first more made last =
        let now : Made view (Command (poll_enable (7 + a))) u s = subst (λ f. Made view (Command f) u s) is_ppe made in
        let drive = command_made view u s (poll_enable (7 + a)) (ppe_mild (7 + a) small) so.drive.mild now in
        let before = so.room in
        let spent = command_room view u s (poll_enable (7 + a)) room now in
        record {
          came = asked_on view true (AskCommand unl ∷ AskCommand (lad a) ∷ []) (AskCommand (poll_enable (7 + a)) ∷ []) r u s idle so.came (asked_made view (Command (poll_enable (7 + a))) u s now refl (tape_same view u.drive s.drive drive.medium));
          given = place_given r m u s a (7 + a) f g h idle low small is_unl is_lad is_ppe first more last;
          unheard = heard_then 0 r u s so.unheard (command_heard view u s (poll_enable (7 + a)) refl now);
          drive = leaves_mild view r.drive s.drive (mild_then view r.drive u.drive s.drive so.drive drive);
          room = omega (arith, before, spent);
        }

    pub assigned_not : (f g h : Frame) (m u s : RingView M) → f ≡ unl → g ≡ lad a → h ≡ poll_enable (7 + a) → Begun view 2 (AskCommand unl ∷ []) r m → Begun view 4 (AskCommand unl ∷ AskCommand (lad a) ∷ []) r u → Obeyed (message_of f) r m → Obeyed (message_of g) m u → BrokenOff view (Command h) u s → ObeyedInPart (message_of h) u s → PollBroke view 7 (place_asks a) r s
    assigned_not f g h m u s is_unl is_lad is_ppe begun so first more broken part =
        let now : BrokenOff view (Command (poll_enable (7 + a))) u s = subst (λ f. BrokenOff view (Command f) u s) is_ppe broken in
        let drive = command_broken view u s (poll_enable (7 + a)) (ppe_mild (7 + a) small) so.drive.mild now in
        let before = so.room in
        let spent = command_not_used view (poll_enable (7 + a)) u s now in
        record {
          came = asked_on view false (AskCommand unl ∷ AskCommand (lad a) ∷ []) (AskCommand (poll_enable (7 + a)) ∷ []) r u s idle so.came (asked_broken view (AskCommand (poll_enable (7 + a))) [] (Command (poll_enable (7 + a))) u s refl now (tape_same view u.drive s.drive drive.medium));
          devices = may_polls r s a some few (place_in_part r m u s a (7 + a) f g h idle low small is_unl is_lad is_ppe first more part);
          unheard = heard_then 0 r u s so.unheard (command_unheard view u s (poll_enable (7 + a)) refl now);
          drive = leaves_mild view r.drive s.drive (mild_then view r.drive u.drive s.drive so.drive drive);
          room = omega (arith, before, spent);
        }

  -- ---- the answers are collected

  along_same : (m : Message) → is_poll m ≡ false → may_change_service m ≡ false → (ds es : List DeviceState) (f : Frame) → First (Obeys m) (length ds) ds es → identified_along es f ≡ identified_along ds f
  along_same m kept still [] [] f took = refl
  along_same m kept still (d ∷ ds) (e ∷ es) f took =
      along_same m kept still ds es (identified e.assignment e.wants f) took.1
      ∙ ap (identified_along ds) (ap₂ (λ place wants. identified place wants f) (took.0.assignment ∙ place_kept m d.roles d.assignment kept) (took.0.wants still))
  along_same m kept still [] (e ∷ es) f took = absurd took
  along_same m kept still (d ∷ ds) [] f took = absurd took

  pub collected : (f g h : Frame) (m u s : RingView M) → f ≡ unl → h ≡ poll_unconfigure → Begun view 2 (AskCommand unl ∷ []) r m → Obeyed (message_of f) r m → Begun view 3 (AskCommand unl ∷ AskIdentify g ∷ []) r u → g ≡ identified_along (devices_of m) idy → Made view (Command h) u s → Obeyed (message_of h) u s → Collected view g r s
  collected f g h m u s is_unl is_ppu begun first so back made last =
      let now : Made view (Command poll_unconfigure) u s = subst (λ f. Made view (Command f) u s) is_ppu made in
      let drive = command_made view u s poll_unconfigure refl so.drive.mild now in
      let before = so.room in
      let spent = command_used view poll_unconfigure u s now in
      record {
        frame = back ∙ along_same msg.Unl refl refl (devices_of r) (devices_of m) idy (subst (λ f. Obeyed (message_of f) r m) is_unl first);
        came = asked_on view true (AskCommand unl ∷ AskIdentify g ∷ []) (AskCommand poll_unconfigure ∷ []) r u s idle so.came (asked_made view (Command poll_unconfigure) u s now refl (tape_same view u.drive s.drive drive.medium));
        released = all_released r u s so.devices (ppu_released u s (subst (λ f. Obeyed (message_of f) u s) is_ppu last));
        unheard = heard_then 0 r u s so.unheard (command_heard view u s poll_unconfigure refl now);
        drive = leaves_mild view r.drive s.drive (mild_then view r.drive u.drive s.drive so.drive drive);
        room = omega (arith, before, spent);
      }

  pub collected_not : (f g h : Frame) (m u s : RingView M) → f ≡ unl → h ≡ poll_unconfigure → Begun view 2 (AskCommand unl ∷ []) r m → Obeyed (message_of f) r m → Begun view 3 (AskCommand unl ∷ AskIdentify g ∷ []) r u → g ≡ identified_along (devices_of m) idy → BrokenOff view (Command h) u s → ObeyedInPart (message_of h) u s → PollBroke view 6 (collect_asks (identified_along (devices_of r) idy)) r s
  collected_not f g h m u s is_unl is begun first so back broken part =
      let told : g ≡ identified_along (devices_of r) idy = back ∙ along_same msg.Unl refl refl (devices_of r) (devices_of m) idy (subst (λ f. Obeyed (message_of f) r m) is_unl first) in
      subst (λ g. PollBroke view 6 (collect_asks g) r s) told
      (next_broken 3 (AskCommand unl ∷ AskIdentify g ∷ []) [] poll_unconfigure u s refl refl so (subst (λ f. BrokenOff view (Command f) u s) is broken) (ppu_polls u s (subst (λ f. ObeyedInPart (message_of f) u s) is part)))

-- ---- place after place

left_placed : (i k : ℕ) (c d : DeviceState) → PlacedTo i k c d → PollsOn k c d
left_placed i k c d placed = record { place = λ may. by (nat_le k i) placed.place may; nothing = placed.nothing; wants = placed.wants }
  where
    by : (b : Bool) → d.assignment ≡ (if b then poll_place k else c.assignment) → MayPoll k c → MayPoll k d
    by true is may = inr is
    by false is may = ⊎_elim (λ none. inl (is ∙ none)) (λ own. inr (is ∙ own)) may

next_place : (i k : ℕ) (c d e : DeviceState) → i < 8 → PlacedTo i k c d → GivenPlace (i + 1) (7 + (i + 1)) k d e → PlacedTo (i + 1) k c e
next_place i k c d e few placed given = record { place = by (k == (i + 1)) refl given.place; nothing = hears_then c d e placed.nothing given.nothing; wants = given.wants ∙ placed.wants }
  where
    le_next : k ≢ i + 1 → nat_le k (i + 1) ≡ nat_le k i
    le_next other = elim (cases_lt i k) [
      | inl past ↦ (lt-leb k (i + 1) (other_past past) ∙ sym (lt-leb k i past))
      | inr within ↦ (le-leb k (i + 1) (omega (arith, within)) ∙ sym (le-leb k i within))
    ]
      where
        other_past : i < k → i + 1 < k
        other_past past = elim (cases_lt (i + 1) k) [ inl lt ↦ lt | inr ge ↦ absurd (other (omega (arith, past, ge))) ]

    by : (here : Bool) → (k == (i + 1)) ≡ here → e.assignment ≡ (if here then Some (assigned (7 + (i + 1))) else d.assignment) → e.assignment ≡ (if nat_le k (i + 1) then poll_place k else c.assignment)
    by true here is =
        let at : k ≡ i + 1 = eqb-true k (i + 1) here in
        is ∙ place_is (i + 1) (omega arith) (omega (arith, few)) ∙ ap poll_place (sym at) ∙ sym (ap (λ b. if b then poll_place k else c.assignment) (le-leb k (i + 1) (omega (arith, at))))
    by false here is = is ∙ placed.place ∙ sym (ap (λ b. if b then poll_place k else c.assignment) (le_next (eqb-false k (i + 1) here)))

none_placed : (k : ℕ) (ds : List DeviceState) → 1 ≤ k → EachBecomes (PlacedTo 0) k ds ds
none_placed k [] some = tt
none_placed k (d ∷ ds) some =
    let behind : nat_le k 0 ≡ false = lt-leb k 0 (omega (arith, some)) in
    (record { place = sym (ap (λ b. if b then poll_place k else d.assignment) behind); nothing = record { heard = refl; heard_count = refl; room = refl; accessory = refl }; wants = refl }, none_placed (k + 1) ds (omega (arith, some)))

-- the poll's frame after devices of which each has its place
along_placed : (i n k : ℕ) (ds es : List DeviceState) (f : Frame) → i ≡ min n 8 → k + length ds ≤ n + 1 → EachBecomes (PlacedTo i) k ds es → Each MayPoll k ds → identified_along es f ≡ polled_along k ds f
along_placed i n k [] [] f most within placed may = refl
along_placed i n k (d ∷ ds) (e ∷ es) f most within placed may =
    along_placed i n (k + 1) ds es (identified e.assignment e.wants f) most (omega (arith, within)) placed.1 may.1
    ∙ ap (polled_along (k + 1) ds) (ap₂ (λ place wants. identified place wants f) here placed.0.wants)
  where
    none : 8 < k → poll_place k ≡ None
    none past = ap (λ b. if b then Some (record { bit = k - 1; sense = true }) else None) (lt-leb k 8 past)

    here : e.assignment ≡ poll_place k
    here = elim (cases_lt i k) [
      | inl past ↦ (
          placed.0.place ∙ ap (λ b. if b then poll_place k else d.assignment) (lt-leb k i past)
          ∙ ⊎_elim (λ is. is ∙ sym (none (omega (arith, past, most, within)))) (λ is. is) may.0
          )
      | inr within ↦ (placed.0.place ∙ ap (λ b. if b then poll_place k else d.assignment) (le-leb k i within))
    ]
along_placed i n k [] (e ∷ es) f most within placed may = absurd placed
along_placed i n k (d ∷ ds) [] f most within placed may = absurd placed

-- the first i devices have their places
pub record AssignedSo {M : Type 0} (view : M → MediumView) (i : ℕ) (r s : RingView M) : Type 0 where
  pub came : CameAsked view true (up_to place_asks i) r s
  pub placed : EachBecomes (PlacedTo i) 1 (devices_of r) (devices_of s)
  pub unheard : NoneHeard r s
  pub drive : LeavesDrive r.drive s.drive
  pub idle : IsIdle s
  pub silent : s.drive.state.interface.own ≡ None
  pub room : spare_of r ≤ spare_of s + 6 * i

module _ {M : Type 0} (view : M → MediumView) (r : RingView M) (idle : IsIdle r) where
  pub assigned_none : r.drive.state.interface.own ≡ None → AssignedSo view 0 r r
  assigned_none silent = record { came = asked_nothing view r idle; placed = none_placed 1 (devices_of r) (omega arith); unheard = heard_same 0 r; drive = left_as_was r.drive silent; idle = idle; silent = silent; room = omega arith }

  pub assigned_more : (i : ℕ) (m s : RingView M) → i < 8 → AssignedSo view i r m → Assigned view (i + 1) m s → AssignedSo view (i + 1) r s
  assigned_more i m s few so given =
      let now : IsIdle s = given.came.units.came.talked.state in
      let before = so.room in
      let spent = given.room in
      record {
        came = subst (λ asks. CameAsked view true asks r s) (up_to_next place_asks i) (asked_on view true (up_to place_asks i) (place_asks (i + 1)) r m s idle so.came given.came);
        placed = each_then (PlacedTo i) (GivenPlace (i + 1) (7 + (i + 1))) (PlacedTo (i + 1)) (λ k c d e placed given. next_place i k c d e few placed given) 1 (devices_of r) (devices_of m) (devices_of s) so.placed given.given;
        unheard = heard_then 0 r m s so.unheard given.unheard;
        drive = leaves_then r.drive m.drive s.drive so.drive given.drive;
        idle = now;
        silent = given.drive.silent (idle_mute s now);
        room = omega (arith, before, spent);
      }

  -- broken off after the first i, as these asks
  pub broke_behind : (i n most : ℕ) (asks : List Ask) (m s : RingView M) → 6 * i + n ≤ most → AssignedSo view i r m → PollBroke view n asks m s → PollBroke view most (up_to place_asks i ++ asks) r s
  broke_behind i n most asks m s few so broke =
      let before = so.room in
      let spent = broke.room in
      record {
        came = asked_on view false (up_to place_asks i) asks r m s idle so.came broke.came;
        devices = all_polls r m s (each_weaker (PlacedTo i) PollsOn (left_placed i) 1 (devices_of r) (devices_of m) so.placed) broke.devices;
        unheard = heard_then 0 r m s so.unheard broke.unheard;
        drive = leaves_then r.drive m.drive s.drive so.drive broke.drive;
        room = omega (arith, before, spent, few);
      }

  -- at the place of the next device, or as the answers were collected: as the poll of n devices
  pub broke_placing : (i n : ℕ) (m s : RingView M) → i + 1 ≤ min n 8 → n ≡ length (devices_of r) → AssignedSo view i r m → PollBroke view 7 (place_asks (i + 1)) m s → PollBroke view 54 (poll_asks (length (devices_of r)) (polled_along 1 (devices_of r) idy)) r s
  broke_placing i n m s few count so broke =
      let behind = broke_behind i 7 54 (place_asks (i + 1)) m s (omega (arith, few)) so broke in
      subst (λ n. PollBroke view 54 (poll_asks n (polled_along 1 (devices_of r) idy)) r s) count (record {
        came = asked_up_to view place_asks i (min n 8) (collect_asks (polled_along 1 (devices_of r) idy)) r m s few idle so.came broke.came;
        devices = behind.devices;
        unheard = behind.unheard;
        drive = behind.drive;
        room = behind.room;
      })

  pub broke_collecting : (i n : ℕ) (m s : RingView M) → i ≡ min n 8 → n ≡ length (devices_of r) → Each MayPoll 1 (devices_of r) → AssignedSo view i r m → PollBroke view 6 (collect_asks (identified_along (devices_of m) idy)) m s → PollBroke view 54 (poll_asks (length (devices_of r)) (polled_along 1 (devices_of r) idy)) r s
  broke_collecting i n m s most count may so broke =
      let told : identified_along (devices_of m) idy ≡ polled_along 1 (devices_of r) idy = along_placed i n 1 (devices_of r) (devices_of m) idy most (omega (arith, count)) so.placed may in
      subst (λ n. PollBroke view 54 (poll_asks n (polled_along 1 (devices_of r) idy)) r s) count
      (subst (λ f. PollBroke view 54 (poll_asks n f) r s) told
      (subst (λ i. PollBroke view 54 (up_to place_asks i ++ collect_asks (identified_along (devices_of m) idy)) r s) most (broke_behind i 6 54 (collect_asks (identified_along (devices_of m) idy)) m s (omega (arith, most)) so broke)))

  pub polled : (i n : ℕ) (f : Frame) (m s : RingView M) → i ≡ min n 8 → n ≡ length (devices_of r) → Each MayPoll 1 (devices_of r) → AssignedSo view i r m → Collected view f m s → HasPolled view f r s
  polled i n f m s most count may so got =
      let before = so.room in
      let spent = got.room in
      record {
        frame = got.frame ∙ along_placed i n 1 (devices_of r) (devices_of m) idy most (omega (arith, count)) so.placed may;
        came = subst (λ n. CameAsked view true (up_to place_asks n ++ collect_asks f) r s) (most ∙ ap (λ n. min n 8) count) (asked_on view true (up_to place_asks i) (collect_asks f) r m s idle so.came got.came);
        released = all_released r m s (each_weaker (PlacedTo i) PollsOn (left_placed i) 1 (devices_of r) (devices_of m) so.placed) got.released;
        unheard = heard_then 0 r m s so.unheard got.unheard;
        drive = leaves_then r.drive m.drive s.drive so.drive got.drive;
        room = omega (arith, before, spent, most);
      }

pub broke_within : {M : Type 0} (view : M → MediumView) (n most : ℕ) (asks : List Ask) (r s : RingView M) → n ≤ most → PollBroke view n asks r s → PollBroke view most asks r s
broke_within view n most asks r s few broke = let spent = broke.room in record { came = broke.came; devices = broke.devices; unheard = broke.unheard; drive = broke.drive; room = omega (arith, spent, few) }
