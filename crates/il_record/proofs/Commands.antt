-- Commands of a poll: what they leave of the drive, and which places in the poll devices have after them.
use Rattle.std.proofs.Common.{◌≡◌, ◌∙◌, ◌≤◌, ◌<◌, ◌+◌, ◌-◌, ◌/◌, ◌%◌, ◌&&◌, ◌==◌, inl, inr, ⊎_elim, ℕ, zero, suc, true, false, not, List, [], ◌∷◌, Some, None, length, refl, sym, ap, subst, arith, nat_le}
use Rattle.std.specs.Prelude.{if◌then◌else◌}
use Rattle.std.specs.List.{list_all}
use Rattle.std.proofs.lemmas.Bool.{and_from, le-leb}
use Rattle.il_frames.specs.declared.frame.Frame.{Frame}
use Rattle.il_frames.specs.declared.message.Message.{Message}
use Rattle.il_frames.specs.declared.message.Message.TheVariants as msg
use Rattle.il_poll.specs.Service.{assigned}
use Rattle.il_device.specs.State.{DeviceState}
use Rattle.il_device.specs.Takes.{may_change_service}
use Rattle.il_ports.specs.Media.{MediumView}
use Rattle.il_drive.specs.declared.mode.Start.TheVariants as start
use Rattle.il_drive.specs.Runs.{Ran}
use Rattle.il_frames.specs.NamedFrames.{rfc, unl}
use Rattle.loop_model.specs.Exchanges.{Command, Identify, commanded, entries_of, returned}
use Rattle.loop_model.specs.Devices.{EachBecomes}
use Rattle.loop_model.specs.Polls.{poll_enable, poll_place}
use Rattle.loop_model.proofs.DeviceLaws.{each_then, each_weaker}
use Rattle.il_ring.proofs.RoundPlaces.{place_kept}
use Rattle.il_ring.specs.Journeys.{is_exact}
use Rattle.il_ring.specs.Lists.{First}
use Rattle.il_ring.specs.Outcomes.{HearsNothing, Obeys}
use Rattle.il_ring.specs.Polls.{is_poll}
use Rattle.il_ring.specs.Rings.{RingView, devices_of, drive_party, spare_of}
use Rattle.il_control.specs.Brought.{is_auto_address}
use Rattle.il_control.specs.Calls.{AllStay, BrokenOff, Made, Obeyed, ObeyedInPart, Stays}
use Rattle.il_control.proofs.Assigning.{MayHavePlace, message_of-ppe}
use Rattle.il_control.proofs.Calls.{hears_then, room_after}
use Rattle.il_record.specs.Polls.{PollsOn, Released}
use Rattle.il_drive.proofs.Mild.{IsMild, StaysMild, is_mild, mild_ran, unl_ran}
use Rattle.il_record.proofs.MildCame.{UnlFirst, brought_mild, cut_mild, mild_entry, mild_frame, unl_cut}
use Rattle.il_control.proofs.Brings.{command_brings}

-- ---- which commands they are

pub ppe_mild : (n : ℕ) → n < 16 → mild_frame (poll_enable n) ≡ true
ppe_mild n small = ap (λ m. is_exact m && (not (is_auto_address m) && is_mild m)) (message_of-ppe n small)

-- ---- the drive

module _ {M : Type 0} (view : M → MediumView) (r s : RingView M) where
  pub unl_made : r.drive.state.interface.own ≡ None → Made view (Command unl) r s → StaysMild view r.drive s.drive
  unl_made silent made =
      let adds = made.whole.adds in
      unl_ran view (rfc ∷ []) adds.answers r.drive s.drive silent (refl, tt) (subst (λ fs. Ran view r.drive fs adds.answers s.drive) (command_brings view unl r s made) adds.drive)

  pub unl_broken : BrokenOff view (Command unl) r s → (gs : List Frame) × UnlFirst gs × ((outs : _) × Ran view r.drive gs outs s.drive)
  unl_broken broken =
      let broke = broken.broke in
      (broke.adds.came, unl_cut start.Identity (length (devices_of r)) (drive_party r) broke.standing (returned 0 rfc ∷ []) broke.adds.came refl (broke.brought refl), (broke.adds.answers, broke.adds.drive))

  commanded_mild : (f : Frame) → mild_frame f ≡ true → list_all mild_entry (commanded 0 f) ≡ true
  commanded_mild f mild = and_from (mild_frame f) true mild refl

  pub command_made : (f : Frame) → mild_frame f ≡ true → IsMild r.drive.state → Made view (Command f) r s → StaysMild view r.drive s.drive
  command_made f mild now made =
      let adds = made.whole.adds in
      mild_ran view adds.came adds.answers r.drive s.drive now (brought_mild start.Identity (length (devices_of r)) (drive_party r) (commanded 0 f) adds.came (commanded_mild f mild) (made.whole.brought refl)) adds.drive

  pub command_broken : (f : Frame) → mild_frame f ≡ true → IsMild r.drive.state → BrokenOff view (Command f) r s → StaysMild view r.drive s.drive
  command_broken f mild now broken =
      let broke = broken.broke in
      mild_ran view broke.adds.came broke.adds.answers r.drive s.drive now (cut_mild start.Identity (length (devices_of r)) (drive_party r) broke.standing (commanded 0 f) broke.adds.came (commanded_mild f mild) (broke.brought refl)) broke.adds.drive

  pub identify_made : (f : Frame) → IsMild r.drive.state → Made view (Identify f) r s → StaysMild view r.drive s.drive
  identify_made f now made =
      let adds = made.whole.adds in
      mild_ran view adds.came adds.answers r.drive s.drive now (brought_mild start.Identity (length (devices_of r)) (drive_party r) (entries_of 0 (Identify f)) adds.came refl (made.whole.brought refl)) adds.drive

  pub identify_broken : (f : Frame) → IsMild r.drive.state → BrokenOff view (Identify f) r s → StaysMild view r.drive s.drive
  identify_broken f now broken =
      let broke = broken.broke in
      mild_ran view broke.adds.came broke.adds.answers r.drive s.drive now (cut_mild start.Identity (length (devices_of r)) (drive_party r) broke.standing (entries_of 0 (Identify f)) broke.adds.came refl (broke.brought refl)) broke.adds.drive

  -- the room that a command leaves
  pub command_room : (f : Frame) → 2 ≤ spare_of r → Made view (Command f) r s → spare_of r ≤ spare_of s + 2
  command_room f room made = let left = room_after view r s (commanded 0 f) (spare_of r - 2) made.whole (omega (arith, room)) in omega (arith, left)

  pub identify_room : (f : Frame) → 1 ≤ spare_of r → Made view (Identify f) r s → spare_of r ≤ spare_of s + 1
  identify_room f room made = let left = room_after view r s (entries_of 0 (Identify f)) (spare_of r - 1) made.whole (omega (arith, room)) in omega (arith, left)

-- ---- one device in a poll

pub place_is : (a : ℕ) → 1 ≤ a → a ≤ 8 → Some (assigned (7 + a)) ≡ poll_place a
place_is a some few =
    let bit : (7 + a) % 8 ≡ a - 1 = omega (arith, some, few) in
    let sense : (7 + a) / 8 ≡ 1 = omega (arith, some, few) in
    let first : Some (assigned (7 + a)) ≡ Some (record { bit = a - 1; sense = true }) = λ i. Some (record { bit = bit i; sense = sense i == 1 }) in
    first ∙ sym (ap (λ b. if b then Some (record { bit = a - 1; sense = true }) else None) (le-leb a 8 few))

polls_same : (k : ℕ) (d : DeviceState) → PollsOn k d d
polls_same k d = record { place = λ may. may; nothing = record { heard = refl; heard_count = refl; room = refl; accessory = refl }; wants = refl }

polls_by : (k : ℕ) (d e : DeviceState) → e.assignment ≡ d.assignment → HearsNothing d e → e.wants ≡ d.wants → PollsOn k d e
polls_by k d e same nothing wants = record { place = λ may. ⊎_elim (λ none. inl (same ∙ none)) (λ own. inr (same ∙ own)) may; nothing = nothing; wants = wants }

obeys_polls : (m : Message) → is_poll m ≡ false → may_change_service m ≡ false → (k : ℕ) (d e : DeviceState) → Obeys m d e → PollsOn k d e
obeys_polls m kept still k d e obeys = polls_by k d e (obeys.assignment ∙ place_kept m d.roles d.assignment kept) obeys.nothing (obeys.wants still)

may_have_polls : (a : ℕ) → 1 ≤ a → a ≤ 8 → (k : ℕ) (d e : DeviceState) → MayHavePlace a (7 + a) k d e → PollsOn k d e
may_have_polls a some few k d e may = record {
  place = λ before. ⊎_elim (λ same. ⊎_elim (λ none. inl (same ∙ none)) (λ own. inr (same ∙ own)) before) (λ given. inr (given.1 ∙ place_is a some few ∙ ap poll_place (sym given.0))) may.place;
  nothing = may.nothing;
  wants = may.wants;
}

released : (k : ℕ) (d e : DeviceState) → Obeys msg.Ppu d e → Released k d e
released k d e obeys = record { place = obeys.assignment; nothing = obeys.nothing; wants = obeys.wants refl }

pub released_polls : (k : ℕ) (d e : DeviceState) → Released k d e → PollsOn k d e
released_polls k d e free = record { place = λ may. inl free.place; nothing = free.nothing; wants = free.wants }

polls_then : (k : ℕ) (c d e : DeviceState) → PollsOn k c d → PollsOn k d e → PollsOn k c e
polls_then k c d e first more = record { place = λ may. more.place (first.place may); nothing = hears_then c d e first.nothing more.nothing; wants = more.wants ∙ first.wants }

released_then : (k : ℕ) (c d e : DeviceState) → PollsOn k c d → Released k d e → Released k c e
released_then k c d e first more = record { place = more.place; nothing = hears_then c d e first.nothing more.nothing; wants = more.wants ∙ first.wants }

-- ---- all devices

-- a fact of each, from one of the first so many and of those that are as they were
each_first : (R : DeviceState → DeviceState → Type 0) (S : ℕ → DeviceState → DeviceState → Type 0) → ((k : ℕ) (d e : DeviceState) → R d e → S k d e) → ((k : ℕ) (d : DeviceState) → S k d d) → (k j : ℕ) (ds es : List DeviceState) → First R j ds es → EachBecomes S k ds es
each_first R S rule same k j [] [] took = tt
each_first R S rule same k zero (d ∷ ds) (e ∷ es) took = (subst (S k d) (sym took.0) (same k d), each_first R S rule same (k + 1) zero ds es took.1)
each_first R S rule same k (suc j) (d ∷ ds) (e ∷ es) took = (rule k d e took.0, each_first R S rule same (k + 1) j ds es took.1)
each_first _ _ rule same k j _ _ took = absurd took

-- of all of them
pub each_all : (R : DeviceState → DeviceState → Type 0) (S : ℕ → DeviceState → DeviceState → Type 0) → ((k : ℕ) (d e : DeviceState) → R d e → S k d e) → (k : ℕ) (ds es : List DeviceState) → First R (length ds) ds es → EachBecomes S k ds es
each_all R S rule k [] [] took = tt
each_all R S rule k (d ∷ ds) (e ∷ es) took = (rule k d e took.0, each_all R S rule (k + 1) ds es took.1)
each_all _ _ rule k _ _ took = absurd took

module _ {M : Type 0} (r s : RingView M) where
  pub obeyed_polls : (m : Message) → is_poll m ≡ false → may_change_service m ≡ false → Obeyed m r s → EachBecomes PollsOn 1 (devices_of r) (devices_of s)
  obeyed_polls m kept still obeyed = each_all (Obeys m) PollsOn (obeys_polls m kept still) 1 (devices_of r) (devices_of s) obeyed

  pub part_polls : (m : Message) → is_poll m ≡ false → may_change_service m ≡ false → ObeyedInPart m r s → EachBecomes PollsOn 1 (devices_of r) (devices_of s)
  part_polls m kept still part = each_first (Obeys m) PollsOn (obeys_polls m kept still) polls_same 1 part.0 (devices_of r) (devices_of s) part.1

  pub stays_polls : AllStay true r s → EachBecomes PollsOn 1 (devices_of r) (devices_of s)
  stays_polls stays = each_all (Stays true) PollsOn (λ k d e stays. polls_by k d e stays.place stays.nothing (stays.wants refl)) 1 (devices_of r) (devices_of s) stays

  pub ppu_released : Obeyed msg.Ppu r s → EachBecomes Released 1 (devices_of r) (devices_of s)
  ppu_released obeyed = each_all (Obeys msg.Ppu) Released released 1 (devices_of r) (devices_of s) obeyed

  pub ppu_polls : ObeyedInPart msg.Ppu r s → EachBecomes PollsOn 1 (devices_of r) (devices_of s)
  ppu_polls part = each_first (Obeys msg.Ppu) PollsOn (λ k d e obeys. released_polls k d e (released k d e obeys)) polls_same 1 part.0 (devices_of r) (devices_of s) part.1

  pub may_polls : (a : ℕ) → 1 ≤ a → a ≤ 8 → EachBecomes (MayHavePlace a (7 + a)) 1 (devices_of r) (devices_of s) → EachBecomes PollsOn 1 (devices_of r) (devices_of s)
  may_polls a some few may = each_weaker (MayHavePlace a (7 + a)) PollsOn (may_have_polls a some few) 1 (devices_of r) (devices_of s) may

module _ {M : Type 0} (r m s : RingView M) where
  pub all_polls : EachBecomes PollsOn 1 (devices_of r) (devices_of m) → EachBecomes PollsOn 1 (devices_of m) (devices_of s) → EachBecomes PollsOn 1 (devices_of r) (devices_of s)
  all_polls first more = each_then PollsOn PollsOn PollsOn polls_then 1 (devices_of r) (devices_of m) (devices_of s) first more

  pub all_released : EachBecomes PollsOn 1 (devices_of r) (devices_of m) → EachBecomes Released 1 (devices_of m) (devices_of s) → EachBecomes Released 1 (devices_of r) (devices_of s)
  all_released first more = each_then PollsOn Released Released released_then 1 (devices_of r) (devices_of m) (devices_of s) first more

-- ---- the places that were given

-- each of the first i parties has its place, and each other one the place that it had
pub record PlacedTo (i k : ℕ) (d e : DeviceState) : Type 0 where
  pub place : e.assignment ≡ (if nat_le k i then poll_place k else d.assignment)
  pub nothing : HearsNothing d e
  pub wants : e.wants ≡ d.wants
