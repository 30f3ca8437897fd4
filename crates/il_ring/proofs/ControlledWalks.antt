-- A round on a ring with a second controller, of four walks and the way home.
use Rattle.std.proofs.Common.{◌≡◌, ◌⊎◌, inl, inr, ⊎_elim, ◌≤◌, ◌+◌, ◌++◌, ℕ, Bool, true, List, ◌∷◌, Option, Some, None, length, refl, ap, subst, ◌∙◌, arith, length-append}
use Rattle.std.specs.Prelude.{◌-◌, ◌<◌, IfSome}
use Rattle.il_frames.specs.declared.entry.Entry.{Entry}
use Rattle.il_device.specs.State.{DeviceState}
use Rattle.il_ports.specs.Media.{MediumView}
use Rattle.il_drive.specs.State.{DriveView, device_of}
use Rattle.il_frames.specs.NamedFrames.{ifc}
use Rattle.il_guest.specs.State.{GuestState}
use Rattle.il_ring.specs.declared.plan.Planned.{Planned}
use Rattle.il_ring.specs.declared.plan.Arrival.{Arrival}
use Rattle.il_ring.specs.declared.flight.Flight.{Flight}
use Rattle.il_ring.specs.Flights.{sourced}
use Rattle.il_ring.specs.Books.{BooksView, KeepsBooks}
use Rattle.il_ring.specs.Guests.{guest_mind, guest_devices}
use Rattle.il_ring.specs.Journeys.{Trip, Passage, Journey, DriveTakes, trip_of}
use Rattle.il_ring.specs.Lending.{ControlledTrip, ControlledRound, LastPassage, books_controlled, controlled, controlled_home, leads}
use Rattle.il_ring.specs.Rings.{RingView, devices_of, arrived, arriving}
use Rattle.il_ring.proofs.Lendings.{passes_end}
use Rattle.il_ring.proofs.ControlledRounds.{IfcAtLast, ends_ifc, ifc_at_last, to_last}

-- ---- the last party

-- if there is no second controller the party does not matter
last_at : (plan : List Planned) (j k : ℕ) (t : Trip) (kept : Option Flight) (guest : Option GuestState) (u : ControlledTrip) (later : Option GuestState) → ((g : GuestState) → guest ≡ Some g → j ≡ k) → LastPassage plan j t kept guest u later → LastPassage plan k t kept guest u later
last_at plan j k t kept None u None same passage = passage
last_at plan j k t kept None u (Some h) same passage = absurd passage
last_at plan j k t kept (Some g) u None same passage = absurd passage
last_at plan j k t kept (Some g) u (Some h) same passage = subst (λ k. LastPassage plan k t kept (Some g) u (Some h)) (same g refl) passage

home_at : (plan : List Planned) (j k : ℕ) (t : Trip) (kept : Option Flight) (guest : Option GuestState) (u : ControlledTrip) (later : Option GuestState) (b : BooksView) (o : Option Flight) → ((g : GuestState) → guest ≡ Some g → j ≡ k) → LastPassage plan j t kept guest u later
    → controlled_home (leads (guest_mind later)) j b o ≡ controlled_home (leads (guest_mind later)) k b o
home_at plan j k t kept None u None b o same passage = refl
home_at plan j k t kept None u (Some h) b o same passage = absurd passage
home_at plan j k t kept (Some g) u None b o same passage = absurd passage
home_at plan j k t kept (Some g) u (Some h) b o same passage = ap (λ k. controlled_home (leads (guest_mind (Some h))) k b o) (same g refl)

-- ---- the walks

module _ {M : Type 0} (view : M → MediumView) (before before_then boxed boxed_then : List DeviceState) (drive drive_then : DriveView M) (party i j k : ℕ)
    (b₀ b₁ b₂ b₃ : BooksView) (f : Flight) (one two three : Option Flight)
    (k₁ : KeepsBooks i b₀ b₁) (k₂ : KeepsBooks j b₁ b₂) (k₃ : KeepsBooks k b₂ b₃) (at : party ≡ length before + 1)
    (first : Journey b₀.plan 1 (trip_of b₀ (Some f)) before (trip_of b₁ one) before_then)
    (middle : Passage (DriveTakes view) b₁.plan party (trip_of b₁ one) drive (trip_of b₂ two) drive_then)
    (more : Journey b₂.plan (party + 1) (trip_of b₂ two) boxed (trip_of b₃ three) boxed_then) where
  plan₂ : b₂.plan ≡ b₀.plan
  plan₂ = k₂.plan ∙ k₁.plan

  plan₃ : b₃.plan ≡ b₀.plan
  plan₃ = k₃.plan ∙ plan₂

  at_drive : Passage (DriveTakes view) b₀.plan (length before + 1) (trip_of b₁ one) drive (trip_of b₂ two) drive_then
  at_drive = subst (λ k. Passage (DriveTakes view) b₀.plan k (trip_of b₁ one) drive (trip_of b₂ two) drive_then) at (subst (λ plan. Passage (DriveTakes view) plan party (trip_of b₁ one) drive (trip_of b₂ two) drive_then) k₁.plan middle)

  from_drive : Journey b₀.plan (length before + 2) (trip_of b₂ two) boxed (trip_of b₃ three) boxed_then
  from_drive =
      let next : party + 1 ≡ length before + 2 = omega (arith, at) in
      subst (λ k. Journey b₀.plan k (trip_of b₂ two) boxed (trip_of b₃ three) boxed_then) next (subst (λ plan. Journey plan (party + 1) (trip_of b₂ two) boxed (trip_of b₃ three) boxed_then) plan₂ more)

  ifc_comes : f ≡ sourced 0 ifc → IfcAtLast b₀.log (trip_of b₃ three)
  ifc_comes is =
      let sets : Journey b₀.plan 1 (trip_of b₀ (Some (sourced 0 ifc))) before (trip_of b₁ one) before_then = subst (λ f. Journey b₀.plan 1 (trip_of b₀ (Some f)) before (trip_of b₁ one) before_then) is first in
      ifc_at_last b₀.plan b₀.crossings b₀.log (before ++ device_of drive.state ∷ boxed) (before_then ++ device_of drive_then.state ∷ boxed_then) (trip_of b₃ three)
      (to_last view b₀.plan (trip_of b₀ (Some (sourced 0 ifc))) (trip_of b₁ one) (trip_of b₂ two) (trip_of b₃ three) before before_then boxed boxed_then drive drive_then sets at_drive from_drive)

  -- up to the second controller an IFC appends one entry at most
  pub ifc_comes_grows : f ≡ sourced 0 ifc → length b₃.log ≤ length b₀.log + 1
  ifc_comes_grows is = ⊎_elim (λ same. let here = ap (λ (log : List Entry). length log) same in omega (arith, here)) (λ lost. let here = lost.1 in omega (arith, here)) (ifc_comes is).ended

  module _ (guest later : Option GuestState) (last : ℕ) (b₄ : BooksView) (four : Option Flight) (k₄ : KeepsBooks 1 (record b₃ { kept = b₄.kept }) b₄)
      (end : LastPassage b₃.plan last (trip_of b₃ three) b₃.kept guest (controlled (trip_of b₄ four) b₄.kept) later) where
    abbrev pub old : RingView M
    old = record { before = before; drive = drive; after = boxed ++ guest_devices guest; guest = guest_mind guest; books = b₀ }

    past_last : LastPassage b₀.plan last (trip_of b₃ three) b₀.kept guest (controlled (trip_of b₄ four) b₄.kept) later
    past_last = subst (λ kept. LastPassage b₀.plan last (trip_of b₃ three) kept guest (controlled (trip_of b₄ four) b₄.kept) later) (k₃.kept ∙ k₂.kept ∙ k₁.kept)
        (subst (λ plan. LastPassage plan last (trip_of b₃ three) b₃.kept guest (controlled (trip_of b₄ four) b₄.kept) later) plan₃ end)

    -- and so does it on its whole way
    pub ifc_grows : f ≡ sourced 0 ifc → length b₄.log ≤ length b₀.log + 1
    ifc_grows is =
        let comes = ifc_comes is in
        let ends = passes_end (λ f. f ≡ ifc) guest later (ends_ifc guest later) b₀.plan last (trip_of b₃ three) b₀.kept (controlled (trip_of b₄ four) b₄.kept) comes.comes past_last in
        ⊎_elim (λ same. let here = ap (λ (log : List Entry). length log) same in let grows = ends.grows in omega (arith, here, grows))
        (λ lost. let here = ap (λ (t : Trip). length t.log) (ends.lost lost.0) in let one = lost.1 in omega (arith, here, one)) comes.ended

    -- ---- the round

    books_then : b₄ ≡ books_controlled b₀ (controlled (trip_of b₄ four) b₄.kept)
    books_then =
        ap (λ plan. record b₄ { plan = plan }) (k₄.plan ∙ plan₃)
        ∙ ap (λ room. record b₄ { plan = b₀.plan; room = room }) (k₄.room ∙ k₃.room ∙ k₂.room ∙ k₁.room)
        ∙ ap (λ held. record b₄ { plan = b₀.plan; room = b₀.room; held = held }) (k₄.held ∙ k₃.held ∙ k₂.held ∙ k₁.held)
        ∙ ap (λ begun. record b₄ { plan = b₀.plan; room = b₀.room; held = b₀.held; begun = begun }) (k₄.begun ∙ k₃.begun ∙ k₂.begun ∙ k₁.begun)
        ∙ ap (λ lent. record b₄ { plan = b₀.plan; room = b₀.room; held = b₀.held; begun = b₀.begun; lent = lent }) (k₄.lent ∙ k₃.lent ∙ k₂.lent ∙ k₁.lent)

    controlled_last : last ≡ party + 1 + length boxed → (g : GuestState) → guest ≡ Some g → last ≡ length (devices_of old)
    controlled_last is g there =
        let all = length-append before (device_of drive.state ∷ (boxed ++ guest_devices guest)) in
        let after = length-append boxed (guest_devices guest) in
        let one : length (guest_devices guest) ≡ 1 = ap (λ guest. length (guest_devices guest)) there in
        omega (arith, all, after, one, is, at)

    pub controlled_from_walks : (b₅ : BooksView) (answer : Arrival) (lead : Bool) → last ≡ party + 1 + length boxed → lead ≡ leads (guest_mind later) → b₅ ≡ controlled_home lead last b₄ four → answer ≡ arrived (arriving b₄.plan b₄.crossings four)
        → ControlledRound view old f answer (record { before = before_then; drive = drive_then; after = boxed_then ++ guest_devices later; guest = guest_mind later; books = b₅ })
    controlled_from_walks b₅ answer lead is controlled_is homed answered = record {
      boxed = boxed;
      boxed_then = boxed_then;
      guest = guest;
      guest_then = later;
      after = refl;
      after_then = refl;
      mind = refl;
      mind_then = refl;
      at_drive = trip_of b₁ one;
      past_drive = trip_of b₂ two;
      at_last = trip_of b₃ three;
      past_all = controlled (trip_of b₄ four) b₄.kept;
      to_drive = first;
      at = at_drive;
      from_drive = from_drive;
      past_last = last_at b₀.plan last (length (devices_of old)) (trip_of b₃ three) b₀.kept guest (controlled (trip_of b₄ four) b₄.kept) later (controlled_last is) past_last;
      books =
          homed ∙ ap (λ lead. controlled_home lead last b₄ four) controlled_is ∙ ap (λ b. controlled_home (leads (guest_mind later)) last b four) books_then
          ∙ home_at b₀.plan last (length (devices_of old)) (trip_of b₃ three) b₀.kept guest (controlled (trip_of b₄ four) b₄.kept) later (books_controlled b₀ (controlled (trip_of b₄ four) b₄.kept)) four (controlled_last is) past_last;
      answer_is = answered ∙ ap (λ plan. arrived (arriving plan b₄.crossings four)) (k₄.plan ∙ plan₃);
    }

-- if there is no second controller the frame goes past none
pub passes_none : (plan : List Planned) (k : ℕ) (t : Trip) (kept : Option Flight) (guest : Option GuestState) → guest_mind guest ≡ None → LastPassage plan k t kept guest (controlled t kept) guest
passes_none plan k t kept None alone = refl
passes_none plan k t kept (Some g) alone = cc

pub keeps_same : (b : BooksView) → KeepsBooks 1 b b
keeps_same b = record { plan = refl; room = refl; held = refl; lent = refl; kept = refl; begun = refl; grows = omega arith }

-- whatever is held
pub keeps_released : {n : ℕ} {b c : BooksView} → KeepsBooks n b c → KeepsBooks n (record b { held = None }) (record c { held = None })
keeps_released k = record { plan = k.plan; room = k.room; held = refl; lent = k.lent; kept = k.kept; begun = k.begun; grows = k.grows }

-- by an equal ring
pub controlled_round_at : {M : Type 0} (view : M → MediumView) (t r s : RingView M) (f : Flight) (answer : Arrival) → t ≡ r → ControlledRound view t f answer s → ControlledRound view r f answer s
controlled_round_at view t r s f answer same round = subst (λ r. ControlledRound view r f answer s) same round

-- ---- the room of the log

-- with room for this many entries, or for fewer, if one comes at most
pub left_home : (before room now n : ℕ) (X : Type 0) → (32 ≤ room - before) ⊎ ((30 ≤ room - before) × X) → now ≤ before + n → n ≤ 31 → (X → now ≤ before + 1) → now < room
left_home before room now n X (inl left) grows most one = omega (arith, left, grows, most)
left_home before room now n X (inr left) grows most one = let grew = one left.1 in let some = left.0 in omega (arith, some, grew)

pub left_lent : (before room now n : ℕ) (X : Type 0) → (32 ≤ room - before) ⊎ ((30 ≤ room - before) × X) → now ≤ before + n → n ≤ 30 → (X → now ≤ before + 1) → now + 1 < room
left_lent before room now n X (inl left) grows most one = omega (arith, left, grows, most)
left_lent before room now n X (inr left) grows most one = let grew = one left.1 in let some = left.0 in omega (arith, some, grew)

pub controlled_one : (guest : Option GuestState) → leads (guest_mind guest) ≡ true → length (guest_devices guest) ≡ 1
controlled_one None lead = cc
controlled_one (Some g) lead = refl

pub if_some : {X : Type 0} (o : Option X) (P : Type 0) → P → IfSome o (λ x. P)
if_some None P p = tt
if_some (Some x) P p = p
