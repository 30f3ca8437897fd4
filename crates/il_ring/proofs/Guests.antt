-- A second controller as the last device of a ring.
use Rattle.std.proofs.Common.{◌≡◌, ◌∙◌, List, [], ◌++◌, Option, Some, None, refl, sym, ap, append-nil}
use Rattle.std.specs.List.{All}
use Rattle.std.proofs.lemmas.List.Elements.{All-nil, All-cons}
use Rattle.il_device.specs.State.{DeviceState}
use Rattle.il_guest.specs.State.{GuestState}
use Rattle.il_ring.specs.Guests.{IsIdleGuest, IsLast, MayBeGuest, guest_devices}
use Rattle.il_ring.specs.Rings.{MayStand, paper_of}

-- ---- on a new ring

pub guest_stands : (guest : Option GuestState) → IsIdleGuest guest → MayBeGuest guest → All MayStand (guest_devices guest)
guest_stands None idle may = All-nil MayStand
guest_stands (Some g) idle may =
    All-cons MayStand g.device [] (idle.0, (λ id. let clash = sym may.0.accessory ∙ id in cc), may.0.device) (All-nil MayStand)

-- ---- it is no printer

pub guest_paper : (guest : Option GuestState) → IsLast guest → paper_of (guest_devices guest) ≡ None
guest_paper None may = refl
guest_paper (Some g) may = rw may.accessory refl

-- ---- if there is none

pub alone : (ds es : List DeviceState) (guest : Option GuestState) → guest ≡ None → es ≡ ds ++ guest_devices guest → es ≡ ds
alone ds es guest none is = is ∙ ap (λ guest. ds ++ guest_devices guest) none ∙ append-nil ds
