-- The frame at the host at any moment of a second controller's rounds, and the one that it withholds.
use Rattle.std.proofs.Common.{◌≡◌, ◌⊎◌, inl, inr, ℕ, List, Option, Some, None}
use Rattle.il_frames.specs.declared.entry.Entry.{Entry}
use Rattle.il_frames.specs.declared.frame.Frame.{Frame}
use Rattle.il_frames.specs.NamedFrames.{nrd, rfc}
use Rattle.il_ports.specs.Media.{MediumView}
use Rattle.il_guest.specs.declared.control.Place.{Place}
use Rattle.il_guest.specs.declared.control.Place.TheVariants as place
use Rattle.il_guest.specs.Frames.{sst}
use Rattle.il_guest.specs.Steps.{command_frame}
use Rattle.il_ring.specs.declared.flight.Flight.{Flight}
use Rattle.il_ring.specs.Flights.{sourced}
use Rattle.il_ring.specs.Lending.{going_on}
use Rattle.il_ring.specs.Rings.{RingView}
use Rattle.il_control.specs.Polling.{Polling, StandsSo, own_ring}
use Rattle.il_control.specs.Receives.{IsHolding}

module _ {M : Type 0} (view : M → MediumView) (k last : ℕ) (own : Option ℕ) (base : List Entry) (r : RingView M) (arrived : ℕ) (old : Polling view k last own base r arrived) where
  -- a frame of another, whose source awaits it
  abbrev pub Holds : Flight → Type 0
  Holds flight = (h : IsHolding (own_ring old.boxed (Some flight) (going_on r))) × (h.flight ≡ flight)

  -- A frame of its own is at the host. It withholds no other, or one that is awaited.
  pub record OwnAtHost : Type 0 where
    pub frame : Frame
    pub lent_is : r.books.lent ≡ Some (sourced k frame)
    pub kept : (r.books.kept ≡ None) ⊎ ((flight : Flight) × Holds flight × (r.books.kept ≡ Some flight))

  -- A frame of another that is awaited is at the host, and it withholds none.
  pub record OtherAtHost : Type 0 where
    pub flight : Flight
    pub holds : Holds flight
    pub lent_is : r.books.lent ≡ Some flight
    pub kept_is : r.books.kept ≡ None

  by_place : (p : Place) → StandsSo view k last own base p r old.boxed old.entries → OwnAtHost ⊎ OtherAtHost
  by_place (place.Command c) stands = inl (record { frame = command_frame c; lent_is = stands.2.lent_is; kept = inl stands.2.kept_is })
  by_place (place.Ready c) stands = inl (record { frame = rfc; lent_is = stands.2.lent_is; kept = inl stands.2.kept_is })
  by_place (place.Start a) stands = inl (record { frame = sst; lent_is = stands.2.lent_is; kept = inl stands.2.kept_is })
  by_place (place.Held a d) stands = inl (record { frame = nrd; lent_is = stands.2.lent_is; kept = inr (stands.2.flight, (stands.2.holding, stands.2.holding_is), stands.2.kept_is) })
  by_place (place.Relayed a d) stands = inr (record { flight = stands.2.flight; holds = (stands.2.holding, stands.2.holding_is); lent_is = stands.2.lent_is; kept_is = stands.2.kept_is })

  pub at_host : OwnAtHost ⊎ OtherAtHost
  at_host = by_place old.place old.stands
