-- A frame of a second controller that every device passes on goes round, and what it then sends comes to the host.
use Rattle.std.proofs.Common.{◌≡◌, ◌∙◌, ◌⊎◌, inl, inr, ⊎_elim, ◌++◌, ℕ, true, false, List, [], ◌∷◌, Option, Some, None, length, refl, sym, ap, subst}
use Rattle.il_frames.specs.declared.entry.Entry.{Entry}
use Rattle.il_frames.specs.declared.frame.Frame.{Frame}
use Rattle.il_frames.specs.Frames.{is_data}
use Rattle.il_frames.specs.Messages.{message_of}
use Rattle.il_frames.specs.NamedFrames.{is_ifc}
use Rattle.il_device.specs.State.{risen}
use Rattle.il_ports.specs.Media.{MediumView}
use Rattle.il_guest.specs.declared.guest.GuestOut.{GuestOut}
use Rattle.il_guest.specs.State.{GuestState, is_leading}
use Rattle.il_guest.specs.Steps.{IsControl}
use Rattle.il_guest.specs.Takes.{GuestTakes}
use Rattle.il_guest.specs.Courses.{control_next}
use Rattle.il_guest.proofs.GuestLaws.{goes-on, leads-until-ifc}
use Rattle.il_ring.specs.declared.plan.Arrival.{Arrival}
use Rattle.il_ring.specs.declared.plan.Arrival.TheVariants as arrival
use Rattle.il_ring.specs.declared.flight.Flight.{Flight}
use Rattle.il_ring.specs.Plans.{next_fault}
use Rattle.il_ring.specs.Flights.{hit, lost_at}
use Rattle.il_ring.specs.Lending.{books_controlled, controlled_home, lent_home}
use Rattle.il_ring.specs.Rings.{RingView, devices_of}
use Rattle.il_ring.specs.Turned.{HalvesOfRound, NothingCame, SomeCame, StandsNot, StandsThere, books_anew, goes_out, keeps_then, ring_before_last, turned_entries}
use Rattle.il_ring.specs.Journeys.{trip_of}
use Rattle.il_ring.proofs.Later.{Later, end_later, journey_later, later_then}
use Rattle.il_ring.proofs.RoundCounts.{round_journey}
use Rattle.il_ring.proofs.PassSteps.{PastLast, goes_home, last_home, past_ended}

-- ---- the second half of a pass

-- a frame goes out: after these entries it is at the host, or was lost on the last link
abbrev pub GoesOut : {M : Type 0} → RingView M → List Entry → Flight → Option Flight → Arrival → RingView M → Type 0
GoesOut r entries out kept answer s =
    (before : ℕ) × (StandsThere r entries out kept before answer s
    ⊎ (StandsNot r entries kept (lost_at out 0 ∷ []) (risen before) answer s × (hit (next_fault r.books.plan before) out ≡ None) × Later r.books.crossings before))

module _ {M : Type 0} (view : M → MediumView) (r s : RingView M) (held : Option Flight) (f : Flight) (answer : Arrival) (two : HalvesOfRound view r held f answer s) where
  abbrev k : ℕ
  k = length (devices_of r)

  -- what came to it, if something did
  pub some_came : (g : Frame) → two.arrives ≡ arrival.Frame g → SomeCame k r.books.log r.books.kept (books_anew held r.books) two.g two.h two.past_all two.arrives two.own
  some_came g came = ⊎_elim (λ none. let clash = sym came ∙ none.arrives_is in cc) (λ some. some) two.came

  pub nothing_came : two.arrives ≡ arrival.Lost → NothingCame k r.books.log r.books.kept two.g two.h two.past_all two.arrives two.own
  nothing_came lost = ⊎_elim (λ none. none) (λ some. let clash = sym lost ∙ some.arrives_is in cc) two.came

  pub came_as : (g : Frame) → (came : two.arrives ≡ arrival.Frame g) → (some_came g came).at.now ≡ g
  came_as g came = let some = some_came g came in frames_same some.at.now g (sym some.arrives_is ∙ came)
    where
      frames_same : (a b : Frame) → arrival.Frame a ≡ arrival.Frame b → a ≡ b
      frames_same a b same = ap (λ answer. elim answer [ arrival.Frame g ↦ g | arrival.Lost ↦ a ]) same

  -- so far the crossings went up alone
  pub own_later : Later r.books.crossings two.own.crossings
  own_later =
      let rest = ring_before_last two.boxed (books_anew held r.books) r in
      let rest_then = ring_before_last two.boxed_then two.own s in
      later_then r.books.crossings two.its_round.past_all.crossings two.own.crossings
      (journey_later r.books.plan 1 (trip_of rest.books (Some f)) two.its_round.past_all (devices_of rest) (devices_of rest_then) (round_journey view rest rest_then held f two.arrives two.its_round))
      (end_later view rest rest_then held f two.arrives two.its_round)

  -- the same of the frame that goes out
  pub goes_later : (e : List Entry) (out : Flight) (kept : Option Flight) → two.past_all.trip.crossings ≡ two.own.crossings
      → StandsThere r e out kept two.past_all.trip.crossings answer s ⊎ (StandsNot r e kept (lost_at out 0 ∷ []) (risen two.past_all.trip.crossings) answer s × (hit (next_fault r.books.plan two.past_all.trip.crossings) out ≡ None))
      → GoesOut r e out kept answer s
  goes_later e out kept count goes =
      (two.past_all.trip.crossings, ⊎_elim (λ there. inl there) (λ not. inr (not.0, not.1, (own_later.0, count ∙ own_later.1))) goes)

  -- while it controls
  module _ (lead : is_leading two.g.control ≡ true) where
    books_lent : is_leading two.h.control ≡ true → s.books ≡ lent_home k (books_controlled r.books two.past_all) two.past_all.trip.flight
    books_lent on = two.books ∙ ap (λ lead. controlled_home lead k (books_controlled r.books two.past_all) two.past_all.trip.flight) on

    -- nothing came, and the log ends with this entry
    pub lost_half : two.arrives ≡ arrival.Lost → (e : List Entry) → (x : Entry) → turned_entries k two.own.log ≡ e ++ x ∷ [] → StandsNot r e r.books.kept (x ∷ []) two.own.crossings answer s × (two.h ≡ two.g)
    lost_half lost e x log =
        let none = nothing_came lost in (
          subst (λ n. StandsNot r e r.books.kept (x ∷ []) n answer s) none.crossings
              (last_home r s answer two.past_all e r.books.kept (books_lent (ap (λ (g : GuestState). is_leading g.control) none.same ∙ lead)) two.answer_is none.keeps x none.flight (none.log_is ∙ ap (λ log. r.books.log ++ log) log)),
          none.same,
        )

    -- this frame came, and was none that is held: it goes on in its rounds, and this comes of it
    pub record GoesSo (g : Frame) : Type 0 where
      pub control : two.h.control ≡ control_next two.g.device.roles.address two.g.last two.g.control g
      pub last : two.h.last ≡ two.g.last
      pub address : two.h.device.roles.address ≡ two.g.device.roles.address
      pub range : IsControl two.h.control
      pub past : PastLast k r.books.log two.past_all two.own (goes_out k two.h.control r.books.kept) (keeps_then two.h.control r.books.kept)

    pub goes_half : (g : Frame) → two.arrives ≡ arrival.Frame g → is_data g ≡ false → is_ifc (message_of g) ≡ false → GoesSo g
    goes_half g came other no_ifc =
        let some = some_came g came in
        let at = came_as g came in
        let on = goes-on two.g two.h g some.out lead no_ifc (subst (λ g. GuestTakes two.g g some.out two.h) at some.takes) in
        record {
          control = on.control;
          last = on.last;
          address = on.address;
          range = some.takes.after.control;
          past = past_ended k r.books.log r.books.kept (books_anew held r.books) two.g two.h two.past_all two.arrives two.own some two.h.control (ap is_data at ∙ other) (leads_on g some.out no_ifc (subst (λ g. GuestTakes two.g g some.out two.h) at some.takes)) on.answer;
        }
      where
        leads_on : (g : Frame) (out : GuestOut) → is_ifc (message_of g) ≡ false → GuestTakes two.g g out two.h → is_leading two.h.control ≡ true
        leads_on g out no_ifc takes = leads-until-ifc two.g two.h g out takes ∙ rw (lead, no_ifc) refl

    -- if it goes on so, its frame goes out after these entries
    pub out_half : (g : Frame) → GoesSo g → (e : List Entry) → turned_entries k two.own.log ≡ e → (out : Flight) → goes_out k two.h.control r.books.kept ≡ Some out → is_leading two.h.control ≡ true → GoesOut r e out (keeps_then two.h.control r.books.kept) answer s
    out_half g so e log out goes on =
        goes_later e out (keeps_then two.h.control r.books.kept) so.past.crossings
        (goes_home r s answer two.past_all e (keeps_then two.h.control r.books.kept) (books_lent on) two.answer_is so.past.kept out (so.past.flight ∙ goes) (so.past.log_is ∙ ap (λ log. r.books.log ++ log) log))
