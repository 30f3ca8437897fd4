-- What becomes of the log as a second controller answers the frame that came to it, and as its own goes over the link to the host.
use Rattle.std.proofs.Common.{◌≡◌, ◌⊎◌, inl, inr, ◌++◌, ◌==◌, ℕ, Bool, true, false, List, [], ◌∷◌, Option, Some, None, length, take, drop, refl, sym, ap, ap₂, ◌∙◌, arith, append_assoc, append-nil, length-append}
use Rattle.std.specs.Prelude.{◌-◌}
use Rattle.std.proofs.Math.Seq.{take-append_seam, drop-append_seam}
use Rattle.il_frames.specs.declared.entry.Entry.{Entry}
use Rattle.il_frames.specs.declared.frame.Frame.{Frame}
use Rattle.il_frames.specs.Frames.{is_data}
use Rattle.il_device.specs.State.{risen}
use Rattle.il_frames.specs.NamedFrames.{nrd, rfc}
use Rattle.il_guest.specs.declared.control.Control.{Control}
use Rattle.il_guest.specs.declared.control.Control.TheVariants as control
use Rattle.il_guest.specs.declared.control.Place.TheVariants as place
use Rattle.il_guest.specs.declared.guest.GuestOut.TheVariants.{Source}
use Rattle.il_guest.specs.Frames.{sst}
use Rattle.il_guest.specs.State.{GuestState, is_leading}
use Rattle.il_guest.specs.Steps.{command_frame, out_of}
use Rattle.il_ring.specs.declared.plan.Arrival.{Arrival}
use Rattle.il_ring.specs.declared.flight.Flight.{Flight}
use Rattle.il_ring.specs.Plans.{next_fault}
use Rattle.il_ring.specs.Flights.{sourced, hit, lost_at, ended_at}
use Rattle.il_ring.specs.Books.{BooksView}
use Rattle.il_ring.specs.Journeys.{trip}
use Rattle.il_ring.specs.Lending.{ControlledTrip, before_last, books_controlled, entry_of_kept, kept_ended, controlled, controlled_answers, controlled_sends, lent_home, over_lent_link}
use Rattle.il_ring.specs.Rings.{RingView, arrived, arriving, comes, devices_of}
use Rattle.il_ring.specs.Turned.{SomeCame, StandsNot, StandsThere, goes_out, keeps_then, turned_entries, turned_flight}
use Rattle.il_ring.proofs.Turnings.{entries_on}
use Rattle.il_ring.proofs.TurnedRounds.{ended_home}

-- ---- an entry before the last

pub before_the_last : (log : List Entry) (e x : Entry) → before_last e (log ++ x ∷ []) ≡ log ++ (e ∷ x ∷ [])
before_the_last log e x =
    let at : length (log ++ x ∷ []) - 1 ≡ length log = let len = length-append log (x ∷ []) in omega (arith, len) in
    ap (λ j. take j (log ++ x ∷ []) ++ e ∷ drop j (log ++ x ∷ [])) at
    ∙ ap₂ (λ xs ys. xs ++ e ∷ ys) (take-append_seam log (x ∷ [])) (drop-append_seam log (x ∷ []))

kept_then_last : (k : ℕ) (kept : Option Flight) (log : List Entry) (x : Entry) → kept_ended k kept (log ++ x ∷ []) ≡ log ++ (entry_of_kept k kept ++ x ∷ [])
kept_then_last k None log x = refl
kept_then_last k (Some f) log x = before_the_last log (ended_at f k) x

-- ---- it answers

sends_other : (n : ℕ) (log : List Entry) (k : ℕ) (at : Flight) (kept : Option Flight) (g : Frame) (is_bytes : Bool) → is_bytes ≡ false → controlled_sends n log k at is_bytes kept g ≡ controlled (trip n (log ++ ended_at at k ∷ []) (Some (sourced k g))) kept
sends_other n log k at kept g is_bytes other = ap (λ is_bytes. controlled_sends n log k at is_bytes kept g) other

pub answers_ended : (n : ℕ) (log : List Entry) (k : ℕ) (at : Flight) (kept : Option Flight) (c : Control) → is_data at.now ≡ false → is_leading c ≡ true
    → controlled_answers n log k at kept (out_of c) ≡ controlled (trip n (log ++ ended_at at k ∷ []) (goes_out k c kept)) (keeps_then c kept)
answers_ended n log k at kept (control.Rounds (place.Command c)) other leads = sends_other n log k at kept (command_frame c) (is_data at.now) other
answers_ended n log k at kept (control.Rounds (place.Ready c)) other leads = sends_other n log k at kept rfc (is_data at.now) other
answers_ended n log k at kept (control.Rounds (place.Start a)) other leads = sends_other n log k at kept sst (is_data at.now) other
answers_ended n log k at kept (control.Rounds (place.Held a d)) other leads = sends_other n log k at kept nrd (is_data at.now) other
answers_ended n log k at kept (control.Rounds (place.Relayed a d)) other leads = refl
answers_ended n log k at kept control.Silent other leads = refl
answers_ended n log k at kept control.Host other leads = cc

-- the books of the ring of the others as the frame came home there
own_ended : (b : BooksView) (at : Flight) (own is_bytes : Bool) → is_bytes ≡ false → ((comes b at own is_bytes).log ≡ b.log ++ ended_at at 0 ∷ []) × ((comes b at own is_bytes).crossings ≡ b.crossings)
own_ended b at true is_bytes other = (refl, refl)
own_ended b at false true other = cc
own_ended b at false false other = (refl, refl)

-- So it comes after the last party: the log is that of the ring of the others, turned; this frame goes on, or none, and that one is
-- kept, or none.
pub record PastLast (k : ℕ) (log : List Entry) (past_all : ControlledTrip) (own : BooksView) (goes keeps : Option Flight) : Type 0 where
  pub log_is : past_all.trip.log ≡ log ++ turned_entries k own.log
  pub crossings : past_all.trip.crossings ≡ own.crossings
  pub flight : past_all.trip.flight ≡ goes
  pub kept : past_all.kept ≡ keeps

module _ (k : ℕ) (log : List Entry) (kept : Option Flight) (b : BooksView) (g h : GuestState) (past_all : ControlledTrip) (arrives : Arrival) (own : BooksView) (came : SomeCame k log kept b g h past_all arrives own) where
  past_as : (goes keeps : Option Flight) → past_all ≡ controlled (trip came.count ((log ++ turned_entries k came.entries) ++ ended_at (turned_flight k came.at) k ∷ []) goes) keeps
      → own.log ≡ came.entries ++ ended_at came.at 0 ∷ [] → own.crossings ≡ came.count → PastLast k log past_all own goes keeps
  past_as goes keeps is own_log count = record {
    log_is =
        ap (λ (l : ControlledTrip). l.trip.log) is
        ∙ ap (λ e. (log ++ turned_entries k came.entries) ++ e ∷ []) (ended_home k came.at came.within)
        ∙ entries_on k log came.entries (ended_at came.at 0)
        ∙ ap (λ l. log ++ turned_entries k l) (sym own_log);
    crossings = ap (λ (l : ControlledTrip). l.trip.crossings) is ∙ sym count;
    flight = ap (λ (l : ControlledTrip). l.trip.flight) is;
    kept = ap (λ (l : ControlledTrip). l.kept) is;
  }

  -- a frame that is no data or end frame ended there
  pub past_ended : (c : Control) → is_data came.at.now ≡ false → is_leading c ≡ true → came.out ≡ out_of c → PastLast k log past_all own (goes_out k c kept) (keeps_then c kept)
  past_ended c other leads out =
      let own_is = own_ended (record b { crossings = came.count; log = came.entries }) came.at (came.at.source == 0) (is_data came.at.now) other in
      past_as (goes_out k c kept) (keeps_then c kept)
      (came.past_all_is ∙ ap (controlled_answers came.count (log ++ turned_entries k came.entries) k (turned_flight k came.at) kept) out ∙ answers_ended came.count (log ++ turned_entries k came.entries) k (turned_flight k came.at) kept c other leads)
      (ap (λ (b : BooksView). b.log) came.own_is ∙ own_is.0) (ap (λ (b : BooksView). b.crossings) came.own_is ∙ own_is.1)

  -- a data or end frame of another is kept, and its own goes out
  pub past_held : (f : Frame) → is_data came.at.now ≡ true → (came.at.source == 0) ≡ false → came.out ≡ Source f
      → PastLast k log past_all own (Some (sourced k f)) (Some (turned_flight k came.at)) × (own.held ≡ Some came.at)
  past_held f is_bytes other out =
      let b_at : BooksView = record b { crossings = came.count; log = came.entries } in
      let held : own ≡ record b_at { held = Some came.at } = came.own_is ∙ ap₂ (λ own is_bytes. comes b_at came.at own is_bytes) other is_bytes in
      let is : past_all ≡ controlled (trip came.count (log ++ turned_entries k came.entries) (Some (sourced k f))) (Some (turned_flight k came.at)) =
      came.past_all_is ∙ ap (controlled_answers came.count (log ++ turned_entries k came.entries) k (turned_flight k came.at) kept) out
      ∙ ap (λ is_bytes. controlled_sends came.count (log ++ turned_entries k came.entries) k (turned_flight k came.at) is_bytes kept f) is_bytes in (
        record {
          log_is = ap (λ (l : ControlledTrip). l.trip.log) is ∙ ap (λ (b : BooksView). log ++ turned_entries k b.log) (sym held);
          crossings = ap (λ (l : ControlledTrip). l.trip.crossings) is ∙ ap (λ (b : BooksView). b.crossings) (sym held);
          flight = ap (λ (l : ControlledTrip). l.trip.flight) is;
          kept = ap (λ (l : ControlledTrip). l.kept) is;
        },
        ap (λ (b : BooksView). b.held) held,
      )

-- ---- over the link to the host

module _ {M : Type 0} (r s : RingView M) (answer : Arrival) (past_all : ControlledTrip) (entries : List Entry) (keeps : Option Flight)
    (books : s.books ≡ lent_home (length (devices_of r)) (books_controlled r.books past_all) past_all.trip.flight) (answer_is : answer ≡ arrived (arriving r.books.plan past_all.trip.crossings past_all.trip.flight)) (kept : past_all.kept ≡ keeps) where
  abbrev b_then : BooksView
  b_then = record (books_controlled r.books past_all) { crossings = risen past_all.trip.crossings }

  over_link : (out : Flight) (o : Option Flight) → past_all.trip.flight ≡ Some out → past_all.trip.log ≡ r.books.log ++ entries → hit (next_fault r.books.plan past_all.trip.crossings) out ≡ o
      → StandsThere r entries out keeps past_all.trip.crossings answer s
      ⊎ (StandsNot r entries keeps (lost_at out 0 ∷ []) (risen past_all.trip.crossings) answer s × (hit (next_fault r.books.plan past_all.trip.crossings) out ≡ None))
  over_link out None goes log came =
      let at_home : s.books ≡ over_lent_link (length (devices_of r)) b_then out None =
      books ∙ ap (lent_home (length (devices_of r)) (books_controlled r.books past_all)) goes ∙ ap (over_lent_link (length (devices_of r)) b_then out) came in
      inr (
        record {
          answer_is = answer_is ∙ ap (λ o. arrived (arriving r.books.plan past_all.trip.crossings o)) goes ∙ ap arrived came;
          log_is =
              ap (λ (b : BooksView). b.log) at_home
              ∙ ap (λ l. kept_ended (length (devices_of r)) past_all.kept (l ++ lost_at out 0 ∷ [])) log
              ∙ kept_then_last (length (devices_of r)) past_all.kept (r.books.log ++ entries) (lost_at out 0)
              ∙ append_assoc r.books.log entries (entry_of_kept (length (devices_of r)) past_all.kept ++ lost_at out 0 ∷ [])
              ∙ ap (λ kept. r.books.log ++ (entries ++ (entry_of_kept (length (devices_of r)) kept ++ lost_at out 0 ∷ []))) kept;
          lent_is = ap (λ (b : BooksView). b.lent) at_home;
          kept_is = ap (λ (b : BooksView). b.kept) at_home;
          crossings_are = ap (λ (b : BooksView). b.crossings) at_home;
        },
        came,
      )
  over_link out (Some at) goes log came =
      let at_home : s.books ≡ over_lent_link (length (devices_of r)) b_then out (Some at) =
      books ∙ ap (lent_home (length (devices_of r)) (books_controlled r.books past_all)) goes ∙ ap (over_lent_link (length (devices_of r)) b_then out) came in
      inl (record {
        at = at;
        came = came;
        answer_is = answer_is ∙ ap (λ o. arrived (arriving r.books.plan past_all.trip.crossings o)) goes ∙ ap arrived came;
        log_is = ap (λ (b : BooksView). b.log) at_home ∙ log;
        lent_is = ap (λ (b : BooksView). b.lent) at_home;
        kept_is = ap (λ (b : BooksView). b.kept) at_home ∙ kept;
        crossings = ap (λ (b : BooksView). b.crossings) at_home;
      })

  -- a frame goes out
  pub goes_home : (out : Flight) → past_all.trip.flight ≡ Some out → past_all.trip.log ≡ r.books.log ++ entries
      → StandsThere r entries out keeps past_all.trip.crossings answer s
      ⊎ (StandsNot r entries keeps (lost_at out 0 ∷ []) (risen past_all.trip.crossings) answer s × (hit (next_fault r.books.plan past_all.trip.crossings) out ≡ None))
  goes_home out goes log = over_link out (hit (next_fault r.books.plan past_all.trip.crossings) out) goes log refl

  nothing_home : past_all.trip.flight ≡ None → s.books ≡ lent_home (length (devices_of r)) (books_controlled r.books past_all) None
  nothing_home none = books ∙ ap (lent_home (length (devices_of r)) (books_controlled r.books past_all)) none

  -- none does, after a last entry
  pub last_home : (x : Entry) → past_all.trip.flight ≡ None → past_all.trip.log ≡ r.books.log ++ (entries ++ x ∷ []) → StandsNot r entries keeps (x ∷ []) past_all.trip.crossings answer s
  last_home x none log =
      let at_home = nothing_home none in
      record {
        answer_is = answer_is ∙ ap (λ o. arrived (arriving r.books.plan past_all.trip.crossings o)) none;
        log_is =
            ap (λ (b : BooksView). b.log) at_home
            ∙ ap (kept_ended (length (devices_of r)) past_all.kept) (log ∙ sym (append_assoc r.books.log entries (x ∷ [])))
            ∙ kept_then_last (length (devices_of r)) past_all.kept (r.books.log ++ entries) x
            ∙ append_assoc r.books.log entries (entry_of_kept (length (devices_of r)) past_all.kept ++ x ∷ [])
            ∙ ap (λ kept. r.books.log ++ (entries ++ (entry_of_kept (length (devices_of r)) kept ++ x ∷ []))) kept;
        lent_is = ap (λ (b : BooksView). b.lent) at_home;
        kept_is = ap (λ (b : BooksView). b.kept) at_home;
        crossings_are = ap (λ (b : BooksView). b.crossings) at_home;
      }

  -- none does, and none is kept
  pub silent_home : keeps ≡ None → past_all.trip.flight ≡ None → past_all.trip.log ≡ r.books.log ++ entries → StandsNot r entries None [] past_all.trip.crossings answer s
  silent_home no_kept none log =
      let at_home = nothing_home none in
      record {
        answer_is = answer_is ∙ ap (λ o. arrived (arriving r.books.plan past_all.trip.crossings o)) none;
        log_is =
            ap (λ (b : BooksView). b.log) at_home
            ∙ ap (λ kept. kept_ended (length (devices_of r)) kept past_all.trip.log) (kept ∙ no_kept)
            ∙ log
            ∙ ap (λ es. r.books.log ++ es) (sym (append-nil entries));
        lent_is = ap (λ (b : BooksView). b.lent) at_home;
        kept_is = ap (λ (b : BooksView). b.kept) at_home;
        crossings_are = ap (λ (b : BooksView). b.crossings) at_home;
      }
