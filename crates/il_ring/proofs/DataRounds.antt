-- Rounds of the host's data frames, if no device talks.
use Rattle.std.proofs.Common.{◌≡◌, ◌≤◌, ◌⊎◌, inl, inr, ⊎_elim, suc, true, Option, length, sym, ap, ◌∙◌, arith}
use Rattle.il_frames.specs.declared.frame.Frame.{Frame}
use Rattle.il_frames.specs.Frames.{is_data}
use Rattle.il_ports.specs.Media.{MediumView}
use Rattle.loop_model.specs.Reach.{met}
use Rattle.il_ring.specs.declared.plan.Arrival.{Arrival}
use Rattle.il_ring.specs.declared.flight.Flight.{Flight}
use Rattle.il_ring.specs.Plans.{IsPlan, hops_of, last_crossing}
use Rattle.il_ring.specs.Flights.{sourced}
use Rattle.il_ring.specs.Books.{BooksView}
use Rattle.il_ring.specs.Rings.{RingView, Round, devices_of}
use Rattle.il_ring.specs.Outcomes.{DataReturned, DataBroken}
use Rattle.il_ring.proofs.Faults.{clear_met, met_at}
use Rattle.il_ring.specs.Lists.{Each}
use Rattle.il_ring.proofs.PassKinds.{Silent}
use Rattle.il_ring.proofs.DataPasses.{data_past}
use Rattle.il_ring.proofs.DataHome.{HomeClean, HomeAltered, HomeLost, data_home}
use Rattle.il_ring.proofs.RoundCounts.{round_journey}

-- ---- what comes back to the host

pub host_data_round : {M : Type 0} (view : M → MediumView) (r s : RingView M) (held : Option Flight) (f : Frame) (answer : Arrival) → r.books.crossings ≤ last_crossing → IsPlan r.books.plan → is_data f ≡ true → Each Silent 1 (devices_of r)
    → Round view r held (sourced 0 f) answer s → DataReturned r held f answer s ⊎ DataBroken r held f answer s
host_data_round view r s held f answer within plan data_frame silent round =
    let k = length (devices_of r) in
    let n = r.books.crossings in
    let b : BooksView = record r.books { held = held } in
    let goes = data_past r.books.plan 1 n r.books.log (sourced 0 f) (devices_of r) (devices_of s) round.past_all plan silent data_frame (round_journey view r s held (sourced 0 f) answer round) in
    ⊎_elim
    (λ (clean : HomeClean b n (sourced 0 f) (devices_of r) (devices_of s) s.books answer). inl (record {
      back = clean.now;
      same = clean.same;
      data_frame = clean.data_frame;
      returned = record {
        answer_is = clean.answer_is;
        log = ap (λ (b : BooksView). b.log) clean.books;
        held_is = ap (λ (b : BooksView). b.held) clean.books;
        met_none = ap (met (hops_of r.books.plan) n) (ap (λ (b : BooksView). b.crossings) clean.books) ∙ (clear_met r.books.plan (suc k) n within).1 clean.clear;
      };
      heard = clean.took;
    }))
    (⊎_elim
    (λ (altered : HomeAltered b n (sourced 0 f) (devices_of r) (devices_of s) s.books answer). inr (record {
      how = inl (record {
        back = altered.now;
        answer_is = altered.answer_is;
        log = ap (λ (b : BooksView). b.log) altered.books;
        held_is = ap (λ (b : BooksView). b.held) altered.books;
        data_frame = altered.data_frame;
        other = altered.other;
        met_some = λ none. met_at r.books.plan altered.hop (suc k) n within (omega (arith, altered.within)) altered.planned (ap (met (hops_of r.books.plan) n) (sym (ap (λ (b : BooksView). b.crossings) altered.books)) ∙ none);
      });
      reached = k;
      heard = altered.took;
    }))
    (λ (lost : HomeLost b 1 n (sourced 0 f) (devices_of r) (devices_of s) s.books answer). inr (record {
      how = inr (record {
        answer_is = lost.answer_is;
        party = lost.party;
        on_ring = ⊎_elim (λ zero. omega (arith, zero)) (λ at. omega (arith, at.0, at.1)) lost.party_is;
        log = ap (λ (b : BooksView). b.log) lost.books;
        held_is = ap (λ (b : BooksView). b.held) lost.books;
        met_some = λ none. met_at r.books.plan lost.reached (suc lost.reached) n within (omega arith) lost.planned (ap (met (hops_of r.books.plan) n) (sym (ap (λ (b : BooksView). b.crossings) lost.books)) ∙ none);
      });
      reached = lost.reached;
      heard = lost.took;
    })))
    (data_home b 1 n (sourced 0 f) (devices_of r) (devices_of s) round.past_all s.books answer plan goes (round.books, round.answer_is))
