-- If the host takes control back from a second controller that polls, or its rounds broke off, the log since its talk address is a lend.
use Rattle.std.proofs.Common.{◌≡◌, ◌∙◌, ◌≤◌, ◌<◌, ◌+◌, ◌++◌, ◌&&◌, ◌==◌, nat_le, nat_lt, ℕ, zero, suc, Bool, true, false, List, [], ◌∷◌, Option, Some, None, length, count_by, refl, sym, ap, ap₂, subst, arith, append_assoc, length-append}
use Rattle.std.specs.Prelude.{if◌then◌else◌}
use Rattle.std.specs.List.{list_all}
use Rattle.std.proofs.lemmas.Bool.{and_from, eq-eqb, le-leb, lt-ltb}
use Rattle.il_frames.specs.declared.entry.Entry.{Entry}
use Rattle.il_frames.specs.declared.entry.Outcome.TheVariants as outcome
use Rattle.il_frames.specs.declared.frame.Frame.{Frame}
use Rattle.il_frames.specs.Frames.{is_data}
use Rattle.il_frames.specs.NamedFrames.{entry, ifc, is_frame, nrd, rfc}
use Rattle.il_device.specs.Roles.{is_own}
use Rattle.il_drive.specs.State.{device_of}
use Rattle.il_ports.specs.Media.{MediumView}
use Rattle.loop_model.specs.Exchanges.{Answer, FrameLost, commanded, cut_at, is_address, returned}
use Rattle.loop_model.specs.Reach.{brings_to}
use Rattle.il_guest.specs.declared.control.Place.{Place}
use Rattle.il_guest.specs.declared.control.Place.TheVariants as place
use Rattle.il_guest.specs.Frames.{sst}
use Rattle.il_guest.specs.Rounds.{addresses, addresses_from}
use Rattle.il_guest.specs.Steps.{command_frame}
use Rattle.il_ring.specs.declared.flight.Flight.{Flight}
use Rattle.il_ring.specs.Flights.{sourced}
use Rattle.il_ring.specs.ControlledAdds.{standing}
use Rattle.il_ring.specs.Lending.{entry_of_kept}
use Rattle.il_ring.specs.Lends.{AtHost, Lend, Lent, LentCut, LentLost, RoundsEnd, are_rounds, arrivals, arrivals_in, can_end, ended_after, handed_entries, is_break_end, is_lend, is_one_status, is_whole_lend, keeps_control, lend_address, lend_entries, rounds_entries, stands_at_last, reports_own, took_back, was_taken}
use Rattle.il_ring.specs.Remaining.{BeginRounds, from_command, from_ready, from_start, from_unt}
use Rattle.il_ring.specs.Rings.{RingView}
use Rattle.il_ring.proofs.EntryMeasures.{at_host, at_party}
use Rattle.il_control.proofs.LentCommands.{command_due, ready_due}
use Rattle.il_control.proofs.LentPolls.{RoundsEndSo, byte_stands, command_no_nrd, ends_at, nrd_stands, own_echo, own_echo-is, own_stands}
use Rattle.il_control.proofs.LentTelling.{within}
use Rattle.il_control.proofs.LentWalks.{BrokeOff, Polling, StandsSo, came_by, yet_at}

-- ---- the addresses that are asked

addresses_low : (own : Option ℕ) (a n : ℕ) → a + n ≤ 31 → list_all (λ a. is_address a) (addresses_from own a n) ≡ true
addresses_low own a zero few = refl
addresses_low own a (suc n) few = by (addresses_low own (suc a) n (omega (arith, few))) (is_own own a)
  where
    by : list_all (λ a. is_address a) (addresses_from own (suc a) n) ≡ true → (its_own : Bool) → list_all (λ a. is_address a) (if its_own then addresses_from own (suc a) n else a ∷ addresses_from own (suc a) n) ≡ true
    by rest true = rest
    by rest false = and_from (is_address a) (list_all (λ a. is_address a) (addresses_from own (suc a) n)) (le-leb a 30 (omega (arith, few))) rest

-- those up to the last one are addresses
pub addresses_are : (own : Option ℕ) (last : ℕ) → last ≤ 30 → list_all (λ a. is_address a) (addresses own last) ≡ true
addresses_are own last few = addresses_low own 1 last (omega (arith, few))

-- ---- a lend

-- After these entries the log goes on with those of a lend of address a, in which the last device took control.
pub record LendsSo (k : ℕ) (asked : List ℕ) (limit a : ℕ) (whole : Bool) (before log : List Entry) : Type 0 where
  pub lend : Lend
  pub is : is_lend k asked limit lend ≡ true
  pub own : reports_own asked lend ≡ true
  pub taken : was_taken lend ≡ true
  pub whole_is : is_whole_lend lend ≡ whole
  pub address : lend_address lend ≡ a
  pub log_is : log ≡ before ++ lend_entries k asked lend

regrouped : (before handed es ended more : List Entry) → (((before ++ handed) ++ es) ++ ended) ++ more ≡ before ++ (handed ++ ((es ++ ended) ++ more))
regrouped before handed es ended more =
    append_assoc ((before ++ handed) ++ es) ended more ∙ append_assoc (before ++ handed) es (ended ++ more) ∙ append_assoc before handed (es ++ (ended ++ more))
    ∙ ap (λ rest. before ++ (handed ++ rest)) (sym (append_assoc es ended more))

module _ {M : Type 0} (view : M → MediumView) (k last : ℕ) (own : Option ℕ) (base : List Entry) where
  abbrev A : List ℕ
  A = addresses own last

  -- these are rounds of these addresses, and this end is possible there
  rounds_so : list_all (λ a. is_address a) (addresses own last) ≡ true → (entries tail : List Entry) (end : RoundsEnd) (so : RoundsEndSo k (addresses own last) entries tail end) → are_rounds k (addresses own last) so.all (length entries) end ≡ true
  rounds_so low entries tail end so =
      and_from (list_all (λ a. is_address a) A) (list_all (λ round. list_all (is_one_status k) round) so.all && can_end k (rounds_entries k A so.all) (length entries) end) low
      (and_from (list_all (λ round. list_all (is_one_status k) round) so.all) (can_end k (rounds_entries k A so.all) (length entries) end) so.rounds_are.0 (ends_at k A entries tail end so).1)

  -- as many frames came to the host
  arrivals_are : (entries tail : List Entry) (end : RoundsEnd) (so : RoundsEndSo k (addresses own last) entries tail end) → arrivals k (rounds_entries k (addresses own last) so.all) (length entries) ≡ came_by k entries
  arrivals_are entries tail end so = ap (λ es. count_by (brings_to k 0) es) (ends_at k A entries tail end so).2

  -- ---- a frame is at the host

  module _ (r : RingView M) (arrived : ℕ) (old : Polling view k last own base r arrived) where
    some : 1 ≤ k
    some =
        let all = length-append r.before (device_of r.drive.state ∷ r.after) in
        omega (arith, all, old.many)

    -- these are on their way
    standing_is : (kept lent : Option Flight) (tail : List Entry) → r.books.kept ≡ kept → r.books.lent ≡ lent → entry_of_kept k kept ++ entry_of_kept 0 lent ≡ tail → standing k r.books ≡ tail
    standing_is kept lent tail kept_is lent_is is = ap₂ (λ kept lent. entry_of_kept k kept ++ entry_of_kept 0 lent) kept_is lent_is ∙ is

    ends_as : (tail : List Entry) → standing k r.books ≡ tail → RoundsEndSo k (addresses own last) old.entries tail AtHost → RoundsEndSo k (addresses own last) old.entries (standing k r.books) AtHost
    ends_as tail is ends = subst (λ tail. RoundsEndSo k A old.entries tail AtHost) (sym is) ends

    own_so : (f : Frame) → r.books.lent ≡ Some (sourced k f) → r.books.kept ≡ None → is_frame f nrd ≡ false → (yet : List ℕ) (goes : List Answer → List (List Answer) → List Entry) → BeginRounds k (addresses own last) old.entries yet goes → (more : List Entry) → goes [] [] ≡ returned k f ∷ more
        → RoundsEndSo k (addresses own last) old.entries (standing k r.books) AtHost
    own_so f lent kept other yet goes begun more due =
        ends_as (entry k f (outcome.Taken 0) ∷ []) (standing_is None (Some (sourced k f)) (entry k f (outcome.Taken 0) ∷ []) kept lent (ap (λ e. e ∷ []) (at_host (sourced k f) some)))
        (own_stands k A old.entries yet goes f more begun due other)

    by_place : (p : Place) → StandsSo view k last own base p r old.boxed old.entries → RoundsEndSo k (addresses own last) old.entries (standing k r.books) AtHost
    by_place (place.Command c) stands =
        let one = stands.2 in
        let due = command_due view k last own base stands.0 c in
        own_so (command_frame c) one.lent_is one.kept_is (command_no_nrd c) (yet_at view k last own base c stands.0) (from_command k A stands.0 c) one.begun due.0 due.1
    by_place (place.Ready c) stands =
        let one = stands.2 in
        let due = ready_due view k last own base stands.0 c in
        own_so rfc one.lent_is one.kept_is refl (yet_at view k last own base c stands.0) (from_ready k A stands.0 c) one.begun due.0 due.1
    by_place (place.Start a) stands =
        let one = stands.2 in
        own_so sst one.lent_is one.kept_is refl (a ∷ stands.0) (from_start k A stands.0) one.begun (from_unt k A stands.0 [] []) refl
    by_place (place.Held a d) stands =
        let held = stands.2 in
        let f = held.flight in
        let in_ = within view k last own base r old.boxed old.device f old.after old.many held.holding held.holding_is in
        let bytes : is_data f.sent ≡ true = subst (λ (f : Flight). is_data f.sent ≡ true) held.holding_is held.holding.data_frame in
        let tail : List Entry = entry f.source f.sent (outcome.Taken k) ∷ entry k nrd (outcome.Taken 0) ∷ [] in
        ends_as tail (standing_is (Some f) (Some (sourced k nrd)) tail held.kept_is held.lent_is (ap₂ (λ d e. d ∷ e ∷ []) (at_party k f in_.1) (at_host (sourced k nrd) some)))
        (nrd_stands k A old.entries stands.0 f.source (own_echo f.sent) (held.begun f.sent (own_echo-is f.sent bytes)))
    by_place (place.Relayed a d) stands =
        let byte = stands.2 in
        let f = byte.flight in
        let in_ = within view k last own base r old.boxed old.device f old.after old.many byte.holding byte.holding_is in
        let bytes : is_data f.sent ≡ true = subst (λ (f : Flight). is_data f.sent ≡ true) byte.holding_is byte.holding.data_frame in
        let tail : List Entry = entry f.source f.sent (outcome.Taken 0) ∷ [] in
        ends_as tail (standing_is None (Some f) tail byte.kept_is byte.lent_is (ap (λ e. e ∷ []) (at_host f in_.0)))
        (byte_stands k A old.entries stands.0 f.source (own_echo f.sent) (byte.begun f.sent (own_echo-is f.sent bytes)) bytes)

    -- what ends at the host, if control is taken back now
    pub stands_so : RoundsEndSo k (addresses own last) old.entries (standing k r.books) AtHost
    stands_so = by_place old.place old.stands

    module _ (a : ℕ) (before : List Entry) (address : is_address a ≡ true) (low : list_all (λ a. is_address a) (addresses own last) ≡ true) (handed : base ≡ before ++ handed_entries a k) where
      last_one : stands_at_last k (addresses own last) arrived stands_so.all (length old.entries) ≡ true
      last_one =
          let many = arrivals_are old.entries (standing k r.books) AtHost stands_so in
          eq-eqb (arrivals k (rounds_entries k A stands_so.all) (length old.entries) + 1) arrived (ap (λ n. n + 1) many ∙ old.arrivals)

      -- with whatever comes after it
      log_with : (more : List Entry) → (r.books.log ++ standing k r.books) ++ more ≡ before ++ (handed_entries a k ++ (ended_after k (rounds_entries k (addresses own last) stands_so.all) (length old.entries) AtHost ++ more))
      log_with more =
          ap (λ log. (log ++ standing k r.books) ++ more) (old.log ∙ ap (λ base. base ++ old.entries) handed)
          ∙ regrouped before (handed_entries a k) old.entries (standing k r.books) more
          ∙ ap (λ ended. before ++ (handed_entries a k ++ (ended ++ more))) (sym (ends_at k A old.entries (standing k r.books) AtHost stands_so).0)

      -- the IFC and its RFC came back
      pub lent_whole : LendsSo k (addresses own last) arrived a true before ((r.books.log ++ standing k r.books) ++ commanded 0 ifc)
      lent_whole = record {
        lend = Lent a stands_so.all (length old.entries);
        is =
            and_from (is_address a) (are_rounds k A stands_so.all (length old.entries) AtHost && stands_at_last k A arrived stands_so.all (length old.entries)) address
            (and_from (are_rounds k A stands_so.all (length old.entries) AtHost) (stands_at_last k A arrived stands_so.all (length old.entries)) (rounds_so low old.entries (standing k r.books) AtHost stands_so) last_one);
        own = stands_so.rounds_are.1;
        taken = refl;
        whole_is = refl;
        address = refl;
        log_is = log_with (commanded 0 ifc);
      }

      -- one of the two was lost before party q
      pub lent_lost : (m q : ℕ) → m < 2 → nat_le q k ≡ true → LendsSo k (addresses own last) arrived a false before ((r.books.log ++ standing k r.books) ++ cut_at (commanded 0 ifc) m (FrameLost q))
      lent_lost m q less on = record {
        lend = LentLost a stands_so.all (length old.entries) m q;
        is =
            and_from (is_address a) (are_rounds k A stands_so.all (length old.entries) AtHost && (stands_at_last k A arrived stands_so.all (length old.entries) && (nat_lt m 2 && nat_le q k))) address
            (and_from (are_rounds k A stands_so.all (length old.entries) AtHost) (stands_at_last k A arrived stands_so.all (length old.entries) && (nat_lt m 2 && nat_le q k)) (rounds_so low old.entries (standing k r.books) AtHost stands_so)
            (and_from (stands_at_last k A arrived stands_so.all (length old.entries)) (nat_lt m 2 && nat_le q k) last_one (and_from (nat_lt m 2) (nat_le q k) (lt-ltb m 2 less) on)));
        own = stands_so.rounds_are.1;
        taken = refl;
        whole_is = refl;
        address = refl;
        log_is = log_with (cut_at (commanded 0 ifc) m (FrameLost q));
      }

      -- the host sent it
      pub lent_lost-control : (m q : ℕ) (less : m < 2) (on : nat_le q k ≡ true) → keeps_control (lent_lost m q less on).lend ≡ false
      unfolding lent_lost
      lent_lost-control m q less on = refl

      -- and it came back if its RFC was lost
      pub lent_lost-back : (m q : ℕ) (less : m < 2) (on : nat_le q k ≡ true) → took_back (lent_lost m q less on).lend ≡ (m == 1)
      unfolding lent_lost
      lent_lost-back m q less on = refl

  -- ---- the rounds broke off

  -- before more frames came to the host than it waits for
  pub lent_cut : (s : RingView M) (arrived limit a : ℕ) (before : List Entry) → BrokeOff view k last own base s arrived → arrived ≤ limit → is_address a ≡ true → list_all (λ a. is_address a) (addresses own last) ≡ true → base ≡ before ++ handed_entries a k → LendsSo k (addresses own last) limit a false before s.books.log
  lent_cut s arrived limit a before off few address low handed =
      let so = off.ends in
      let n = length off.entries in
      let rounds = rounds_so low off.entries off.tail off.end so in
      let many = ap (λ es. came_by k es) (ends_at k A off.entries off.tail off.end so).0 in
      let came = off.arrivals in
      let less : nat_lt (arrivals_in k (rounds_entries k A so.all) n off.end) limit ≡ true = lt-ltb (arrivals_in k (rounds_entries k A so.all) n off.end) limit (omega (arith, many, came, few)) in
      record {
        lend = LentCut a so.all n off.end;
        is =
            and_from (is_address a) (are_rounds k A so.all n off.end && (is_break_end off.end && nat_lt (arrivals_in k (rounds_entries k A so.all) n off.end) limit)) address
            (and_from (are_rounds k A so.all n off.end) (is_break_end off.end && nat_lt (arrivals_in k (rounds_entries k A so.all) n off.end) limit) rounds
            (and_from (is_break_end off.end) (nat_lt (arrivals_in k (rounds_entries k A so.all) n off.end) limit) off.breaks less));
        own = so.rounds_are.1;
        taken = refl;
        whole_is = refl;
        address = refl;
        log_is =
            off.log ∙ ap (λ base. base ++ (off.entries ++ off.tail)) handed ∙ append_assoc before (handed_entries a k) (off.entries ++ off.tail)
            ∙ ap (λ ended. before ++ (handed_entries a k ++ ended)) (sym (ends_at k A off.entries off.tail off.end so).0);
      }

  -- it sent no IFC
  pub lent_cut-back : (s : RingView M) (arrived limit a : ℕ) (before : List Entry) (off : BrokeOff view k last own base s arrived) (few : arrived ≤ limit) (address : is_address a ≡ true) (low : list_all (λ a. is_address a) (addresses own last) ≡ true) (handed : base ≡ before ++ handed_entries a k)
      → took_back (lent_cut s arrived limit a before off few address low handed).lend ≡ false
  unfolding lent_cut
  lent_cut-back s arrived limit a before off few address low handed = refl
