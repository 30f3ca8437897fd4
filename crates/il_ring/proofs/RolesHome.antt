-- The devices' roles after a whole round are those that its entries give.
use Rattle.std.proofs.Common.{◌≡◌, ◌≤◌, ◌++◌, ◌==◌, ⊎_elim, ℕ, Bool, true, false, not, List, [], ◌∷◌, Option, Some, None, refl, sym, ap, ap₂, ◌∙◌, arith, append-nil, append_assoc}
use Rattle.std.specs.Prelude.{if◌then◌else◌}
use Rattle.std.specs.List.{list_all}
use Rattle.std.proofs.lemmas.Bool.{and_parts, and_from, eq-eqb}
use Rattle.std.proofs.lemmas.Bool.Decides.{nat_tests}
use Rattle.std.proofs.lemmas.List.Folds.{list_all-append}
use Rattle.il_frames.specs.declared.frame.Frame.{Frame}
use Rattle.il_frames.specs.declared.message.Message.{Message}
use Rattle.il_frames.specs.declared.entry.Entry.{Entry}
use Rattle.il_frames.specs.declared.entry.Outcome.{Outcome}
use Rattle.il_frames.specs.declared.entry.Outcome.TheVariants as outcome
use Rattle.il_frames.specs.Frames.{is_data}
use Rattle.il_frames.specs.Messages.{message_of}
use Rattle.il_device.specs.declared.roles.Roles.{Roles}
use Rattle.il_device.specs.State.{risen}
use Rattle.il_ports.specs.Media.{MediumView}
use Rattle.il_frames.specs.NamedFrames.{entry}
use Rattle.loop_model.specs.Reach.{is_reached}
use Rattle.loop_model.specs.Roles.{roles_along, roles_after_entry, roles_after}
use Rattle.il_ring.specs.declared.plan.Arrival.{Arrival}
use Rattle.il_ring.specs.declared.plan.PlanFault.{PlanFault}
use Rattle.il_ring.specs.declared.flight.Flight.{Flight}
use Rattle.il_ring.specs.Plans.{next_fault}
use Rattle.il_ring.specs.Flights.{hit, lost_at, ended_at}
use Rattle.il_ring.specs.Books.{BooksView}
use Rattle.il_ring.specs.Journeys.{trip_of}
use Rattle.il_ring.specs.Rings.{RingView, Round, devices_of, roles_of, home, comes, over_last_link, books_at}
use Rattle.il_ring.proofs.CountSteps.{hit_same}
use Rattle.il_ring.proofs.Passing.{Carries}
use Rattle.il_ring.proofs.RoundRoles.{IsQuiet, AreQuiet, other_source, quiet_hit, leaves_roles}
use Rattle.il_ring.specs.Outcomes.{is_other, HostRound, DeviceRound}
use Rattle.il_ring.proofs.HostRoles.{along_all, host_goes}
use Rattle.il_ring.proofs.RoundCounts.{round_journey}

-- ---- entries of devices

-- they leave all roles
pub others_leave : (rs : List Roles) (log : List Entry) → list_all is_other log ≡ true → roles_after rs log ≡ rs
others_leave rs [] others = refl
others_leave rs (e ∷ log) others =
    let parts = and_parts (is_other e) (list_all is_other log) others in
    by_test (e.source == 0) refl parts.0 (others_leave rs log parts.1)
  where
    by_test : (test : Bool) → (e.source == 0) ≡ test → not (e.source == 0) ≡ true → roles_after rs log ≡ rs → roles_after (roles_after_entry rs e) log ≡ rs
    by_test true is other rest = let clash = sym other ∙ ap not is in cc
    by_test false is other rest = ap (λ test. roles_after (if test then roles_along 0 e.outcome 1 (message_of e.frame) rs else rs) log) is ∙ rest

-- ---- the way home

-- what the last link adds if a device's frame is on its way, or none
record OthersHome (log : List Entry) (s : BooksView) : Type 0 where
  entries : List Entry
  log_is : s.log ≡ log ++ entries
  others : list_all is_other entries ≡ true

one_other : (log : List Entry) (e : Entry) (s : BooksView) → 1 ≤ e.source → s.log ≡ log ++ e ∷ [] → OthersHome log s
one_other log e s some is = record { entries = e ∷ []; log_is = is; others = and_from (not (e.source == 0)) true (other_source e.source some) refl }

comes_other : (b : BooksView) (g : Flight) (own data_frame : Bool) → 1 ≤ g.source → OthersHome b.log (comes b g own data_frame)
comes_other b g true data_frame some = one_other b.log (ended_at g 0) (comes b g true data_frame) some refl
comes_other b g false true some = record { entries = []; log_is = sym (append-nil b.log); others = refl }
comes_other b g false false some = one_other b.log (ended_at g 0) (comes b g false false) some refl

link_other : (b : BooksView) (f : Flight) (o : Option Flight) (fault : Option PlanFault) → IsQuiet f → hit fault f ≡ o → OthersHome b.log (over_last_link b f o)
link_other b f None fault quiet is = one_other b.log (lost_at f 0) (over_last_link b f None) quiet.from_device refl
link_other b f (Some g) fault quiet is = comes_other b g (g.source == 0) (is_data g.now) (quiet_hit fault f g quiet is).from_device

others_home : (b : BooksView) (flight : Option Flight) → AreQuiet flight → OthersHome b.log (home b flight)
others_home b None quiet = record { entries = []; log_is = sym (append-nil b.log); others = refl }
others_home b (Some f) quiet = link_other (record b { crossings = risen b.crossings }) f (hit (next_fault b.plan b.crossings) f) (next_fault b.plan b.crossings) quiet refl

-- and if the host's own is
record HostHome (f : Flight) (log : List Entry) (s : BooksView) : Type 0 where
  ended : Outcome
  log_is : s.log ≡ log ++ entry 0 f.sent ended ∷ []
  reached : (p : ℕ) → is_reached 0 ended p ≡ true

reached_home : (p : ℕ) → is_reached 0 (outcome.Lost 0) p ≡ true
reached_home p = grind (arith, nat_tests)

link_host : (b : BooksView) (f : Flight) (o : Option Flight) (fault : Option PlanFault) → f.source ≡ 0 → hit fault f ≡ o → HostHome f b.log (over_last_link b f o)
link_host b f None fault host is = record { ended = outcome.Lost 0; log_is = ap (λ s. b.log ++ entry s f.sent (outcome.Lost 0) ∷ []) host; reached = reached_home }
link_host b f (Some g) fault host is =
    let same = hit_same fault f g is in
    let own : (g.source == 0) ≡ true = eq-eqb g.source 0 (same.source ∙ host) in
    record {
      ended = outcome.Back g.now;
      log_is =
          ap (λ own. (comes b g own (is_data g.now)).log) own
          ∙ ap (λ own. b.log ++ entry g.source g.sent (if own then outcome.Back g.now else outcome.Taken 0) ∷ []) own
          ∙ ap₂ (λ s sent. b.log ++ entry s sent (outcome.Back g.now) ∷ []) (same.source ∙ host) same.sent;
      reached = λ p. refl;
    }

-- ---- the whole round

-- the message of the frame as it was sent makes the roles
along_entry : (f : Frame) (o : Outcome) (m : Message) (rs : List Roles) (rest : List Entry) → message_of f ≡ m → list_all is_other rest ≡ true → roles_along 0 o 1 m rs ≡ roles_after rs (entry 0 f o ∷ rest)
along_entry f o m rs rest says others = ap (λ m. roles_along 0 o 1 m rs) (sym says) ∙ sym (others_leave (roles_after_entry rs (entry 0 f o)) rest others)

pub host_round : {M : Type 0} (view : M → MediumView) (r s : RingView M) (held : Option Flight) (f : Flight) (m : Message) (answer : Arrival) → f.source ≡ 0 → message_of f.sent ≡ m → Carries m f.now
    → Round view r held f answer s → HostRound r f s
host_round view r s held f m answer host says carries round =
    let t = round.past_all in
    let b = books_at (record r.books { held = held }) t in
    ⊎_elim
    (λ on.
    let flight = on.flight in
    let came = link_host (record b { crossings = risen b.crossings }) flight (hit (next_fault b.plan b.crossings) flight) (next_fault b.plan b.crossings) on.source refl in
    let log : s.books.log ≡ t.log ++ entry 0 flight.sent came.ended ∷ [] = ap (λ (b : BooksView). b.log) round.books ∙ ap (λ flight. (home b flight).log) on.on_way ∙ came.log_is in
    record {
      ended = came.ended;
      rest = [];
      log = log ∙ ap₂ (λ log sent. log ++ entry 0 sent came.ended ∷ []) on.log_is on.sent;
      others = refl;
      roles = on.roles ∙ sym (along_all came.ended f.sent 1 m (roles_of (devices_of r)) came.reached) ∙ along_entry f.sent came.ended m (roles_of (devices_of r)) [] says refl;
    })
    (λ over.
    let more = others_home b t.flight over.quiet in
    let others = list_all-append is_other over.rest more.entries ∙ and_from (list_all is_other over.rest) (list_all is_other more.entries) over.others more.others in
    record {
      ended = over.ended;
      rest = over.rest ++ more.entries;
      log =
          ap (λ (b : BooksView). b.log) round.books ∙ more.log_is ∙ ap (λ log. log ++ more.entries) over.log_is
          ∙ append_assoc r.books.log (entry 0 f.sent over.ended ∷ over.rest) more.entries;
      others = others;
      roles = over.roles ∙ along_entry f.sent over.ended m (roles_of (devices_of r)) (over.rest ++ more.entries) says others;
    })
    (host_goes r.books.plan 1 m f r.books.crossings r.books.log (devices_of r) (devices_of s) t (omega arith) host carries (round_journey view r s held f answer round))

pub device_round : {M : Type 0} (view : M → MediumView) (r s : RingView M) (held : Option Flight) (f : Flight) (answer : Arrival) → IsQuiet f → Round view r held f answer s → DeviceRound r s
device_round view r s held f answer quiet round =
    let t = round.past_all in
    let past = leaves_roles r.books.plan 1 (trip_of r.books (Some f)) t (devices_of r) (devices_of s) (omega arith) quiet (round_journey view r s held f answer round) in
    let more = others_home (books_at (record r.books { held = held }) t) t.flight past.quiet in
    record {
      entries = past.entries ++ more.entries;
      log = ap (λ (b : BooksView). b.log) round.books ∙ more.log_is ∙ ap (λ log. log ++ more.entries) past.log ∙ append_assoc r.books.log past.entries more.entries;
      others = list_all-append is_other past.entries more.entries ∙ and_from (list_all is_other past.entries) (list_all is_other more.entries) past.others more.others;
      roles = past.roles;
    }
