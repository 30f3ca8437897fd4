-- What is true of the entries that one round appends to the log.
use Rattle.std.proofs.Common.{◌≡◌, ◌≤◌, ◌+◌, ◌++◌, ◌⊎◌, ◌==◌, ◌&&◌, ◌||◌, inl, inr, ℕ, Bool, true, false, not, nat_le, List, [], ◌∷◌, Option, Some, None, length, refl, sym, ap, subst, ◌∙◌, arith, append-nil, append_assoc}
use Rattle.std.specs.Prelude.{if◌then◌else◌}
use Rattle.std.specs.List.{list_all}
use Rattle.std.proofs.lemmas.Bool.{and_parts, and_from, le-leb, leb-true, ne_eqb, eq-eqb, or_right}
use Rattle.std.proofs.lemmas.Bool.Decides.{nat_tests}
use Rattle.std.proofs.lemmas.List.{append_cancel_left}
use Rattle.std.proofs.lemmas.List.Folds.{list_all-append}
use Rattle.il_frames.specs.declared.frame.Frame.{Frame}
use Rattle.il_frames.specs.declared.entry.Entry.{Entry}
use Rattle.il_frames.specs.declared.entry.Outcome.TheVariants as outcome
use Rattle.il_frames.specs.Frames.{byte_of, class_of, is_data}
use Rattle.il_frames.specs.Messages.{message_of}
use Rattle.il_frames.specs.NamedFrames.{entry}
use Rattle.il_device.specs.declared.device.Out.{Out}
use Rattle.il_device.specs.declared.device.Out.TheVariants.{Pass, Source}
use Rattle.il_device.specs.declared.roles.Roles.{Roles}
use Rattle.il_device.specs.State.{DeviceState, risen}
use Rattle.il_device.specs.Takes.{Takes}
use Rattle.il_ports.specs.Media.{MediumView}
use Rattle.loop_model.specs.Roles.{is_spoken, roles_by}
use Rattle.il_ring.specs.declared.plan.Planned.{Planned}
use Rattle.il_ring.specs.declared.plan.Arrival.{Arrival}
use Rattle.il_ring.specs.declared.flight.Flight.{Flight}
use Rattle.il_ring.specs.Plans.{next_fault}
use Rattle.il_ring.specs.Flights.{hit, lost_at, ended_at}
use Rattle.il_ring.specs.Books.{BooksView}
use Rattle.il_ring.specs.Journeys.{Trip, trip_of, answered, Passage, Journey}
use Rattle.il_ring.specs.Rings.{RingView, Round, books_at, comes, devices_of, home, over_last_link}
use Rattle.il_ring.specs.Turned.{is_on, is_auto_address, gives_no_address, own_roles_entry, own_roles}
use Rattle.il_ring.proofs.CountSteps.{hit_same}
use Rattle.il_ring.proofs.RoundCounts.{round_journey}
use Rattle.il_ring.proofs.TurnedRoles.{on_back, on_taken, on_lost}
use Rattle.il_ring.proofs.Journeys.{past_party}
use Rattle.il_ring.proofs.MessageKinds.{data_spoken}
use Rattle.il_ring.proofs.RoundRoles.{each_sent}

-- what is true of the entries of a round that begins with the flight f, on a ring of n devices
pub record TellsRound (n : ℕ) (f : Flight) (entries : List Entry) : Type 0 where
  -- they are entries of that ring
  pub on : list_all (is_on n) entries ≡ true
  -- none of them gives an address, if the frame of f does not
  pub addresses : is_auto_address (message_of f.sent) ≡ false → list_all gives_no_address entries ≡ true
  -- all but the host's own are spoken: data and end frames, ETO and ETE
  pub said : f.source ≡ 0 → list_all (λ e. is_spoken (message_of e.frame) || (e.source == 0)) entries ≡ true
  -- all are, if the frame of f is
  pub spoken : is_spoken (message_of f.sent) ≡ true → list_all (λ e. is_spoken (message_of e.frame)) entries ≡ true
  -- a host that has roles takes the frame of f, if it is its own, and nothing else
  pub own_host : f.source ≡ 0 → (r : Roles) → own_roles r entries ≡ roles_by (message_of f.sent) r
  pub own_device : 1 ≤ f.source → (r : Roles) → own_roles r entries ≡ r

-- ---- what a device sends

-- a frame that a device sends in the place of another is spoken
pub sent_spoken : (d e : DeviceState) (f h : Frame) → Takes d f (Source h) e → is_spoken (message_of h) ≡ true
sent_spoken d e f h takes = each_sent (λ h. is_spoken (message_of h) ≡ true) (λ f is. data_spoken (class_of f) (byte_of f) is) refl refl h d e f takes

-- ---- entries

-- a spoken entry of a device of a ring of n devices
abbrev is_reported : ℕ → Entry → Bool
is_reported n e = is_on n e && (nat_le 1 e.source && is_spoken (message_of e.frame))

-- an entry of the frame of f on such a ring
record IsEntryOf (n : ℕ) (f : Flight) (e : Entry) : Type 0 where
  source : e.source ≡ f.source
  frame : e.frame ≡ f.sent
  on : is_on n e ≡ true

-- a device's spoken frame
record IsDevices (n : ℕ) (g : Flight) : Type 0 where
  some : 1 ≤ g.source
  within : g.source ≤ n
  says : is_spoken (message_of g.sent) ≡ true

-- the log is now this one, after `log` with the entry of f and the devices' spoken ones
record Entered (n : ℕ) (f : Flight) (log now : List Entry) : Type 0 where
  first : Entry
  rest : List Entry
  log_is : now ≡ log ++ first ∷ rest
  of_f : IsEntryOf n f first
  told : list_all (is_reported n) rest ≡ true

-- nothing was entered yet, and the frame of f is on its way
record IsFirst (n : ℕ) (f : Flight) (log now : List Entry) (g : Flight) : Type 0 where
  source : g.source ≡ f.source
  sent : g.sent ≡ f.sent
  within : g.source ≤ n
  log_is : now ≡ log

-- the log is now this one, and this frame is on its way, or none
abbrev Tells : ℕ → Flight → List Entry → List Entry → Option Flight → Type 0
Tells n f log now None = Entered n f log now
Tells n f log now (Some g) = IsFirst n f log now g ⊎ (IsDevices n g × Entered n f log now)

source_within : (n : ℕ) (f : Flight) (log now : List Entry) (g : Flight) → Tells n f log now (Some g) → g.source ≤ n
source_within n f log now g (inl first) = first.within
source_within n f log now g (inr later) = later.0.within

-- the same frame goes on
goes_on : (n : ℕ) (f : Flight) (log now : List Entry) (g h : Flight) → h.source ≡ g.source → h.sent ≡ g.sent → Tells n f log now (Some g) → Tells n f log now (Some h)
goes_on n f log now g h source sent (inl first) = inl (record { source = source ∙ first.source; sent = sent ∙ first.sent; within = omega (arith, source, first.within); log_is = first.log_is })
goes_on n f log now g h source sent (inr later) = inr (
  record { some = omega (arith, source, later.0.some); within = omega (arith, source, later.0.within); says = ap (λ f. is_spoken (message_of f)) sent ∙ later.0.says },
  later.1,
)

-- its entry is written
enters : (n : ℕ) (f : Flight) (log now : List Entry) (g : Flight) (e : Entry) → e.source ≡ g.source → e.frame ≡ g.sent → is_on n e ≡ true → Tells n f log now (Some g)
    → Entered n f log (now ++ e ∷ [])
enters n f log now g e source sent on (inl first) = record {
  first = e;
  rest = [];
  log_is = ap (λ log. log ++ e ∷ []) first.log_is;
  of_f = record { source = source ∙ first.source; frame = sent ∙ first.sent; on = on };
  told = refl;
}
enters n f log now g e source sent on (inr later) =
    let from : nat_le 1 e.source ≡ true = le-leb 1 e.source (omega (arith, source, later.0.some)) in
    let says : is_spoken (message_of e.frame) ≡ true = ap (λ f. is_spoken (message_of f)) sent ∙ later.0.says in
    let one : is_reported n e ≡ true = and_from (is_on n e) _ on (and_from (nat_le 1 e.source) _ from says) in
    record {
      first = later.1.first;
      rest = later.1.rest ++ e ∷ [];
      log_is = ap (λ log. log ++ e ∷ []) later.1.log_is ∙ append_assoc log (later.1.first ∷ later.1.rest) (e ∷ []);
      of_f = later.1.of_f;
      told = list_all-append (is_reported n) later.1.rest (e ∷ []) ∙ and_from (list_all (is_reported n) later.1.rest) (list_all (is_reported n) (e ∷ [])) later.1.told (and_from (is_reported n e) true one refl);
    }

-- a frame that ended at a party of the ring
ended_on : (n k : ℕ) (g : Flight) → g.source ≤ n → k ≤ n → is_on n (ended_at g k) ≡ true
ended_on n k g within there = by_test (g.source == k) refl
  where
    by_test : (test : Bool) → (g.source == k) ≡ test → is_on n (entry g.source g.sent (if test then outcome.Back g.now else outcome.Taken k)) ≡ true
    by_test true same = on_back n g.source g.sent g.now within
    by_test false other = on_taken n g.source k g.sent within there (grind (arith, nat_tests))

ends_there : (n : ℕ) (f : Flight) (log now : List Entry) (g : Flight) (k : ℕ) → k ≤ n → Tells n f log now (Some g) → Entered n f log (now ++ ended_at g k ∷ [])
ends_there n f log now g k there tells = enters n f log now g (ended_at g k) refl refl (ended_on n k g (source_within n f log now g tells) there) tells

lost_there : (n : ℕ) (f : Flight) (log now : List Entry) (g : Flight) (k : ℕ) → k ≤ n → Tells n f log now (Some g) → Entered n f log (now ++ lost_at g k ∷ [])
lost_there n f log now g k there tells = enters n f log now g (lost_at g k) refl refl (on_lost n g.source k g.sent (source_within n f log now g tells) there) tells

-- ---- past the devices

answered_tells : (n : ℕ) (f : Flight) (log now : List Entry) (k c : ℕ) (g : Flight) (out : Out) (d e : DeviceState) → 1 ≤ k → k ≤ n → Takes d g.now out e → Tells n f log now (Some g)
    → Tells n f log (answered c now k g out).log (answered c now k g out).flight
answered_tells n f log now k c g (Pass h) d e some there takes tells = goes_on n f log now g (record g { now = h }) refl refl tells
answered_tells n f log now k c g (Source h) d e some there takes tells = inr (record { some = some; within = there; says = sent_spoken d e g.now h takes }, ends_there n f log now g k there tells)

passage_tells : (n : ℕ) (f : Flight) (log : List Entry) (plan : List Planned) (k : ℕ) (t u : Trip) (d e : DeviceState) → 1 ≤ k → k ≤ n → Tells n f log t.log t.flight → Passage Takes plan k t d u e → Tells n f log u.log u.flight
passage_tells n f log plan k t u d e some there tells passage =
    let its : (g : Flight) → t.flight ≡ Some g → Tells n f log t.log (Some g) = λ g is. subst (λ o. Tells n f log t.log o) is tells in
    past_party Takes plan k t d (λ u e. Tells n f log u.log u.flight) (λ is. tells) (λ g is gone. lost_there n f log t.log g k there (its g is))
    (λ g h out e is came takes. let same = hit_same (next_fault plan t.crossings) g h came in answered_tells n f log t.log k (risen t.crossings) h out d e some there takes (goes_on n f log t.log g h same.source same.sent (its g is)))
    u e passage

journey_tells : (n : ℕ) (f : Flight) (log : List Entry) (plan : List Planned) (k : ℕ) (t u : Trip) (ds es : List DeviceState) → 1 ≤ k → k + length ds ≤ n + 1
    → Tells n f log t.log t.flight → Journey plan k t ds u es → Tells n f log u.log u.flight
journey_tells n f log plan k t u [] [] some there tells journey = subst (λ (u : Trip). Tells n f log u.log u.flight) (sym journey) tells
journey_tells n f log plan k t u (d ∷ ds) (e ∷ es) some there tells journey =
    let one = passage_tells n f log plan k t journey.0 d e some (omega (arith, there)) tells journey.1 in
    journey_tells n f log plan (k + 1) journey.0 u ds es (omega arith) (omega (arith, there)) one journey.2
journey_tells n f log plan k t u [] (e ∷ es) some there tells journey = absurd journey
journey_tells n f log plan k t u (d ∷ ds) [] some there tells journey = absurd journey

-- ---- over the last link

-- only a frame of a device can be held there, without an entry
abbrev TellsHome : ℕ → Flight → List Entry → List Entry → Type 0
TellsHome n f log now = ((1 ≤ f.source) × (now ≡ log)) ⊎ Entered n f log now

held_home : (n : ℕ) (f : Flight) (log now : List Entry) (g : Flight) → (g.source == 0) ≡ false → Tells n f log now (Some g) → TellsHome n f log now
held_home n f log now g other (inl first) =
    let from : 1 ≤ g.source = grind (arith, nat_tests) in
    inl (omega (arith, from, first.source), first.log_is)
held_home n f log now g other (inr later) = inr later.1

comes_home : (n : ℕ) (f : Flight) (log : List Entry) (b : BooksView) (g : Flight) (own data_frame : Bool) → (g.source == 0) ≡ own → Tells n f log b.log (Some g)
    → TellsHome n f log (comes b g own data_frame).log
comes_home n f log b g true data_frame is tells = inr (ends_there n f log b.log g 0 (omega arith) tells)
comes_home n f log b g false true is tells = held_home n f log b.log g is tells
comes_home n f log b g false false is tells = inr (ends_there n f log b.log g 0 (omega arith) tells)

link_home : (n : ℕ) (f : Flight) (log : List Entry) (b : BooksView) (g : Flight) (o : Option Flight) → hit (next_fault b.plan b.crossings) g ≡ o → Tells n f log b.log (Some g)
    → TellsHome n f log (over_last_link (record b { crossings = risen b.crossings }) g o).log
link_home n f log b g None is tells = inr (lost_there n f log b.log g 0 (omega arith) tells)
link_home n f log b g (Some h) is tells =
    let same = hit_same (next_fault b.plan b.crossings) g h is in
    comes_home n f log (record b { crossings = risen b.crossings }) h (h.source == 0) (is_data h.now) refl (goes_on n f log b.log g h same.source same.sent tells)

home_tells : (n : ℕ) (f : Flight) (log : List Entry) (b : BooksView) (o : Option Flight) → Tells n f log b.log o → TellsHome n f log (home b o).log
home_tells n f log b None tells = inr tells
home_tells n f log b (Some g) tells = link_home n f log b g (hit (next_fault b.plan b.crossings) g) refl tells

-- ---- the whole round

-- what is true of each is true of all
told_all : (n : ℕ) (p : Entry → Bool) (es : List Entry) → ((e : Entry) → 1 ≤ e.source → is_on n e ≡ true → is_spoken (message_of e.frame) ≡ true → p e ≡ true)
    → list_all (is_reported n) es ≡ true → list_all p es ≡ true
told_all n p [] each told = refl
told_all n p (e ∷ es) each told =
    let parts = and_parts (is_reported n e) (list_all (is_reported n) es) told in
    let here = and_parts (is_on n e) (nat_le 1 e.source && is_spoken (message_of e.frame)) parts.0 in
    let more = and_parts (nat_le 1 e.source) (is_spoken (message_of e.frame)) here.1 in
    and_from (p e) (list_all p es) (each e (leb-true 1 e.source more.0) here.0 more.1) (told_all n p es each parts.1)

-- the devices' entries do nothing to the host's own roles
own_stays : (r : Roles) (e : Entry) → 1 ≤ e.source → own_roles_entry r e ≡ r
own_stays r e from = ap (λ b. if b then roles_by (message_of e.frame) r else r) (ne_eqb e.source 0 (λ same. omega (arith, same, from)))

told_own : (n : ℕ) (es : List Entry) (r : Roles) → list_all (is_reported n) es ≡ true → own_roles r es ≡ r
told_own n [] r told = refl
told_own n (e ∷ es) r told =
    let parts = and_parts (is_reported n e) (list_all (is_reported n) es) told in
    let here = and_parts (is_on n e) (nat_le 1 e.source && is_spoken (message_of e.frame)) parts.0 in
    let more = and_parts (nat_le 1 e.source) (is_spoken (message_of e.frame)) here.1 in
    ap (λ r. own_roles r es) (own_stays r e (leb-true 1 e.source more.0)) ∙ told_own n es r parts.1

device_gives_none : (e : Entry) → 1 ≤ e.source → gives_no_address e ≡ true
device_gives_none e from = ap (λ b. not (b && is_auto_address (message_of e.frame))) (ne_eqb e.source 0 (λ same. omega (arith, same, from)))

no_aad : (b aad : Bool) → aad ≡ false → not (b && aad) ≡ true
no_aad true aad none = ap not none
no_aad false aad none = refl

-- the entry of f, and the devices' spoken ones after it
first_and_rest : (n : ℕ) (f : Flight) (first : Entry) (rest : List Entry) → IsEntryOf n f first → list_all (is_reported n) rest ≡ true → TellsRound n f (first ∷ rest)
first_and_rest n f first rest of_f told =
    let says = ap (λ f. message_of f) of_f.frame in
    record {
      on = and_from (is_on n first) (list_all (is_on n) rest) of_f.on (told_all n (is_on n) rest (λ e from on says. on) told);
      addresses = λ none.
          and_from (gives_no_address first) (list_all gives_no_address rest) (no_aad (first.source == 0) (is_auto_address (message_of first.frame)) (ap is_auto_address says ∙ none))
          (told_all n gives_no_address rest (λ e from on says. device_gives_none e from) told);
      said = λ host.
          and_from (is_spoken (message_of first.frame) || (first.source == 0)) (list_all (λ e. is_spoken (message_of e.frame) || (e.source == 0)) rest)
          (or_right (is_spoken (message_of first.frame)) (first.source == 0) (eq-eqb first.source 0 (of_f.source ∙ host)))
          (told_all n (λ e. is_spoken (message_of e.frame) || (e.source == 0)) rest (λ e from on says. ap (λ b. b || (e.source == 0)) says) told);
      spoken = λ is.
          and_from (is_spoken (message_of first.frame)) (list_all (λ e. is_spoken (message_of e.frame)) rest) (ap is_spoken says ∙ is)
          (told_all n (λ e. is_spoken (message_of e.frame)) rest (λ e from on says. says) told);
      own_host = λ host r.
          let here = ap (λ b. if b then roles_by (message_of first.frame) r else r) (eq-eqb first.source 0 (of_f.source ∙ host)) in
          ap (λ r. own_roles r rest) (here ∙ ap (λ m. roles_by m r) says) ∙ told_own n rest (roles_by (message_of f.sent) r) told;
      own_device = λ from r. ap (λ r. own_roles r rest) (own_stays r first (omega (arith, from, of_f.source))) ∙ told_own n rest r told;
    }

-- a frame of a device that is held at the host has no entry
none_entered : (n : ℕ) (f : Flight) → 1 ≤ f.source → TellsRound n f []
none_entered n f from = record {
  on = refl;
  addresses = λ none. refl;
  said = λ host. refl;
  spoken = λ is. refl;
  own_host = λ host r. absurd (omega (arith, host, from));
  own_device = λ from r. refl;
}

tells_all : (n : ℕ) (f : Flight) (log now entries : List Entry) → now ≡ log ++ entries → TellsHome n f log now → TellsRound n f entries
tells_all n f log now entries is (inl held) =
    let none : [] ≡ entries = append_cancel_left log [] entries (append-nil log ∙ sym held.1 ∙ is) in
    subst (TellsRound n f) none (none_entered n f held.0)
tells_all n f log now entries is (inr entered) =
    let same : entered.first ∷ entered.rest ≡ entries = append_cancel_left log (entered.first ∷ entered.rest) entries (sym entered.log_is ∙ is) in
    subst (TellsRound n f) same (first_and_rest n f entered.first entered.rest entered.of_f entered.told)

-- The entries that a round appends: that of its first frame, unless this is a device's and is held at the host, and after it spoken ones
-- of the devices.
pub round_tells : {M : Type 0} (view : M → MediumView) (r s : RingView M) (held : Option Flight) (f : Flight) (answer : Arrival) (round : Round view r held f answer s) (entries : List Entry)
    → f.source ≤ length (devices_of r) → s.books.log ≡ r.books.log ++ entries → TellsRound (length (devices_of r)) f entries
round_tells view r s held f answer round entries within log =
    let n = length (devices_of r) in
    let start : Tells n f r.books.log r.books.log (Some f) = inl (record { source = refl; sent = refl; within = within; log_is = refl }) in
    let after : Tells n f r.books.log round.past_all.log round.past_all.flight =
    journey_tells n f r.books.log r.books.plan 1 (trip_of r.books (Some f)) round.past_all (devices_of r) (devices_of s) (omega arith) (omega arith) start (round_journey view r s held f answer round) in
    let last = home_tells n f r.books.log (books_at (record r.books { held = held }) round.past_all) round.past_all.flight after in
    tells_all n f r.books.log (home (books_at (record r.books { held = held }) round.past_all) round.past_all.flight).log entries (sym (ap (λ (b : BooksView). b.log) round.books) ∙ log) last
