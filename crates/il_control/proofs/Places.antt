-- What each device keeps of its part in the parallel poll.
use Rattle.std.proofs.Common.{◌≡◌, ◌∙◌, ◌≤◌, ◌<◌, ◌++◌, ◌&&◌, ℕ, zero, suc, Bool, true, false, not, List, [], ◌∷◌, Option, Some, None, map, length, refl, sym, ap, subst}
use Rattle.std.specs.Prelude.{IfSome, is_some}
use Rattle.std.specs.List.{list_all}
use Rattle.std.proofs.lemmas.Bool.{agree_below_at, and_from, and_parts, le-leb}
use Rattle.std.proofs.lemmas.List.Folds.{list_all-append}
use Rattle.il_frames.specs.declared.entry.Entry.{Entry}
use Rattle.il_frames.specs.declared.entry.Outcome.{Outcome}
use Rattle.il_frames.specs.declared.entry.Outcome.TheVariants as outcome
use Rattle.il_frames.specs.declared.frame.Frame.{Frame}
use Rattle.il_frames.specs.declared.message.Message.{Message}
use Rattle.il_frames.specs.Frames.{byte_of, class_of, is_data}
use Rattle.il_frames.specs.Messages.{message_of}
use Rattle.il_device.specs.State.{DeviceState}
use Rattle.il_device.specs.Takes.{eto, may_change_service}
use Rattle.il_ports.specs.Media.{MediumView}
use Rattle.il_frames.specs.NamedFrames.{entry, aad, aau, ifc, ddl, ddt, lad, nrd, tad, unt}
use Rattle.loop_model.specs.Exchanges.{Answer, Break, Echo, FrameLost, HostAltered, NotTaken, Sai, Sda, Sdi, Sst, Start, Stopped, TalkerAltered, ToItsEnd, answer_entries, break_entries, commanded, cut_at, echoed, is_answer, is_echo, returned, start_frame, receive_front}
use Rattle.loop_model.proofs.RoundLaws.{message_of-tad}
use Rattle.loop_model.proofs.SendLaws.{message_of-lad}
use Rattle.il_ring.specs.declared.flight.Flight.{Flight}
use Rattle.il_ring.specs.declared.plan.Arrival.{Arrival}
use Rattle.il_ring.specs.Flights.{sourced}
use Rattle.il_ring.specs.Lists.{First}
use Rattle.il_ring.specs.Outcomes.{HearsNothing, Obeys}
use Rattle.il_ring.specs.Polls.{KeepsPlace, identified_along, is_no_poll, is_poll}
use Rattle.il_ring.specs.Rings.{RingView, Round, devices_of}
use Rattle.il_ring.proofs.Identify.{IsParty, LeadsTo, identify_passes, parties}
use Rattle.il_ring.proofs.PassKinds.{OnlyPassed, Unaddressed, aad_passes}
use Rattle.il_ring.proofs.PassRounds.{passed_round}
use Rattle.il_ring.proofs.RoundPlaces.{data_no_poll, place_kept}
use Rattle.il_control.specs.Calls.{AllStay, Broke, IsFree, IsIdle, IsLost, ObeyedInPart, Stays, Unheard, Whole, idy}
use Rattle.il_control.proofs.Addressing.{unaddressed}
use Rattle.il_control.proofs.Calls.{Done, hears_then}

-- ---- one device

obeys_stay : (still : Bool) (m : Message) (d e : DeviceState) → is_poll m ≡ false → (still ≡ true → may_change_service m ≡ false) → Obeys m d e → Stays still d e
obeys_stay still m d e kept same obeys = record { nothing = obeys.nothing; place = obeys.assignment ∙ place_kept m d.roles d.assignment kept; wants = λ is. obeys.wants (same is) }

stay_then : (still : Bool) (c d e : DeviceState) → Stays still c d → Stays still d e → Stays still c e
stay_then still c d e first more = record { nothing = hears_then c d e first.nothing more.nothing; place = more.place ∙ first.place; wants = λ is. more.wants is ∙ first.wants is }

passed_stay : (d e : DeviceState) → OnlyPassed d e → Stays true d e
passed_stay d e passed = record { nothing = passed.0; place = passed.2; wants = λ is. passed.3 }

as_it_was : (still : Bool) (d : DeviceState) → Stays still d d
as_it_was still d = record { nothing = record { heard = refl; heard_count = refl; room = refl; accessory = refl }; place = refl; wants = λ is. refl }

-- ---- each of them

each_as : (R S : DeviceState → DeviceState → Type 0) → ((d e : DeviceState) → R d e → S d e) → (ds es : List DeviceState) → First R (length ds) ds es → First S (length ds) ds es
each_as R S rule [] [] each = tt
each_as R S rule (d ∷ ds) (e ∷ es) each = (rule d e each.0, each_as R S rule ds es each.1)
each_as R S rule [] (e ∷ es) each = absurd each
each_as R S rule (d ∷ ds) [] each = absurd each

each_then : (R : DeviceState → DeviceState → Type 0) → ((c d e : DeviceState) → R c d → R d e → R c e) → (cs ds es : List DeviceState) → First R (length cs) cs ds → First R (length ds) ds es → First R (length cs) cs es
each_then R rule [] [] [] first more = tt
each_then R rule (c ∷ cs) (d ∷ ds) (e ∷ es) first more = (rule c d e first.0 more.0, each_then R rule cs ds es first.1 more.1)
each_then R rule [] [] (e ∷ es) first more = absurd more
each_then R rule [] (d ∷ ds) es first more = absurd first
each_then R rule (c ∷ cs) [] es first more = absurd first
each_then R rule (c ∷ cs) (d ∷ ds) [] first more = absurd more

each_same : (R : DeviceState → DeviceState → Type 0) → ((d : DeviceState) → R d d) → (ds : List DeviceState) → First R (length ds) ds ds
each_same R rule [] = tt
each_same R rule (d ∷ ds) = (rule d, each_same R rule ds)

-- what devices keep that heard nothing and have their places
both_kept : (ds es : List DeviceState) → First HearsNothing (length ds) ds es → First KeepsPlace (length ds) ds es → First (Stays false) (length ds) ds es
both_kept [] [] unheard places = tt
both_kept (d ∷ ds) (e ∷ es) unheard places = (record { nothing = unheard.0; place = places.0; wants = λ is. cc }, both_kept ds es unheard.1 places.1)
both_kept [] (e ∷ es) unheard places = absurd places
both_kept (d ∷ ds) [] unheard places = absurd places

pub unheard_stay : {M : Type 0} (r s : RingView M) → Unheard r s → First KeepsPlace (length (devices_of r)) (devices_of r) (devices_of s) → AllStay false r s
unheard_stay r s unheard places = both_kept (devices_of r) (devices_of s) unheard places

-- the first n of them
part_as : (R S : DeviceState → DeviceState → Type 0) → ((d e : DeviceState) → R d e → S d e) → ((d : DeviceState) → S d d) → (j : ℕ) (ds es : List DeviceState) → First R j ds es → First S (length ds) ds es
part_as R S rule same j [] [] each = tt
part_as R S rule same zero (d ∷ ds) (e ∷ es) each = (subst (S d) (sym each.0) (same d), part_as R S rule same zero ds es each.1)
part_as R S rule same (suc j) (d ∷ ds) (e ∷ es) each = (rule d e each.0, part_as R S rule same j ds es each.1)
part_as R S rule same j [] (e ∷ es) each = absurd each
part_as R S rule same j (d ∷ ds) [] each = absurd each

part_stay : {M : Type 0} (still : Bool) (m : Message) (r s : RingView M) → is_poll m ≡ false → (still ≡ true → may_change_service m ≡ false) → ObeyedInPart m r s → AllStay still r s
part_stay still m r s kept same obeyed = part_as (Obeys m) (Stays still) (λ d e obeys. obeys_stay still m d e kept same obeys) (as_it_was still) obeyed.0 (devices_of r) (devices_of s) obeyed.1

stay_after : {M : Type 0} (still : Bool) (r m s : RingView M) → AllStay still r m → AllStay still m s → AllStay still r s
stay_after still r m s first more = each_then (Stays still) (stay_then still) (devices_of r) (devices_of m) (devices_of s) first more

-- ---- commands

-- after a message that was done whole
pub stay_then_more : {M : Type 0} (view : M → MediumView) (still : Bool) (r m s : RingView M) (xs ys : List Entry) (whole : Bool) → Whole view r xs m → Done view m ys whole s → AllStay still r m → AllStay still m s → AllStay still r s
stay_then_more view still r m s xs ys whole before after first more = stay_after still r m s first more

by_message : {M : Type 0} (still : Bool) (r s : RingView M) (f g : Frame) → f ≡ g → is_poll (message_of g) ≡ false → may_change_service (message_of g) ≡ false → ObeyedInPart (message_of f) r s → AllStay still r s
by_message still r s f g is kept same obeyed = part_stay still (message_of g) r s kept (λ still. same) (subst (λ f. ObeyedInPart (message_of f) r s) is obeyed)

-- a message that asks nothing of polls, whole
pub whole_stay : {M : Type 0} (view : M → MediumView) (still : Bool) (r s : RingView M) (f g : Frame) → Whole view r (commanded 0 f) s → f ≡ g → is_poll (message_of g) ≡ false → may_change_service (message_of g) ≡ false → ObeyedInPart (message_of f) r s → AllStay still r s
whole_stay view still r s f g whole is kept same obeyed = by_message still r s f g is kept same obeyed

-- broken off
pub broke_stay : {M : Type 0} (view : M → MediumView) (still : Bool) (r s : RingView M) (f g : Frame) → Broke view r (commanded 0 f) s → f ≡ g → is_poll (message_of g) ≡ false → may_change_service (message_of g) ≡ false → ObeyedInPart (message_of f) r s → AllStay still r s
broke_stay view still r s f g broke is kept same obeyed = by_message still r s f g is kept same obeyed

-- either
pub done_stay : {M : Type 0} (view : M → MediumView) (still : Bool) (r s : RingView M) (f g : Frame) (whole : Bool) → Done view r (commanded 0 f) whole s → f ≡ g → is_poll (message_of g) ≡ false → may_change_service (message_of g) ≡ false → ObeyedInPart (message_of f) r s → AllStay still r s
done_stay view still r s f g whole done is kept same obeyed = by_message still r s f g is kept same obeyed

-- a listen address is one
pub lad_asks : (a : ℕ) → a ≤ 30 → (is_poll (message_of (lad a)) ≡ false) × (may_change_service (message_of (lad a)) ≡ false)
lad_asks a low = let says = message_of-lad a (le-leb a 30 low) in (ap is_poll says, ap may_change_service says)

pub no_number_stay : {M : Type 0} (view : M → MediumView) (still : Bool) (r : RingView M) → IsFree r → AllStay still r r
no_number_stay view still r free = each_same (Stays still) (as_it_was still) (devices_of r)

pub number_stay : {M : Type 0} (view : M → MediumView) (r s : RingView M) (f : Frame) (n : ℕ) (number : Option ℕ) (whole : Bool) → Done view r (commanded 0 f) whole s → f ≡ ddl n → number ≡ Some n → IfSome number (λ n. n < 32) → ObeyedInPart (message_of f) r s → AllStay (not (is_some number)) r s
number_stay view r s f n number whole after is some small obeyed =
    let low : n < 32 = subst (λ number. IfSome number (λ n. n < 32)) some small in
    let no_poll : is_poll (message_of (ddl n)) ≡ false = agree_below_at (λ n. is_poll (message_of (ddl n))) (λ n. false) 32 n refl low in
    subst (λ number. AllStay (not (is_some number)) r s) (sym some) (part_stay false (message_of (ddl n)) r s no_poll (λ is. cc) (subst (λ f. ObeyedInPart (message_of f) r s) is obeyed))

-- AAD after IFC and AAU
pub address_stay : {M : Type 0} (view : M → MediumView) (r m s : RingView M) (held : Option Flight) (f : Frame) (answer : Arrival) → IsLost r → Whole view r (commanded 0 ifc ++ commanded 0 aau) m → AllStay true r m → Round view m held (sourced 0 f) answer s → f ≡ aad 1 → AllStay true r s
address_stay view r m s held f answer lost cleared first round is =
    let passed = passed_round view (λ k g. g ≡ aad k) Unaddressed OnlyPassed aad_passes m s held (aad 1) answer cleared.ring.crossings (unaddressed view r lost m cleared) refl (subst (λ f. Round view m held (sourced 0 f) answer s) is round) in
    stay_after true r m s first (part_as OnlyPassed (Stays true) passed_stay (as_it_was true) passed.reached (devices_of m) (devices_of s) passed.took)

-- ---- the identify frame

pub identify_stay : {M : Type 0} (view : M → MediumView) (r s : RingView M) (held : Option Flight) (f : Frame) (answer : Arrival) → Round view r held (sourced 0 f) answer s → f ≡ idy → IsIdle r → AllStay true r s
identify_stay view r s held f answer round is idle =
    let all = devices_of r in
    let end = identified_along all idy in
    let passed = passed_round view (LeadsTo all end) (IsParty all) OnlyPassed (identify_passes all end) r s held idy answer idle.free.ring.crossings (parties [] all) (record { identify = refl; after = refl }) (subst (λ f. Round view r held (sourced 0 f) answer s) is round) in
    part_as OnlyPassed (Stays true) passed_stay (as_it_was true) passed.reached all (devices_of s) passed.took

-- ---- a receive has no poll message

start_no_poll : (start : Start) (o : Outcome) → is_no_poll (entry 0 (start_frame start) o) ≡ true
start_no_poll Sda o = refl
start_no_poll Sst o = refl
start_no_poll Sdi o = refl
start_no_poll Sai o = refl

echo_no_poll : (p : ℕ) (d : Echo) → is_echo d ≡ true → is_no_poll (echoed p d) ≡ true
echo_no_poll p d echo = ap not (data_no_poll (class_of d.sent) (byte_of d.sent) (and_parts (is_data d.sent) _ echo).0)

echoes_no_poll : (p : ℕ) (ds : List Echo) (rest : List Entry) → list_all is_echo ds ≡ true → list_all is_no_poll rest ≡ true → list_all is_no_poll (map (echoed p) ds ++ rest) ≡ true
echoes_no_poll p [] rest echoes more = more
echoes_no_poll p (d ∷ ds) rest echoes more =
    let parts = and_parts (is_echo d) (list_all is_echo ds) echoes in
    and_from (is_no_poll (echoed p d)) (list_all is_no_poll (map (echoed p) ds ++ rest)) (echo_no_poll p d parts.0) (echoes_no_poll p ds rest parts.1 more)

answer_no_poll : (start : Start) (answer : Answer) → is_answer 0 answer ≡ true → list_all is_no_poll (answer_entries 0 (start_frame start) answer) ≡ true
answer_no_poll start NotTaken legal = and_from (is_no_poll (returned 0 (start_frame start))) true (start_no_poll start (outcome.Back (start_frame start))) refl
answer_no_poll start (ToItsEnd p ds) legal =
    let sent = and_parts _ (list_all is_echo ds) (and_parts (not _) _ legal).1 in
    and_from (is_no_poll (entry 0 (start_frame start) (outcome.Taken p))) _ (start_no_poll start (outcome.Taken p)) (echoes_no_poll p ds (entry p eto (outcome.Taken 0) ∷ []) sent.1 refl)
answer_no_poll start (Stopped p ds last) legal =
    let sent = and_parts (list_all is_echo ds) (is_echo last) (and_parts (not _) _ legal).1 in
    and_from (is_no_poll (entry 0 (start_frame start) (outcome.Taken p))) _ (start_no_poll start (outcome.Taken p))
    (echoes_no_poll p ds (returned 0 nrd ∷ echoed p last ∷ entry p eto (outcome.Taken 0) ∷ []) sent.0 (and_from (is_no_poll (echoed p last)) true (echo_no_poll p last sent.1) refl))

tad_no_poll : (a : ℕ) → a ≤ 30 → is_no_poll (returned 0 (tad a)) ≡ true
tad_no_poll a low = ap (λ m. not (is_poll m)) (message_of-tad a (le-leb a 30 low))

front_no_poll : (a : ℕ) (number : Option ℕ) → a ≤ 30 → IfSome number (λ n. n < 32) → list_all is_no_poll (receive_front 0 a number) ≡ true
front_no_poll a None low small = and_from (is_no_poll (returned 0 (tad a))) true (tad_no_poll a low) refl
front_no_poll a (Some n) low small =
    and_from (is_no_poll (returned 0 (tad a))) (is_no_poll (returned 0 (ddt n)) && true) (tad_no_poll a low)
    (and_from (is_no_poll (returned 0 (ddt n))) true (agree_below_at (λ n. is_no_poll (returned 0 (ddt n))) (λ n. true) 32 n refl small) refl)

pub receive_no_poll : (a : ℕ) (number : Option ℕ) (start : Start) (answer : Answer) → a ≤ 30 → IfSome number (λ n. n < 32) → is_answer 0 answer ≡ true → list_all is_no_poll (receive_front 0 a number ++ (answer_entries 0 (start_frame start) answer ++ commanded 0 unt)) ≡ true
receive_no_poll a number start answer low small legal =
    let front = receive_front 0 a number in
    let all = answer_entries 0 (start_frame start) answer in
    list_all-append is_no_poll front (all ++ commanded 0 unt)
    ∙ and_from (list_all is_no_poll front) (list_all is_no_poll (all ++ commanded 0 unt)) (front_no_poll a number low small)
    (list_all-append is_no_poll all (commanded 0 unt) ∙ and_from (list_all is_no_poll all) true (answer_no_poll start answer legal) refl)

-- and a break brings none
pub cut_no_poll : (es : List Entry) (n : ℕ) (b : Break) → list_all is_no_poll es ≡ true → list_all is_no_poll (cut_at es n b) ≡ true
cut_no_poll [] n b none = refl
cut_no_poll (e ∷ es) zero b none = by b
  where
    here : is_no_poll e ≡ true
    here = (and_parts (is_no_poll e) (list_all is_no_poll es) none).0

    by : (b : Break) → list_all is_no_poll (break_entries e b) ≡ true
    by (FrameLost q) = and_from (is_no_poll e) true here refl
    by (HostAltered f) = and_from (is_no_poll e) true here refl
    by (TalkerAltered f end) = and_from (is_no_poll e) true here refl
cut_no_poll (e ∷ es) (suc n) b none = let parts = and_parts (is_no_poll e) (list_all is_no_poll es) none in and_from (is_no_poll e) (list_all is_no_poll (cut_at es n b)) parts.0 (cut_no_poll es n b parts.1)
