-- In a lend at most one party talks at every moment, and only the talker speaks; after a whole one nobody talks, and each device has its
-- number as address.
use Rattle.std.proofs.Common.{nat_le, ◌≡◌, ◌≤◌, ◌<◌, ◌∙◌, ◌++◌, ◌==◌, ◌&&◌, ◌||◌, nat_lt, ℕ, zero, suc, Bool, true, false, not, List, [], ◌∷◌, None, flat_map, length, refl, sym, ap, subst, arith, append-nil}
use Rattle.std.specs.List.{list_all}
use Rattle.std.proofs.lemmas.Bool.{and_parts, and_from, or_left, or_right, not-true, eq-eqb, eqb-true, eqb-false, ltb-true}
use Rattle.il_frames.specs.declared.frame.Frame.{Frame}
use Rattle.il_frames.specs.declared.entry.Entry.{Entry}
use Rattle.il_frames.specs.declared.entry.Outcome.{Outcome}
use Rattle.il_frames.specs.declared.entry.Outcome.TheVariants as outcome
use Rattle.il_frames.specs.declared.message.Message.{Message}
use Rattle.il_frames.specs.declared.message.Message.TheVariants as msg
use Rattle.il_frames.specs.declared.frame.Class.{Class}
use Rattle.il_frames.specs.declared.frame.Class.TheVariants as class
use Rattle.il_frames.specs.Frames.{is_data, is_data_class, same_but_service}
use Rattle.il_frames.specs.Messages.{message_at, message_of}
use Rattle.il_frames.specs.NamedFrames.{entry, ifc, is_frame, nrd, rfc, tad, unl, unt}
use Rattle.il_device.specs.declared.roles.Roles.{Roles}
use Rattle.il_device.specs.Takes.{eto, ete}
use Rattle.loop_model.specs.Reach.{is_reached}
use Rattle.loop_model.specs.Roles.{are_numbered, is_aau, is_at_most_one, is_spoken, may_speak, roles_after, roles_after_entry, roles_along, talkers}
use Rattle.loop_model.specs.Exchanges.{Answer, NotTaken, ToItsEnd, Stopped, Exchange, Receive, Sst, FrameLost, HostAltered, TalkerAltered, break_entries, can_cut, commanded, cut_at, echoed, entries_of, is_address, is_altered, is_answer, is_break, is_echo, is_end, is_talk_address, returned, start_frame}
use Rattle.loop_model.specs.Leading.{OneTalkerLed, controller_after, has_one_talker_led, is_in_turn_led, is_no_lend, may_speak_led, roles_led, roles_led_entry}
use Rattle.loop_model.proofs.LeadingLaws.{OneTalkerLed-no_lend, controller_after-append, controller_after-no_lend, roles_led-append, roles_led-no_lend}
use Rattle.loop_model.proofs.RoleLaws.{all_quiet, gives_no_talk, no_talkers, quiet_log}
use Rattle.loop_model.proofs.RoleSteps.{changes_roles, one_talker-addressed, one_talker-kept, roles_after-kept}
use Rattle.loop_model.proofs.TalkLaws.{are_numbered-log, gives_no_aau, length-roles_after}
use Rattle.loop_model.proofs.RoundLaws.{IsSafe, OneTalker-cut, OneTalker-safe, data_keeps, is_mute, message_of-tad, safe_mute}
use Rattle.il_guest.specs.Frames.{nop, tct}
use Rattle.il_guest.proofs.RoundLaws.{is_same-true}
use Rattle.il_ring.specs.Lends.{RoundsEnd, AtHost, BreaksOff, ByteLost, Lend, NoTaker, NoTakerCut, Lent, LentCut, LentLost, addressed_talker, receives_of, are_rounds, are_reported_by, can_end, can_end_by, can_lose_next, ended_after, handed_entries, held_entries, is_lend, is_one_status, is_reported_by, is_whole_lend, lend_address, lend_entries, refused_entries, rounds_asked, rounds_entries, reports_own, was_taken}
use Rattle.il_ring.proofs.ControlledTalkers.{length_along, numbered_along, silent_but, all_silent, few_but, silent_along, untalked, cleared, told_along, one_told, own_entry, ifc_entry, kept_entry, is_plain, is_plain_entry, plain_keeps_addresses, plain_log, one_step, few_after, one_append}
use Rattle.il_ring.proofs.LendLaws.{are_lent, cut_all, ended_hold}
use Rattle.il_ring.proofs.MessageKinds.{data_spoken}

-- ---- rounds that may end anywhere

-- however the frame ends, at most one device talks after it
abbrev IsCalmControlled : ℕ → List Roles → Entry → Type 0
IsCalmControlled c rs e = (o : Outcome) → is_at_most_one (talkers (roles_led_entry c rs (entry e.source e.frame o))) ≡ true

-- along the log at most one device talks, whose turn it is, and that holds however a frame of it ends; control stays where it is
abbrev IsSafeControlled : ℕ → List Roles → List Entry → Type 0
IsSafeControlled c rs [] = is_at_most_one (talkers rs) ≡ true
IsSafeControlled c rs (e ∷ es) =
    (is_at_most_one (talkers rs) ≡ true) × (is_in_turn_led c (talkers rs) e ≡ true) × (is_plain_entry e ≡ true) × IsCalmControlled c rs e × IsSafeControlled c (roles_led_entry c rs e) es

-- such a log is plain
safe_plain : (c : ℕ) (rs : List Roles) (es : List Entry) → IsSafeControlled c rs es → list_all is_plain_entry es ≡ true
safe_plain c rs [] safe = refl
safe_plain c rs (e ∷ es) safe = and_from (is_plain_entry e) _ safe.2 (safe_plain c (roles_led_entry c rs e) es safe.4)

-- what NRD is
nrd_mute : (f : Frame) → is_frame f nrd ≡ true → (is_spoken (message_of f) ≡ false) × (changes_roles (message_of f) ≡ false) × (is_plain (message_of f) ≡ true)
nrd_mute f e =
    let same = is_same-true f nrd e in
    (ap (λ g. is_spoken (message_of g)) same, ap (λ g. changes_roles (message_of g)) same, ap (λ g. is_plain (message_of g)) same)

-- a frame that is not spoken is in turn, whoever talks
mute_turn : (c : ℕ) (ps : List ℕ) (e : Entry) → is_spoken (message_of e.frame) ≡ false → is_in_turn_led c ps e ≡ true
mute_turn c ps e mute = rw mute refl

-- one frame that is in turn, and ends somehow
ends_somehow : (c : ℕ) (rs : List Roles) (e : Entry) (o : Outcome) → is_at_most_one (talkers rs) ≡ true → is_in_turn_led c (talkers rs) e ≡ true → is_plain_entry e ≡ true → IsCalmControlled c rs e
    → OneTalkerLed c rs (entry e.source e.frame o ∷ [])
ends_somehow c rs e o few turn plain calm = one_step c rs (entry e.source e.frame o) [] few turn plain (calm o)

-- if it is NRD, whoever talks
nrd_ends : (c : ℕ) (rs : List Roles) (e : Entry) (o : Outcome) → is_frame e.frame nrd ≡ true → is_at_most_one (talkers rs) ≡ true → OneTalkerLed c rs (entry e.source e.frame o ∷ [])
nrd_ends c rs e o is few =
    let mute = nrd_mute e.frame is in
    ends_somehow c rs e o few (mute_turn c (talkers rs) e mute.0) mute.2 (λ p. ap (λ ss. is_at_most_one (talkers ss)) (kept_entry c rs (entry e.source e.frame p) mute.1) ∙ few)

-- the frame after an NRD ends while NRD is on its way
after_nrd : (c : ℕ) (rs : List Roles) (due next : Entry) (more : List Entry) → IsSafeControlled c rs (due ∷ next ∷ more) → is_frame due.frame nrd ≡ true → IsSafeControlled c rs (next ∷ more)
after_nrd c rs due next more safe is = subst (λ ss. IsSafeControlled c ss (next ∷ more)) (kept_entry c rs due (nrd_mute due.frame is).1) safe.4

-- with a byte that is held, or without
held_talk : (c : ℕ) (rs : List Roles) (due : Entry) (more rest : List Entry) → IsSafeControlled c rs (due ∷ more) → OneTalkerLed c rs rest
    → (is_frame due.frame nrd ≡ true → (ss : List Roles) → is_at_most_one (talkers ss) ≡ true → OneTalkerLed c ss rest) → OneTalkerLed c rs (held_entries c due more ++ rest)
held_talk c rs due [] rest safe without with_held = without
held_talk c rs due (next ∷ more) rest safe without with_held = by (is_frame due.frame nrd) refl
  where
    by : (b : Bool) → is_frame due.frame nrd ≡ b → OneTalkerLed c rs ((elim b [ true ↦ entry next.source next.frame (outcome.Taken c) ∷ [] | false ↦ [] ]) ++ rest)
    by true is =
        let held = after_nrd c rs due next more safe is in
        one_step c rs (entry next.source next.frame (outcome.Taken c)) rest held.0 held.1 held.2 (with_held is _ (held.3 (outcome.Taken c)))
    by false is = without

-- the frame that is due ends somehow, after a byte that is held, or without one
due_ends : (c : ℕ) (rs : List Roles) (due : Entry) (more : List Entry) (o : Outcome) → IsSafeControlled c rs (due ∷ more) → OneTalkerLed c rs (held_entries c due more ++ entry due.source due.frame o ∷ [])
due_ends c rs due more o safe =
    held_talk c rs due more (entry due.source due.frame o ∷ []) safe (ends_somehow c rs due o safe.0 safe.1 safe.2 safe.3) (λ is ss few. nrd_ends c ss due o is few)

-- its turn is that of a talker
in_turn_spoken : (spoken may : Bool) → spoken ≡ true → (not spoken || may) ≡ true → may ≡ true
in_turn_spoken true may s t = t
in_turn_spoken false may s t = cc

-- a device that may speak may end by ETE
speaks_on : (c : ℕ) (ps : List ℕ) (s : ℕ) (m n : Message) → not (s == c) ≡ true → may_speak_led c ps s m ≡ true → may_speak_led c ps s n ≡ true
speaks_on c [] s m n other may = let host = (and_parts (s == c) _ may).0 in let off = not-true (s == c) other in cc
speaks_on c (p ∷ ps) s m n other may = may

-- a device's byte comes back as another, and its ETE ends somehow
altered_talk : (c : ℕ) (rs : List Roles) (due : Entry) (more : List Entry) (f : Frame) (end : Outcome) → IsSafeControlled c rs (due ∷ more) → is_break c due (TalkerAltered f end) ≡ true
    → OneTalkerLed c rs (held_entries c due more ++ break_entries due (TalkerAltered f end))
altered_talk c rs due more f end safe can =
    let parts = and_parts (not (due.source == c)) (is_altered due.frame f && is_end c end) can in
    let altered = and_parts (is_altered due.frame f) (is_end c end) parts.1 in
    let sent = and_parts (is_data due.frame) (not (same_but_service due.frame f)) altered.0 in
    let spoken = data_spoken due.frame.class due.frame.byte sent.0 in
    let keeps = data_keeps due.frame.class due.frame.byte sent.0 in
    let may = in_turn_spoken (is_spoken (message_of due.frame)) _ spoken safe.1 in
    let second = ends_somehow c rs (entry due.source ete end) end safe.0 (speaks_on c (talkers rs) due.source (message_of due.frame) (message_of ete) parts.0 may) refl
    (λ o. ap (λ ss. is_at_most_one (talkers ss)) (kept_entry c rs (entry due.source ete o) refl) ∙ safe.0) in
    held_talk c rs due more (break_entries due (TalkerAltered f end)) safe
    (one_step c rs (entry due.source due.frame (outcome.Back f)) (entry due.source ete end ∷ []) safe.0 safe.1 safe.2
    (subst (λ ss. OneTalkerLed c ss (entry due.source ete end ∷ [])) (sym (kept_entry c rs (entry due.source due.frame (outcome.Back f)) keeps)) second))
    (λ is ss few. let mute = (nrd_mute due.frame is).0 in cc)

-- rounds have one talker wherever they end
ended_talk : (c : ℕ) (rs : List Roles) (es : List Entry) (n : ℕ) (end : RoundsEnd) → IsSafeControlled c rs es → can_end c es n end ≡ true → OneTalkerLed c rs (ended_after c es n end)
ended_talk c rs [] n end safe can = safe
ended_talk c rs (e ∷ es) (suc n) end safe can = one_step c rs e (ended_after c es n end) safe.0 safe.1 safe.2 (ended_talk c (roles_led_entry c rs e) es n end safe.4 can)
ended_talk c rs (e ∷ es) zero AtHost safe can = due_ends c rs e es (outcome.Taken 0) safe
ended_talk c rs (e ∷ es) zero (BreaksOff (FrameLost q)) safe can = due_ends c rs e es (outcome.Lost q) safe
ended_talk c rs (e ∷ es) zero (BreaksOff (HostAltered f)) safe can = due_ends c rs e es (outcome.Back f) safe
ended_talk c rs (e ∷ es) zero (BreaksOff (TalkerAltered f end)) safe can = altered_talk c rs e es f end safe (and_parts (is_break c e (TalkerAltered f end)) (can_end_by c e.source end) can).0
ended_talk c rs (e ∷ []) zero (ByteLost q) safe can = safe.0
ended_talk c rs (e ∷ next ∷ es) zero (ByteLost q) safe can =
    let after = after_nrd c rs e next es safe (and_parts (is_frame e.frame nrd) (can_lose_next c (next ∷ es) q) can).0 in
    ends_somehow c rs next (outcome.Lost q) after.0 after.1 after.2 after.3

-- ---- rounds

-- k devices that have their numbers as addresses, of which none talks but possibly party q
record IsReady (k q : ℕ) (rs : List Roles) : Type 0 where
  numbers : are_numbered 1 rs ≡ true
  many : length rs ≡ k
  silent : silent_but q 1 rs ≡ true

-- a frame that is not spoken, gives no talk address, and is plain
abbrev is_calm : Frame → Bool
is_calm f = is_plain (message_of f) && (not (is_spoken (message_of f)) && not (is_talk_address (message_of f)))

-- then at most one talks
ready_few : (k q : ℕ) (rs : List Roles) → IsReady k q rs → is_at_most_one (talkers rs) ≡ true
ready_few k q rs ready = few_but q 1 rs ready.silent

-- the controller's frame leaves them ready, however it ends
ready_entry : (c k q : ℕ) (f : Frame) (o : Outcome) (rs : List Roles) → is_calm f ≡ true → IsReady k q rs → IsReady k q (roles_led_entry c rs (entry c f o))
ready_entry c k q f o rs calm ready =
    let parts = and_parts (is_plain (message_of f)) _ calm in
    let more = and_parts (not (is_spoken (message_of f))) (not (is_talk_address (message_of f))) parts.1 in
    subst (IsReady k q) (sym (own_entry c rs f o)) (record {
      numbers = numbered_along c o 1 (message_of f) rs (plain_keeps_addresses (message_of f) parts.0) ready.numbers;
      many = length_along c o 1 (message_of f) rs ∙ ready.many;
      silent = silent_along q c o 1 (message_of f) rs (not-true (is_talk_address (message_of f)) more.1) ready.silent;
    })

-- such a frame, and what follows
calm_step : (c k q : ℕ) (f : Frame) (o : Outcome) (more : List Entry) → is_calm f ≡ true → (rs : List Roles) → IsReady k q rs
    → IsSafeControlled c (roles_led_entry c rs (entry c f o)) more → IsSafeControlled c rs (entry c f o ∷ more)
calm_step c k q f o more calm rs ready rest =
    let parts = and_parts (is_plain (message_of f)) _ calm in
    let mute = and_parts (not (is_spoken (message_of f))) (not (is_talk_address (message_of f))) parts.1 in (
      ready_few k q rs ready,
      mute_turn c (talkers rs) (entry c f o) (not-true (is_spoken (message_of f)) mute.0),
      parts.0,
      λ p. ready_few k q _ (ready_entry c k q f p rs calm ready),
      rest,
    )

-- what follows a ring that is ready
abbrev Follows : ℕ → ℕ → ℕ → List Entry → Type 0
Follows c k q more = (rs : List Roles) → IsReady k q rs → IsSafeControlled c rs more

-- the same, if what follows is safe on every ring that is ready so
ready_step : (c k q : ℕ) (f : Frame) (o : Outcome) (more : List Entry) → is_calm f ≡ true → Follows c k q more → Follows c k q (entry c f o ∷ more)
ready_step c k q f o more calm rest rs ready = calm_step c k q f o more calm rs ready (rest _ (ready_entry c k q f o rs calm ready))

-- a command and its handshake
command_step : (c k q : ℕ) (f : Frame) (more : List Entry) → is_calm f ≡ true → Follows c k q more → Follows c k q (commanded c f ++ more)
command_step c k q f more calm rest = ready_step c k q f (outcome.Back f) (returned c rfc ∷ more) calm (ready_step c k q rfc (outcome.Back rfc) more refl rest)

-- UNT ends the talking
untalk_step : (c k q : ℕ) (more : List Entry) → Follows c k k more → Follows c k q (commanded c unt ++ more)
untalk_step c k q more rest rs ready =
    calm_step c k q unt (outcome.Back unt) (returned c rfc ∷ more) refl rs ready
    (ready_step c k k rfc (outcome.Back rfc) more refl rest _
    (subst (IsReady k k) (sym (own_entry c rs unt (outcome.Back unt))) (record {
      numbers = numbered_along c (outcome.Back unt) 1 msg.Unt rs refl ready.numbers;
      many = length_along c (outcome.Back unt) 1 msg.Unt rs ∙ ready.many;
      silent = all_silent k 1 _ (untalked c unt 1 rs);
    })))

-- an entry that is in turn and changes no role
kept_step : (c : ℕ) (rs : List Roles) (e : Entry) (more : List Entry) → is_at_most_one (talkers rs) ≡ true → is_in_turn_led c (talkers rs) e ≡ true → is_plain_entry e ≡ true
    → changes_roles (message_of e.frame) ≡ false → IsSafeControlled c rs more → IsSafeControlled c rs (e ∷ more)
kept_step c rs e more few turn plain keeps rest = (
  few,
  turn,
  plain,
  λ o. ap (λ ss. is_at_most_one (talkers ss)) (kept_entry c rs (entry e.source e.frame o) keeps) ∙ few,
  subst (λ ss. IsSafeControlled c ss more) (sym (kept_entry c rs e keeps)) rest,
)

-- Party k has the device at this address talk: it ends its own talking. If there is such a device, that one talks alone.
talk_step : (k a : ℕ) (more : List Entry) → is_address a ≡ true → ((rs : List Roles) → IsReady k a rs → (1 ≤ a → a ≤ k → talkers rs ≡ a ∷ []) → IsSafeControlled k rs more)
    → Follows k k k (commanded k (tad a) ++ more)
talk_step k a more low rest rs ready =
    let tells = message_of-tad a low in
    let told : (o : Outcome) → IsReady k a (roles_led_entry k rs (entry k (tad a) o)) = λ o.
    subst (IsReady k a) (sym (own_entry k rs (tad a) o ∙ ap (λ m. roles_along k o 1 m rs) tells)) (record {
      numbers = numbered_along k o 1 (msg.Tad a) rs refl ready.numbers;
      many = length_along k o 1 (msg.Tad a) rs ∙ ready.many;
      silent = told_along a k k o 1 rs (or_right (k == a) _ (reaches_itself k o)) ready.numbers ready.silent;
    }) in
    let after = roles_led_entry k rs (returned k (tad a)) in
    let alone : 1 ≤ a → a ≤ k → talkers after ≡ a ∷ [] = λ from to.
    ap talkers (own_entry k rs (tad a) (outcome.Back (tad a)) ∙ ap (λ m. roles_along k (outcome.Back (tad a)) 1 m rs) tells)
    ∙ one_told k (tad a) 1 a rs ready.numbers from (omega (arith, to, ready.many)) in (
      ready_few k k rs ready,
      mute_turn k (talkers rs) (returned k (tad a)) (ap is_spoken tells),
      ap is_plain tells,
      λ o. ready_few k a _ (told o),
      kept_step k after (returned k rfc) more (ready_few k a after (told (outcome.Back (tad a)))) refl refl refl (rest after (told (outcome.Back (tad a))) alone),
    )
  where
    reaches_itself : (k : ℕ) (o : Outcome) → is_reached k o k ≡ true
    reaches_itself k (outcome.Back f) = refl
    reaches_itself k (outcome.Taken q) = or_left (k == k) _ (eq-eqb k k refl)
    reaches_itself k (outcome.Lost q) = or_left (k == k) _ (eq-eqb k k refl)

-- ---- statuses

-- a device that may be asked, by its own number
abbrev TellsOwnStatus : ℕ → ℕ → Answer → Type 0
TellsOwnStatus k a answer = (is_one_status k answer ≡ true) × (is_reported_by a answer ≡ true)

-- an address is asked for its status
status_step : (k a : ℕ) (answer : Answer) (more : List Entry) → is_address a ≡ true → TellsOwnStatus k a answer → Follows k k k more
    → Follows k k k (entries_of k (Receive a None Sst answer) ++ more)
status_step k a NotTaken more low tells rest =
    let start : List Entry = returned k (start_frame Sst) ∷ (commanded k unt ++ more) in
    command_step k k k unl (commanded k (tad a) ++ start) refl
    (talk_step k a start low
    (λ rs ready alone. ready_step k k a (start_frame Sst) (outcome.Back (start_frame Sst)) (commanded k unt ++ more) refl (untalk_step k k a more rest) rs ready))
status_step k a (ToItsEnd p data_frames) more low tells rest = let one = tells.0 in cc
status_step k a (Stopped p (d ∷ data_frames) last) more low tells rest = let one = tells.0 in cc
status_step k a (Stopped p [] last) more low tells rest =
    let party = and_parts (not (p == 0)) (nat_lt p k && is_answer k (Stopped p [] last)) tells.0 in
    let before = and_parts (nat_lt p k) (is_answer k (Stopped p [] last)) party.1 in
    let echo = and_parts (not (p == k)) (list_all is_echo [] && is_echo last) before.1 in
    let sent = and_parts (is_data last.sent) (same_but_service last.sent last.back) echo.1 in
    let ends : List Entry = entry p eto (outcome.Taken k) ∷ (commanded k unt ++ more) in
    let bytes : List Entry = echoed p last ∷ ends in
    let stops : List Entry = returned k nrd ∷ bytes in
    let start : List Entry = entry k (start_frame Sst) (outcome.Taken p) ∷ stops in
    command_step k k k unl (commanded k (tad a) ++ start) refl
    (talk_step k a start low
    (λ rs ready alone.
    let talks = alone (above p a party.0 tells.1) (at_most p a k tells.1 before.0) in
    let few = ap is_at_most_one talks in
    let own : (f : Frame) (o : Outcome) → is_in_turn_led k (talkers rs) (entry p f o) ≡ true = λ f o.
    ap (λ ps. is_in_turn_led k ps (entry p f o)) talks ∙ or_right (not (is_spoken (message_of f))) (p == a) tells.1 in
    kept_step k rs (entry k (start_frame Sst) (outcome.Taken p)) stops few refl refl refl
    (kept_step k rs (returned k nrd) bytes few refl refl refl
    (kept_step k rs (echoed p last) ends few (own last.sent (outcome.Back last.back)) (data_plain last.sent.class last.sent.byte sent.0) (data_keeps last.sent.class last.sent.byte sent.0)
    (kept_step k rs (entry p eto (outcome.Taken k)) (commanded k unt ++ more) few (own eto (outcome.Taken k)) refl refl
    (untalk_step k k a more rest rs ready))))))
  where
    above : (p a : ℕ) → not (p == 0) ≡ true → (p == a) ≡ true → 1 ≤ a
    above p a some same = let at = eqb-true p a same in let not_none = eqb-false p 0 (not-true (p == 0) some) in omega (arith, at, not_none)

    at_most : (p a k : ℕ) → (p == a) ≡ true → nat_lt p k ≡ true → a ≤ k
    at_most p a k same less = let at = eqb-true p a same in omega (arith, at, ltb-true p k less)

    data_plain : (k : Class) (byte : ℕ) → is_data_class k ≡ true → is_plain (message_at k byte) ≡ true
    data_plain class.Dab byte e = refl
    data_plain class.Dsr byte e = refl
    data_plain class.End byte e = refl
    data_plain class.Esr byte e = refl
    data_plain k byte e = cc

-- the addresses are asked in turn
asked_step : (k : ℕ) (addresses : List ℕ) (answers : List Answer) (more : List Exchange) → list_all (λ a. is_address a) addresses ≡ true
    → list_all (is_one_status k) answers ≡ true → are_reported_by addresses answers ≡ true
    → Follows k k k (flat_map (entries_of k) more) → Follows k k k (flat_map (entries_of k) (receives_of addresses answers ++ more))
asked_step k [] answers more low ones told rest = rest
asked_step k (a ∷ addresses) [] more low ones told rest =
    let lows = and_parts (is_address a) (list_all (λ a. is_address a) addresses) low in
    status_step k a NotTaken (flat_map (entries_of k) (receives_of addresses [] ++ more)) lows.0 (refl, refl) (asked_step k addresses [] more lows.1 refl (none_told_by addresses) rest)
  where
    none_told_by : (addresses : List ℕ) → are_reported_by addresses [] ≡ true
    none_told_by [] = refl
    none_told_by (a ∷ more) = refl
asked_step k (a ∷ addresses) (answer ∷ answers) more low ones told rest =
    let lows = and_parts (is_address a) (list_all (λ a. is_address a) addresses) low in
    let one = and_parts (is_one_status k answer) (list_all (is_one_status k) answers) ones in
    let own = and_parts (is_reported_by a answer) (are_reported_by addresses answers) told in
    status_step k a answer (flat_map (entries_of k) (receives_of addresses answers ++ more)) lows.0 (one.0, own.0) (asked_step k addresses answers more lows.1 one.1 own.1 rest)

-- rounds that begin while none talks but possibly party k are safe
rounds_safe : (k : ℕ) (addresses : List ℕ) (answers : List (List Answer)) → list_all (λ a. is_address a) addresses ≡ true
    → list_all (λ round. list_all (is_one_status k) round) answers ≡ true → list_all (are_reported_by addresses) answers ≡ true
    → Follows k k k (rounds_entries k addresses answers)
rounds_safe k addresses [] low ones told rs ready = ready_few k k rs ready
rounds_safe k addresses (round ∷ answers) low ones told rs ready =
    let one = and_parts (list_all (is_one_status k) round) (list_all (λ round. list_all (is_one_status k) round) answers) ones in
    let own = and_parts (are_reported_by addresses round) (list_all (are_reported_by addresses) answers) told in
    command_step k k k nop (flat_map (entries_of k) (receives_of addresses round ++ rounds_asked addresses answers)) refl
    (asked_step k addresses round (rounds_asked addresses answers) low one.0 own.0 (rounds_safe k addresses answers low one.1 own.1)) rs ready

-- ---- under the host

-- the host has a device talk
addressed_ready : (k a : ℕ) (rs : List Roles) → length rs ≡ k → are_numbered 1 rs ≡ true → talkers rs ≡ [] → is_address a ≡ true → IsReady k a (roles_after rs (addressed_talker a))
addressed_ready k a rs many numbers silent low =
    let between = roles_after rs (commanded 0 unl) in
    let tells = message_of-tad a low in
    record {
      numbers = are_numbered-log rs (addressed_talker a) (and_from (gives_no_aau (returned 0 (tad a))) true (ap (λ m. not (is_aau m)) tells) refl) numbers;
      many = length-roles_after rs (addressed_talker a) ∙ many;
      silent =
          ap (silent_but a 1) (roles_after-kept (roles_after between (returned 0 (tad a) ∷ [])) (returned 0 rfc ∷ []) refl)
          ∙ ap (λ m. silent_but a 1 (roles_along 0 (outcome.Back (tad a)) 1 m between)) tells
          ∙ told_along a a 0 (outcome.Back (tad a)) 1 between (or_left (a == a) _ (eq-eqb a a refl)) (are_numbered-log rs (commanded 0 unl) refl numbers)
          (all_silent a 1 between (quiet_log rs (commanded 0 unl) refl (all_quiet 1 rs silent)));
    }

-- at most one talks as it does so, wherever a frame is lost; what follows makes nobody talk and speaks nothing
addressed_safe : (a : ℕ) (rs : List Roles) (more : List Entry) → are_numbered 1 rs ≡ true → talkers rs ≡ [] → is_address a ≡ true
    → list_all gives_no_talk more ≡ true → list_all is_mute more ≡ true → IsSafe rs (addressed_talker a ++ more)
addressed_safe a rs more numbers silent low calm mute =
    let tells = message_of-tad a low in
    let one = ap is_at_most_one silent in
    let first = roles_after rs (returned 0 unl ∷ []) in
    let between = roles_after rs (commanded 0 unl) in
    let still = no_talkers 1 between (quiet_log rs (commanded 0 unl) refl (all_quiet 1 rs silent)) in
    let addressed : (o : Outcome) → is_at_most_one (talkers (roles_after_entry between (entry 0 (tad a) o))) ≡ true = λ o.
    one_talker-addressed between a (entry 0 (tad a) o) (are_numbered-log rs (commanded 0 unl) refl numbers) still tells in
    let then_one = one_talker-kept rs (returned 0 unl) one refl in (
      one,
      refl,
      λ o. one_talker-kept rs (entry 0 unl o) one refl,
      (
        then_one,
        refl,
        λ o. one_talker-kept first (entry 0 rfc o) then_one refl,
        (
          ap is_at_most_one still,
          ap (λ m. not (is_spoken m) || may_speak (talkers between) 0 m) tells,
          addressed,
          safe_mute (roles_after_entry between (returned 0 (tad a))) (returned 0 rfc ∷ more) (addressed (outcome.Back (tad a))) calm mute,
        ),
      ),
    )

-- party k takes control, and none talks then but that party
record IsHanded (k : ℕ) (rs : List Roles) (log : List Entry) : Type 0 where
  one : OneTalkerLed 0 rs log
  leads : controller_after 0 log ≡ k
  ready : IsReady k k (roles_led 0 rs log)

-- the host hands control over
handed : (k : ℕ) (rs : List Roles) → length rs ≡ k → are_numbered 1 rs ≡ true → talkers rs ≡ [] → is_address k ≡ true → IsHanded k rs (handed_entries k k)
handed k rs many numbers silent low =
    let front = addressed_talker k in
    let told : List Entry = entry 0 tct (outcome.Taken k) ∷ [] in
    let ready = addressed_ready k k rs many numbers silent low in
    let host = controller_after-no_lend front refl in
    let roles = roles_led-no_lend rs front refl in
    let few = ready_few k k (roles_after rs front) ready in
    let same = kept_entry 0 (roles_after rs front) (entry 0 tct (outcome.Taken k)) refl in
    record {
      one =
          one_append 0 rs front told ((OneTalkerLed-no_lend rs front refl).1 (OneTalker-safe rs front (addressed_safe k rs [] numbers silent low refl refl)))
          (ap (λ c. has_one_talker_led c (roles_led 0 rs front) told) host ∙ ap (λ ss. has_one_talker_led 0 ss told) roles
          ∙ and_from (is_at_most_one (talkers (roles_after rs front))) _ few (ap (λ ss. is_at_most_one (talkers ss)) same ∙ few));
      leads = controller_after-append 0 front told ∙ ap (λ c. controller_after c told) host;
      ready =
          subst (IsReady k k)
          (sym (roles_led-append 0 rs front told ∙ ap (λ c. roles_led c (roles_led 0 rs front) told) host ∙ ap (λ ss. roles_led 0 ss told) roles ∙ same)) ready;
    }

-- ---- the host takes control back

-- by an IFC that ended so, and what follows leaves roles alone
back_talk : (c : ℕ) (rs : List Roles) (o : Outcome) (more : List Entry) → is_at_most_one (talkers rs) ≡ true
    → ((ss : List Roles) → is_at_most_one (talkers ss) ≡ true → OneTalkerLed 0 ss more) → OneTalkerLed c rs (entry 0 ifc o ∷ more)
back_talk c rs o more few rest =
    and_from (is_at_most_one (talkers rs)) _ few
    (rest (roles_led_entry c rs (entry 0 ifc o)) (ap (λ ss. is_at_most_one (talkers ss)) (ifc_entry c rs o) ∙ one_talker-kept rs (entry 0 ifc o) few refl))

-- the handshake after it, however it ends
rfc_talk : (o : Outcome) (ss : List Roles) → is_at_most_one (talkers ss) ≡ true → OneTalkerLed 0 ss (entry 0 rfc o ∷ [])
rfc_talk o ss few = one_step 0 ss (entry 0 rfc o) [] few refl refl (ap (λ ss. is_at_most_one (talkers ss)) (kept_entry 0 ss (entry 0 rfc o) refl) ∙ few)

-- as a whole, or lost
taken_talk : (c : ℕ) (rs : List Roles) → is_at_most_one (talkers rs) ≡ true → OneTalkerLed c rs (commanded 0 ifc)
taken_talk c rs few = back_talk c rs (outcome.Back ifc) (returned 0 rfc ∷ []) few (rfc_talk (outcome.Back rfc))

-- IFC or its handshake is lost
lost_talk : (c : ℕ) (rs : List Roles) (m q : ℕ) → is_at_most_one (talkers rs) ≡ true → OneTalkerLed c rs (cut_at (commanded 0 ifc) m (FrameLost q))
lost_talk c rs zero q few = back_talk c rs (outcome.Lost q) [] few (λ ss few. few)
lost_talk c rs (suc zero) q few = back_talk c rs (outcome.Back ifc) (entry 0 rfc (outcome.Lost q) ∷ []) few (rfc_talk (outcome.Lost q))
lost_talk c rs (suc (suc m)) q few = taken_talk c rs few

-- then none talks, and each device has its number as address
taken_idle : (c : ℕ) (rs : List Roles) → are_numbered 1 rs ≡ true → (talkers (roles_led c rs (commanded 0 ifc)) ≡ []) × (are_numbered 1 (roles_led c rs (commanded 0 ifc)) ≡ true)
taken_idle c rs numbers =
    let cleared_roles = roles_along 0 (outcome.Back ifc) 1 msg.Ifc rs in
    let same = kept_entry 0 (roles_led_entry c rs (returned 0 ifc)) (returned 0 rfc) refl ∙ ifc_entry c rs (outcome.Back ifc) in (
      ap talkers same ∙ no_talkers 1 cleared_roles (cleared 0 ifc 1 rs),
      ap (are_numbered 1) same ∙ numbered_along 0 (outcome.Back ifc) 1 msg.Ifc rs refl numbers,
    )

-- ---- nobody takes control

-- any frame can be lost
can_lose : (es : List Entry) (n q : ℕ) → n < length es → can_cut 0 es n (FrameLost q) ≡ true
can_lose [] n q short = absurd (omega (arith, short))
can_lose (e ∷ es) zero q short = refl
can_lose (e ∷ es) (suc n) q short = can_lose es n q (omega (arith, short))

-- TCT goes by, and UNT ends the talking
refused_safe : (a : ℕ) (rs : List Roles) → are_numbered 1 rs ≡ true → talkers rs ≡ [] → is_address a ≡ true → IsSafe rs (refused_entries a)
refused_safe a rs numbers silent low = addressed_safe a rs (returned 0 tct ∷ commanded 0 unt) numbers silent low refl refl

-- as a whole
refused_talk : (a : ℕ) (rs : List Roles) → are_numbered 1 rs ≡ true → talkers rs ≡ [] → is_address a ≡ true → OneTalkerLed 0 rs (refused_entries a)
refused_talk a rs numbers silent low = (OneTalkerLed-no_lend rs (refused_entries a) refl).1 (OneTalker-safe rs (refused_entries a) (refused_safe a rs numbers silent low))

-- broken off
refused_cut : (a n q : ℕ) (rs : List Roles) → are_numbered 1 rs ≡ true → talkers rs ≡ [] → is_address a ≡ true → nat_lt n (length (refused_entries a)) ≡ true
    → OneTalkerLed 0 rs (cut_at (refused_entries a) n (FrameLost q))
refused_cut a n q rs numbers silent low short =
    (OneTalkerLed-no_lend rs (cut_at (refused_entries a) n (FrameLost q)) (cut_all is_no_lend (λ e q is. refl) (refused_entries a) n q refl)).1
    (OneTalker-cut rs (refused_entries a) n (FrameLost q) (refused_safe a rs numbers silent low) (can_lose (refused_entries a) n q (ltb-true n (length (refused_entries a)) short)))

-- then nobody talks, and each device has its number as address
refused_idle : (a : ℕ) (rs : List Roles) → are_numbered 1 rs ≡ true → is_address a ≡ true
    → (talkers (roles_led 0 rs (refused_entries a)) ≡ []) × (are_numbered 1 (roles_led 0 rs (refused_entries a)) ≡ true)
refused_idle a rs numbers low =
    let host = roles_led-no_lend rs (refused_entries a) refl in
    let front = roles_after rs (addressed_talker a ++ returned 0 tct ∷ []) in
    let quiet = quiet_log (roles_along 0 (outcome.Back unt) 1 msg.Unt front) (returned 0 rfc ∷ []) refl (untalked 0 unt 1 front) in (
      ap talkers host ∙ no_talkers 1 (roles_after rs (refused_entries a)) quiet,
      ap (are_numbered 1) host
          ∙ are_numbered-log rs (refused_entries a) (and_from (gives_no_aau (returned 0 (tad a))) true (ap (λ m. not (is_aau m)) (message_of-tad a low)) refl) numbers,
    )

-- ---- lends

module _ (k : ℕ) (asked : List ℕ) (rs : List Roles) (many : length rs ≡ k) (silent : talkers rs ≡ []) (numbers : are_numbered 1 rs ≡ true) where
  -- the rounds of a lend, as they end
  abbrev ended : List (List Answer) → ℕ → RoundsEnd → List Entry
  ended answers n end = ended_after k (rounds_entries k asked answers) n end

  -- the roles as they begin
  abbrev lent : List Roles
  lent = roles_led 0 rs (handed_entries k k)

  -- the rounds have one talker, leave control where it is, and leave numbered devices numbered
  turn_talk : (answers : List (List Answer)) (n : ℕ) (end : RoundsEnd) → is_address k ≡ true → are_rounds k asked answers n end ≡ true
      → list_all (are_reported_by asked) answers ≡ true
      → OneTalkerLed k lent (ended answers n end) × (controller_after k (ended answers n end) ≡ k) × (are_numbered 1 (roles_led k lent (ended answers n end)) ≡ true)
  turn_talk answers n end low are told =
      let parts = and_parts (list_all (λ a. is_address a) asked) (list_all (λ round. list_all (is_one_status k) round) answers && can_end k (rounds_entries k asked answers) n end) are in
      let ones = and_parts (list_all (λ round. list_all (is_one_status k) round) answers) (can_end k (rounds_entries k asked answers) n end) parts.1 in
      let ready = (handed k rs many numbers silent low).ready in
      let safe = rounds_safe k asked answers parts.0 ones.0 told lent ready in
      let plain = plain_log k lent (ended answers n end) (ended_hold (λ source f. is_plain (message_of f)) (λ source f is. refl) k (rounds_entries k asked answers) n end (safe_plain k lent (rounds_entries k asked answers) safe)) in
      (ended_talk k lent (rounds_entries k asked answers) n end safe ones.1, plain.0, plain.1 ready.numbers)

  -- the rounds, and what follows
  turn_then : (answers : List (List Answer)) (n : ℕ) (end : RoundsEnd) (more : List Entry) → is_address k ≡ true → are_rounds k asked answers n end ≡ true
      → list_all (are_reported_by asked) answers ≡ true
      → ((ss : List Roles) → is_at_most_one (talkers ss) ≡ true → OneTalkerLed k ss more) → OneTalkerLed 0 rs (handed_entries k k ++ (ended answers n end ++ more))
  turn_then answers n end more low are told rest =
      let hand = handed k rs many numbers silent low in
      let turn = turn_talk answers n end low are told in
      one_append 0 rs (handed_entries k k) (ended answers n end ++ more) hand.one
      (ap (λ c. has_one_talker_led c lent (ended answers n end ++ more)) hand.leads
      ∙ one_append k lent (ended answers n end) more turn.0
      (ap (λ c. has_one_talker_led c (roles_led k lent (ended answers n end)) more) turn.1 ∙ rest _ (few_after k lent (ended answers n end) turn.0)))

-- at most one party talks at every moment of a lend, and only the talker speaks
pub lend_one_talker : (k : ℕ) (asked : List ℕ) (limit : ℕ) (lend : Lend) (rs : List Roles) → k ≡ length rs → talkers rs ≡ [] → are_numbered 1 rs ≡ true
    → is_lend k asked limit lend ≡ true → reports_own asked lend ≡ true → (was_taken lend ≡ true → lend_address lend ≡ k)
    → OneTalkerLed 0 rs (lend_entries k asked lend)
lend_one_talker k asked limit (NoTaker a) rs many silent numbers is own last = refused_talk a rs numbers silent is
lend_one_talker k asked limit (NoTakerCut a n q) rs many silent numbers is own last =
    let parts = and_parts (is_address a) (nat_lt n (length (refused_entries a)) && nat_le q k) is in
    refused_cut a n q rs numbers silent parts.0 (and_parts (nat_lt n (length (refused_entries a))) (nat_le q k) parts.1).0
lend_one_talker k asked limit (Lent a answers n) rs many silent numbers is own last =
    subst (λ b. OneTalkerLed 0 rs (lend_entries k asked (Lent b answers n))) (sym (last refl))
    (turn_then k asked rs (sym many) silent numbers answers n AtHost (commanded 0 ifc) (ap is_address (sym (last refl)) ∙ (and_parts (is_address a) _ is).0) (are_lent k asked limit (Lent a answers n) is) own (λ ss few. taken_talk k ss few))
lend_one_talker k asked limit (LentCut a answers n end) rs many silent numbers is own last =
    subst (λ b. OneTalkerLed 0 rs (lend_entries k asked (LentCut b answers n end))) (sym (last refl))
    (subst (λ es. OneTalkerLed 0 rs (handed_entries k k ++ es)) (append-nil (ended_after k (rounds_entries k asked answers) n end))
    (turn_then k asked rs (sym many) silent numbers answers n end [] (ap is_address (sym (last refl)) ∙ (and_parts (is_address a) _ is).0) (are_lent k asked limit (LentCut a answers n end) is) own (λ ss few. few)))
lend_one_talker k asked limit (LentLost a answers n m q) rs many silent numbers is own last =
    subst (λ b. OneTalkerLed 0 rs (lend_entries k asked (LentLost b answers n m q))) (sym (last refl))
    (turn_then k asked rs (sym many) silent numbers answers n AtHost (cut_at (commanded 0 ifc) m (FrameLost q)) (ap is_address (sym (last refl)) ∙ (and_parts (is_address a) _ is).0) (are_lent k asked limit (LentLost a answers n m q) is) own (λ ss few. lost_talk k ss m q few))

-- after a whole one nobody talks, and each device has its number as address
pub lend_idle : (k : ℕ) (asked : List ℕ) (limit : ℕ) (lend : Lend) (rs : List Roles) → k ≡ length rs → talkers rs ≡ [] → are_numbered 1 rs ≡ true
    → is_lend k asked limit lend ≡ true → reports_own asked lend ≡ true → (was_taken lend ≡ true → lend_address lend ≡ k) → is_whole_lend lend ≡ true
    → (talkers (roles_led 0 rs (lend_entries k asked lend)) ≡ []) × (are_numbered 1 (roles_led 0 rs (lend_entries k asked lend)) ≡ true)
lend_idle k asked limit (NoTaker a) rs many silent numbers is own last whole = refused_idle a rs numbers is
lend_idle k asked limit (NoTakerCut a n q) rs many silent numbers is own last whole = cc
lend_idle k asked limit (LentCut a answers n end) rs many silent numbers is own last whole = cc
lend_idle k asked limit (LentLost a answers n m q) rs many silent numbers is own last whole = cc
lend_idle k asked limit (Lent a answers n) rs many silent numbers is own last whole =
    let low = ap is_address (sym (last refl)) ∙ (and_parts (is_address a) _ is).0 in
    let hand = handed k rs (sym many) numbers silent low in
    let turn = turn_talk k asked rs (sym many) silent numbers answers n AtHost low (are_lent k asked limit (Lent a answers n) is) own in
    let rounds = ended_after k (rounds_entries k asked answers) n AtHost in
    let begun = roles_led 0 rs (handed_entries k k) in
    let roles : roles_led 0 rs (lend_entries k asked (Lent k answers n)) ≡ roles_led k (roles_led k begun rounds) (commanded 0 ifc) =
    roles_led-append 0 rs (handed_entries k k) (rounds ++ commanded 0 ifc)
    ∙ ap (λ c. roles_led c begun (rounds ++ commanded 0 ifc)) hand.leads
    ∙ roles_led-append k begun rounds (commanded 0 ifc)
    ∙ ap (λ c. roles_led c (roles_led k begun rounds) (commanded 0 ifc)) turn.1 in
    subst (λ b. (talkers (roles_led 0 rs (lend_entries k asked (Lent b answers n))) ≡ []) × (are_numbered 1 (roles_led 0 rs (lend_entries k asked (Lent b answers n))) ≡ true)) (sym (last refl))
    (subst (λ ss. (talkers ss ≡ []) × (are_numbered 1 ss ≡ true)) (sym roles) (taken_idle k (roles_led k begun rounds) turn.2))
