-- The host asked a device to talk so as to lend the ring to it: whether that is the second controller, and how the ring is then.
use Rattle.std.proofs.Common.{◌≡◌, ◌∙◌, ◌≤◌, ◌+◌, ◌++◌, ◌&&◌, ◌==◌, ℕ, suc, Bool, true, false, not, List, [], ◌∷◌, Option, Some, None, length, map, refl, sym, ap, ap₂, subst, arith, append_assoc, length-append}
use Rattle.std.specs.Prelude.{if◌then◌else◌, is_some, nat_le}
use Rattle.std.proofs.lemmas.Bool.{and_parts, and_from, eqb-true, le-leb}
use Rattle.std.proofs.lemmas.List.{length-map, map-append}
use Rattle.il_frames.specs.declared.entry.Outcome.TheVariants as outcome
use Rattle.il_frames.specs.declared.frame.Frame.{Frame}
use Rattle.il_frames.specs.declared.message.Message.{Message}
use Rattle.il_frames.specs.declared.message.Message.TheVariants as msg
use Rattle.il_frames.specs.NamedFrames.{is_frame, rfc, tad, unl}
use Rattle.il_device.specs.declared.roles.Roles.{Roles}
use Rattle.il_device.specs.Roles.{is_own, no_roles}
use Rattle.il_device.specs.State.{DeviceState}
use Rattle.il_drive.specs.State.{device_of}
use Rattle.il_ports.specs.Media.{MediumView}
use Rattle.il_guest.specs.Frames.{tct}
use Rattle.loop_model.specs.Exchanges.{commanded, receive_front, returned}
use Rattle.loop_model.specs.Roles.{are_numbered, is_aau, is_at_most_one, passed_on, roles_after, roles_after_entry, roles_along, roles_by, talkers, talkers_from}
use Rattle.loop_model.proofs.RoleSteps.{roles_after-kept}
use Rattle.loop_model.proofs.RoundLaws.{message_of-tad}
use Rattle.loop_model.proofs.TalkLaws.{are_numbered-log, gives_no_aau}
use Rattle.il_ring.specs.Guests.{IsUnderHost}
use Rattle.il_ring.specs.Lending.{hands_over, last_talks}
use Rattle.il_ring.specs.Rings.{RingView, devices_of, roles_of}
use Rattle.il_control.specs.Calls.{IsIdle}
use Rattle.il_control.specs.Lent.{last_at, controller_at}
use Rattle.il_control.specs.Receives.{Asked}
use Rattle.il_control.proofs.Talking.{asked_talks, front_roles, one_asked_talks}

-- ---- the roles of each device

along_each : (f : Frame) (party : ℕ) (m : Message) (rs : List Roles) → ((r : Roles) → passed_on m r ≡ m) → roles_along 0 (outcome.Back f) party m rs ≡ map (roles_by m) rs
along_each f party m [] passes = refl
along_each f party m (r ∷ rs) passes =
    ap (λ n. roles_by m r ∷ roles_along 0 (outcome.Back f) (suc party) n rs) (passes r) ∙ ap (λ rs. roles_by m r ∷ rs) (along_each f (suc party) m rs passes)

-- after UNL and TAD a
abbrev pub asked_roles : ℕ → List Roles → List Roles
asked_roles a rs = map (roles_by (msg.Tad a)) (map (roles_by msg.Unl) rs)

-- it talks if and only if that is its address
pub told_to_talk : (a : ℕ) (r : Roles) → (roles_by (msg.Tad a) (roles_by msg.Unl r)).talks ≡ is_own r.address a
told_to_talk a r = by_own (is_own r.address a)
  where
    by_own : (own : Bool) → (if own then record r { talks = true; listens = false } else record r { talks = false; listens = false }).talks ≡ own
    by_own true = refl
    by_own false = refl

-- so are the roles of numbered devices, of which none talked
pub asked_roles-front : (a : ℕ) (rs : List Roles) → are_numbered 1 rs ≡ true → talkers rs ≡ [] → a ≤ 30 → roles_after rs (receive_front 0 a None) ≡ asked_roles a rs
asked_roles-front a rs numbered silent low =
    let unlistened : roles_after rs (commanded 0 unl) ≡ map (roles_by msg.Unl) rs = roles_after-kept (roles_after_entry rs (returned 0 unl)) (returned 0 rfc ∷ []) refl ∙ along_each unl 1 msg.Unl rs (λ r. refl) in
    front_roles rs a None numbered silent (le-leb a 30 low) refl
    ∙ ap (λ m. roles_along 0 (outcome.Back (tad a)) 1 m (roles_after rs (commanded 0 unl))) (message_of-tad a (le-leb a 30 low))
    ∙ along_each (tad a) 1 (msg.Tad a) (roles_after rs (commanded 0 unl)) (λ r. refl)
    ∙ ap (map (roles_by (msg.Tad a))) unlistened

-- ---- the last device

abbrev pub first_of : List Roles → Roles
first_of [] = no_roles
first_of (r ∷ rs) = r

abbrev pub rest_of : List Roles → List Roles
rest_of [] = []
rest_of (r ∷ rs) = rs

last_asked_talks : (a : ℕ) (ds es : List DeviceState) → roles_of es ≡ asked_roles a (roles_of ds) → last_talks es ≡ last_at a ds
last_asked_talks a [] [] same = refl
last_asked_talks a [] (e ∷ es) same = cc
last_asked_talks a (d ∷ ds) [] same = cc
last_asked_talks a (d ∷ []) (e ∷ []) same = ap (λ rs. (first_of rs).talks) same ∙ told_to_talk a d.roles
last_asked_talks a (d ∷ []) (e ∷ e2 ∷ es) same = let rest = ap rest_of same in cc
last_asked_talks a (d ∷ d2 ∷ ds) (e ∷ []) same = let rest = ap rest_of same in cc
last_asked_talks a (d ∷ d2 ∷ ds) (e ∷ e2 ∷ es) same = last_asked_talks a (d2 ∷ ds) (e2 ∷ es) (ap rest_of same)

-- of the devices after this many
roles_of_rest : (a : ℕ) (ds es more later : List DeviceState) → length es ≡ length ds → roles_of (es ++ later) ≡ asked_roles a (roles_of (ds ++ more)) → roles_of later ≡ asked_roles a (roles_of more)
roles_of_rest a [] [] more later size same = same
roles_of_rest a [] (e ∷ es) more later size same = cc
roles_of_rest a (d ∷ ds) [] more later size same = cc
roles_of_rest a (d ∷ ds) (e ∷ es) more later size same = roles_of_rest a ds es more later (omega (arith, size)) (ap rest_of same)

last_of : (ds : List DeviceState) (d : DeviceState) → last_talks (ds ++ d ∷ []) ≡ d.roles.talks
last_of [] d = refl
last_of (x ∷ []) d = refl
last_of (x ∷ y ∷ ds) d = last_of (y ∷ ds) d

-- ---- numbers and talkers, the last apart

last_number : (party : ℕ) (rs : List Roles) (last : Roles) → are_numbered party (rs ++ last ∷ []) ≡ true → (are_numbered party rs ≡ true) × (is_own last.address (party + length rs) ≡ true)
last_number party [] last numbers =
    let same : party + 0 ≡ party = omega arith in
    (refl, ap (is_own last.address) same ∙ (and_parts (is_own last.address party) true numbers).0)
last_number party (r ∷ rs) last numbers =
    let own = and_parts (is_own r.address party) (are_numbered (suc party) (rs ++ last ∷ [])) numbers in
    let more = last_number (suc party) rs last own.1 in
    let same : party + length (r ∷ rs) ≡ suc party + length rs = omega arith in
    (and_from (is_own r.address party) (are_numbered (suc party) rs) own.0 more.0, ap (is_own last.address) same ∙ more.1)

own_some : (o : Option ℕ) (a : ℕ) → is_own o a ≡ true → o ≡ Some a
own_some None a own = cc
own_some (Some b) a own = ap (λ b. Some b) (eqb-true b a own)

this_one : (party : ℕ) (talks : Bool) → talks ≡ true → ((if talks then party ∷ [] else []) ++ []) ≡ party ∷ []
this_one party true is = refl
this_one party false is = cc

last_talker : (party : ℕ) (rs : List Roles) (last : Roles) → last.talks ≡ true → talkers_from party (rs ++ last ∷ []) ≡ talkers_from party rs ++ (party + length rs) ∷ []
last_talker party [] last talks = let same : party ≡ party + 0 = omega arith in this_one party last.talks talks ∙ ap (λ p. p ∷ []) same
last_talker party (r ∷ rs) last talks =
    let same : suc party + length rs ≡ party + length (r ∷ rs) = omega arith in
    let here = if r.talks then party ∷ [] else [] in
    ap (λ ps. here ++ ps) (last_talker (suc party) rs last talks)
    ∙ sym (append_assoc here (talkers_from (suc party) rs) ((suc party + length rs) ∷ []))
    ∙ ap (λ p. (here ++ talkers_from (suc party) rs) ++ p ∷ []) same

no_other : (ps : List ℕ) (p : ℕ) → is_at_most_one (ps ++ p ∷ []) ≡ true → ps ≡ []
no_other [] p one = refl
no_other (x ∷ []) p one = cc
no_other (x ∷ y ∷ ps) p one = cc

-- ---- the ring

module _ {M : Type 0} (view : M → MediumView) (q r : RingView M) (a : ℕ) (idle : IsIdle q) (some : 1 ≤ a) (low : a ≤ 30) (asked : Asked view a None q r) where
  pub asked_guest : r.guest ≡ q.guest
  asked_guest = asked.whole.adds.guest.1 idle.host

  pub asked_host : IsUnderHost r.guest
  asked_host = subst IsUnderHost (sym asked_guest) idle.host

  told : roles_of (devices_of r) ≡ asked_roles a (roles_of (devices_of q))
  told = asked.whole.adds.roles ∙ asked_roles-front a (roles_of (devices_of q)) idle.numbered idle.silent low

  pub last_where : last_talks r.after ≡ last_at a q.after
  last_where = last_asked_talks a q.after r.after (ap rest_of (roles_of_rest a q.before r.before (device_of q.drive.state ∷ q.after) (device_of r.drive.state ∷ r.after) asked.whole.adds.before told))

  -- by TCT it hands control over if and only if a second controller is at that address
  pub hands_where : hands_over r tct ≡ controller_at a q
  hands_where = ap₂ (λ guest last. is_some guest && last) asked_guest last_where

  pub talks_last : (boxed : List DeviceState) (d : DeviceState) → hands_over r tct ≡ true → r.after ≡ boxed ++ d ∷ [] → d.roles.talks ≡ true
  talks_last boxed d over at =
      let hands = and_parts (is_frame tct tct) (is_some r.guest && last_talks r.after) over in
      sym (last_of boxed d) ∙ ap last_talks (sym at) ∙ (and_parts (is_some r.guest) (last_talks r.after) hands.1).1

  numbered : are_numbered 1 (roles_of (devices_of r)) ≡ true
  numbered =
      let stays : gives_no_aau (returned 0 (tad a)) ≡ true = ap (λ m. not (is_aau m)) (message_of-tad a (le-leb a 30 low)) in
      ap (are_numbered 1) asked.whole.adds.roles
      ∙ are_numbered-log (roles_of (devices_of q)) (receive_front 0 a None) (and_from (gives_no_aau (returned 0 (tad a))) true stays refl) idle.numbered

  -- the last device talks
  module _ (boxed : List DeviceState) (d : DeviceState) (at : r.after ≡ boxed ++ d ∷ []) (talks : d.roles.talks ≡ true) where
    abbrev front : List DeviceState
    front = r.before ++ device_of r.drive.state ∷ boxed

    all : devices_of r ≡ front ++ d ∷ []
    all = ap (λ after. r.before ++ device_of r.drive.state ∷ after) at ∙ sym (append_assoc r.before (device_of r.drive.state ∷ boxed) (d ∷ []))

    roles_all : roles_of (devices_of r) ≡ roles_of front ++ d.roles ∷ []
    roles_all = ap roles_of all ∙ map-append (λ (d : DeviceState). d.roles) front (d ∷ [])

    many : 1 + length (roles_of front) ≡ length (devices_of r)
    many =
        let size = ap length all ∙ length-append front (d ∷ []) in
        let same = length-map front (λ (d : DeviceState). d.roles) in
        omega (arith, size, same)

    by_number : (are_numbered 1 (roles_of front) ≡ true) × (is_own d.roles.address (1 + length (roles_of front)) ≡ true)
    by_number = last_number 1 (roles_of front) d.roles (ap (are_numbered 1) (sym roles_all) ∙ numbered)

    by_talker : talkers (roles_of (devices_of r)) ≡ talkers (roles_of front) ++ (1 + length (roles_of front)) ∷ []
    by_talker = ap talkers roles_all ∙ last_talker 1 (roles_of front) d.roles talks

    -- it has its number as address, as each of the others has, and none of them talks
    pub handed_address : d.roles.address ≡ Some (length (devices_of r))
    handed_address = own_some d.roles.address (1 + length (roles_of front)) by_number.1 ∙ ap (λ k. Some k) many

    pub handed_numbered : are_numbered 1 (roles_of (r.before ++ device_of r.drive.state ∷ boxed)) ≡ true
    handed_numbered = by_number.0

    pub handed_silent : talkers (roles_of (r.before ++ device_of r.drive.state ∷ boxed)) ≡ []
    handed_silent = no_other (talkers (roles_of front)) (1 + length (roles_of front)) (ap is_at_most_one (sym by_talker) ∙ one_asked_talks view q r a None idle low refl asked)

    -- that is the address which was asked
    pub handed_at : a ≡ length (devices_of r)
    handed_at =
        let rs = roles_of (devices_of q) in
        let k = length (devices_of r) in
        let alone : talkers (roles_after rs (receive_front 0 a None)) ≡ k ∷ [] = ap talkers (sym asked.whole.adds.roles) ∙ by_talker ∙ ap₂ (λ ps k. ps ++ k ∷ []) handed_silent many in
        let for_it = asked_talks rs a None idle.numbered idle.silent (le-leb a 30 low) refl k some alone in
        sym (eqb-true k a (and_parts (k == a) (nat_le 1 a && nat_le a (length rs)) for_it).0)
