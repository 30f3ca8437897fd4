-- Which exchanges ask nothing of the drive but its name, or nothing but its status: the frames that came to it are mild, whatever
-- broke off.
use Rattle.std.proofs.Common.{◌≡◌, ◌∙◌, ◌≤◌, ◌<◌, ◌++◌, ◌&&◌, ◌||◌, ◌⊎◌, inl, inr, ⊎_elim, ℕ, zero, suc, Bool, true, false, not, List, [], ◌∷◌, Option, Some, None, map, length, refl, sym, ap, subst, append_assoc}
use Rattle.std.specs.Prelude.{IfSome, IsSome}
use Rattle.std.specs.List.{list_all}
use Rattle.std.proofs.lemmas.Bool.{and_parts, and_from, cases_lt}
use Rattle.il_frames.specs.declared.frame.Class.{Class}
use Rattle.il_frames.specs.declared.frame.Class.TheVariants as class
use Rattle.il_frames.specs.declared.frame.Frame.{Frame}
use Rattle.il_frames.specs.declared.entry.Entry.{Entry}
use Rattle.il_frames.specs.declared.entry.Outcome.TheVariants as outcome
use Rattle.il_frames.specs.Frames.{byte_of, class_of, is_data, is_data_class, same_but_service}
use Rattle.il_frames.specs.Messages.{message_at, message_of}
use Rattle.il_device.specs.declared.device.Out.{Out}
use Rattle.il_device.specs.Takes.{eto}
use Rattle.il_ports.specs.Media.{MediumView}
use Rattle.il_drive.specs.declared.mode.Start.{Start}
use Rattle.il_drive.specs.declared.mode.Start.TheVariants as start
use Rattle.il_drive.specs.State.{DriveView, status_of}
use Rattle.il_drive.specs.Runs.{Ran}
use Rattle.il_drive.proofs.ExchangesAddressed.{message_of-tad}
use Rattle.il_frames.specs.NamedFrames.{entry, unl, unt, rfc, nrd, tad}
use Rattle.loop_model.specs.Exchanges.{Echo, Answer, NotTaken, ToItsEnd, Stopped, Start as StartMessage, Sai, Receive, start_frame, echoed, returned, commanded, answer_entries, entries_of, is_answer, is_echo, receive_front}
use Rattle.loop_model.specs.Reach.{brings_to}
use Rattle.loop_model.proofs.UnitLaws.{entries_of-receive}
use Rattle.il_ring.specs.Journeys.{is_exact, is_identify, is_identify_class}
use Rattle.il_ring.specs.Rings.{RingView, devices_of, drive_party}
use Rattle.il_control.specs.Brought.{ComesAs, MayComeAs, Brought, BroughtIf, CutBrought, is_auto_address}
use Rattle.il_control.specs.Receives.{Received, NotReceived, IsSpoken, AllSpoken, LiesAfter, talker_of}
use Rattle.il_record.specs.LoopCalls.{LeavesDrive}
use Rattle.il_record.proofs.Asked.{front_plain}
use Rattle.il_record.proofs.Cuts.{comes_may, receive_near}
use Rattle.il_drive.proofs.Mild.{AllMildFor, IsMildFor, OneByte, StaysMild, StaysMildFor, StatusLeft, is_mild_for, left_same, unl_ran}
use Rattle.il_record.proofs.Readings.{legal_answer, end_echoes, stop_echoes}

-- ---- frames

-- a data or identify frame, or a mild message that goes on as it is
abbrev pub mild_frame_for : Start → Frame → Bool
mild_frame_for what f = is_data f || (is_identify f || (is_exact (message_of f) && (not (is_auto_address (message_of f)) && is_mild_for what (message_of f))))

abbrev pub mild_entry_for : Start → Entry → Bool
mild_entry_for what e = mild_frame_for what e.frame

-- UNL came first, or nothing came
abbrev pub UnlFirstFor : Start → List Frame → Type 0
UnlFirstFor what gs = (gs ≡ []) ⊎ ((more : List Frame) × (gs ≡ unl ∷ more) × AllMildFor what more)

-- those that ask for the name alone
abbrev pub mild_frame : Frame → Bool
mild_frame f = mild_frame_for start.Identity f

abbrev pub mild_entry : Entry → Bool
mild_entry e = mild_entry_for start.Identity e

abbrev pub UnlFirst : List Frame → Type 0
UnlFirst gs = UnlFirstFor start.Identity gs

no_true : (b : Bool) → not b ≡ true → b ≡ false
no_true true h = cc
no_true false h = refl

module _ (what : Start) where
  data_mild : (k : Class) (b : ℕ) → is_data_class k ≡ true → is_mild_for what (message_at k b) ≡ true
  data_mild class.Dab b h = refl
  data_mild class.Dsr b h = refl
  data_mild class.End b h = refl
  data_mild class.Esr b h = refl
  data_mild _ b h = cc

  poll_mild : (k : Class) (b : ℕ) → is_identify_class k ≡ true → is_mild_for what (message_at k b) ≡ true
  poll_mild class.Idy b h = refl
  poll_mild class.Isr b h = refl
  poll_mild _ b h = cc

  may_mild : (q : ℕ) (f g : Frame) → mild_frame_for what f ≡ true → MayComeAs q f g → is_mild_for what (message_of g) ≡ true
  may_mild q f g mild comes = by (is_data f) (is_identify f) refl refl
    where
      rest : Bool
      rest = is_exact (message_of f) && (not (is_auto_address (message_of f)) && is_mild_for what (message_of f))

      by : (b c : Bool) → is_data f ≡ b → is_identify f ≡ c → is_mild_for what (message_of g) ≡ true
      by true c h i = data_mild (class_of g) (byte_of g) (comes.data_frame h)
      by false true h i = poll_mild (class_of g) (byte_of g) (comes.poll i)
      by false false h i =
          let all : rest ≡ true = sym (ap (λ b. b || (is_identify f || rest)) h ∙ ap (λ b. b || rest) i) ∙ mild in
          let one = and_parts (is_exact (message_of f)) (not (is_auto_address (message_of f)) && is_mild_for what (message_of f)) all in
          let two = and_parts (not (is_auto_address (message_of f))) (is_mild_for what (message_of f)) one.1 in
          ap (λ f. is_mild_for what (message_of f)) (comes.other one.0 (no_true (is_auto_address (message_of f)) two.0)) ∙ two.1

  spoken_mild : (gs : List Frame) → AllSpoken gs → AllMildFor what gs
  spoken_mild [] all = tt
  spoken_mild (g ∷ gs) all = (by all.0, spoken_mild gs all.1)
    where
      by : IsSpoken g → is_mild_for what (message_of g) ≡ true
      by (inl data_frame) = data_mild (class_of g) (byte_of g) data_frame
      by (inr (inl is)) = ap (λ g. is_mild_for what (message_of g)) is
      by (inr (inr (inl is))) = ap (λ g. is_mild_for what (message_of g)) is
      by (inr (inr (inr is))) = ap (λ g. is_mild_for what (message_of g)) is

  -- those that were brought
  pub brought_mild : (k q : ℕ) (es : List Entry) (gs : List Frame) → list_all (mild_entry_for what) es ≡ true → Brought k q es gs → AllMildFor what gs
  brought_mild k q [] gs mild came = subst (AllMildFor what) (sym came) tt
  brought_mild k q (e ∷ es) gs mild came =
      let both = and_parts (mild_entry_for what e) (list_all (mild_entry_for what) es) mild in
      by (brings_to k q e) gs came both.0 (λ gs came. brought_mild k q es gs both.1 came)
    where
      by : (b : Bool) (gs : List Frame) → BroughtIf b (ComesAs q e.frame) (Brought k q es) gs → mild_entry_for what e ≡ true → ((gs : List Frame) → Brought k q es gs → AllMildFor what gs) → AllMildFor what gs
      by false gs came here rest = rest gs came
      by true [] came here rest = absurd came
      by true (g ∷ gs) came here rest = (may_mild q e.frame g here (comes_may q e.frame g came.0), rest gs came.1)

  pub cut_mild : (k q n : ℕ) (es : List Entry) (gs : List Frame) → list_all (mild_entry_for what) es ≡ true → CutBrought k q es n gs → AllMildFor what gs
  cut_mild k q n [] gs mild came = subst (AllMildFor what) (sym came) tt
  cut_mild k q zero (e ∷ es) gs mild came =
      let both = and_parts (mild_entry_for what e) (list_all (mild_entry_for what) es) mild in
      ⊎_elim (λ nothing. subst (AllMildFor what) (sym nothing) tt) (λ one. subst (AllMildFor what) (sym one.2) (may_mild q e.frame one.0 both.0 one.1, tt)) came
  cut_mild k q (suc n) (e ∷ es) gs mild came =
      let both = and_parts (mild_entry_for what e) (list_all (mild_entry_for what) es) mild in
      by (brings_to k q e) gs came both.0 (λ gs came. cut_mild k q n es gs both.1 came)
    where
      by : (b : Bool) (gs : List Frame) → BroughtIf b (ComesAs q e.frame) (CutBrought k q es n) gs → mild_entry_for what e ≡ true → ((gs : List Frame) → CutBrought k q es n gs → AllMildFor what gs) → AllMildFor what gs
      by false gs came here rest = rest gs came
      by true [] came here rest = absurd came
      by true (g ∷ gs) came here rest = (may_mild q e.frame g here (comes_may q e.frame g came.0), rest gs came.1)

  pub unl_brought : (k q : ℕ) (es : List Entry) (gs : List Frame) → list_all (mild_entry_for what) es ≡ true → Brought k q (returned 0 unl ∷ es) gs → UnlFirstFor what gs
  unl_brought k q es [] mild came = absurd came
  unl_brought k q es (g ∷ gs) mild came = inr (gs, ap (λ g. g ∷ gs) (came.0.other refl refl), brought_mild k q es gs mild came.1)

  pub unl_cut : (k q n : ℕ) (es : List Entry) (gs : List Frame) → list_all (mild_entry_for what) es ≡ true → CutBrought k q (returned 0 unl ∷ es) n gs → UnlFirstFor what gs
  unl_cut k q zero es gs mild came = ⊎_elim (λ nothing. inl nothing) (λ one. inr ([], one.2 ∙ ap (λ g. g ∷ []) (one.1.other refl refl), tt)) came
  unl_cut k q (suc n) es [] mild came = absurd came
  unl_cut k q (suc n) es (g ∷ gs) mild came = inr (gs, ap (λ g. g ∷ gs) (came.0.other refl refl), cut_mild k q n es gs mild came.1)

  pub mild_append : (fs gs : List Frame) → AllMildFor what fs → AllMildFor what gs → AllMildFor what (fs ++ gs)
  mild_append [] gs first more = more
  mild_append (f ∷ fs) gs first more = (first.0, mild_append fs gs first.1 more)

-- ---- what they leave of the drive

-- its medium, and its status, which may be told and then 0 where they ask for it; where it does not talk it sends nothing
pub record LeavesFor {M : Type 0} (what : Start) (v w : DriveView M) : Type 0 where
  pub status : StatusLeft what (status_of v.state) (status_of w.state)
  pub medium : w.medium ≡ v.medium
  pub silent : w.state.interface.roles.talks ≡ false → w.state.interface.own ≡ None

module _ {M : Type 0} (what : Start) where
  silent_when : (w : DriveView M) → IsMildFor what w.state → w.state.interface.roles.talks ≡ false → w.state.interface.own ≡ None
  silent_when w mild mute = by w.state.interface.own refl
    where
      by : (own : Option _) → w.state.interface.own ≡ own → w.state.interface.own ≡ None
      by None is = is
      by (Some own) is = let sends = subst (λ own. OneByte what own w.state.begun w.state.interface.roles.talks) is mild.sends in let clash : false ≡ true = sym mute ∙ sends.2 in cc

  leaves_for : (view : M → MediumView) (v w : DriveView M) → StaysMildFor what view v w → LeavesFor what v w
  leaves_for view v w stays = record { status = stays.status; medium = stays.medium; silent = silent_when w stays.mild }

  left_for : (view : M → MediumView) (gs : List Frame) (outs : List Out) (v w : DriveView M) → v.state.interface.own ≡ None → UnlFirstFor what gs → Ran view v gs outs w → LeavesFor what v w
  left_for view gs outs v w silent (inl nothing) ran = none outs (subst (λ gs. Ran view v gs outs w) nothing ran)
    where
      none : (outs : List Out) → Ran view v [] outs w → LeavesFor what v w
      none [] ran = subst (LeavesFor what v) (sym ran) (record { status = left_same what (status_of v.state) (status_of v.state) refl; medium = refl; silent = λ mute. silent })
      none (out ∷ outs) ran = absurd ran
  left_for view gs outs v w silent (inr some) ran = leaves_for view v w (unl_ran view some.0 outs v w silent some.2 (subst (λ gs. Ran view v gs outs w) some.1 ran))

left_drive : {M : Type 0} (v w : DriveView M) → LeavesFor start.Identity v w → LeavesDrive v w
left_drive v w left = record { status = left.status; medium = left.medium; silent = left.silent }

pub leaves_mild : {M : Type 0} (view : M → MediumView) (v w : DriveView M) → StaysMild view v w → LeavesDrive v w
leaves_mild view v w stays = left_drive v w (leaves_for start.Identity view v w stays)

pub leaves_then : {M : Type 0} (u v w : DriveView M) → LeavesDrive u v → LeavesDrive v w → LeavesDrive u w
leaves_then u v w first more = record { status = more.status ∙ first.status; medium = more.medium ∙ first.medium; silent = more.silent }

pub left_as_was : {M : Type 0} (v : DriveView M) → v.state.interface.own ≡ None → LeavesDrive v v
left_as_was v silent = record { status = refl; medium = refl; silent = λ mute. silent }

pub left_by : {M : Type 0} (view : M → MediumView) (gs : List Frame) (outs : List Out) (v w : DriveView M) → v.state.interface.own ≡ None → UnlFirst gs → Ran view v gs outs w → LeavesDrive v w
left_by view gs outs v w silent first ran = left_drive v w (left_for start.Identity view gs outs v w silent first ran)

-- ---- data frames

module _ (what : Start) where
  pub echo_mild : (d : Echo) → is_echo d ≡ true → mild_frame_for what d.sent ≡ true
  echo_mild d echo = ap (λ b. b || (is_identify d.sent || (is_exact (message_of d.sent) && (not (is_auto_address (message_of d.sent)) && is_mild_for what (message_of d.sent))))) (and_parts (is_data d.sent) (same_but_service d.sent d.back) echo).0

  pub echoes_mild : (p : ℕ) (ds : List Echo) (rest : List Entry) → list_all is_echo ds ≡ true → list_all (mild_entry_for what) rest ≡ true → list_all (mild_entry_for what) (map (echoed p) ds ++ rest) ≡ true
  echoes_mild p [] rest legal more = more
  echoes_mild p (d ∷ ds) rest legal more =
      let both = and_parts (is_echo d) (list_all is_echo ds) legal in
      and_from (mild_frame_for what d.sent) (list_all (mild_entry_for what) (map (echoed p) ds ++ rest)) (echo_mild d both.0) (echoes_mild p ds rest both.1 more)

-- ---- a receive

-- the talker is the drive or comes after it, or it stands before it
where_talker : (q : ℕ) (answer : Answer) → IfSome (talker_of answer) (λ p. q ≤ p) ⊎ (IfSome (talker_of answer) (λ p. p < q) × IsSome (talker_of answer))
where_talker q NotTaken = inl tt
where_talker q (ToItsEnd p ds) = elim (cases_lt p q) [ inl lt ↦ inr (lt, refl) | inr ge ↦ inl ge ]
where_talker q (Stopped p ds last) = elim (cases_lt p q) [ inl lt ↦ inr (lt, refl) | inr ge ↦ inl ge ]

-- the start message asks for no more
module _ (what : Start) (s : StartMessage) (asks : mild_frame_for what (start_frame s) ≡ true) where
  answer_mild : (answer : Answer) → is_answer 0 answer ≡ true → list_all (mild_entry_for what) (answer_entries 0 (start_frame s) answer ++ commanded 0 unt) ≡ true
  answer_mild NotTaken legal = and_from (mild_frame_for what (start_frame s)) true asks refl
  answer_mild (ToItsEnd p ds) legal =
      and_from (mild_frame_for what (start_frame s)) _ asks
      (subst (λ es. list_all (mild_entry_for what) es ≡ true) (sym (append_assoc (map (echoed p) ds) (entry p eto (outcome.Taken 0) ∷ []) (commanded 0 unt)))
      (echoes_mild what p ds (entry p eto (outcome.Taken 0) ∷ commanded 0 unt) (end_echoes p ds legal).1 refl))
  answer_mild (Stopped p ds last) legal =
      let echoes = stop_echoes p ds last legal in
      let end : List Entry = returned 0 nrd ∷ echoed p last ∷ entry p eto (outcome.Taken 0) ∷ [] in
      and_from (mild_frame_for what (start_frame s)) _ asks
      (subst (λ es. list_all (mild_entry_for what) es ≡ true) (sym (append_assoc (map (echoed p) ds) end (commanded 0 unt)))
      (echoes_mild what p ds (end ++ commanded 0 unt) echoes.0 (echoes_mild what p (last ∷ []) (entry p eto (outcome.Taken 0) ∷ commanded 0 unt) (and_from (is_echo last) true echoes.1 refl) refl)))

  tad_mild : (a : ℕ) → a ≤ 30 → mild_frame_for what (tad a) ≡ true
  tad_mild a low = ap (λ m. is_exact m && (not (is_auto_address m) && is_mild_for what m)) (message_of-tad a low)

  abbrev behind_unl : ℕ → Answer → List Entry
  behind_unl a answer = returned 0 rfc ∷ commanded 0 (tad a) ++ ([] ++ (answer_entries 0 (start_frame s) answer ++ commanded 0 unt))

  behind_mild : (a : ℕ) (answer : Answer) → a ≤ 30 → is_answer 0 answer ≡ true → list_all (mild_entry_for what) (behind_unl a answer) ≡ true
  behind_mild a answer low legal = and_from (mild_frame_for what (tad a)) _ (tad_mild a low) (answer_mild answer legal)

  -- after the talker: the commands in front, and what follows them
  far_first : (k q a : ℕ) (came before rest : List Frame) → a ≤ 30 → came ≡ before ++ rest → Brought k q (receive_front 0 a None) before → AllMildFor what rest → UnlFirstFor what came
  far_first k q a came before rest low all first mild =
      let front = front_plain k q a before first in
      inr (rfc ∷ tad a ∷ rfc ∷ rest, all ∙ ap (λ before. before ++ rest) front, (refl, (ap (is_mild_for what) (message_of-tad a low), (refl, mild))))

  as_behind : (k q a : ℕ) (answer : Answer) (came : List Frame) → Brought k q (entries_of 0 (Receive a None s answer)) came → Brought k q (returned 0 unl ∷ behind_unl a answer) came
  as_behind k q a answer came brought = subst (λ es. Brought k q es came) (entries_of-receive 0 a None s answer) brought

  as_cut : (k q a n : ℕ) (answer : Answer) (came : List Frame) → CutBrought k q (entries_of 0 (Receive a None s answer)) n came → CutBrought k q (returned 0 unl ∷ behind_unl a answer) n came
  as_cut k q a n answer came brought = subst (λ es. CutBrought k q es n came) (entries_of-receive 0 a None s answer) brought

  received_for : {M : Type 0} (view : M → MediumView) (a n : ℕ) (r : RingView M) (old new : List ℕ) (t : RingView M) → a ≤ 30 → r.drive.state.interface.own ≡ None → Received view a None s n r old new t → LeavesFor what r.drive t.drive
  received_for view a n r old new t low silent got =
      let k = length (devices_of r) in
      let q = drive_party r in
      let adds = got.made.whole.adds in
      let legal = legal_answer r a None s got.answer got.made.legal in
      left_for what view adds.came adds.answers r.drive t.drive silent
      (⊎_elim
      (λ (near : IfSome (talker_of got.answer) (λ p. q ≤ p)). unl_brought what k q (behind_unl a got.answer) adds.came (behind_mild a got.answer low legal) (as_behind k q a got.answer adds.came (got.made.whole.brought (receive_near q a None s got.answer near))))
      (λ (far : LiesAfter got.answer r).
      let passed = got.passed far in
      far_first k q a adds.came passed.before (passed.spoken ++ passed.after) low passed.all passed.first
      (mild_append what passed.spoken passed.after (spoken_mild what passed.spoken passed.during) (brought_mild what k q (commanded 0 unt) passed.after refl passed.last)))
      (where_talker q got.answer))
      adds.drive

  pub not_received_for : {M : Type 0} (view : M → MediumView) (a w : ℕ) (r t : RingView M) → a ≤ 30 → r.drive.state.interface.own ≡ None → NotReceived view a None s w r t → LeavesFor what r.drive t.drive
  not_received_for view a w r t low silent got =
      let k = length (devices_of r) in
      let q = drive_party r in
      let broke = got.broken.broke in
      let adds = broke.adds in
      let legal = legal_answer r a None s got.answer got.broken.legal in
      left_for what view adds.came adds.answers r.drive t.drive silent
      (⊎_elim
      (λ (near : IfSome (talker_of got.answer) (λ p. q ≤ p)). unl_cut what k q broke.standing (behind_unl a got.answer) adds.came (behind_mild a got.answer low legal) (as_cut k q a broke.standing got.answer adds.came (broke.brought (receive_near q a None s got.answer near))))
      (λ (far : LiesAfter got.answer r).
      let passed = got.passed far in
      far_first k q a adds.came passed.before (passed.spoken ++ passed.after) low passed.all passed.first
      (mild_append what passed.spoken passed.after (spoken_mild what passed.spoken passed.during)
      (⊎_elim (λ none. subst (AllMildFor what) (sym none.1) tt) (λ some. cut_mild what k q _ (commanded 0 unt) passed.after refl some.1) passed.last)))
      (where_talker q got.answer))
      adds.drive

-- of the accessory ID

pub received_leaves : {M : Type 0} (view : M → MediumView) (a n : ℕ) (r : RingView M) (old new : List ℕ) (s : RingView M) → a ≤ 30 → r.drive.state.interface.own ≡ None → Received view a None Sai n r old new s → LeavesDrive r.drive s.drive
received_leaves view a n r old new s low silent got = left_drive r.drive s.drive (received_for start.Identity Sai refl view a n r old new s low silent got)

pub not_received_leaves : {M : Type 0} (view : M → MediumView) (a w : ℕ) (r s : RingView M) → a ≤ 30 → r.drive.state.interface.own ≡ None → NotReceived view a None Sai w r s → LeavesDrive r.drive s.drive
not_received_leaves view a w r s low silent got = left_drive r.drive s.drive (not_received_for start.Identity Sai refl view a w r s low silent got)
