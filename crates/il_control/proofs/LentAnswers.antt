-- The drive answers each SST of a second controller that asks it for its status.
use Rattle.std.proofs.Common.{◌≡◌, ◌∙◌, ◌≤◌, ◌+◌, ◌++◌, ◌&&◌, ◌==◌, not, ℕ, suc, true, false, List, [], ◌∷◌, ⊎_elim, Option, None, length, refl, sym, ap, subst, arith}
use Rattle.std.specs.Prelude.{if◌then◌else◌}
use Rattle.std.specs.List.{list_all}
use Rattle.std.proofs.Math.Bool.{and-false}
use Rattle.std.proofs.lemmas.Bool.{and_from, and_parts, eqb-true, not-true}
use Rattle.il_frames.specs.declared.entry.Entry.{Entry}
use Rattle.il_frames.specs.declared.entry.Outcome.TheVariants as outcome
use Rattle.il_frames.specs.declared.frame.Frame.{Frame}
use Rattle.il_frames.specs.Messages.{message_of}
use Rattle.il_frames.specs.NamedFrames.{is_frame}
use Rattle.il_device.specs.declared.device.Out.{Out}
use Rattle.il_device.specs.declared.roles.Roles.{Roles}
use Rattle.il_device.specs.Roles.{is_own}
use Rattle.il_device.specs.State.{DeviceState}
use Rattle.il_drive.specs.Runs.{Ran}
use Rattle.il_drive.specs.State.{device_of}
use Rattle.il_drive.proofs.ExchangesStatus.{comes}
use Rattle.il_drive.proofs.Sending.{step_status}
use Rattle.il_ports.specs.Media.{MediumView}
use Rattle.loop_model.specs.Exchanges.{receive_front, returned}
use Rattle.loop_model.specs.Roles.{are_numbered, roles_after}
use Rattle.il_guest.specs.Frames.{sst}
use Rattle.il_ring.specs.Lists.{Each}
use Rattle.il_ring.specs.Rings.{RingView, devices_of, drive_party, roles_of}
use Rattle.il_ring.specs.Statuses.{answers_always, asked_after, asked_all, asked_after_message, is_asked, is_back, reports_none}
use Rattle.il_control.specs.Brought.{Brought}
use Rattle.il_control.specs.Calls.{Whole}
use Rattle.il_control.specs.Polling.{AskedSince}
use Rattle.il_control.specs.Receives.{IsCalm, own_frames}
use Rattle.il_control.proofs.LendHands.{asked_roles, asked_roles-front, first_of, rest_of, told_to_talk}
use Rattle.il_control.proofs.LentCame.{plain_came}
use Rattle.il_control.proofs.LentStatuses.{are_mute, asks_none, is_mute}

-- ---- logs one after the other

pub answers-append : (k a : ℕ) (asked : Option ℕ) (xs ys : List Entry) → answers_always k a asked xs ≡ true → answers_always k a (asked_all k asked xs) ys ≡ true → answers_always k a asked (xs ++ ys) ≡ true
answers-append k a asked [] ys first more = more
answers-append k a asked (x ∷ xs) ys first more =
    let parts = and_parts (not (is_asked a asked && reports_none k x)) (answers_always k a (asked_after k asked x) xs) first in
    and_from (not (is_asked a asked && reports_none k x)) (answers_always k a (asked_after k asked x) (xs ++ ys)) parts.0 (answers-append k a (asked_after k asked x) xs ys parts.1 more)

-- entries by which no SST came back
pub mute-answers : (k a : ℕ) (asked : Option ℕ) (log : List Entry) → list_all (λ e. not (reports_none k e)) log ≡ true → answers_always k a asked log ≡ true
mute-answers k a asked [] all = refl
mute-answers k a asked (e ∷ log) all =
    let parts = and_parts (not (reports_none k e)) (list_all (λ e. not (reports_none k e)) log) all in
    let none : reports_none k e ≡ false = not-true (reports_none k e) parts.0 in
    and_from (not (is_asked a asked && reports_none k e)) (answers_always k a (asked_after k asked e) log) (ap (λ b. not (is_asked a asked && b)) none ∙ ap not (and-false (is_asked a asked)))
    (mute-answers k a (asked_after k asked e) log parts.1)

pub are_mute-answers : (k a : ℕ) (asked : Option ℕ) (log : List Entry) → are_mute k log ≡ true → answers_always k a asked log ≡ true
are_mute-answers k a asked log all = mute-answers k a asked log (by log all)
  where
    by : (log : List Entry) → are_mute k log ≡ true → list_all (λ e. not (reports_none k e)) log ≡ true
    by [] all = refl
    by (e ∷ log) all =
        let parts = and_parts (is_mute k e) (are_mute k log) all in
        and_from (not (reports_none k e)) (list_all (λ e. not (reports_none k e)) log) (and_parts (not (reports_none k e)) _ parts.0).0 (by log parts.1)

-- before an address is asked
pub answers-front : (k a : ℕ) (front log : List Entry) → asks_none k front ≡ true → answers_always k a None log ≡ true → answers_always k a None (front ++ log) ≡ true
answers-front k a [] log none answers = answers
answers-front k a (x ∷ front) log none answers =
    let parts = and_parts (not (x.source == k)) (asks_none k front) none in
    ap (λ own. answers_always k a (if own then asked_after_message None (message_of x.frame) else None) (front ++ log)) (not-true (x.source == k) parts.0)
    ∙ answers-front k a front log parts.1 answers

-- none of the host's entries does
pub hosts-answers : (k a : ℕ) → (0 == k) ≡ false → (log : List Entry) → list_all (λ e. e.source == 0) log ≡ true → answers_always k a None log ≡ true
hosts-answers k a other log hosts = mute-answers k a None log (by log hosts)
  where
    by : (log : List Entry) → list_all (λ e. e.source == 0) log ≡ true → list_all (λ e. not (reports_none k e)) log ≡ true
    by [] hosts = refl
    by (e ∷ log) hosts =
        let parts = and_parts (e.source == 0) (list_all (λ e. e.source == 0) log) hosts in
        let source : (e.source == k) ≡ false = ap (λ s. s == k) (eqb-true e.source 0 parts.0) ∙ other in
        and_from (not (reports_none k e)) (list_all (λ e. not (reports_none k e)) log) (ap (λ b. not (b && (is_frame e.frame sst && is_back e.outcome))) source) (by log parts.1)

-- ---- the device that is asked talks

-- of numbered devices after TAD a
talks_at : (a party : ℕ) (bs : List DeviceState) (d : DeviceState) (cs : List DeviceState) (rs : List Roles) → roles_of (bs ++ d ∷ cs) ≡ asked_roles a rs → are_numbered party rs ≡ true → a ≡ party + length bs → d.roles.talks ≡ true
talks_at a party [] d cs [] same numbers at = cc
talks_at a party [] d cs (r ∷ rs) same numbers at =
    let own = (and_parts (is_own r.address party) (are_numbered (suc party) rs) numbers).0 in
    let here : a ≡ party = omega (arith, at) in
    ap (λ rs. (first_of rs).talks) same ∙ told_to_talk a r ∙ ap (is_own r.address) here ∙ own
talks_at a party (b ∷ bs) d cs [] same numbers at = cc
talks_at a party (b ∷ bs) d cs (r ∷ rs) same numbers at =
    talks_at a (suc party) bs d cs rs (ap rest_of same) (and_parts (is_own r.address party) (are_numbered (suc party) rs) numbers).1 (omega (arith, at))

-- each of them
each_at : (P : ℕ → DeviceState → Type 0) (j : ℕ) (bs : List DeviceState) (d : DeviceState) (cs : List DeviceState) → Each P j (bs ++ d ∷ cs) → P (j + length bs) d
each_at P j [] d cs each = let here : j ≡ j + 0 = omega arith in subst (λ j. P j d) here each.0
each_at P j (b ∷ bs) d cs each = let here : j + 1 + length bs ≡ j + length (b ∷ bs) = omega arith in subst (λ j. P j d) here (each_at P (j + 1) bs d cs each.1)

-- ---- SST

module _ {M : Type 0} (view : M → MediumView) (m n : RingView M) (a : ℕ) (low : a ≤ 30) (calm : Each IsCalm 1 (devices_of m)) (since : AskedSince (λ since. since ≡ receive_front 0 a None) (devices_of m)) where
  drive_talks : a ≡ drive_party m → m.drive.state.interface.roles.talks ≡ true
  drive_talks at =
      talks_at a 1 m.before (device_of m.drive.state) m.after since.before
      (since.roles ∙ ap (roles_after since.before) since.made ∙ asked_roles-front a since.before since.numbered since.silent low) since.numbered (omega (arith, at))

  drive_calm : m.drive.state.interface.own ≡ None
  drive_calm = (each_at IsCalm 1 m.before (device_of m.drive.state) m.after calm).1

  -- the drive does not let SST pass if it is asked
  pub not_untold : (whole : Whole view m (returned 0 sst ∷ []) n) → own_frames whole.adds.answers ≡ [] → a ≡ drive_party m → ⊥
  not_untold whole said at = by whole.adds.came whole.adds.answers (whole.brought refl) whole.adds.drive said
    where
      ran_one : (outs : List Out) → Ran view m.drive (sst ∷ []) outs n.drive → own_frames outs ≡ [] → ⊥
      ran_one outs ran said =
          let told = comes view sst _ _ outs m.drive n.drive (step_status (view m.drive.medium).record_count m.drive.state (drive_talks at) drive_calm) ran in
          let clash = sym (ap own_frames told.answer) ∙ said in cc

      by : (gs : List Frame) (outs : List Out) → Brought (length (devices_of m)) (drive_party m) (returned 0 sst ∷ []) gs → Ran view m.drive gs outs n.drive → own_frames outs ≡ [] → ⊥
      by [] outs came ran said = came
      by (g ∷ gs) outs came ran said = ⊎_elim
          (λ none. let clash = none in cc)
          (λ one. ran_one outs (subst (λ gs. Ran view m.drive gs outs n.drive) one ran) said)
          (plain_came (length (devices_of m)) (drive_party m) 0 sst (outcome.Back sst) (g ∷ gs) refl came)
