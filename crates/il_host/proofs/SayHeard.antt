-- What the devices heard of the log of a command that sends bytes to one of them, after exchanges in which none heard anything.
use Rattle.std.proofs.Common.{◌≡◌, ◌≢◌, ◌≤◌, ◌<◌, ◌+◌, ◌++◌, ◌==◌, ◌∙◌, ℕ, Bool, true, false, List, [], length, take, refl, sym, ap, ap₂, subst, arith, append-nil}
use Rattle.std.specs.Prelude.{MatchBool}
use Rattle.std.proofs.lemmas.Bool.{eq-eqb}
use Rattle.std.proofs.lemmas.Map.Views.{exact_unsigned_eq}
use Rattle.il_frames.specs.declared.entry.Entry.{Entry}
use Rattle.il_device.specs.State.{DeviceState}
use Rattle.il_device.specs.declared.roles.Roles.{Roles}
use Rattle.loop_model.specs.Hearing.{heard_by}
use Rattle.loop_model.specs.Listening.{HearsAll, HearsInPart}
use Rattle.loop_model.proofs.HearLaws.{heard_by-append}
use Rattle.il_ring.specs.Outcomes.{HearsNothing}
use Rattle.il_ring.specs.Rings.{RingView, devices_of, drive_party, roles_of}
use Rattle.il_control.proofs.Calls.{hears_then}
use Rattle.il_record.specs.Came.{OnlyHeard, heard_on}
use Rattle.host_model.specs.LoopStates.{all_roles, device_count}
use Rattle.host_model.specs.RingStates.{loop_on}
use Rattle.host_model.specs.Next.{BoxedBecome}
use Rattle.host_model.specs.Steps.{HearsLog}
use Rattle.host_model.proofs.RingStates.{count_on, roles_on}
use Rattle.host_model.proofs.Steps.{boxed_then}
use Rattle.il_host.proofs.Devices.{boxed_by}
use Rattle.il_host.proofs.LoopNext.{hears_all}
use Rattle.il_host.proofs.VolumeNext.{each_within}

-- the device heard these bytes, and then, where the exchange broke off, at most one more of any value
pub record HeardSome (whole : Bool) (bytes : List ℕ) (d e : DeviceState) : Type 0 where
  pub more : List ℕ
  pub few : length more ≤ 1
  pub none : whole ≡ true → more ≡ []
  pub heard : HearsAll (bytes ++ more) d e

-- party a heard so, and each other device nothing
abbrev pub HeardAt : ℕ → Bool → List ℕ → ℕ → DeviceState → DeviceState → Type 0
HeardAt a whole bytes party d e = MatchBool (party == a) (HeardSome whole bytes d e) (HearsNothing d e)

-- all bytes, and the first ones
pub heard_whole : (b : Bool) (bytes : List ℕ) (d e : DeviceState) → MatchBool b (HearsAll bytes d e) (HearsNothing d e) → MatchBool b (HeardSome true bytes d e) (HearsNothing d e)
heard_whole true bytes d e h = record { more = []; few = omega arith; none = λ is. refl; heard = subst (λ bytes. HearsAll bytes d e) (sym (append-nil bytes)) h }
heard_whole false bytes d e h = h

pub heard_front : (b : Bool) (whole : ℕ) (bytes : List ℕ) (d e : DeviceState) → MatchBool b (HearsInPart whole bytes d e) (HearsNothing d e) → MatchBool b (HeardSome false (take whole bytes) d e) (HearsNothing d e)
heard_front true whole bytes d e h = record { more = h.more; few = h.few; none = λ is. cc; heard = h.heard }
heard_front false whole bytes d e h = h

-- beside the drive, and it heard nothing
abbrev Silent : ℕ → ℕ → ℕ → DeviceState → DeviceState → Type 0
Silent n drive party d e = (1 ≤ party) × (party ≤ n) × (party ≢ drive) × HearsNothing d e

-- none but the drive heard anything as r became n, and then none but party a as n became s
module _ {M : Type 0} (r n s : RingView M) (empty : r.books.log ≡ []) (first : OnlyHeard (drive_party r) r n) (a : ℕ) (told : OnlyHeard a n s) where
  abbrev both : List Entry
  both = first.entries ++ told.entries

  log_is : s.books.log ≡ both
  log_is = told.log ∙ ap (λ (log : List Entry). log ++ told.entries) (first.log ∙ ap (λ (log : List Entry). log ++ first.entries) empty)

  -- what a party beside the drive heard of all
  heard_behind : (k : ℕ) → 1 ≤ k → k ≤ length (devices_of r) → k ≢ drive_party r → heard_on r k both ≡ heard_on n k told.entries
  heard_behind k some here other =
      heard_by-append (length (devices_of r)) k (roles_of (devices_of r)) first.entries told.entries
      ∙ ap₂ (λ (m : ℕ) (rs : List Roles). heard_on r k first.entries ++ heard_by m k rs told.entries) (sym first.size) (sym first.roles)
      ∙ ap (λ (bytes : List ℕ). bytes ++ heard_on n k told.entries) (first.by_log k some here other)

  silent : length n.before ≡ length r.before → BoxedBecome (Silent (length (devices_of r)) (drive_party r)) (loop_on r) (loop_on n)
  silent place =
      boxed_by (λ party d e. (1 ≤ party) × (party < 1 + length (devices_of r)) × (party ≢ drive_party r → HearsNothing d e)) (Silent (length (devices_of r)) (drive_party r)) r n place
      (λ party d e other h. let high = h.1 in (h.0, omega (arith, high), other, h.2 other))
      (each_within (drive_party r) 1 (devices_of r) (devices_of n) first.unheard)

  module _ (whole : Bool) (bytes : List ℕ) (by_log : 1 ≤ a → a ≤ length (devices_of n) → heard_on n a told.entries ≡ bytes) where
    abbrev Logged : ℕ → DeviceState → DeviceState → Type 0
    Logged party d e = HearsLog (length (devices_of r)) (roles_of (devices_of r)) both whole party d e

    -- the device that the bytes went to
    logged_here : (d e f : DeviceState) → Silent (length (devices_of r)) (drive_party r) a d e → HeardSome whole bytes e f → Logged a d f
    logged_here d e f quiet some =
        let inside = quiet.1 in
        let is : heard_on r a both ≡ bytes = heard_behind a quiet.0 quiet.1 quiet.2 ∙ by_log quiet.0 (omega (arith, inside, first.size)) in
        record {
          more = some.more;
          few = some.few;
          none = some.none;
          heard = subst (λ told. HearsAll (told ++ some.more) d f) (sym is) (hears_all (bytes ++ some.more) d e f quiet.3 some.heard);
        }

    -- another
    logged_other : (party : ℕ) (d e f : DeviceState) → party ≢ a → Silent (length (devices_of r)) (drive_party r) party d e → HearsNothing e f → Logged party d f
    logged_other party d e f other quiet nothing =
        let inside = quiet.1 in
        let is : heard_on r party both ≡ [] = heard_behind party quiet.0 quiet.1 quiet.2 ∙ told.by_log party quiet.0 (omega (arith, inside, first.size)) other in
        let none = hears_then d e f quiet.3 nothing in
        record {
          more = [];
          few = omega arith;
          none = λ is. refl;
          heard = subst (λ told. HearsAll (told ++ []) d f) (sym is) (record { heard = none.heard; heard_count = none.heard_count; room = none.room; accessory = none.accessory });
        }

    logged : (party : ℕ) (d e f : DeviceState) → Silent (length (devices_of r)) (drive_party r) party d e → HeardAt a whole bytes party e f → Logged party d f
    logged party d e f quiet h = by (party == a) refl h
      where
        by : (b : Bool) → (party == a) ≡ b → MatchBool b (HeardSome whole bytes e f) (HearsNothing e f) → Logged party d f
        by true same h =
            let is : party ≡ a = exact_unsigned_eq party a same in
            subst (λ k. Logged k d f) (sym is) (logged_here d e f (subst (λ k. Silent (length (devices_of r)) (drive_party r) k d e) is quiet) h)
        by false differs h = logged_other party d e f (λ is. let clash : true ≡ false = sym (eq-eqb party a is) ∙ differs in cc) quiet h

    -- what the devices heard, by the log
    pub say_heard : length n.before ≡ length r.before → BoxedBecome (HeardAt a whole bytes) (loop_on n) (loop_on s) → BoxedBecome (HearsLog (device_count (loop_on r)) (all_roles (loop_on r)) s.books.log whole) (loop_on r) (loop_on s)
    say_heard place heard =
        let all = boxed_then (Silent (length (devices_of r)) (drive_party r)) (HeardAt a whole bytes) Logged logged (loop_on r) (loop_on n) (loop_on s) (silent place) heard in
        subst (λ (es : List Entry). BoxedBecome (HearsLog (device_count (loop_on r)) (all_roles (loop_on r)) es whole) (loop_on r) (loop_on s)) (sym log_is)
        (subst (λ (rs : List Roles). BoxedBecome (HearsLog (device_count (loop_on r)) rs both whole) (loop_on r) (loop_on s)) (sym (roles_on r))
        (subst (λ k. BoxedBecome (HearsLog k (roles_of (devices_of r)) both whole) (loop_on r) (loop_on s)) (sym (count_on r)) all))
