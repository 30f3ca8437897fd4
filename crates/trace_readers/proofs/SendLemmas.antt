-- What a send does to the course of a log, and what AAD and IDY do.
use Rattle.std.proofs.Common.{eqb-true, ◌≡◌, ◌∙◌, nat_lt, ◌&&◌, ◌||◌, ◌==◌, ◌++◌, ℕ, suc, zero, Bool, true, false, List, [], ◌∷◌, map, length, Option, Some, None, refl, sym, ap, subst}
use Rattle.std.specs.Prelude.{if◌then◌else◌}
use Rattle.std.specs.List.{list_all}
use Rattle.std.proofs.lemmas.Bool.{and_parts, and_from}
use Rattle.il_frames.specs.declared.frame.Class.TheVariants as class
use Rattle.il_frames.specs.declared.frame.Frame.{Frame}
use Rattle.il_frames.specs.declared.entry.Outcome.TheVariants as outcome
use Rattle.il_frames.specs.Frames.{framed, class_of, same_class}
use Rattle.il_frames.specs.NamedFrames.{entry, rfc, lad, ddl, aad}
use Rattle.loop_model.specs.Exchanges.{Echo, Exchange, Address, Send, Identify, returned, echoed, bytes_of, entries_of, is_echo, is_host_echo, is_address, is_number, Break, FrameLost, HostAltered, TalkerAltered, cut_at, can_cut, Whole, Cut}
use Rattle.loop_model.specs.Units.{sent_bytes, is_send, is_transfer, number_of, sought}
use Rattle.loop_model.proofs.UnitLaws.{sent_bytes-send}
use Rattle.trace_readers.specs.declared.exchanges.Fate.TheVariants as fate
use Rattle.trace_readers.specs.declared.effects.Cue.{Cue}
use Rattle.trace_readers.specs.declared.effects.Cue.TheVariants as cue
use Rattle.trace_readers.specs.declared.effects.Progress.{Progress}
use Rattle.trace_readers.specs.declared.effects.Progress.TheVariants as progress_to
use Rattle.trace_readers.specs.declared.effects.Stage.{Stage}
use Rattle.trace_readers.specs.declared.effects.Stage.TheVariants as stage
use Rattle.trace_readers.specs.Places.{fate_of}
use Rattle.trace_readers.specs.Expected.{write_unit}
use Rattle.trace_readers.specs.Effects.{Signal, signal_of, Course, after_heard}
use Rattle.trace_readers.proofs.UnitLemmas.{State, Idle, Found, Moved, found, moved, moved_if, unit_by}
use Rattle.trace_readers.proofs.WalkLemmas.{at, heard, Quiet, All, quiet_append, walk_after, is_idle, is_outside, is_command, is_dull, lost_command, command_heard, command_unready, returned_is, lad_at, ddl_at, is_mute, after_bytes, mute_data, mute_cut, writing_data, writing_cut, some_sent, positive}
use Rattle.trace_readers.proofs.PieceLemmas.{written, Fits, progress_of, fits_progress, fits_outside, Same, Followed, ring, calm_cut, calm_whole, silent_next, silent_cut, whole_step, cut_step, like_poll, single_quiet}

module _ (k d : ℕ) (low : is_address d ≡ true) where
  -- ---- Address and Identify

  pub address_whole : (s : State) (c : Course) (n : ℕ) → Fits s c → Followed k d low s c (Whole (Address n))
  address_whole s c n fits =
      whole_step k d low s c (Address n) (at stage.Clear c.bytes)
      (All (single_quiet k d low c.stage c.bytes (fate_of (aad 1) (outcome.Back (aad (suc n))))
      (fits_outside s c fits)) refl)
      refl refl (silent_next k d low s (Address n) (at stage.Clear c.bytes) refl refl)

  pub address_cut : (s : State) (c : Course) (n m : ℕ) (b : Break) → Fits s c →
      can_cut 0 (entries_of 0 (Address n)) m b ≡ true → Followed k d low s c (Cut (Address n) m b)
  address_cut s c n zero (FrameLost q) fits can =
      cut_step k d low s c (Address n) 0 (FrameLost q) (at stage.Clear c.bytes)
      (single_quiet k d low c.stage c.bytes fate.Lost (fits_outside s c fits)) refl
      (silent_cut k d low s (Address n) 0 (FrameLost q) refl refl)
  address_cut s c n zero (HostAltered g) fits can = cc
  address_cut s c n zero (TalkerAltered g end) fits can = cc
  address_cut s c n (suc m) b fits can = cc

  pub identify_whole : (s : State) (c : Course) (f : Frame) → Fits s c → Followed k d low s c (Whole (Identify f))
  identify_whole s c f fits =
      whole_step k d low s c (Identify f) (at stage.Clear c.bytes)
      (All (single_quiet k d low c.stage c.bytes (fate_of (framed class.Idy 0x00) (outcome.Back f))
      (fits_outside s c fits)) refl)
      refl refl (silent_next k d low s (Identify f) (at stage.Clear c.bytes) refl refl)

  pub identify_cut : (s : State) (c : Course) (f : Frame) (m : ℕ) (b : Break) → Fits s c →
      can_cut 0 (entries_of 0 (Identify f)) m b ≡ true → Followed k d low s c (Cut (Identify f) m b)
  identify_cut s c f zero (FrameLost q) fits can =
      cut_step k d low s c (Identify f) 0 (FrameLost q) (at stage.Clear c.bytes)
      (single_quiet k d low c.stage c.bytes fate.Lost (fits_outside s c fits)) refl
      (silent_cut k d low s (Identify f) 0 (FrameLost q) refl refl)
  identify_cut s c f zero (HostAltered g) fits can = cc
  identify_cut s c f zero (TalkerAltered g end) fits can = cc
  identify_cut s c f (suc m) b fits can = cc

  -- ---- the commands of a send

  abbrev lad_cue : ℕ → Cue
  lad_cue a = if a == d then cue.Listen else cue.Other

  abbrev ddl_cue : ℕ → Cue
  ddl_cue j = if j == 2 then cue.Write else if j == 4 then cue.Seek else cue.Other

  lad_kind : (b : Bool) → (is_command (if b then cue.Listen else cue.Other) ≡ true)
      × (is_dull (if b then cue.Listen else cue.Other) ≡ true)
  lad_kind true = (refl, refl)
  lad_kind false = (refl, refl)

  ddl_kind : (b2 b4 : Bool) → (is_command (if b2 then cue.Write else if b4 then cue.Seek else cue.Other) ≡ true)
      × (is_dull (if b2 then cue.Write else if b4 then cue.Seek else cue.Other) ≡ true)
  ddl_kind true b4 = (refl, refl)
  ddl_kind false true = (refl, refl)
  ddl_kind false false = (refl, refl)

  -- the stage after the drive's listen address, or that of another device; and after a DDL
  abbrev after_lad : Progress → Bool → Stage
  after_lad p b = after_heard (stage.Unlistened p) (if b then cue.Listen else cue.Other)

  abbrev after_ddl : Progress → Bool → Bool → Bool → Stage
  after_ddl p b b2 b4 = after_heard (after_lad p b) (if b2 then cue.Write else if b4 then cue.Seek else cue.Other)

  lad_outside : (p : Progress) (b : Bool) → is_outside (after_lad p b) ≡ true
  lad_outside p true = refl
  lad_outside p false = refl

  module _ (s : State) (c : Course) (fits : Fits s c) where
    abbrev p : Progress
    p = progress_of s

    pub unl_heard : Quiet c (heard cue.Unlisten fate.Returned ∷ heard cue.Ready fate.Returned ∷ []) (at
        (stage.Unlistened p) c.bytes)
    unl_heard =
        subst (λ (x : Progress). Quiet c (heard cue.Unlisten fate.Returned ∷ heard cue.Ready fate.Returned ∷ [])
        (at (stage.Unlistened x) c.bytes)) (fits_progress s c fits)
        (command_heard c.stage cue.Unlisten c.bytes (fits_outside s c fits) refl)

    -- the listen address of a device
    module _ (a : ℕ) (small : is_address a ≡ true) where
      abbrev front : List Signal
      front = heard cue.Unlisten fate.Returned ∷ heard cue.Ready fate.Returned ∷ []

      lad_is : signal_of d (returned 0 (lad a)) ≡ heard (lad_cue a) fate.Returned
      lad_is = returned_is d low (lad a) ∙ ap (λ (v : Cue). heard v fate.Returned) (lad_at d low a small)

      lad_lost : (q : ℕ) → Quiet c (front ++ signal_of d (entry 0 (lad a) (outcome.Lost q)) ∷ [])
          (at stage.Clear c.bytes)
      lad_lost q =
          quiet_append c (at (stage.Unlistened p) c.bytes) (at stage.Clear c.bytes) front (signal_of d (entry 0
          (lad a) (outcome.Lost q)) ∷ []) unl_heard
          (subst (λ (v : Cue). Quiet (at (stage.Unlistened p) c.bytes) (heard v fate.Lost ∷ [])
          (at stage.Clear c.bytes))
          (sym (lad_at d low a small))
          (lost_command (stage.Unlistened p) (lad_cue a) c.bytes refl (lad_kind (a == d)).0 (lad_kind (a == d)).1))

      lad_unready : (q : ℕ) →
          Quiet c (front ++ signal_of d (returned 0 (lad a)) ∷ signal_of d (entry 0 rfc (outcome.Lost q)) ∷ [])
          (at stage.Clear c.bytes)
      lad_unready q =
          quiet_append c (at (stage.Unlistened p) c.bytes) (at stage.Clear c.bytes) front (signal_of d (returned 0
          (lad a)) ∷ signal_of d (entry 0 rfc (outcome.Lost q)) ∷ []) unl_heard
          (subst (λ (x : Signal). Quiet (at (stage.Unlistened p) c.bytes) (x ∷ heard cue.Ready fate.Lost ∷ [])
          (at stage.Clear c.bytes)) (sym lad_is)
          (command_unready (stage.Unlistened p) (lad_cue a) c.bytes refl (lad_kind (a == d)).0 (lad_kind (a == d)).1))

      abbrev lad_front : List Signal
      lad_front = front ++ signal_of d (returned 0 (lad a)) ∷ signal_of d (returned 0 rfc) ∷ []

      lad_heard : Quiet c lad_front (at (after_lad p (a == d)) c.bytes)
      lad_heard =
          quiet_append c (at (stage.Unlistened p) c.bytes) (at (after_lad p (a == d)) c.bytes) front (signal_of d
          (returned 0 (lad a)) ∷ signal_of d (returned 0 rfc) ∷ []) unl_heard
          (subst (λ (x : Signal). Quiet (at (stage.Unlistened p) c.bytes) (x ∷ heard cue.Ready fate.Returned ∷ [])
          (at (after_lad p (a == d)) c.bytes)) (sym lad_is)
          (command_heard (stage.Unlistened p) (lad_cue a) c.bytes refl (lad_kind (a == d)).0))

      -- and a number
      module _ (j : ℕ) (short : is_number (Some j) ≡ true) where
        ddl_is : signal_of d (returned 0 (ddl j)) ≡ heard (ddl_cue j) fate.Returned
        ddl_is = returned_is d low (ddl j) ∙ ap (λ (v : Cue). heard v fate.Returned) (ddl_at d low j short)

        ddl_lost : (q : ℕ) →
            Quiet c (lad_front ++ signal_of d (entry 0 (ddl j) (outcome.Lost q)) ∷ []) (at stage.Clear c.bytes)
        ddl_lost q =
            quiet_append c (at (after_lad p (a == d)) c.bytes) (at stage.Clear c.bytes) lad_front (signal_of d
            (entry 0 (ddl j) (outcome.Lost q)) ∷ []) lad_heard
            (subst (λ (v : Cue). Quiet (at (after_lad p (a == d)) c.bytes) (heard v fate.Lost ∷ [])
            (at stage.Clear c.bytes))
            (sym (ddl_at d low j short))
            (lost_command (after_lad p (a == d)) (ddl_cue j) c.bytes (lad_outside p (a == d))
            (ddl_kind (j == 2) (j == 4)).0 (ddl_kind (j == 2) (j == 4)).1))

        ddl_unready : (q : ℕ) →
            Quiet c (lad_front ++ signal_of d (returned 0 (ddl j)) ∷ signal_of d (entry 0 rfc (outcome.Lost q)) ∷ [])
            (at stage.Clear c.bytes)
        ddl_unready q =
            quiet_append c (at (after_lad p (a == d)) c.bytes) (at stage.Clear c.bytes) lad_front (signal_of d
            (returned 0 (ddl j)) ∷ signal_of d (entry 0 rfc (outcome.Lost q)) ∷ []) lad_heard
            (subst (λ (x : Signal). Quiet (at (after_lad p (a == d)) c.bytes) (x ∷ heard cue.Ready fate.Lost ∷ [])
            (at stage.Clear c.bytes)) (sym ddl_is)
            (command_unready (after_lad p (a == d)) (ddl_cue j) c.bytes (lad_outside p (a == d))
            (ddl_kind (j == 2) (j == 4)).0 (ddl_kind (j == 2) (j == 4)).1))

        abbrev ddl_front : List Signal
        ddl_front = lad_front ++ signal_of d (returned 0 (ddl j)) ∷ signal_of d (returned 0 rfc) ∷ []

        ddl_heard : Quiet c ddl_front (at (after_ddl p (a == d) (j == 2) (j == 4)) c.bytes)
        ddl_heard =
            quiet_append c (at (after_lad p (a == d)) c.bytes) (at (after_ddl p (a == d) (j == 2) (j == 4)) c.bytes)
            lad_front (signal_of d (returned 0 (ddl j)) ∷ signal_of d (returned 0 rfc) ∷ []) lad_heard
            (subst (λ (x : Signal). Quiet (at (after_lad p (a == d)) c.bytes) (x ∷ heard cue.Ready fate.Returned ∷ [])
            (at (after_ddl p (a == d) (j == 2) (j == 4)) c.bytes)) (sym ddl_is)
            (command_heard (after_lad p (a == d)) (ddl_cue j) c.bytes (lad_outside p (a == d))
            (ddl_kind (j == 2) (j == 4)).0))

  -- ---- what a send without a number of the drive's is

  abbrev is_flat : Stage → Bool
  is_flat stage.Clear = true
  is_flat (stage.Listening p) = true
  is_flat u = false

  flat_mute : (u : Stage) → is_flat u ≡ true → is_mute u ≡ true
  flat_mute stage.Clear flat = refl
  flat_mute (stage.Listening p) flat = refl
  flat_mute u flat = cc

  clear_idle : (bytes : List ℕ) → is_idle (after_bytes stage.Clear bytes) ≡ true
  clear_idle [] = refl
  clear_idle (byte ∷ bytes) = clear_idle bytes

  flat_idle : (u : Stage) (bytes : List ℕ) → is_flat u ≡ true → is_idle (after_bytes u bytes) ≡ true
  flat_idle stage.Clear bytes flat = clear_idle bytes
  flat_idle (stage.Listening p) [] flat = refl
  flat_idle (stage.Listening p) (byte ∷ bytes) flat = clear_idle bytes
  flat_idle u bytes flat = cc

  lad_flat : (p : Progress) (b : Bool) → is_flat (after_lad p b) ≡ true
  lad_flat p true = refl
  lad_flat p false = refl

  host_echoes : (ds : List Echo) → list_all is_host_echo ds ≡ true → list_all is_echo ds ≡ true
  host_echoes [] e = refl
  host_echoes (x ∷ ds) e =
      let parts = and_parts (is_host_echo x) (list_all is_host_echo ds) e in
      and_from _ _ (and_parts (same_class (class_of x.sent) class.Dab) (is_echo x) parts.0).1 (host_echoes ds parts.1)

  -- without a number
  pub bare_whole : (s : State) (c : Course) (a : ℕ) (ds : List Echo) → Fits s c → is_address a ≡ true →
      list_all is_host_echo ds ≡ true → Followed k d low s c (Whole (Send a None ds))
  bare_whole s c a ds fits small echoes =
      let u = after_lad (progress_of s) (a == d) in
      let flat = lad_flat (progress_of s) (a == d) in
      let t = at (after_bytes u (bytes_of ds)) c.bytes in
      whole_step k d low s c (Send a None ds) t
      (All (quiet_append c (at u c.bytes) t (lad_front s c fits a small) (map (signal_of d) (map (echoed 0) ds))
      (lad_heard s c fits a small) (mute_data d low u c.bytes ds (flat_mute u flat)
      (host_echoes ds echoes))) refl) refl refl
      (silent_next k d low s (Send a None ds) t (flat_idle u (bytes_of ds) flat) refl)

  pub bare_cut : (s : State) (c : Course) (a : ℕ) (ds : List Echo) (m : ℕ) (b : Break) → Fits s c →
      is_address a ≡ true → list_all is_host_echo ds ≡ true → can_cut 0 (entries_of 0 (Send a None ds)) m b ≡ true →
      Followed k d low s c (Cut (Send a None ds) m b)
  bare_cut s c a ds zero (FrameLost q) fits small echoes can =
      like_poll k d low s c (Send a None ds) 0 q (FrameLost q) fits refl refl refl
      (silent_cut k d low s (Send a None ds) 0 (FrameLost q) refl refl)
  bare_cut s c a ds (suc zero) (FrameLost q) fits small echoes can =
      like_poll k d low s c (Send a None ds) 1 q (FrameLost q) fits refl refl refl
      (silent_cut k d low s (Send a None ds) 1 (FrameLost q) refl refl)
  bare_cut s c a ds (suc (suc zero)) (FrameLost q) fits small echoes can =
      cut_step k d low s c (Send a None ds) 2 (FrameLost q) (at stage.Clear c.bytes) (lad_lost s c fits a small q) refl
      (silent_cut k d low s (Send a None ds) 2 (FrameLost q) refl refl)
  bare_cut s c a ds (suc (suc (suc zero))) (FrameLost q) fits small echoes can =
      cut_step k d low s c (Send a None ds) 3 (FrameLost q) (at stage.Clear c.bytes)
      (lad_unready s c fits a small q) refl
      (silent_cut k d low s (Send a None ds) 3 (FrameLost q) refl refl)
  bare_cut s c a ds zero (HostAltered g) fits small echoes can = cc
  bare_cut s c a ds zero (TalkerAltered g end) fits small echoes can = cc
  bare_cut s c a ds (suc zero) (HostAltered g) fits small echoes can = cc
  bare_cut s c a ds (suc zero) (TalkerAltered g end) fits small echoes can = cc
  bare_cut s c a ds (suc (suc zero)) (HostAltered g) fits small echoes can = cc
  bare_cut s c a ds (suc (suc zero)) (TalkerAltered g end) fits small echoes can = cc
  bare_cut s c a ds (suc (suc (suc zero))) (HostAltered g) fits small echoes can = cc
  bare_cut s c a ds (suc (suc (suc zero))) (TalkerAltered g end) fits small echoes can = cc
  bare_cut s c a ds (suc (suc (suc (suc m)))) b fits small echoes can =
      let u = after_lad (progress_of s) (a == d) in
      cut_step k d low s c (Send a None ds) (suc (suc (suc (suc m)))) b (at stage.Clear c.bytes)
      (quiet_append c (at u c.bytes) (at stage.Clear c.bytes) (lad_front s c fits a small)
      (map (signal_of d) (cut_at (map (echoed 0) ds) m b)) (lad_heard s c fits a small)
      (mute_cut d low u c.bytes ds m b (flat_mute u (lad_flat (progress_of s) (a == d))) (host_echoes ds echoes) can))
      refl (silent_cut k d low s (Send a None ds) (suc (suc (suc (suc m)))) b refl refl)

  -- ---- a send under a number

  no_bytes : (b : Bool) → (((b && false) || false) && b) ≡ false
  no_bytes true = refl
  no_bytes false = refl

  abbrev is_front : ℕ → Bool
  is_front zero = true
  is_front (suc zero) = true
  is_front (suc (suc zero)) = true
  is_front (suc (suc (suc zero))) = true
  is_front (suc (suc (suc (suc zero)))) = true
  is_front (suc (suc (suc (suc (suc zero))))) = true
  is_front (suc (suc (suc (suc (suc (suc m)))))) = false

  front_cut : (s : State) (c : Course) (a j : ℕ) (ds : List Echo) (m : ℕ) (b : Break) → Fits s c →
      is_address a ≡ true → is_number (Some j) ≡ true → is_front m ≡ true →
      can_cut 0 (entries_of 0 (Send a (Some j) ds)) m b ≡ true → Followed k d low s c (Cut (Send a (Some j) ds) m b)
  front_cut s c a j ds zero (FrameLost q) fits small short front can =
      like_poll k d low s c (Send a (Some j) ds) 0 q (FrameLost q) fits refl refl refl
      (calm_cut k d low s (Send a (Some j) ds) 0 (FrameLost q) refl (no_bytes ((a == d) && (j == 2))))
  front_cut s c a j ds (suc zero) (FrameLost q) fits small short front can =
      like_poll k d low s c (Send a (Some j) ds) 1 q (FrameLost q) fits refl refl refl
      (calm_cut k d low s (Send a (Some j) ds) 1 (FrameLost q) refl (no_bytes ((a == d) && (j == 2))))
  front_cut s c a j ds (suc (suc zero)) (FrameLost q) fits small short front can =
      cut_step k d low s c (Send a (Some j) ds) 2 (FrameLost q) (at stage.Clear c.bytes)
      (lad_lost s c fits a small q) refl
      (calm_cut k d low s (Send a (Some j) ds) 2 (FrameLost q) refl (no_bytes ((a == d) && (j == 2))))
  front_cut s c a j ds (suc (suc (suc zero))) (FrameLost q) fits small short front can =
      cut_step k d low s c (Send a (Some j) ds) 3 (FrameLost q) (at stage.Clear c.bytes)
      (lad_unready s c fits a small q) refl
      (calm_cut k d low s (Send a (Some j) ds) 3 (FrameLost q) refl (no_bytes ((a == d) && (j == 2))))
  front_cut s c a j ds (suc (suc (suc (suc zero)))) (FrameLost q) fits small short front can =
      cut_step k d low s c (Send a (Some j) ds) 4 (FrameLost q) (at stage.Clear c.bytes)
      (ddl_lost s c fits a small j short q) refl
      (calm_cut k d low s (Send a (Some j) ds) 4 (FrameLost q) refl (no_bytes ((a == d) && (j == 2))))
  front_cut s c a j ds (suc (suc (suc (suc (suc zero))))) (FrameLost q) fits small short front can =
      cut_step k d low s c (Send a (Some j) ds) 5 (FrameLost q) (at stage.Clear c.bytes)
      (ddl_unready s c fits a small j short q) refl
      (calm_cut k d low s (Send a (Some j) ds) 5 (FrameLost q) refl (no_bytes ((a == d) && (j == 2))))
  front_cut s c a j ds zero (HostAltered g) fits small short front can = cc
  front_cut s c a j ds zero (TalkerAltered g end) fits small short front can = cc
  front_cut s c a j ds (suc zero) (HostAltered g) fits small short front can = cc
  front_cut s c a j ds (suc zero) (TalkerAltered g end) fits small short front can = cc
  front_cut s c a j ds (suc (suc zero)) (HostAltered g) fits small short front can = cc
  front_cut s c a j ds (suc (suc zero)) (TalkerAltered g end) fits small short front can = cc
  front_cut s c a j ds (suc (suc (suc zero))) (HostAltered g) fits small short front can = cc
  front_cut s c a j ds (suc (suc (suc zero))) (TalkerAltered g end) fits small short front can = cc
  front_cut s c a j ds (suc (suc (suc (suc zero)))) (HostAltered g) fits small short front can = cc
  front_cut s c a j ds (suc (suc (suc (suc zero)))) (TalkerAltered g end) fits small short front can = cc
  front_cut s c a j ds (suc (suc (suc (suc (suc zero))))) (HostAltered g) fits small short front can = cc
  front_cut s c a j ds (suc (suc (suc (suc (suc zero))))) (TalkerAltered g end) fits small short front can = cc
  front_cut s c a j ds (suc (suc (suc (suc (suc (suc m)))))) b fits small short front can = cc

  module _ (s : State) (c : Course) (a j : ℕ) (ds : List Echo) (fits : Fits s c) (small : is_address a ≡ true)
      (short : is_number (Some j) ≡ true) (echoes : list_all is_echo ds ≡ true) where
    abbrev x : Exchange
    x = Send a (Some j) ds

    abbrev u : Stage
    u = after_ddl (progress_of s) (a == d) (j == 2) (j == 4)

    abbrev data_signals : List Signal
    data_signals = map (signal_of d) (map (echoed 0) ds)

    come : (v : Stage) → u ≡ v → Quiet c (ddl_front s c fits a small j short) (at v c.bytes)
    come v is =
        subst (λ (w : Stage). Quiet c (ddl_front s c fits a small j short) (at w c.bytes)) is
        (ddl_heard s c fits a small j short)

    -- where no unit is open after its number
    flat_whole : (v : Stage) → u ≡ v → is_flat v ≡ true → is_send d 4 x ≡ false →
        ((t : Course) → is_idle t.stage ≡ true → Fits (moved (ring k d low) s (Whole x)) t) →
        Followed k d low s c (Whole x)
    flat_whole v is flat lone moves =
        let t = at (after_bytes v (bytes_of ds)) c.bytes in
        whole_step k d low s c x t
        (All (quiet_append c (at v c.bytes) t (ddl_front s c fits a small j short) data_signals (come v is)
        (mute_data d low v c.bytes ds (flat_mute v flat) echoes)) refl) (rw lone refl) refl
        (moves t (flat_idle v (bytes_of ds) flat))

    data_cut : (m : ℕ) (b : Break) (v : Stage) → u ≡ v → is_mute v ≡ true →
        can_cut 0 (map (echoed 0) ds) m b ≡ true →
        Quiet c (ddl_front s c fits a small j short ++ map (signal_of d) (cut_at (map (echoed 0) ds) m b))
        (at stage.Clear c.bytes)
    data_cut m b v is mute can =
        quiet_append c (at v c.bytes) (at stage.Clear c.bytes) (ddl_front s c fits a small j short)
        (map (signal_of d) (cut_at (map (echoed 0) ds) m b)) (come v is)
        (mute_cut d low v c.bytes ds m b mute echoes can)

    abbrev six : ℕ → ℕ
    six m = suc (suc (suc (suc (suc (suc m)))))

    calm_data : (m : ℕ) (b : Break) (v : Stage) → u ≡ v → is_mute v ≡ true →
        can_cut 0 (map (echoed 0) ds) m b ≡ true →
        written (unit_by (ring k d low) s (Cut x (six m) b)) ≡ None → Followed k d low s c (Cut x (six m) b)
    calm_data m b v is mute can none =
        cut_step k d low s c x (six m) b (at stage.Clear c.bytes) (data_cut m b v is mute can) refl none

    -- a seek
    seek_fits : (bytes bs : List ℕ) (other : State) → ((t : Course) → is_idle t.stage ≡ true → Fits other t) →
        Fits (found (number_of bytes) other) (at (after_bytes stage.Seeking bytes) bs)
    seek_fits [] bs other idle = idle (at stage.Seeking bs) refl
    seek_fits (h ∷ []) bs other idle = idle (at (stage.High h) bs) refl
    seek_fits (h ∷ l ∷ []) bs other idle = refl
    seek_fits (h ∷ l ∷ m ∷ rest) bs other idle = idle (at (after_bytes stage.Clear rest) bs) (clear_idle rest)

    seek_whole : u ≡ stage.Seeking → is_send d 4 x ≡ true → is_send d 2 x ≡ false → Followed k d low s c (Whole x)
    seek_whole is sends silent = record {
      after = at (after_bytes stage.Seeking (bytes_of ds)) c.bytes;
      ends = None;
      walk = All (quiet_append c (at stage.Seeking c.bytes) (at (after_bytes stage.Seeking (bytes_of ds)) c.bytes)
          (ddl_front s c fits a small j short) data_signals (come stage.Seeking is)
          (mute_data d low stage.Seeking c.bytes ds refl echoes)) refl;
      fits = subst (λ (o : Option ℕ). Fits (found o (moved (ring k d low) s (Whole x)))
          (at (after_bytes stage.Seeking (bytes_of ds)) c.bytes)) (sym number)
          (seek_fits (bytes_of ds) c.bytes (moved (ring k d low) s (Whole x))
          (λ t idle. silent_next k d low s x t idle silent));
      meant = Same (sym (calm_whole k d low s x refl));
    }
      where
        number : sought (ring k d low) (Whole x) ≡ number_of (bytes_of ds)
        number = rw sends (ap number_of (sent_bytes-send 0 a (Some j) ds echoes))

  -- ---- by the device and the number

  off_stage : (p : Progress) (b2 b4 : Bool) → after_ddl p false b2 b4 ≡ stage.Clear
  off_stage p true b4 = refl
  off_stage p false true = refl
  off_stage p false false = refl

  stage_is : (p : Progress) (a b c x y z : Bool) → a ≡ x → b ≡ y → c ≡ z → after_ddl p a b c ≡ after_ddl p x y z
  stage_is p a b c x y z first second third =
      ap (λ (v : Bool). after_ddl p v b c) first ∙ ap (λ (v : Bool). after_ddl p x v c) second
      ∙ ap (λ (v : Bool). after_ddl p x y v) third

  not_four : (j : ℕ) → (j == 2) ≡ true → (j == 4) ≡ false
  not_four j is = ap (λ (n : ℕ). n == 4) (eqb-true j 2 is)

  moves_bytes : (a j : ℕ) (ds : List Echo) (bytes : List ℕ) → (a == d) ≡ true → (j == 2) ≡ true →
      nat_lt 0 (length bytes) ≡ true → is_transfer d (Send a (Some j) ds) bytes ≡ true
  moves_bytes a j ds bytes here two some = rw (here, two, some) refl

  write_fits : (b writes : Bool) (n : ℕ) (sent bytes : List ℕ) → b ≡ true → writes ≡ true → sent ≡ bytes →
      Fits (moved_if b n writes sent) (at (stage.Sent n) bytes)
  write_fits true true n sent bytes is kind same = (refl, sym same)
  write_fits true false n sent bytes is kind same = cc
  write_fits false writes n sent bytes is kind same = cc

  -- the bytes of a unit, after a seek of record n
  module _ (c : Course) (n a j : ℕ) (fits : Fits (Found n) c) (small : is_address a ≡ true)
      (short : is_number (Some j) ≡ true) (here : (a == d) ≡ true) (two : (j == 2) ≡ true) where
    writing : (ds : List Echo) → list_all is_echo ds ≡ true →
        Quiet c (ddl_front (Found n) c fits a small j short) (at (stage.Writing n) c.bytes)
    writing ds echoes =
        come (Found n) c a j ds fits small short echoes (stage.Writing n)
        (stage_is (progress_to.Sought n) (a == d) (j == 2) (j == 4) true true false here two (not_four j two))

    write_whole : (ds : List Echo) → list_all is_echo ds ≡ true →
        Followed k d low (Found n) c (Whole (Send a (Some j) ds))
    write_whole [] echoes =
        whole_step k d low (Found n) c (Send a (Some j) []) (at (stage.Writing n) c.bytes)
        (All (writing [] echoes) refl) (rw (not_four j two, here) refl) refl (rw (here, two) refl)
    write_whole (y ∷ ds) echoes =
        whole_step k d low (Found n) c (Send a (Some j) (y ∷ ds)) (at (stage.Sent n) (bytes_of (y ∷ ds)))
        (All (quiet_append c (at (stage.Writing n) c.bytes) (at (stage.Sent n) (bytes_of (y ∷ ds)))
        (ddl_front (Found n) c fits a small j short) (map (signal_of d) (map (echoed 0) (y ∷ ds)))
        (writing (y ∷ ds) echoes) (writing_data d low n c.bytes y ds echoes)) refl)
        (rw (not_four j two, here) refl) refl
        (write_fits _ _ n (sent_bytes (entries_of 0 (Send a (Some j) (y ∷ ds)))) (bytes_of (y ∷ ds))
        (moves_bytes a j (y ∷ ds) (sent_bytes (entries_of 0 (Send a (Some j) (y ∷ ds)))) here two
        (ap (λ (bytes : List ℕ). nat_lt 0 (length bytes)) sent ∙ positive (length (bytes_of ds))))
        (rw (here, two) refl) sent)
      where
        sent : sent_bytes (entries_of 0 (Send a (Some j) (y ∷ ds))) ≡ bytes_of (y ∷ ds)
        sent = sent_bytes-send 0 a (Some j) (y ∷ ds) echoes

    write_cut : (ds : List Echo) (m : ℕ) (b : Break) → list_all is_echo ds ≡ true →
        can_cut 0 (map (echoed 0) ds) m b ≡ true →
        Followed k d low (Found n) c (Cut (Send a (Some j) ds) (suc (suc (suc (suc (suc (suc m)))))) b)
    write_cut ds m b echoes can = let bytes = sent_bytes (cut_at (map (echoed 0) ds) m b) in record {
      after = at stage.Clear bytes;
      ends = Some (write_unit n bytes None);
      walk = walk_after c (at (stage.Writing n) c.bytes) (at stage.Clear bytes)
          (ddl_front (Found n) c fits a small j short) (map (signal_of d) (cut_at (map (echoed 0) ds) m b))
          (Some (write_unit n bytes None)) (writing ds echoes) (writing_cut d low n c.bytes ds m b echoes can);
      fits = refl;
      meant = Same (rw (here, two, some_sent ds m b echoes can) refl);
    }

  -- bytes under the number of a write that follow no seek
  module _ (s : State) (c : Course) (a j : ℕ) (ds : List Echo) (fits : Fits s c) (small : is_address a ≡ true)
      (short : is_number (Some j) ≡ true) (echoes : list_all is_echo ds ≡ true) (here : (a == d) ≡ true)
      (two : (j == 2) ≡ true) where
    loose_whole : after_ddl (progress_of s) true true false ≡ stage.Clear →
        ((t : Course) → is_idle t.stage ≡ true → Fits (moved (ring k d low) s (Whole (Send a (Some j) ds))) t) →
        Followed k d low s c (Whole (Send a (Some j) ds))
    loose_whole shut moves =
        flat_whole s c a j ds fits small short echoes stage.Clear
        (stage_is (progress_of s) (a == d) (j == 2) (j == 4) true true false here two (not_four j two) ∙ shut) refl
        (rw (not_four j two, here) refl) moves

    loose_cut : (m : ℕ) (b : Break) → can_cut 0 (map (echoed 0) ds) m b ≡ true →
        after_ddl (progress_of s) true true false ≡ stage.Clear →
        written (unit_by (ring k d low) s (Cut (Send a (Some j) ds) (suc (suc (suc (suc (suc (suc m)))))) b)) ≡ None →
        Followed k d low s c (Cut (Send a (Some j) ds) (suc (suc (suc (suc (suc (suc m)))))) b)
    loose_cut m b can shut none =
        calm_data s c a j ds fits small short echoes m b stage.Clear
        (stage_is (progress_of s) (a == d) (j == 2) (j == 4) true true false here two (not_four j two)
        ∙ shut) refl can none

  two_whole : (s : State) (c : Course) (a j : ℕ) (ds : List Echo) → Fits s c → is_address a ≡ true →
      is_number (Some j) ≡ true → list_all is_echo ds ≡ true → (a == d) ≡ true → (j == 2) ≡ true →
      Followed k d low s c (Whole (Send a (Some j) ds))
  two_whole Idle c a j ds fits small short echoes here two =
      loose_whole Idle c a j ds fits small short echoes here two refl (λ t idle. idle)
  two_whole (Found n) c a j ds fits small short echoes here two = write_whole c n a j fits small short here two ds echoes
  two_whole (Moved n true bytes) c a j ds fits small short echoes here two =
      loose_whole (Moved n true bytes) c a j ds fits small short echoes here two refl (λ t idle. idle)
  two_whole (Moved n false bytes) c a j ds fits small short echoes here two =
      loose_whole (Moved n false bytes) c a j ds fits small short echoes here two refl (λ t idle. idle)

  two_cut : (s : State) (c : Course) (a j : ℕ) (ds : List Echo) (m : ℕ) (b : Break) → Fits s c → is_address a ≡ true →
      is_number (Some j) ≡ true → list_all is_echo ds ≡ true → (a == d) ≡ true → (j == 2) ≡ true →
      can_cut 0 (map (echoed 0) ds) m b ≡ true →
      Followed k d low s c (Cut (Send a (Some j) ds) (suc (suc (suc (suc (suc (suc m)))))) b)
  two_cut Idle c a j ds m b fits small short echoes here two can =
      loose_cut Idle c a j ds fits small short echoes here two m b can refl refl
  two_cut (Found n) c a j ds m b fits small short echoes here two can =
      write_cut c n a j fits small short here two ds m b echoes can
  two_cut (Moved n true bytes) c a j ds m b fits small short echoes here two can =
      loose_cut (Moved n true bytes) c a j ds fits small short echoes here two m b can refl refl
  two_cut (Moved n false bytes) c a j ds m b fits small short echoes here two can =
      loose_cut (Moved n false bytes) c a j ds fits small short echoes here two m b can refl refl

  numbered_whole : (b1 b2 b4 : Bool) (s : State) (c : Course) (a j : ℕ) (ds : List Echo) → Fits s c →
      is_address a ≡ true → is_number (Some j) ≡ true → list_all is_echo ds ≡ true → (a == d) ≡ b1 → (j == 2) ≡ b2 →
      (j == 4) ≡ b4 → Followed k d low s c (Whole (Send a (Some j) ds))
  numbered_whole false b2 b4 s c a j ds fits small short echoes here two four =
      flat_whole s c a j ds fits small short echoes stage.Clear
      (stage_is (progress_of s) (a == d) (j == 2) (j == 4) false b2 b4 here two four ∙ off_stage (progress_of s) b2 b4)
      refl (rw here refl) (λ t idle. silent_next k d low s (Send a (Some j) ds) t idle (rw here refl))
  numbered_whole true true b4 s c a j ds fits small short echoes here two four =
      two_whole s c a j ds fits small short echoes here two
  numbered_whole true false true s c a j ds fits small short echoes here two four =
      seek_whole s c a j ds fits small short echoes
      (stage_is (progress_of s) (a == d) (j == 2) (j == 4) true false true here two four) (rw (here, four) refl)
      (rw (here, two) refl)
  numbered_whole true false false s c a j ds fits small short echoes here two four =
      flat_whole s c a j ds fits small short echoes stage.Clear
      (stage_is (progress_of s) (a == d) (j == 2) (j == 4) true false false here two four) refl (rw (here, four) refl)
      (λ t idle. silent_next k d low s (Send a (Some j) ds) t idle (rw (here, two) refl))

  numbered_cut : (b1 b2 b4 : Bool) (s : State) (c : Course) (a j : ℕ) (ds : List Echo) (m : ℕ) (b : Break) → Fits s c →
      is_address a ≡ true → is_number (Some j) ≡ true → list_all is_echo ds ≡ true → (a == d) ≡ b1 → (j == 2) ≡ b2 →
      (j == 4) ≡ b4 → can_cut 0 (map (echoed 0) ds) m b ≡ true →
      Followed k d low s c (Cut (Send a (Some j) ds) (suc (suc (suc (suc (suc (suc m)))))) b)
  numbered_cut false b2 b4 s c a j ds m b fits small short echoes here two four can =
      calm_data s c a j ds fits small short echoes m b stage.Clear
      (stage_is (progress_of s) (a == d) (j == 2) (j == 4) false b2 b4 here two four ∙ off_stage (progress_of s) b2 b4)
      refl can (silent_cut k d low s (Send a (Some j) ds) (suc (suc (suc (suc (suc (suc m)))))) b refl (rw here refl))
  numbered_cut true true b4 s c a j ds m b fits small short echoes here two four can =
      two_cut s c a j ds m b fits small short echoes here two can
  numbered_cut true false true s c a j ds m b fits small short echoes here two four can =
      calm_data s c a j ds fits small short echoes m b stage.Seeking
      (stage_is (progress_of s) (a == d) (j == 2) (j == 4) true false true here two four) refl can
      (silent_cut k d low s (Send a (Some j) ds) (suc (suc (suc (suc (suc (suc m)))))) b refl (rw (here, two) refl))
  numbered_cut true false false s c a j ds m b fits small short echoes here two four can =
      calm_data s c a j ds fits small short echoes m b stage.Clear
      (stage_is (progress_of s) (a == d) (j == 2) (j == 4) true false false here two four) refl can
      (silent_cut k d low s (Send a (Some j) ds) (suc (suc (suc (suc (suc (suc m)))))) b refl (rw (here, two) refl))

  -- ---- any send

  send_legal : (a : ℕ) (number : Option ℕ) (ds : List Echo) →
      (is_address a && (is_number number && list_all is_host_echo ds)) ≡ true →
      (is_address a ≡ true) × (is_number number ≡ true) × (list_all is_host_echo ds ≡ true)
  send_legal a number ds legal =
      let parts = and_parts (is_address a) (is_number number && list_all is_host_echo ds) legal in
      let both = and_parts (is_number number) (list_all is_host_echo ds) parts.1 in
      (parts.0, both.0, both.1)

  pub send_whole : (s : State) (c : Course) (a : ℕ) (number : Option ℕ) (ds : List Echo) → Fits s c →
      (is_address a && (is_number number && list_all is_host_echo ds)) ≡ true →
      Followed k d low s c (Whole (Send a number ds))
  send_whole s c a None ds fits legal =
      let parts = send_legal a None ds legal in
      bare_whole s c a ds fits parts.0 parts.2
  send_whole s c a (Some j) ds fits legal =
      let parts = send_legal a (Some j) ds legal in
      numbered_whole _ _ _ s c a j ds fits parts.0 parts.1 (host_echoes ds parts.2) refl refl refl

  pub send_cut : (s : State) (c : Course) (a : ℕ) (number : Option ℕ) (ds : List Echo) (m : ℕ) (b : Break) → Fits s c →
      (is_address a && (is_number number && list_all is_host_echo ds)) ≡ true →
      can_cut 0 (entries_of 0 (Send a number ds)) m b ≡ true → Followed k d low s c (Cut (Send a number ds) m b)
  send_cut s c a None ds m b fits legal can =
      let parts = send_legal a None ds legal in
      bare_cut s c a ds m b fits parts.0 parts.2 can
  send_cut s c a (Some j) ds (suc (suc (suc (suc (suc (suc m)))))) b fits legal can =
      let parts = send_legal a (Some j) ds legal in
      numbered_cut _ _ _ s c a j ds m b fits parts.0 parts.1 (host_echoes ds parts.2) refl refl refl can
  send_cut s c a (Some j) ds zero b fits legal can =
      let parts = send_legal a (Some j) ds legal in
      front_cut s c a j ds zero b fits parts.0 parts.1 refl can
  send_cut s c a (Some j) ds (suc zero) b fits legal can =
      let parts = send_legal a (Some j) ds legal in
      front_cut s c a j ds (suc zero) b fits parts.0 parts.1 refl can
  send_cut s c a (Some j) ds (suc (suc zero)) b fits legal can =
      let parts = send_legal a (Some j) ds legal in
      front_cut s c a j ds (suc (suc zero)) b fits parts.0 parts.1 refl can
  send_cut s c a (Some j) ds (suc (suc (suc zero))) b fits legal can =
      let parts = send_legal a (Some j) ds legal in
      front_cut s c a j ds (suc (suc (suc zero))) b fits parts.0 parts.1 refl can
  send_cut s c a (Some j) ds (suc (suc (suc (suc zero)))) b fits legal can =
      let parts = send_legal a (Some j) ds legal in
      front_cut s c a j ds (suc (suc (suc (suc zero)))) b fits parts.0 parts.1 refl can
  send_cut s c a (Some j) ds (suc (suc (suc (suc (suc zero))))) b fits legal can =
      let parts = send_legal a (Some j) ds legal in
      front_cut s c a j ds (suc (suc (suc (suc (suc zero))))) b fits parts.0 parts.1 refl can
