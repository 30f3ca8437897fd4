-- What each whole or broken exchange does to the course of a log, and which unit it ends.
use Rattle.std.proofs.Common.{eqb-true, ◌≡◌, ◌∙◌, ◌+◌, ◌&&◌, ◌==◌, ℕ, suc, zero, Bool, true, false, not, List, [], ◌∷◌, map, Option, Some, None, refl, sym, ap, subst, arith}
use Rattle.std.specs.Prelude.{if◌then◌else◌, option_map}
use Rattle.std.proofs.lemmas.Bool.{and_parts, both_ways}
use Rattle.std.proofs.lemmas.Bool.Decides.{nat_tests}
use Rattle.il_frames.specs.declared.entry.Entry.{Entry}
use Rattle.il_frames.specs.Frames.{is_data}
use Rattle.loop_model.specs.Loops.{Loop, host_loop}
use Rattle.il_frames.specs.NamedFrames.{command, unl, tad}
use Rattle.loop_model.specs.Exchanges.{Sst, NotTaken, Exchange, Command, Receive, returned, commanded, entries_of, is_address, Break, FrameLost, HostAltered, TalkerAltered, is_break, cut_at, can_cut, Piece, Whole, Cut, piece_entries, is_piece}
use Rattle.loop_model.specs.Units.{RecordUnit, sent_bytes, is_send, is_transfer, sought, told_status}
use Rattle.trace_readers.specs.declared.exchanges.Fate.{Fate}
use Rattle.trace_readers.specs.declared.exchanges.Fate.TheVariants as fate
use Rattle.trace_readers.specs.declared.effects.Cue.{Cue}
use Rattle.trace_readers.specs.declared.effects.Cue.TheVariants as cue
use Rattle.trace_readers.specs.declared.effects.Progress.{Progress}
use Rattle.trace_readers.specs.declared.effects.Progress.TheVariants as progress_to
use Rattle.trace_readers.specs.declared.effects.Stage.{Stage}
use Rattle.trace_readers.specs.declared.effects.Stage.TheVariants as stage
use Rattle.trace_readers.specs.Places.{is_within}
use Rattle.trace_readers.specs.Expected.{write_unit}
use Rattle.trace_readers.specs.Effects.{command_cue, cue_of, Signal, signal_of, Course, progress, after_heard}
use Rattle.trace_readers.proofs.PassLemmas.{same_self}
use Rattle.trace_readers.proofs.UnitLemmas.{State, Idle, Found, Moved, found, moved, moved_if, next, unit_by, told_unit}
use Rattle.trace_readers.proofs.WalkLemmas.{at, heard, Quiet, Walk, All, Ends, quiet_append, walk_after, is_idle, is_outside, is_command, idle_after, outside_idle, is_dull, lost_command, command_unready, commanded_walk, command_quiet, returned_is, tad_at, Unfinished}

-- the unit, if it writes
abbrev pub written : Option RecordUnit → Option RecordUnit
written None = None
written (Some w) = if w.writes then Some w else None

-- the course has come as far as the last piece says
abbrev pub Fits : State → Course → Type 0
Fits Idle c = is_idle c.stage ≡ true
Fits (Found n) c = c.stage ≡ stage.Sought n
Fits (Moved n true bytes) c = (c.stage ≡ stage.Sent n) × (c.bytes ≡ bytes)
Fits (Moved n false bytes) c = is_idle c.stage ≡ true

abbrev pub progress_of : State → Progress
progress_of Idle = progress_to.Nothing
progress_of (Found n) = progress_to.Sought n
progress_of (Moved n true bytes) = progress_to.Sent n
progress_of (Moved n false bytes) = progress_to.Nothing

idle_progress : (s : Stage) → is_idle s ≡ true → progress s ≡ progress_to.Nothing
idle_progress (stage.Sought n) idle = cc
idle_progress (stage.Sent n) idle = cc
idle_progress s idle = refl

pub fits_progress : (s : State) (c : Course) → Fits s c → progress c.stage ≡ progress_of s
fits_progress Idle c fits = idle_progress c.stage fits
fits_progress (Found n) c fits = ap progress fits
fits_progress (Moved n true bytes) c fits = ap progress fits.0
fits_progress (Moved n false bytes) c fits = idle_progress c.stage fits

pub fits_outside : (s : State) (c : Course) → Fits s c → is_outside c.stage ≡ true
fits_outside Idle c fits = outside_idle c.stage fits
fits_outside (Found n) c fits = ap is_outside fits
fits_outside (Moved n true bytes) c fits = ap is_outside fits.0
fits_outside (Moved n false bytes) c fits = outside_idle c.stage fits

module _ (k d : ℕ) (low : is_address d ≡ true) where
  abbrev pub ring : Loop
  ring = host_loop k d

  -- The unit that a piece is taken to end is the one that it ends; or the piece is also a status that
  -- broke off, after the bytes of a unit.
  pub data Meant (s : State) (c : Course) (p : Piece) (o : Option RecordUnit) : Type 0 where
    Same : o ≡ written (unit_by ring s p) → Meant s c p o
    Longer : (n : ℕ) → s ≡ Moved n true c.bytes → unit_by ring s p ≡ None → next ring s p ≡ Idle →
        o ≡ Some (write_unit n c.bytes None) → (q : Piece) → is_piece ring q ≡ true →
        piece_entries 0 q ≡ piece_entries 0 p → told_status ring q ≡ Some None → sought ring q ≡ None → Meant s c p o

  -- what a piece does to the course
  pub record Followed (s : State) (c : Course) (p : Piece) : Type 0 where
    pub after : Course
    pub ends : Option RecordUnit
    pub walk : Walk c (map (signal_of d) (piece_entries 0 p)) after ends
    pub fits : Fits (next ring s p) after
    pub meant : Meant s c p ends

  -- ---- pieces that neither seek, nor write, nor tell a status

  pub calm_moved : (b writes : Bool) (n : ℕ) (bytes : List ℕ) (t : Course) → is_idle t.stage ≡ true →
      (b && writes) ≡ false → Fits (moved_if b n writes bytes) t
  calm_moved true true n bytes t idle calm = cc
  calm_moved true false n bytes t idle calm = idle
  calm_moved false writes n bytes t idle calm = idle

  pub calm_next : (s : State) (x : Exchange) (t : Course) → is_idle t.stage ≡ true →
      (is_transfer d x (sent_bytes (entries_of 0 x)) && is_send d 2 x) ≡ false → Fits (moved ring s (Whole x)) t
  calm_next Idle x t idle calm = idle
  calm_next (Found n) x t idle calm = calm_moved _ _ n _ t idle calm
  calm_next (Moved n writes bytes) x t idle calm = idle

  pub calm_if : (b writes : Bool) (n : ℕ) (bytes : List ℕ) (status : Option ℕ) → (b && writes) ≡ false →
      written (if b then Some (told_unit n writes bytes status) else None) ≡ None
  calm_if true true n bytes status calm = cc
  calm_if true false n bytes status calm = refl
  calm_if false writes n bytes status calm = refl

  pub calm_whole : (s : State) (x : Exchange) → told_status ring (Whole x) ≡ None →
      written (unit_by ring s (Whole x)) ≡ None
  calm_whole Idle x untold = refl
  calm_whole (Found n) x untold = refl
  calm_whole (Moved n writes bytes) x untold = rw untold refl

  pub calm_cut : (s : State) (x : Exchange) (m : ℕ) (b : Break) → told_status ring (Cut x m b) ≡ None →
      (is_transfer d x (sent_bytes (cut_at (entries_of 0 x) m b)) && is_send d 2 x) ≡ false →
      written (unit_by ring s (Cut x m b)) ≡ None
  calm_cut Idle x m b untold calm = refl
  calm_cut (Found n) x m b untold calm = calm_if _ _ n _ None calm
  calm_cut (Moved n writes bytes) x m b untold calm = rw untold refl

  silent_calm : (a b : Bool) → b ≡ false → (a && b) ≡ false
  silent_calm true b e = e
  silent_calm false b e = refl

  -- an exchange that is no write
  pub silent_next : (s : State) (x : Exchange) (t : Course) → is_idle t.stage ≡ true → is_send d 2 x ≡ false →
      Fits (moved ring s (Whole x)) t
  silent_next s x t idle silent =
      calm_next s x t idle (silent_calm (is_transfer d x (sent_bytes (entries_of 0 x))) (is_send d 2 x) silent)

  pub silent_cut : (s : State) (x : Exchange) (m : ℕ) (b : Break) → told_status ring (Cut x m b) ≡ None →
      is_send d 2 x ≡ false → written (unit_by ring s (Cut x m b)) ≡ None
  silent_cut s x m b untold silent =
      calm_cut s x m b untold
      (silent_calm (is_transfer d x (sent_bytes (cut_at (entries_of 0 x) m b))) (is_send d 2 x) silent)

  pub cut_next : (s : State) (x : Exchange) (m : ℕ) (b : Break) → next ring s (Cut x m b) ≡ Idle
  cut_next Idle x m b = refl
  cut_next (Found n) x m b = refl
  cut_next (Moved n writes bytes) x m b = refl

  pub whole_quiet : (s : State) (c : Course) (x : Exchange) (t : Course) →
      Walk c (map (signal_of d) (entries_of 0 x)) t None → sought ring (Whole x) ≡ None →
      written (unit_by ring s (Whole x)) ≡ None → Fits (moved ring s (Whole x)) t → Followed s c (Whole x)
  whole_quiet s c x t walk lone none fits = record {
    after = t;
    ends = None;
    walk = walk;
    fits = subst (λ (o : Option ℕ). Fits (found o (moved ring s (Whole x))) t) (sym lone) fits;
    meant = Same (sym none);
  }

  pub whole_step : (s : State) (c : Course) (x : Exchange) (t : Course) →
      Walk c (map (signal_of d) (entries_of 0 x)) t None → sought ring (Whole x) ≡ None →
      told_status ring (Whole x) ≡ None → Fits (moved ring s (Whole x)) t → Followed s c (Whole x)
  whole_step s c x t walk lone untold fits = whole_quiet s c x t walk lone (calm_whole s x untold) fits

  pub cut_step : (s : State) (c : Course) (x : Exchange) (m : ℕ) (b : Break) (t : Course) →
      Quiet c (map (signal_of d) (cut_at (entries_of 0 x) m b)) t → is_idle t.stage ≡ true →
      written (unit_by ring s (Cut x m b)) ≡ None → Followed s c (Cut x m b)
  cut_step s c x m b t quiet idle none = record {
    after = t;
    ends = None;
    walk = All quiet refl;
    fits = subst (λ (u : State). Fits u t) (sym (cut_next s x m b)) idle;
    meant = Same (sym none);
  }

  -- what is no data frame can only be lost
  pub only_lost : (e : Entry) (b : Break) → is_data e.frame ≡ false → is_break 0 e b ≡ true →
      (q : ℕ) × (b ≡ FrameLost q)
  only_lost e (FrameLost q) silent breaks = (q, refl)
  only_lost e (HostAltered g) silent breaks =
      let altered = (and_parts (e.source == 0) _ breaks).1 in
      absurd (both_ways _ silent (and_parts (is_data e.frame) _ altered).0)
  only_lost e (TalkerAltered g end) silent breaks =
      let altered = (and_parts _ _ (and_parts (not (e.source == 0)) _ breaks).1).0 in
      absurd (both_ways _ silent (and_parts (is_data e.frame) _ altered).0)

  -- ---- a status that breaks off by its start message at the latest

  abbrev pub poll : Exchange
  poll = Receive d None Sst NotTaken

  abbrev pub is_moved : State → Bool
  is_moved (Moved n true bytes) = true
  is_moved s = false

  read_none : (o : Option (Option ℕ)) (n : ℕ) (bytes : List ℕ) →
      written (option_map (told_unit n false bytes) o) ≡ None
  read_none None n bytes = refl
  read_none (Some status) n bytes = refl

  -- where no bytes of a unit went before, an exchange that is no write ends none
  pub still_cut : (s : State) (x : Exchange) (m : ℕ) (b : Break) → is_moved s ≡ false → is_send d 2 x ≡ false →
      written (unit_by ring s (Cut x m b)) ≡ None
  still_cut Idle x m b still silent = refl
  still_cut (Found n) x m b still silent =
      calm_if (is_transfer d x (sent_bytes (cut_at (entries_of 0 x) m b))) (is_send d 2 x) n _ None
      (silent_calm (is_transfer d x (sent_bytes (cut_at (entries_of 0 x) m b))) (is_send d 2 x) silent)
  still_cut (Moved n true bytes) x m b still silent = cc
  still_cut (Moved n false bytes) x m b still silent = read_none (told_status ring (Cut x m b)) n bytes

  pub still_whole : (s : State) (x : Exchange) → is_moved s ≡ false → written (unit_by ring s (Whole x)) ≡ None
  still_whole Idle x still = refl
  still_whole (Found n) x still = refl
  still_whole (Moved n true bytes) x still = cc
  still_whole (Moved n false bytes) x still = read_none (told_status ring (Whole x)) n bytes

  pub data PollWalk (s : State) (c : Course) (xs : List Signal) : Type 0 where
    Open : (n : ℕ) → s ≡ Moved n true c.bytes → Unfinished c xs n c.bytes → PollWalk s c xs
    Shut : is_moved s ≡ false → Quiet c xs (at stage.Clear c.bytes) → PollWalk s c xs

  -- RFC, the talk address, and RFC, lost after UNL
  abbrev lost_tail : ℕ → List Signal
  lost_tail zero = heard cue.Ready fate.Lost ∷ []
  lost_tail (suc zero) = heard cue.Ready fate.Returned ∷ heard cue.Talk fate.Lost ∷ []
  lost_tail (suc (suc m)) = heard cue.Ready fate.Returned ∷ heard cue.Talk fate.Returned ∷ heard cue.Ready fate.Lost ∷ []

  tail_open : (n : ℕ) (bytes : List ℕ) (m : ℕ) →
      Unfinished (at (stage.Unlistened (progress_to.Sent n)) bytes) (lost_tail m) n bytes
  tail_open n bytes zero = Ends [] _ _ refl refl refl refl
  tail_open n bytes (suc zero) =
      Ends (heard cue.Ready fate.Returned ∷ []) _ (at (stage.Unlistened (progress_to.Sent n)) bytes) refl (refl, refl)
      refl refl
  tail_open n bytes (suc (suc m)) =
      Ends (heard cue.Ready fate.Returned ∷ heard cue.Talk fate.Returned ∷ []) _ (at (stage.Talking n) bytes) refl
      (refl, (refl, refl)) refl refl

  tail_shut : (p : Progress) (bytes : List ℕ) (m : ℕ) → ((n : ℕ) → p ≡ progress_to.Sent n → ⊥) →
      Quiet (at (stage.Unlistened p) bytes) (lost_tail m) (at stage.Clear bytes)
  tail_shut (progress_to.Sent n) bytes m other = absurd (other n refl)
  tail_shut progress_to.Nothing bytes zero other = (refl, refl)
  tail_shut progress_to.Nothing bytes (suc zero) other = (refl, (refl, refl))
  tail_shut progress_to.Nothing bytes (suc (suc m)) other = (refl, (refl, (refl, refl)))
  tail_shut (progress_to.Sought n) bytes zero other = (refl, refl)
  tail_shut (progress_to.Sought n) bytes (suc zero) other = (refl, (refl, refl))
  tail_shut (progress_to.Sought n) bytes (suc (suc m)) other = (refl, (refl, (refl, refl)))

  -- UNL came, and one of these was lost
  tail_walk : (s : State) (c : Course) (m : ℕ) → Fits s c →
      PollWalk s c (heard cue.Unlisten fate.Returned ∷ lost_tail m)
  tail_walk s c m fits = by_state s fits (fits_progress s c fits)
    where
      came : Quiet c (heard cue.Unlisten fate.Returned ∷ []) (at (stage.Unlistened (progress c.stage)) c.bytes)
      came = command_quiet c.stage cue.Unlisten c.bytes refl

      shut : (u : State) (p : Progress) → is_moved u ≡ false → progress c.stage ≡ p →
          ((n : ℕ) → p ≡ progress_to.Sent n → ⊥) → PollWalk u c (heard cue.Unlisten fate.Returned ∷ lost_tail m)
      shut u p still is other =
          Shut still
          (quiet_append c (at (stage.Unlistened (progress c.stage)) c.bytes) (at stage.Clear c.bytes)
          (heard cue.Unlisten fate.Returned ∷ []) (lost_tail m) came
          (subst (λ (x : Progress). Quiet (at (stage.Unlistened x) c.bytes) (lost_tail m) (at stage.Clear c.bytes))
          (sym is) (tail_shut p c.bytes m other)))

      by_state : (u : State) → Fits u c → progress c.stage ≡ progress_of u →
          PollWalk u c (heard cue.Unlisten fate.Returned ∷ lost_tail m)
      by_state Idle on is = shut Idle progress_to.Nothing refl is (λ n e. cc)
      by_state (Found j) on is = shut (Found j) (progress_to.Sought j) refl is (λ n e. cc)
      by_state (Moved j false bytes) on is = shut (Moved j false bytes) progress_to.Nothing refl is (λ n e. cc)
      by_state (Moved j true bytes) on is =
          Open j (ap (λ (b : List ℕ). Moved j true b) (sym on.1))
          (walk_after c (at (stage.Unlistened (progress c.stage)) c.bytes) (at stage.Clear c.bytes)
          (heard cue.Unlisten fate.Returned ∷ []) (lost_tail m) _ came
          (subst (λ (x : Progress). Unfinished (at (stage.Unlistened x) c.bytes) (lost_tail m) j c.bytes)
          (sym is) (tail_open j c.bytes m)))

  -- UNL was lost
  idle_lost : (u : Stage) (bytes : List ℕ) → is_idle u ≡ true →
      Quiet (at u bytes) (heard cue.Unlisten fate.Lost ∷ []) (at stage.Clear bytes)
  idle_lost (stage.Sought n) bytes idle = cc
  idle_lost (stage.Sent n) bytes idle = cc
  idle_lost (stage.Talking n) bytes idle = cc
  idle_lost (stage.Asked n t) bytes idle = cc
  idle_lost (stage.Unlistened progress_to.Nothing) bytes idle = (refl, refl)
  idle_lost (stage.Unlistened (progress_to.Sought n)) bytes idle = (refl, refl)
  idle_lost (stage.Unlistened (progress_to.Sent n)) bytes idle = (refl, refl)
  idle_lost u bytes idle = (refl, refl)

  unl_walk : (s : State) (c : Course) → Fits s c → PollWalk s c (heard cue.Unlisten fate.Lost ∷ [])
  unl_walk Idle c fits = Shut refl (idle_lost c.stage c.bytes fits)
  unl_walk (Found n) c fits =
      Shut refl (subst (λ (u : Stage). Quiet (at u c.bytes) (heard cue.Unlisten fate.Lost ∷ [])
      (at stage.Clear c.bytes))
      (sym fits) (refl, refl))
  unl_walk (Moved n true bytes) c fits =
      Open n (ap (λ (b : List ℕ). Moved n true b) (sym fits.1))
      (subst (λ (u : Stage). Unfinished (at u c.bytes) (heard cue.Unlisten fate.Lost ∷ []) n c.bytes) (sym fits.0)
      (Ends [] _ (at (stage.Sent n) c.bytes) refl refl refl refl))
  unl_walk (Moved n false bytes) c fits = Shut refl (idle_lost c.stage c.bytes fits)

  abbrev pub is_early : ℕ → Bool
  is_early zero = true
  is_early (suc zero) = true
  is_early (suc (suc zero)) = true
  is_early (suc (suc (suc zero))) = true
  is_early (suc (suc (suc (suc m)))) = false

  -- the entries of a poll that breaks off so
  pub poll_walk : (s : State) (c : Course) (m q : ℕ) → is_early m ≡ true → Fits s c →
      PollWalk s c (map (signal_of d) (cut_at (entries_of 0 poll) m (FrameLost q)))
  poll_walk s c zero q early fits = unl_walk s c fits
  poll_walk s c (suc zero) q early fits = tail_walk s c 0 fits
  poll_walk s c (suc (suc zero)) q early fits =
      subst (λ (v : Cue). PollWalk s c (heard cue.Unlisten fate.Returned ∷ heard cue.Ready fate.Returned
      ∷ heard v fate.Lost ∷ [])) (sym talk) (tail_walk s c 1 fits)
    where
      talk : cue_of d (tad d) ≡ cue.Talk
      talk = tad_at d low d low ∙ rw (same_self d) refl
  poll_walk s c (suc (suc (suc zero))) q early fits =
      subst (λ (x : Signal). PollWalk s c (heard cue.Unlisten fate.Returned ∷ heard cue.Ready fate.Returned
      ∷ x ∷ heard cue.Ready fate.Lost ∷ [])) (sym talk) (tail_walk s c 2 fits)
    where
      talk : signal_of d (returned 0 (tad d)) ≡ heard cue.Talk fate.Returned
      talk =
          returned_is d low (tad d)
          ∙ ap (λ (v : Cue). heard v fate.Returned) (tad_at d low d low ∙ rw (same_self d) refl)
  poll_walk s c (suc (suc (suc (suc m)))) q early fits = cc

  poll_legal : (m q : ℕ) → is_early m ≡ true → is_piece ring (Cut poll m (FrameLost q)) ≡ true
  poll_legal zero q early = rw low refl
  poll_legal (suc zero) q early = rw low refl
  poll_legal (suc (suc zero)) q early = rw low refl
  poll_legal (suc (suc (suc zero))) q early = rw low refl
  poll_legal (suc (suc (suc (suc m)))) q early = cc

  pub clear_next : (s : State) (x : Exchange) (m : ℕ) (b : Break) (bytes : List ℕ) →
      Fits (next ring s (Cut x m b)) (at stage.Clear bytes)
  clear_next s x m b bytes = subst (λ (u : State). Fits u (at stage.Clear bytes)) (sym (cut_next s x m b)) refl

  -- what breaks off as a poll could, and is none
  pub like_poll : (s : State) (c : Course) (x : Exchange) (m q : ℕ) (b : Break) → Fits s c → is_early m ≡ true →
      cut_at (entries_of 0 poll) m (FrameLost q) ≡ cut_at (entries_of 0 x) m b →
      told_status ring (Cut x m b) ≡ None → written (unit_by ring s (Cut x m b)) ≡ None → Followed s c (Cut x m b)
  like_poll s c x m q b fits early same untold none =
      by_walk (subst (λ (es : List Entry). PollWalk s c (map (signal_of d) es)) same (poll_walk s c m q early fits))
    where
      by_walk : PollWalk s c (map (signal_of d) (cut_at (entries_of 0 x) m b)) → Followed s c (Cut x m b)
      by_walk (Open n is walk) = record {
        after = at stage.Clear c.bytes;
        ends = Some (write_unit n c.bytes None);
        walk = walk;
        fits = clear_next s x m b c.bytes;
        meant = Longer n is (subst (λ (u : State). unit_by ring u (Cut x m b) ≡ None) (sym is) (rw untold refl))
            (cut_next s x m b) refl (Cut poll m (FrameLost q)) (poll_legal m q early) same (rw (same_self d) refl) refl;
      }
      by_walk (Shut still quiet) =
          cut_step s c x m b (at stage.Clear c.bytes) quiet refl none

  -- a poll that breaks off
  pub poll_step : (s : State) (c : Course) (x : Exchange) (m : ℕ) (b : Break) → is_send d 2 x ≡ false →
      told_status ring (Cut x m b) ≡ Some None →
      PollWalk s c (map (signal_of d) (cut_at (entries_of 0 x) m b)) → Followed s c (Cut x m b)
  poll_step s c x m b silent told (Open n is walk) = record {
    after = at stage.Clear c.bytes;
    ends = Some (write_unit n c.bytes None);
    walk = walk;
    fits = clear_next s x m b c.bytes;
    meant = Same (subst (λ (u : State). Some (write_unit n c.bytes None) ≡ written (unit_by ring u (Cut x m b)))
        (sym is) (rw told refl));
  }
  poll_step s c x m b silent told (Shut still quiet) = record {
    after = at stage.Clear c.bytes;
    ends = None;
    walk = All quiet refl;
    fits = clear_next s x m b c.bytes;
    meant = Same (sym (still_cut s x m b still silent));
  }

  -- ---- commands

  command_pick : (b1 b2 b3 b4 b5 : Bool) → b5 ≡ false →
      is_command (if b1 then cue.Unlisten else if b2 then cue.Write else if b3 then cue.Seek
      else if b4 then cue.Listen else if b5 then cue.Talk else cue.Other) ≡ true
  command_pick true b2 b3 b4 b5 e = refl
  command_pick false true b3 b4 b5 e = refl
  command_pick false false true b4 b5 e = refl
  command_pick false false false true b5 e = refl
  command_pick false false false false true e = cc
  command_pick false false false false false e = refl

  dull_pick : (b1 b2 b3 b4 b5 : Bool) → b1 ≡ false →
      is_dull (if b1 then cue.Unlisten else if b2 then cue.Write else if b3 then cue.Seek
      else if b4 then cue.Listen else if b5 then cue.Talk else cue.Other) ≡ true
  dull_pick true b2 b3 b4 b5 e = cc
  dull_pick false true b3 b4 b5 e = refl
  dull_pick false false true b4 b5 e = refl
  dull_pick false false false true b5 e = refl
  dull_pick false false false false true e = refl
  dull_pick false false false false false e = refl

  off_talk : (byte : ℕ) → is_within 0x40 0x5E byte ≡ false → (byte == 0x40 + d) ≡ false
  off_talk byte off = grind (arith, nat_tests)

  command_kind : (byte : ℕ) → is_within 0x40 0x5E byte ≡ false → is_command (command_cue d byte) ≡ true
  command_kind byte off = command_pick _ _ _ _ _ (off_talk byte off)

  pub command_whole : (s : State) (c : Course) (byte : ℕ) → Fits s c → is_within 0x40 0x5E byte ≡ false →
      Followed s c (Whole (Command (command byte)))
  command_whole s c byte fits off =
      let v = command_cue d byte in
      let outside = fits_outside s c fits in
      let kind = command_kind byte off in
      let t = at (after_heard c.stage v) c.bytes in
      whole_step s c (Command (command byte)) t
      (commanded_walk d low (command byte) v c.stage c.bytes [] t None refl outside kind (All refl refl)) refl refl
      (calm_next s (Command (command byte)) t (idle_after c.stage v outside kind) refl)

  pub command_cut : (s : State) (c : Course) (byte m : ℕ) (b : Break) → Fits s c → is_within 0x40 0x5E byte ≡ false →
      can_cut 0 (commanded 0 (command byte)) m b ≡ true → Followed s c (Cut (Command (command byte)) m b)
  command_cut s c byte m b fits off can = by_byte (byte == 0x3F) refl m b can
    where
      outside : is_outside c.stage ≡ true
      outside = fits_outside s c fits

      unl_cut : (j : ℕ) (x : Break) → can_cut 0 (commanded 0 unl) j x ≡ true → Followed s c (Cut (Command unl) j x)
      unl_cut zero (FrameLost q) on =
          like_poll s c (Command unl) 0 q (FrameLost q) fits refl refl refl (calm_cut s (Command unl) 0 (FrameLost q)
          refl refl)
      unl_cut (suc zero) (FrameLost q) on =
          like_poll s c (Command unl) 1 q (FrameLost q) fits refl refl refl (calm_cut s (Command unl) 1 (FrameLost q)
          refl refl)
      unl_cut zero (HostAltered g) on = cc
      unl_cut zero (TalkerAltered g end) on = cc
      unl_cut (suc zero) (HostAltered g) on = cc
      unl_cut (suc zero) (TalkerAltered g end) on = cc
      unl_cut (suc (suc j)) x on = cc

      other_cut : (j : ℕ) (x : Break) → is_dull (command_cue d byte) ≡ true →
          can_cut 0 (commanded 0 (command byte)) j x ≡ true → Followed s c (Cut (Command (command byte)) j x)
      other_cut zero (FrameLost q) dull on =
          cut_step s c (Command (command byte)) 0 (FrameLost q) (at stage.Clear c.bytes)
          (lost_command c.stage (command_cue d byte) c.bytes outside (command_kind byte off) dull) refl
          (calm_cut s (Command (command byte)) 0 (FrameLost q) refl refl)
      other_cut (suc zero) (FrameLost q) dull on =
          cut_step s c (Command (command byte)) 1 (FrameLost q) (at stage.Clear c.bytes)
          (subst (λ (x : Signal). Quiet c (x ∷ heard cue.Ready fate.Lost ∷ []) (at stage.Clear c.bytes))
          (sym (returned_is d low (command byte)))
          (command_unready c.stage (command_cue d byte) c.bytes outside (command_kind byte off) dull)) refl
          (calm_cut s (Command (command byte)) 1 (FrameLost q) refl refl)
      other_cut zero (HostAltered g) dull on = cc
      other_cut zero (TalkerAltered g end) dull on = cc
      other_cut (suc zero) (HostAltered g) dull on = cc
      other_cut (suc zero) (TalkerAltered g end) dull on = cc
      other_cut (suc (suc j)) x dull on = cc

      by_byte : (is : Bool) → (byte == 0x3F) ≡ is → (j : ℕ) (x : Break) →
          can_cut 0 (commanded 0 (command byte)) j x ≡ true → Followed s c (Cut (Command (command byte)) j x)
      by_byte true is j x on =
          let same : 0x3F ≡ byte = sym (eqb-true byte 0x3F is) in
          subst (λ (n : ℕ). Followed s c (Cut (Command (command n)) j x)) same
          (unl_cut j x (subst (λ (n : ℕ). can_cut 0 (commanded 0 (command n)) j x ≡ true) (sym same) on))
      by_byte false is j x on = other_cut j x (dull_pick _ _ _ _ _ is) on

  -- ---- Address and Identify

  -- another frame of the host that is no command
  pub single_quiet : (u : Stage) (bytes : List ℕ) (how : Fate) → is_outside u ≡ true →
      Quiet (at u bytes) (heard cue.Other how ∷ []) (at stage.Clear bytes)
  single_quiet u bytes fate.Lost outside = lost_command u cue.Other bytes outside refl refl
  single_quiet (stage.Talking n) bytes how outside = cc
  single_quiet (stage.Asked n t) bytes how outside = cc
  single_quiet u bytes fate.Returned outside = (refl, refl)
  single_quiet u bytes fate.Altered outside = (refl, refl)
  single_quiet u bytes (fate.Taken q) outside = (refl, refl)
