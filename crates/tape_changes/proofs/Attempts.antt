-- What an attempt does to the volume.
use Rattle.std.proofs.Common.{◌≡◌, ◌⊎◌, ◌∙◌, ℕ, Bool, true, false, List, Option, Some, None, inl, inr, ⊎_elim, refl, sym, ap, subst}
use Rattle.std.specs.Prelude.{is_some, option_map, if◌then◌else◌}
use Rattle.lif_model.specs.Apply.{VolumeCommand, apply, next_unless, refusal_of}
use Rattle.lif_model.specs.Tape.{Tape}
use Rattle.lif_model.specs.Volume.{Volume}
use Rattle.lif_model.specs.declared.refusal.Refusal.{Refusal}
use Rattle.lif_model.specs.declared.refusal.Refusal.TheVariants as refusal
use Rattle.il_script.specs.declared.reply.Reply.{Reply}
use Rattle.il_script.specs.declared.reply.Reply.TheVariants as reply
use Rattle.tape_volumes.specs.Changes.{change_command}
use Rattle.tape_volumes.specs.Volumes.{CommandDid, DoneWhole, Mounted, OwnsGate, StopLeaves, reply_by, volume_seen, volume_shown}
use Rattle.tape_volumes.specs.declared.change.Change.{Change}
use Rattle.tape_changes.specs.declared.changing.Step.{Step}
use Rattle.tape_changes.specs.declared.changing.Next.TheVariants as next
use Rattle.tape_changes.specs.Changing.{Attempt, AttemptLeaves, NextBy, Output, StepTried, ThenDid, attempt_of, attempted, says_exists, with_instead}

pub seen_of : (w : Option Tape) (v : Option Volume) → volume_shown w ≡ Some v → volume_seen w ≡ v
seen_of None v e = cc
seen_of (Some z) v e = cc

pub shown_of : (u : Option Tape) → is_some u ≡ true → volume_shown u ≡ Some (volume_seen u)
shown_of None e = cc
shown_of (Some y) e = refl

-- ---- the refusal of the first command

-- another refusal, or none: nothing is asked for instead
plain_after : (n : ℕ) (instead : Option VolumeCommand) (r : Option Refusal) (v : Option Volume) → says_exists (reply_by r) ≡ false → with_instead n instead r v ≡ v
plain_after n None r v other = refl
plain_after n (Some command) None v other = refl
plain_after n (Some command) (Some refusal.NotLif) v other = refl
plain_after n (Some command) (Some refusal.NoFile) v other = refl
plain_after n (Some command) (Some refusal.Exists) v other = cc
plain_after n (Some command) (Some refusal.NoSlot) v other = refl
plain_after n (Some command) (Some refusal.NoRoom) v other = refl
plain_after n (Some command) (Some refusal.NoRedo) v other = refl
plain_after n (Some command) (Some refusal.InUse) v other = refl
plain_after n (Some command) (Some refusal.Protected) v other = refl
plain_after n (Some command) (Some refusal.NeedsUpgrade) v other = refl
plain_after n (Some command) (Some refusal.OutOfOrder) v other = refl

is_exists : (r : Option Refusal) → says_exists (reply_by r) ≡ true → r ≡ Some refusal.Exists
is_exists None on = cc
is_exists (Some refusal.NotLif) on = cc
is_exists (Some refusal.NoFile) on = cc
is_exists (Some refusal.Exists) on = refl
is_exists (Some refusal.NoSlot) on = cc
is_exists (Some refusal.NoRoom) on = cc
is_exists (Some refusal.NoRedo) on = cc
is_exists (Some refusal.InUse) on = cc
is_exists (Some refusal.Protected) on = cc
is_exists (Some refusal.NeedsUpgrade) on = cc
is_exists (Some refusal.OutOfOrder) on = cc

-- the first command changes nothing, or does all that the attempt does
first_or_whole : (n : ℕ) (command : VolumeCommand) (v : Option Volume) (r : Option Refusal) (instead : Option VolumeCommand)
    → (next_unless n command v r ≡ v) ⊎ (next_unless n command v r ≡ with_instead n instead r (next_unless n command v r))
first_or_whole n command v None None = inr refl
first_or_whole n command v None (Some other) = inr refl
first_or_whole n command v (Some r) instead = inl refl

-- the reply is the one by the refusal, and the volume is the one after the command, unless there was a fault
pub answered : (r answer : Reply) (own : Type 0) (was is : Option Volume) (shown : Option (Option Volume)) → says_exists r ≡ true → DoneWhole r answer own was is shown → (says_exists answer ≡ true) × (shown ≡ Some is)
answered reply.Ok answer own was is shown on done = cc
answered (reply.No code) answer own was is shown on done = (ap says_exists (sym done.0) ∙ on, done.1)
answered reply.FaultFrame answer own was is shown on done = cc
answered reply.FaultMedium answer own was is shown on done = cc

-- ---- what a power stop leaves

module _ (a : Attempt) (s : Mounted) where
  -- one within the first command
  pub left_first : (x : Tape) → StopLeaves a.command s x → AttemptLeaves a s x
  left_first x left own =
      ⊎_elim (λ same. inl same)
      (λ made. ⊎_elim (λ same. inl (made ∙ same)) (λ whole. inr (made ∙ whole))
      (first_or_whole s.records a.command (volume_seen s.tape) (refusal_of s.records a.command (volume_seen s.tape)) a.instead)) (left own)

  module _ (r : Reply) (m : Mounted) (did : CommandDid a.command r s m) (exists : says_exists r ≡ true) (command : VolumeCommand) (instead : a.instead ≡ Some command) (told : is_some s.tape ≡ true) where
    found : (says_exists (reply_by (refusal_of s.records a.command (volume_seen s.tape))) ≡ true) × (volume_shown m.tape ≡ Some (apply s.records a.command (volume_seen s.tape)).1)
    found = answered r _ _ _ _ _ exists (did.whole (volume_seen s.tape) (shown_of s.tape told))

    refused : refusal_of s.records a.command (volume_seen s.tape) ≡ Some refusal.Exists
    refused = is_exists _ found.0

    same : volume_seen m.tape ≡ volume_seen s.tape
    same = seen_of m.tape _ found.1 ∙ ap (next_unless s.records a.command (volume_seen s.tape)) refused

    pub whole_then : (apply m.records command (volume_seen m.tape)).1 ≡ attempted s.records a (volume_seen s.tape)
    whole_then =
        (λ j. (apply (did.records j) command (same j)).1)
        ∙ sym (λ j. with_instead s.records (instead j) (refused j) (next_unless s.records a.command (volume_seen s.tape) (refused j)))

    -- one within the other command
    pub left_then : (x : Tape) → StopLeaves command m x → AttemptLeaves a s x
    left_then x left own = ⊎_elim (λ old. inl (old ∙ same)) (λ made. inr (made ∙ whole_then)) (left (did.own own))

-- ---- the volume after a step

done_so : (early : Bool) (r answer : Reply) (line : List ℕ) (before now : Option (List ℕ)) (faults faults_now : ℕ) (own : Type 0) (was is : Option Volume) (shown : Option (Option Volume))
    → NextBy early r line next.GoesOn before now faults faults_now → DoneWhole r answer own was is shown → (r ≡ answer) × (shown ≡ Some is)
done_so early reply.Ok answer line before now faults faults_now own was is shown tells done = done
done_so early (reply.No code) answer line before now faults faults_now own was is shown tells done = done
done_so early reply.FaultFrame answer line before now faults faults_now own was is shown tells done = absurd done
done_so early reply.FaultMedium answer line before now faults faults_now own was is shown tells done = let no : next.GoesOn ≡ next.Ends = tells.0 in cc

module _ (step : Step) (s : Mounted) (early : Bool) (r : Reply) (line : List ℕ) (w : Mounted) (old now : Output) (tells : NextBy early r line next.GoesOn old.text now.text old.faults now.faults)
    (told : is_some s.tape ≡ true) where
  abbrev n : ℕ
  n = s.records

  abbrev v : Option Volume
  v = volume_seen s.tape

  abbrev a : Attempt
  a = attempt_of step

  -- nothing was asked for instead
  alone : (first : Reply) (m : Mounted) → CommandDid (change_command step.change) first s m → (r ≡ first) × (w ≡ m)
      → ((r ≡ reply_by (apply n a.command v).0) → with_instead n a.instead (apply n a.command v).0 (apply n a.command v).1 ≡ (apply n a.command v).1)
      → volume_seen w.tape ≡ attempted n a v
  alone first m did ends plain =
      let whole = done_so early r (reply_by (apply n a.command v).0) line old.text now.text old.faults now.faults _ v (apply n a.command v).1 (volume_shown m.tape) tells
      (subst (λ (q : Reply). DoneWhole q (reply_by (apply n a.command v).0) (OwnsGate s.tape) v (apply n a.command v).1 (volume_shown m.tape)) (sym ends.0) (did.whole v (shown_of s.tape told))) in
      ap (λ (u : Mounted). volume_seen u.tape) ends.1 ∙ seen_of m.tape _ whole.1 ∙ sym (plain whole.0)

  by_instead : (first : Reply) (m : Mounted) → CommandDid (change_command step.change) first s m → (exists : Bool) → says_exists first ≡ exists → (instead : Option Change) → step.instead ≡ instead
      → ThenDid (if exists then instead else None) first r m w → volume_seen w.tape ≡ attempted n a v
  by_instead first m did true on (Some change) is last =
      let whole = done_so early r (reply_by (apply m.records (change_command change) (volume_seen m.tape)).0) line old.text now.text old.faults now.faults _ _ _ _ tells
      (last.whole (volume_seen m.tape) (shown_of m.tape (did.seen ∙ told))) in
      seen_of w.tape _ whole.1 ∙ whole_then a s first m did on (change_command change) (ap (option_map change_command) is) told
  by_instead first m did true on None is ends =
      alone first m did ends (λ same. ap (λ (i : Option VolumeCommand). with_instead n i (apply n a.command v).0 (apply n a.command v).1) (ap (option_map change_command) is))
  by_instead first m did false off instead is ends =
      alone first m did ends (λ same. plain_after n a.instead (apply n a.command v).0 (apply n a.command v).1 (ap says_exists (sym same ∙ ends.0) ∙ off))

  pub done_attempt : StepTried step r s w → volume_seen w.tape ≡ attempted n a v
  done_attempt tried = by_instead tried.first tried.between tried.did (says_exists tried.first) refl step.instead refl tried.rest

-- ---- what stays

then_stays : (c : Option Change) (first r : Reply) (m w : Mounted) → ThenDid c first r m w → (w.records ≡ m.records) × ((is_some w.tape ≡ is_some m.tape) × (OwnsGate m.tape → OwnsGate w.tape))
then_stays (Some change) first r m w did = (did.records, (did.seen, did.own))
then_stays None first r m w ends =
    (ap (λ (u : Mounted). u.records) ends.1, (ap (λ (u : Mounted). is_some u.tape) ends.1, subst (λ (u : Mounted). OwnsGate u.tape) (sym ends.1)))

module _ (step : Step) (r : Reply) (s w : Mounted) (tried : StepTried step r s w) where
  pub tried_size : w.records ≡ s.records
  tried_size = (then_stays _ _ _ _ _ tried.rest).0 ∙ tried.did.records

  pub tried_seen : is_some w.tape ≡ is_some s.tape
  tried_seen = (then_stays _ _ _ _ _ tried.rest).1.0 ∙ tried.did.seen

  pub tried_own : OwnsGate s.tape → OwnsGate w.tape
  tried_own own = (then_stays _ _ _ _ _ tried.rest).1.1 (tried.did.own own)
